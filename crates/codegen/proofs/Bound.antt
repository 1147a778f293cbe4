-- Between the quotes a text becomes at most four times as long.
use Rattle.std.proofs.Common.{◌≡◌, ℕ, ◌+◌, ◌*◌, ◌≤◌, Bool, true, false, cond, ltb, List, [], ◌∷◌, ◌++◌, length, Some, None, Option, sym, refl, ap, ◌∙◌, subst, arith, length-append}
use lib.Utf8.{encode, encodes}
use Rattle.std.specs.Char.{len_utf8}
use Rattle.std.proofs.lemmas.List.{append-nil}
use Rattle.std.proofs.lemmas.Str.{length-encode, len_utf8_bounds, encodes-append}
use Rattle.std.proofs.lemmas.Bool.{and_parts, leb-true, eqb-true}
use Rattle.std.proofs.lemmas.Bool.Decides.{nat_tests}
use Rattle.ecma262.specs.declared.Quote.{Quote}
use Rattle.literal.specs.declared.EscapeSequence.{EscapeSequence}
use Rattle.literal.specs.declared.EscapeSequence.TheVariants.{Null, Character, Hex, Unicode, CodePoint}
use Rattle.literal.specs.Escapes.{behind, five_digits, first, pick, rules, other_rules, printed}
use Rattle.literal.proofs.Measured.{put, first-put, pick_row, picked_quiet}
use Rattle.literal.proofs.Rules.{Rows, ◌⊹◌}
use Rattle.text.specs.Sequence.{code_points}
use Rattle.codegen.specs.Strings.{quoted}
use Rattle.codegen.specs.Turns.{Fit, body}
use Rattle.codegen.proofs.Steps.{encodes-plain, escape-plain}
use Rattle.codegen.proofs.Texts.{literal_size_lem}

-- the most bytes of an escape
abbrev longest : EscapeSequence → ℕ
longest Null = 2
longest (Character l) = 2
longest Hex = 4
longest (Unicode letters) = 6
longest CodePoint = 10

escape-length : (c : ℕ) (e : EscapeSequence) → length (0x5C ∷ behind c e) ≤ longest e
escape-length c Null = omega arith
escape-length c (Character l) = omega arith
escape-length c Hex = omega arith
escape-length c (Unicode letters) = omega arith
escape-length c CodePoint = go (ltb c 0x100000)
  where
    go : (b : Bool) → length (0x5C ∷ 0x75 ∷ 0x7B ∷ (cond b [] (0x31 ∷ []) ++ five_digits c)) ≤ 10
    go true = omega arith
    go false = omega arith

two : (c : ℕ) → 0x80 ≤ c → 2 ≤ len_utf8 c
two c h = grind (arith, nat_tests)

four : (c : ℕ) → 0x10000 ≤ c → len_utf8 c ≡ 4
four c h = grind (arith, nat_tests)

module _ (q : Quote) (ascii : Bool) (before c : ℕ) (cs : List ℕ) where
  one : 1 ≤ len_utf8 c
  one = (len_utf8_bounds c).0

  low : {b : Bool} {n : ℕ} → n ≤ 4 → b ≡ true → n ≤ 4 * len_utf8 c
  low h t = let o = one in omega arith

  high : 0x80 ≤ c → 6 ≤ 4 * len_utf8 c
  high h = let w = two c h in omega arith

  rows : Rows (λ e. longest e ≤ 4 * len_utf8 c) (rules q ascii before c cs)
  unfolding other_rules
  rows =
      low (omega arith) ⊹ low (omega arith) ⊹ low (omega arith)
      ⊹ low (omega arith) ⊹ low (omega arith) ⊹ low (omega arith) ⊹ low (omega arith) ⊹ low (omega arith) ⊹ low (omega arith) ⊹ low (omega arith) ⊹ low (omega arith)
      ⊹ low (omega arith) ⊹ low (omega arith)
      ⊹ (λ t. high (let l = leb-true 0xD800 c (and_parts _ _ t).0 in omega arith))
      ⊹ (λ t. high (leb-true 0x80 c (and_parts _ _ (and_parts _ _ t).0).0))
      ⊹ (λ t. let w = four c (leb-true 0x10000 c (and_parts _ _ t).0) in omega arith)
      ⊹ low (omega arith)
      ⊹ (λ t. high (let e = eqb-true c 0x2028 t in omega arith))
      ⊹ (λ t. high (let e = eqb-true c 0x2029 t in omega arith))
      ⊹ tt

  put_bound : (o : Option EscapeSequence) → pick (rules q ascii before c cs) ≡ o → length (encodes (put c o)) ≤ 4 * len_utf8 c
  put_bound None e = omega (arith, ap length (append-nil (encode c)), length-encode c)
  put_bound (Some x) e =
      let k = ap length (encodes-plain (0x5C ∷ behind c x) (escape-plain c x (picked_quiet q ascii before c cs x e))) in
      let r = pick_row (λ y. longest y ≤ 4 * len_utf8 c) (rules q ascii before c cs) rows x e in
      omega (arith, escape-length c x)

  first_bound : length (encodes (first c (rules q ascii before c cs))) ≤ 4 * len_utf8 c
  first_bound = subst (λ s. length (encodes s) ≤ 4 * len_utf8 c) (sym (first-put c (rules q ascii before c cs))) (put_bound (pick (rules q ascii before c cs)) refl)

printed_bound : (q : Quote) (ascii : Bool) (before : ℕ) (cs : List ℕ) → length (encodes (printed q ascii before cs)) ≤ 4 * length (encodes cs)
printed_bound q ascii before [] = omega arith
printed_bound q ascii before (c ∷ cs) =
    let e = ap length (encodes-append (first c (rules q ascii before c cs)) (printed q ascii c cs)) ∙ length-append (encodes (first c (rules q ascii before c cs))) (encodes (printed q ascii c cs)) in
    let d = length-append (encode c) (encodes cs) in
    let w = length-encode c in
    let f = first_bound q ascii before c cs in
    let r = printed_bound q ascii c cs in
    omega arith

pub body_bound : (q : Quote) (ascii lone : Bool) (s : List ℕ) → Fit lone s → length (body q ascii s) ≤ 4 * length s
unfolding body
body_bound q ascii lone s f = let e = ap length f.0 in let b = printed_bound q ascii 0 (code_points s) in omega arith

pub quoted_bound : (q : Quote) (ascii lone : Bool) (s : List ℕ) → Fit lone s → length (quoted q ascii s) ≤ 4 * length s + 2
quoted_bound q ascii lone s f = let b = body_bound q ascii lone s f in let l = literal_size_lem q ascii s in omega arith
