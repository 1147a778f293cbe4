-- The turns that are right.
use Rattle.std.proofs.Common.{◌≡◌, ℕ, ◌<◌, ◌≤◌, Bool, true, false, cond, ◌&&◌, eqb, ltb, List, [], ◌∷◌, ◌++◌, length, take, drop, Some, None, Option, sym, refl, ap, ◌∙◌, subst, arith, length-append}
use Rattle.std.proofs.lemmas.List.{append-nil, take_at, drop_at}
use lib.Utf8.{encode, encodes}
use Rattle.std.specs.Char.{len_utf8}
use Rattle.std.specs.List.{AllByRecursion}
use Rattle.std.proofs.lemmas.Str.{length-encode, len_utf8_bounds, encodes-append}
use Rattle.std.proofs.lemmas.Bool.{and_left, and_right}
use Rattle.std.proofs.lemmas.Bool.Decides.{nat_tests}
use Rattle.literal.specs.declared.EscapeSequence.{EscapeSequence}
use Rattle.literal.specs.declared.EscapeSequence.TheVariants.{Null, Character, Hex, Unicode, CodePoint}
use Rattle.ecma262.specs.declared.Quote.{Quote}
use Rattle.ecma262.specs.declared.Quote.TheVariants.{Single, Double, Backtick}
use Rattle.ecma262.specs.Lookahead.{opens}
use Rattle.literal.specs.Escapes.{script, five_digits, behind, first, pick, rules, other_rules, printed, tag}
use Rattle.literal.specs.Quiet.{quiet}
use Rattle.literal.proofs.Output.{hex-quiet}
use Rattle.literal.proofs.Measured.{put, first-put, picked_quiet}
use Rattle.text.specs.Sequence.{code_points}
use Rattle.ecma262.proofs.Utf8.{encode_1}
use Rattle.text.proofs.Formed.{point_step}
use Rattle.codegen.specs.declared.turn.Turn.{Turn}
use Rattle.codegen.specs.declared.turn.Turn.TheVariants.{Plain, Escaped, Tag}
use Rattle.codegen.specs.Turns.{Fine, Fit, takes, puts, body, Turned}
use Rattle.codegen.proofs.Told.{less_rules}

pub reads : (lone : Bool) (cs : List ℕ) → AllByRecursion (Fine lone) cs → code_points (encodes cs) ≡ cs
reads lone [] f = refl
reads lone (c ∷ cs) f = point_step c (encodes cs) f.0.0 ∙ ap (λ s. c ∷ s) (reads lone cs f.1)

pub fit-encodes : (lone : Bool) (cs : List ℕ) → AllByRecursion (Fine lone) cs → Fit lone (encodes cs)
fit-encodes lone cs f = let r = reads lone cs f in (ap encodes r, subst (AllByRecursion (Fine lone)) (sym r) f)

-- the first character of bytes that fit
pub record Front (lone : Bool) (s : List ℕ) : Type 0 where
  pub c : ℕ
  pub cs : List ℕ
  pub fine : Fine lone c
  pub others : AllByRecursion (Fine lone) cs
  pub here : s ≡ encode c ++ encodes cs

pub front : (lone : Bool) (s : List ℕ) → Fit lone s → 0 < length s → Front lone s
front lone s f h = go (code_points s) f.0 f.1
  where
    go : (cs : List ℕ) → encodes cs ≡ s → AllByRecursion (Fine lone) cs → Front lone s
    go [] e a = let l = ap length e in absurd (omega arith)
    go (c ∷ cs) e a = record { c = c; cs = cs; fine = a.0; others = a.1; here = sym e }

-- the character before matters to </script alone
same_first : (q : Quote) (ascii : Bool) (c d : ℕ) (ds : List ℕ) → (eqb d 0x2F && eqb c 0x3C && opens script ds) ≡ false → (eqb d 0x2F && eqb 0 0x3C && opens script ds) ≡ false →
    first d (rules q ascii c d ds) ≡ first d (rules q ascii 0 d ds)
unfolding other_rules
same_first q ascii c d ds row none = rw (row, none) refl

printed-before : (q : Quote) (ascii : Bool) (c : ℕ) (cs : List ℕ) → opens tag (c ∷ cs) ≡ false → printed q ascii c cs ≡ printed q ascii 0 cs
printed-before q ascii c [] h = refl
printed-before q ascii c (d ∷ ds) h = ap (λ s. s ++ printed q ascii d ds) (same_first q ascii c d ds row none)
  where
    row : (eqb d 0x2F && eqb c 0x3C && opens script ds) ≡ false
    row = grind (arith, nat_tests)

    none : (eqb d 0x2F && eqb 0 0x3C && opens script ds) ≡ false
    none = and_left (eqb d 0x2F && false) (opens script ds) (and_right (eqb d 0x2F) false refl)

pub encodes-plain : (s : List ℕ) → AllByRecursion (λ x. x < 128) s → encodes s ≡ s
encodes-plain [] a = refl
encodes-plain (x ∷ s) a = rw (encode_1 x a.0) (ap (λ t. x ∷ t) (encodes-plain s a.1))

-- an escape is ASCII
pub escape-plain : (c : ℕ) (e : EscapeSequence) → quiet e ≡ true → AllByRecursion (λ x. x < 128) (0x5C ∷ behind c e)
escape-plain c Null h = omega arith
escape-plain c (Character e) h = let t : e < 128 = grind (arith, nat_tests) in omega arith
escape-plain c Hex h = omega (arith, hex-quiet)
escape-plain c (Unicode up) h = omega (arith, hex-quiet)
escape-plain c CodePoint h = go (ltb c 0x100000)
  where
    go : (b : Bool) → AllByRecursion (λ x. x < 128) (0x5C ∷ 0x75 ∷ 0x7B ∷ (cond b [] (0x31 ∷ []) ++ five_digits c))
    go true = omega (arith, hex-quiet)
    go false = omega (arith, hex-quiet)

-- what stands at the front
module _ (lone : Bool) (s : List ℕ) (f : Front lone s) where
  pub width_fits : len_utf8 f.c ≤ length s
  width_fits = let l = ap length f.here ∙ length-append (encode f.c) (encodes f.cs) in omega (arith, length-encode f.c)

  pub rest_is : drop (len_utf8 f.c) s ≡ encodes f.cs
  rest_is = ap (drop (len_utf8 f.c)) f.here ∙ drop_at (encode f.c) (encodes f.cs) (len_utf8 f.c) (length-encode f.c)

  pub front_is : take (len_utf8 f.c) s ≡ encode f.c
  front_is = ap (take (len_utf8 f.c)) f.here ∙ take_at (encode f.c) (encodes f.cs) (len_utf8 f.c) (length-encode f.c)

  pub points_are : code_points s ≡ f.c ∷ f.cs
  points_are = ap code_points f.here ∙ point_step f.c (encodes f.cs) f.fine.0 ∙ ap (λ t. f.c ∷ t) (reads lone f.cs f.others)

  pub points-rest : code_points (drop (len_utf8 f.c) s) ≡ f.cs
  points-rest = ap code_points rest_is ∙ reads lone f.cs f.others

  pub rest-fit : Fit lone (drop (len_utf8 f.c) s)
  rest-fit = subst (Fit lone) (sym rest_is) (fit-encodes lone f.cs f.others)

module _ (q : Quote) (ascii lone : Bool) (s : List ℕ) (f : Front lone s) where
  body-rest : body q ascii (drop (len_utf8 f.c) s) ≡ encodes (printed q ascii 0 f.cs)
  unfolding body
  body-rest = ap (λ t. encodes (printed q ascii 0 (code_points t))) (rest_is lone s f) ∙ ap (λ t. encodes (printed q ascii 0 t)) (reads lone f.cs f.others)

  body-here : body q ascii s ≡ encodes (put f.c (pick (rules q ascii 0 f.c f.cs))) ++ encodes (printed q ascii f.c f.cs)
  unfolding body
  body-here =
      ap (λ t. encodes (printed q ascii 0 t)) (points_are lone s f)
      ∙ encodes-append (first f.c (rules q ascii 0 f.c f.cs)) (printed q ascii f.c f.cs)
      ∙ ap (λ t. encodes t ++ encodes (printed q ascii f.c f.cs)) (first-put f.c (rules q ascii 0 f.c f.cs))

  -- one character, of which o is picked
  one : (r : Turn) (o : Option EscapeSequence) → takes r ≡ len_utf8 f.c → pick (rules q ascii 0 f.c f.cs) ≡ o → opens tag (f.c ∷ f.cs) ≡ false →
      encodes (put f.c o) ≡ puts s r → Turned q ascii lone s r
  one r o w p t e =
      record {
        more = omega (arith, len_utf8_bounds f.c);
        within = let l = width_fits lone s f in omega arith;
        fit = subst (λ n. Fit lone (drop n s)) (sym w) (rest-fit lone s f);
        shown =
            body-here
            ∙ ap (λ x. encodes (put f.c x) ++ encodes (printed q ascii f.c f.cs)) p
            ∙ ap (λ x. x ++ encodes (printed q ascii f.c f.cs)) e
            ∙ ap (λ x. puts s r ++ encodes x) (printed-before q ascii f.c f.cs t)
            ∙ ap (λ x. puts s r ++ x) (sym body-rest ∙ ap (λ n. body q ascii (drop n s)) (sym w));
      }

  pub plain_turn : (n : ℕ) → n ≡ len_utf8 f.c → pick (rules q ascii 0 f.c f.cs) ≡ None → opens tag (f.c ∷ f.cs) ≡ false → Turned q ascii lone s (Plain n)
  plain_turn n w p t = one (Plain n) None w p t (append-nil (encode f.c) ∙ sym (front_is lone s f) ∙ ap (λ k. take k s) (sym w))

  pub escaped_turn : (e : EscapeSequence) (c n : ℕ) → c ≡ f.c → n ≡ len_utf8 f.c → pick (rules q ascii 0 f.c f.cs) ≡ Some e → eqb 0x3C f.c ≡ false →
      Turned q ascii lone s (Escaped e c n)
  escaped_turn e c n i w p t =
      one (Escaped e c n) (Some e) w p (and_left (eqb 0x3C f.c) _ t)
      (encodes-plain (0x5C ∷ behind f.c e) (escape-plain f.c e (picked_quiet q ascii 0 f.c f.cs e p)) ∙ ap (λ x. 0x5C ∷ behind x e) (sym i))

slash_rules : (q : Quote) (ascii : Bool) (ds : List ℕ) → opens script ds ≡ true → pick (rules q ascii 0x3C 0x2F ds) ≡ Some (Character 0x2F)
unfolding other_rules
slash_rules Single ascii ds h = rw h refl
slash_rules Double ascii ds h = rw h refl
slash_rules Backtick ascii ds h = rw h refl

pub tag_turn : (q : Quote) (ascii lone : Bool) (ds : List ℕ) → AllByRecursion (Fine lone) ds → opens script ds ≡ true → Turned q ascii lone (0x3C ∷ 0x2F ∷ encodes ds) Tag
unfolding body
tag_turn q ascii lone ds a h =
    record {
      more = omega arith;
      within = omega arith;
      fit = fit-encodes lone ds a;
      shown =
          let r = reads lone ds a in
          let p : first 0x3C (rules q ascii 0 0x3C (0x2F ∷ ds)) ≡ 0x3C ∷ [] = first-put 0x3C (rules q ascii 0 0x3C (0x2F ∷ ds)) ∙ ap (put 0x3C) (less_rules q ascii (0x2F ∷ ds)) in
          let t : first 0x2F (rules q ascii 0x3C 0x2F ds) ≡ 0x5C ∷ 0x2F ∷ [] = first-put 0x2F (rules q ascii 0x3C 0x2F ds) ∙ ap (put 0x2F) (slash_rules q ascii ds h) in
          ap (λ x. encodes (printed q ascii 0 (0x3C ∷ 0x2F ∷ x))) r
          ∙ ap (λ x. encodes (x ++ (first 0x2F (rules q ascii 0x3C 0x2F ds) ++ printed q ascii 0x2F ds))) p
          ∙ ap (λ x. encodes (0x3C ∷ (x ++ printed q ascii 0x2F ds))) t
          ∙ encodes-append (0x3C ∷ 0x5C ∷ 0x2F ∷ []) (printed q ascii 0x2F ds)
          ∙ ap (λ x. x ++ encodes (printed q ascii 0x2F ds)) (encodes-plain (0x3C ∷ 0x5C ∷ 0x2F ∷ []) (omega arith))
          ∙ ap (λ x. (0x3C ∷ 0x5C ∷ 0x2F ∷ []) ++ encodes x) (printed-before q ascii 0x2F ds refl)
          ∙ ap (λ x. (0x3C ∷ 0x5C ∷ 0x2F ∷ []) ++ encodes (printed q ascii 0 x)) (sym r);
    }
