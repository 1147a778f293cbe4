-- The rule of names over bytes: each byte of a character above 7F is above 7F, so that it passes like its character.
use Rattle.std.proofs.Common.{◌≡◌, ℕ, ◌+◌, ◌/◌, ◌%◌, ◌<◌, ◌≤◌, Bool, true, false, cond, not, List, [], ◌∷◌, ◌++◌, length, get_or, drop, Some, None, Option, sym, refl, ap, ◌∙◌, subst, ⊎_elim, arith}
use lib.Utf8.{encode, encodes}
use Rattle.std.specs.Char.{len_utf8}
use Rattle.std.specs.List.{position_from}
use Rattle.std.proofs.lemmas.Bool.{cases_lt, or_left, cond-true}
use Rattle.std.proofs.lemmas.Bool.Decides.{nat_tests}
use Rattle.text.specs.declared.well_formed.Encoding.TheVariants.{Utf8}
use Rattle.text.specs.Names.{is_digit, starts_name, continues_name, stops_at, name_breach}
use Rattle.text.specs.Sequence.{breach, code_points}
use Rattle.ecma262.proofs.Utf8.{encode_1, encode_2, encode_3, encode_4}
use Rattle.text.proofs.Formed.{accepted, read}

-- the place of the first byte that does not go on with a name
abbrev pub byte_stops : ℕ → List ℕ → Option ℕ
byte_stops = position_from (λ b. not (continues_name b))

wide_starts : (b : ℕ) → 0x80 ≤ b → starts_name b ≡ true
wide_starts b h = grind (arith, nat_tests)

wide : (b : ℕ) → 0x80 ≤ b → continues_name b ≡ true
wide b h = grind (arith, nat_tests)

pass : (at b : ℕ) (bs : List ℕ) → 0x80 ≤ b → byte_stops at (b ∷ bs) ≡ byte_stops (at + 1) bs
pass at b bs h = rw (wide b h) refl

cond-not : (b : Bool) (o r : Option ℕ) → cond (not b) o r ≡ cond b r o
cond-not true o r = refl
cond-not false o r = refl

-- behind the first byte of a character above 7F all pass
module _ (c at : ℕ) (rest : List ℕ) (h : 0x80 ≤ c) where
  pub tail_passes : byte_stops (at + 1) (drop 1 (encode c ++ rest)) ≡ byte_stops (at + len_utf8 c) rest
  tail_passes =
      ⊎_elim (λ p. rw (encode_2 c h p) (pass (at + 1) (128 + c % 64) rest (omega arith) ∙ ap (λ n. byte_stops n rest) (grind (arith, nat_tests))))
      (λ p2. ⊎_elim (λ p. rw (encode_3 c p2 p)
      (pass (at + 1) (128 + c / 64 % 64) ((128 + c % 64) ∷ rest) (omega arith) ∙ pass (at + 1 + 1) (128 + c % 64) rest (omega arith) ∙ ap (λ n. byte_stops n rest) (grind (arith, nat_tests))))
      (λ p3. rw (encode_4 c p3)
      (pass (at + 1) (128 + c / 4096 % 64) ((128 + c / 64 % 64) ∷ (128 + c % 64) ∷ rest) (omega arith)
      ∙ pass (at + 1 + 1) (128 + c / 64 % 64) ((128 + c % 64) ∷ rest) (omega arith) ∙ pass (at + 1 + 1 + 1) (128 + c % 64) rest (omega arith)
      ∙ ap (λ n. byte_stops n rest) (grind (arith, nat_tests))))
      (cases_lt c 0x10000)) (cases_lt c 0x800)

  pub first-wide : 0x80 ≤ get_or (encode c ++ rest) 0 0
  first-wide =
      ⊎_elim (λ p. rw (encode_2 c h p) (omega arith))
      (λ p2. ⊎_elim (λ p. rw (encode_3 c p2 p) (omega arith)) (λ p3. rw (encode_4 c p3) (omega arith)) (cases_lt c 0x10000)) (cases_lt c 0x800)

-- one byte and the rest, where there is one
split_first : (xs : List ℕ) (at : ℕ) → 0x80 ≤ get_or xs 0 0 → byte_stops at xs ≡ byte_stops (at + 1) (drop 1 xs)
split_first [] at h = absurd (omega arith)
split_first (x ∷ xs) at h = pass at x xs h

char_step : (c at : ℕ) (rest : List ℕ) → byte_stops at (encode c ++ rest) ≡ cond (continues_name c) (byte_stops (at + len_utf8 c) rest) (Some at)
char_step c at rest =
    ⊎_elim
    (λ p. rw (encode_1 c p)
    (cond-not (continues_name c) (Some at) (byte_stops (at + 1) rest) ∙ ap (λ n. cond (continues_name c) (byte_stops n rest) (Some at)) (grind (arith, nat_tests))))
    (λ p. split_first (encode c ++ rest) at (first-wide c at rest p) ∙ tail_passes c at rest p
    ∙ sym (cond-true (continues_name c) (byte_stops (at + len_utf8 c) rest) (Some at) (wide c p)))
    (cases_lt c 0x80)

pub stops_same : (cs : List ℕ) (at : ℕ) → byte_stops at (encodes cs) ≡ stops_at at cs
stops_same [] at = refl
stops_same (c ∷ cs) at = char_step c at (encodes cs) ∙ ap (λ t. cond (continues_name c) t (Some at)) (stops_same cs (at + len_utf8 c))

-- the first byte decides like the first character
first-same : (c : ℕ) (rest : List ℕ) → starts_name (get_or (encode c ++ rest) 0 0) ≡ starts_name c
first-same c rest =
    ⊎_elim (λ p. rw (encode_1 c p) refl) (λ p. wide_starts (get_or (encode c ++ rest) 0 0) (first-wide c 0 rest p) ∙ sym (wide_starts c p)) (cases_lt c 0x80)

tail_same : (c : ℕ) (cs : List ℕ) → byte_stops 1 (drop 1 (encode c ++ encodes cs)) ≡ stops_at (len_utf8 c) cs
tail_same c cs =
    ⊎_elim (λ p. rw (encode_1 c p) (stops_same cs 1 ∙ ap (λ n. stops_at n cs) (grind (arith, nat_tests))))
    (λ p. tail_passes c 0 (encodes cs) p ∙ ap (λ n. byte_stops n (encodes cs)) (omega arith) ∙ stops_same cs (len_utf8 c)) (cases_lt c 0x80)

-- a byte that may stand first goes on with a name too
first_on : (bytes : List ℕ) → 0 < length bytes → starts_name (get_or bytes 0 0) ≡ true → byte_stops 0 bytes ≡ byte_stops 1 (drop 1 bytes)
first_on [] h t = absurd (omega arith)
first_on (b ∷ bs) h t = rw (or_left (starts_name b) (is_digit b) t) refl

-- well-formed bytes that begin as a name does
abbrev Start : List ℕ → List ℕ → Type 0
Start bytes cs = 0 < length bytes → starts_name (get_or bytes 0 0) ≡ true → byte_stops 0 bytes ≡ name_breach cs

start : (cs : List ℕ) → Start (encodes cs) cs
start [] h t = absurd (omega arith)
start (c ∷ cs) h t =
    first_on (encode c ++ encodes cs) h t ∙ tail_same c cs ∙ sym (cond-true (starts_name c) (stops_at (len_utf8 c) cs) (Some 0) (sym (first-same c (encodes cs)) ∙ t))

pub starts : (bytes : List ℕ) → breach Utf8 bytes ≡ None → Start bytes (code_points bytes)
starts bytes h =
    let w = (accepted Utf8 bytes).0 h in
    let p : code_points bytes ≡ w.0 = ap code_points (sym w.2) ∙ read Utf8 w.0 w.1 in
    subst (λ b. Start b (code_points bytes)) w.2 (subst (Start (encodes w.0)) (sym p) (start w.0))
