-- From code points to bytes: what a test of ASCII characters sees in a text, it sees in the text's bytes.
use Rattle.std.proofs.Common.{◌≡◌, ℕ, suc, ◌<◌, ◌≤◌, Bool, true, false, eqb, List, [], ◌∷◌, ◌++◌, refl, ◌∙◌, arith}
use lib.Utf8.{encodes}
use Rattle.std.specs.List.{AllByRecursion}
use Rattle.std.proofs.lemmas.Bool.{and_left, ne_eqb, both_ways}
use Rattle.std.proofs.lemmas.Bool.Decides.{nat_tests}
use Rattle.ecma262.specs.Lookahead.{opens}
use Rattle.ecma262.specs.declared.Quote.{Quote}
use Rattle.ecma262.proofs.Utf8.{encode_1, Encoded, ascii, wide, encoded, Narrow, same_front}
use Rattle.literal.specs.Laws.{InBytes, Plain, Standing}
use Rattle.literal.specs.Escapes.{script, tag, literal}
use Rattle.literal.proofs.Output.{Absent, absent_more, no_tag, all_ascii}
use Rattle.literal.proofs.Reading.{read_back}

-- ASCII in code points is ASCII in bytes

pub ascii_bytes : (s : List ℕ) → AllByRecursion (λ c. c < 128) s → AllByRecursion (λ b. b < 128) (encodes s)
ascii_bytes [] h = tt
ascii_bytes (c ∷ s) h = rw (encode_1 c h.0) (h.0, ascii_bytes s h.1)

pub plain-bytes : Plain
plain-bytes q text = ascii_bytes (literal q true text) (all_ascii q text)

-- what a text begins with

pub script_narrow : AllByRecursion Narrow script
script_narrow = grind (arith, nat_tests)

pub tag_narrow : AllByRecursion Narrow tag
tag_narrow = grind (arith, nat_tests)

-- no tag in code points, none in bytes

absent_wide : (s t : List ℕ) → AllByRecursion (λ x. 0x80 ≤ x) s → Absent t → Absent (s ++ t)
absent_wide [] t h later = later
absent_wide (x ∷ s) t h later = absent_more x (s ++ t) (and_left (eqb 0x3C x) _ (ne_eqb 0x3C x (omega arith))) (absent_wide s t h.1 later)

absent_here : {c : ℕ} {e : List ℕ} (t : List ℕ) → Encoded c e → opens tag (e ++ t) ≡ false → Absent t → Absent (e ++ t)
absent_here {c} t (ascii l) first later = absent_more c t first later
absent_here t (wide {b = b} {s = s} _ _ h) first later = absent_more b (s ++ t) first (absent_wide s t h later)

pub absent_bytes : (s : List ℕ) → Absent s → Absent (encodes s)
absent_bytes [] a = a
absent_bytes (c ∷ s) a = absent_here (encodes s) (encoded c) (same_front tag tag_narrow (c ∷ s) ∙ a 0) (absent_bytes s (λ place. a (suc place)))

pub in_bytes : InBytes
in_bytes q only text place = absent_bytes (literal q only text) (no_tag q only text) place

-- all of it

plain_if_asked : (q : Quote) (only : Bool) (text : List ℕ) → only ≡ true → AllByRecursion (λ b. b < 128) (encodes (literal q only text))
plain_if_asked q true text e = plain-bytes q text
plain_if_asked q false text e = absurd (both_ways false refl e)

pub stands : Standing
stands q only text t = record {
  denotes = λ rest. read_back q only text rest t;
  tagless = λ place. in_bytes q only text place;
  plain = plain_if_asked q only text;
}
