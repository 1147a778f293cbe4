-- A literal is its quotes and its body; and a text that exists is made of characters.
use Rattle.std.proofs.Common.{◌≡◌, ℕ, suc, ◌+◌, ◌≤◌, Bool, true, List, [], ◌∷◌, ◌++◌, length, Some, None, Option, sym, refl, ap, ◌∙◌, subst, append_assoc, arith, length-append}
use lib.Utf8.{encode, encodes}
use Rattle.std.specs.List.{AllByRecursion}
use Rattle.std.proofs.lemmas.Str.{encodes-append}
use Rattle.std.proofs.lemmas.Bool.{or_left, or_right}
use Rattle.ecma262.specs.declared.Quote.{Quote}
use Rattle.ecma262.specs.declared.Quote.TheVariants.{Single, Double, Backtick}
use Rattle.ecma262.specs.Units.{mark}
use Rattle.ecma262.proofs.Utf8.{encode_1}
use Rattle.literal.specs.Escapes.{escaped}
use Rattle.text.specs.declared.well_formed.Encoding.TheVariants.{Wtf8}
use Rattle.text.specs.Wtf8.{Points, WellFormed}
use Rattle.text.specs.Sequence.{is_surrogate, surrogates, marked, code_points}
use Rattle.text.specs.Answers.{text_answer}
use Rattle.text.proofs.Formed.{good-text, marks}
use Rattle.codegen.specs.Strings.{quoted, settled, opening, opened}
use Rattle.codegen.specs.Turns.{Fine, Fit, body}
use Rattle.codegen.proofs.Steps.{fit-encodes}

all_fine : (lone : Bool) (before : ℕ) (cs : List ℕ) → Points Wtf8 before cs → (surrogates cs ≡ true → lone ≡ true) → AllByRecursion (Fine lone) cs
all_fine lone before [] p f = tt
all_fine lone before (c ∷ cs) p f = ((p.0, λ s. f (or_left (is_surrogate c) (surrogates cs) s)), all_fine lone c cs p.2 (λ s. f (or_right (is_surrogate c) (surrogates cs) s)))

pub formed_fits : (bytes : List ℕ) (lone : Bool) → WellFormed Wtf8 bytes → lone ≡ marked 0 bytes → Fit lone bytes
formed_fits bytes lone w f =
    let cs = w.0 in
    let m : lone ≡ surrogates cs = f ∙ ap (marked 0) (sym w.2) ∙ marks Wtf8 cs w.1 in
    subst (Fit lone) w.2 (fit-encodes lone cs (all_fine lone 0 cs w.1 (λ s. m ∙ s)))

pub text-fits : (bytes : List ℕ) (lone : Bool) → (text_answer bytes lone).number ≡ 0 → Fit lone bytes × (length bytes ≤ 16384)
text-fits bytes lone h = let g = good-text bytes lone h in (formed_fits bytes lone g.1 g.2, g.0)

mark-plain : (q : Quote) → encode (mark q) ≡ mark q ∷ []
mark-plain Single = encode_1 0x27 (omega arith)
mark-plain Double = encode_1 0x22 (omega arith)
mark-plain Backtick = encode_1 0x60 (omega arith)

literal_is : (q : Quote) (ascii : Bool) (bytes : List ℕ) → quoted q ascii bytes ≡ mark q ∷ (body q ascii bytes ++ (mark q ∷ []))
unfolding body quoted
literal_is q ascii bytes =
    ap (λ s. s ++ encodes (escaped q ascii (code_points bytes) ++ (mark q ∷ []))) (mark-plain q)
    ∙ ap (λ s. mark q ∷ s) (encodes-append (escaped q ascii (code_points bytes)) (mark q ∷ []) ∙ ap (λ s. encodes (escaped q ascii (code_points bytes)) ++ (s ++ [])) (mark-plain q))

pub literal_size_lem : (q : Quote) (ascii : Bool) (bytes : List ℕ) → length (quoted q ascii bytes) ≡ length (body q ascii bytes) + 2
literal_size_lem q ascii bytes = ap length (literal_is q ascii bytes) ∙ size
  where
    size : suc (length (body q ascii bytes ++ (mark q ∷ []))) ≡ length (body q ascii bytes) + 2
    size = omega (arith, length-append (body q ascii bytes) (mark q ∷ []))

-- the opening quote is printed at the start, or when it is settled
opened-once : (o : Option Quote) (allow : Bool) (rest : List ℕ) → opened o ++ opening o (settled o allow rest) ≡ mark (settled o allow rest) ∷ []
opened-once (Some q) allow rest = refl
opened-once None allow rest = refl

-- the parts of a literal in the order in which they are printed
literal-parts : (o : Option Quote) (allow ascii : Bool) (bytes : List ℕ) →
    (opened o ++ (opening o (settled o allow bytes) ++ body (settled o allow bytes) ascii bytes)) ++ (mark (settled o allow bytes) ∷ []) ≡ quoted (settled o allow bytes) ascii bytes
literal-parts o allow ascii bytes =
    let q = settled o allow bytes in
    ap (λ x. x ++ (mark q ∷ [])) (sym (append_assoc (opened o) (opening o q) (body q ascii bytes)) ∙ ap (λ x. x ++ body q ascii bytes) (opened-once o allow bytes))
    ∙ sym (literal_is q ascii bytes)

pub literal-printed : (o : Option Quote) (allow ascii : Bool) (bytes : List ℕ) (last : ℕ) → last ≡ mark (settled o allow bytes) →
    (opened o ++ (opening o (settled o allow bytes) ++ body (settled o allow bytes) ascii bytes)) ++ (last ∷ []) ≡ quoted (settled o allow bytes) ascii bytes
literal-printed o allow ascii bytes last e =
    ap (λ b. (opened o ++ (opening o (settled o allow bytes) ++ body (settled o allow bytes) ascii bytes)) ++ (b ∷ [])) e ∙ literal-parts o allow ascii bytes

pub parts_length : (o : Option Quote) (allow ascii : Bool) (bytes : List ℕ) →
    length (opened o) + length (opening o (settled o allow bytes) ++ body (settled o allow bytes) ascii bytes) + 1 ≡ length (quoted (settled o allow bytes) ascii bytes)
parts_length o allow ascii bytes =
    let q = settled o allow bytes in
    let x = ap length (literal-parts o allow ascii bytes) in
    omega (arith, length-append (opened o ++ (opening o q ++ body q ascii bytes)) (mark q ∷ []), length-append (opened o) (opening o q ++ body q ascii bytes))
