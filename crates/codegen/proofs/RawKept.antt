-- Raw text that exists is made of characters; what is printed of it is the walk's; and what the laws say of it.
use Rattle.std.proofs.Common.{◌≡◌, ℕ, ◌*◌, ◌≤◌, Bool, true, false, ◌||◌, eqb, leb, List, [], ◌∷◌, ◌++◌, length, sym, refl, ap, ◌∙◌, subst, inl, inr, ⊎_elim, arith}
use lib.Utf8.{encodes}
use Rattle.std.specs.List.{AllByRecursion}
use Rattle.std.proofs.lemmas.Bool.{or_cases, and_parts, eqb-true, leb-true, both_ways}
use Rattle.ecma262.specs.Units.{Text}
use Rattle.ecma262.specs.Literals.{Characters, Literal}
use Rattle.ecma262.specs.declared.Quote.TheVariants.{Backtick}
use Rattle.ecma262.proofs.After.{closed}
use Rattle.ecma262.proofs.Broken.{unbroken}
use Rattle.ecma262.proofs.Values.{unique}
use Rattle.ecma262.specs.Names.{NameStart, NamePart, NameText}
use Rattle.options.specs.declared.CodegenOptions.{CodegenOptions}
use Rattle.literal.specs.declared.NonAsciiEscape.{NonAsciiEscape}
use Rattle.literal.specs.declared.NonAsciiEscape.TheVariants.{Identifier, RegExp, TemplateRaw, Directive}
use Rattle.literal.specs.Raw.{piece}
use Rattle.literal.proofs.OneWalk.{piece_in_one_walk, tagged_in_one_walk, others_in_one_walk}
use Rattle.literal.proofs.RawKept.{piece_kept, tagged_kept, directive_kept}
use Rattle.literal.proofs.RawNames.{name_read}
use Rattle.literal.proofs.RawOutput.{piece-tagless, tagged_tagless, raw_ascii}
use Rattle.literal.proofs.RawRegex.{regex_kept}
use Rattle.text.specs.declared.well_formed.Encoding.TheVariants.{Utf8}
use Rattle.text.specs.Wtf8.{Barred, Points, WellFormed}
use Rattle.text.specs.Names.{is_letter, is_digit, starts_name, continues_name, Continues, IsName}
use Rattle.text.specs.Sequence.{code_points}
use Rattle.text.specs.Answers.{raw_answer, name_answer, template_answer}
use Rattle.text.proofs.Formed.{good-raw, good-name, good-template, read}
use Rattle.text.proofs.Ruled.{named}
use Rattle.text.proofs.Walked.{barred_true}
use Rattle.codegen.specs.declared.raw_kind.RawKind.{RawKind}
use Rattle.codegen.specs.declared.raw_kind.RawKind.TheVariants.{Piece, TaggedPiece, Directive as DirectiveKind, Pattern, Name}
use Rattle.codegen.specs.declared.raw_style.RawStyle.{RawStyle}
use Rattle.codegen.specs.RawKinds.{check_of, printed_of}
use Rattle.codegen.specs.RawTurns.{raw_body}
use Rattle.codegen.specs.RawTexts.{piece_bytes, tagged_bytes, directive_bytes, regex_bytes, name_bytes}
use Rattle.codegen.specs.RawLaws.{Tagless, Ascii, PieceValueKept, TaggedValueKept, DirectiveValueKept, PatternKept, NameReadBack}
use Rattle.codegen.specs.Turns.{Fine, Fit}
use Rattle.codegen.proofs.Steps.{fit-encodes}
use Rattle.codegen.proofs.RawBound.{raw_bound}

all_fine : (before : ℕ) (cs : List ℕ) → Points Utf8 before cs → AllByRecursion (Fine false) cs
all_fine before [] p = tt
all_fine before (c ∷ cs) p = ((p.0, λ s. absurd (p.1 (barred_true Utf8 before c s))), all_fine c cs p.2)

pub all-points : (before : ℕ) (cs : List ℕ) → Points Utf8 before cs → Text cs
all-points before [] p = tt
all-points before (c ∷ cs) p = (p.0, all-points c cs p.2)

formed_fits : (bytes : List ℕ) → WellFormed Utf8 bytes → Fit false bytes
formed_fits bytes w = subst (Fit false) w.2 (fit-encodes false w.0 (all_fine 0 w.0 w.1))

pub formed_points : (bytes : List ℕ) → WellFormed Utf8 bytes → Points Utf8 0 (code_points bytes)
formed_points bytes w = subst (Points Utf8 0) (sym (ap code_points (sym w.2) ∙ read Utf8 w.0 w.1)) w.1

raw_fits : (bytes : List ℕ) → (raw_answer bytes).number ≡ 0 → Fit false bytes × (length bytes ≤ 16384)
raw_fits bytes h = let g = good-raw bytes h in (formed_fits bytes g.1, g.0)

pub name_fits : (bytes : List ℕ) → (name_answer bytes).number ≡ 0 → Fit false bytes × (length bytes ≤ 128)
name_fits bytes h = let g = good-name bytes h in (formed_fits bytes g.1, g.0)

template_fits : (bytes : List ℕ) → (template_answer bytes).number ≡ 0 → Fit false bytes × (length bytes ≤ 16384)
template_fits bytes h = let g = good-template bytes h in (formed_fits bytes g.1, g.0)

-- what is printed

pub piece_is : (minify ascii : Bool) (bytes : List ℕ) → raw_body (record { dollars = minify; ascii_only = ascii; mode = TemplateRaw; tags = true }) false bytes ≡ piece_bytes minify ascii bytes
unfolding raw_body piece_bytes
piece_is minify ascii bytes = ap encodes (sym (piece_in_one_walk minify ascii (code_points bytes)))

pub tagged_is : (bytes : List ℕ) → raw_body (record { dollars = false; ascii_only = false; mode = TemplateRaw; tags = true }) false bytes ≡ tagged_bytes bytes
unfolding raw_body tagged_bytes
tagged_is bytes = ap encodes (sym (tagged_in_one_walk (code_points bytes)))

-- outside of templates
abbrev plainly : Bool → NonAsciiEscape → RawStyle
plainly ascii mode = record { dollars = false; ascii_only = ascii; mode = mode; tags = false }

pub directive_is : (ascii : Bool) (bytes : List ℕ) → raw_body (plainly ascii Directive) false bytes ≡ directive_bytes ascii bytes
unfolding raw_body directive_bytes
directive_is ascii bytes = ap encodes (sym (others_in_one_walk ascii (code_points bytes)).0)

pub regex_is : (ascii : Bool) (bytes : List ℕ) → raw_body (plainly ascii RegExp) false bytes ≡ regex_bytes ascii bytes
unfolding raw_body regex_bytes
regex_is ascii bytes = ap encodes (sym (others_in_one_walk ascii (code_points bytes)).1)

pub name_is : (ascii : Bool) (bytes : List ℕ) → raw_body (plainly ascii Identifier) false bytes ≡ name_bytes ascii bytes
unfolding raw_body name_bytes
name_is ascii bytes = ap encodes (sym (others_in_one_walk ascii (code_points bytes)).2)

-- bytes that were checked are characters, within the limit, and become at most three times as long

pub kind_fits : (kind : RawKind) (bytes : List ℕ) → (check_of kind bytes).number ≡ 0 → Fit false bytes × (length bytes ≤ 16384)
kind_fits Piece bytes h = template_fits bytes h
kind_fits TaggedPiece bytes h = raw_fits bytes h
kind_fits DirectiveKind bytes h = raw_fits bytes h
kind_fits Pattern bytes h = raw_fits bytes h
kind_fits Name bytes h = let f = name_fits bytes h in (f.0, omega (arith, f.1))

pub kind_bound : (kind : RawKind) (o : CodegenOptions) (bytes : List ℕ) → (check_of kind bytes).number ≡ 0 → length (printed_of kind o bytes) ≤ 3 * length bytes
kind_bound kind o bytes h = by_kind kind (kind_fits kind bytes h).0
  where
    bounded : (style : RawStyle) (printed : List ℕ) → raw_body style false bytes ≡ printed → Fit false bytes → length printed ≤ 3 * length bytes
    bounded style printed e f = subst (λ s. length s ≤ 3 * length bytes) e (raw_bound style false bytes f)

    by_kind : (kind : RawKind) → Fit false bytes → length (printed_of kind o bytes) ≤ 3 * length bytes
    by_kind Piece f = bounded _ _ (piece_is o.minify o.ascii_only bytes) f
    by_kind TaggedPiece f = bounded _ _ (tagged_is bytes) f
    by_kind DirectiveKind f = bounded _ _ (directive_is o.ascii_only bytes) f
    by_kind Pattern f = bounded _ _ (regex_is o.ascii_only bytes) f
    by_kind Name f = bounded _ _ (name_is o.ascii_only bytes) f

-- what the laws say of it

pub piece_no_tag : (minify ascii : Bool) (bytes : List ℕ) → Tagless (piece_bytes minify ascii bytes)
unfolding piece_bytes
piece_no_tag minify ascii bytes place = (piece-tagless minify ascii (code_points bytes) place).1

pub piece_ascii : (minify ascii : Bool) (bytes : List ℕ) → Ascii ascii (piece_bytes minify ascii bytes)
unfolding piece_bytes
piece_ascii minify true bytes e = (raw_ascii minify (code_points bytes)).0
piece_ascii minify false bytes e = absurd (both_ways false refl e)

-- template text has one TV
one_value : (text u v : List ℕ) → Characters Backtick text [] u → Characters Backtick text [] v → u ≡ v
one_value text u v c d =
    (unique Backtick (0x60 ∷ (text ++ (0x60 ∷ []))) [] [] u v (Literal.quoted (closed Backtick text [] u c)) (Literal.quoted (closed Backtick text [] v d))).1

pub piece_value : (minify ascii : Bool) (bytes : List ℕ) → (template_answer bytes).number ≡ 0 → PieceValueKept minify ascii bytes
piece_value minify ascii bytes h =
    let g = good-template bytes h in
    let text = code_points bytes in
    let t = (unbroken text (all-points 0 text (formed_points bytes g.1))).0 g.2 in
    let kept = piece_kept minify ascii text t.0 t.1 in
    record {
      tv = t.0;
      given = t.1;
      printed = kept;
      alone = λ other c. one_value (piece minify ascii text) other t.0 c kept;
    }

pub tagged_no_tag : (bytes : List ℕ) → Tagless (tagged_bytes bytes)
unfolding tagged_bytes
tagged_no_tag bytes place = (tagged_tagless (code_points bytes) place).1

pub tagged_value : (bytes : List ℕ) → TaggedValueKept bytes
tagged_value bytes tv = tagged_kept (code_points bytes) tv

pub directive_ascii : (ascii : Bool) (bytes : List ℕ) → Ascii ascii (directive_bytes ascii bytes)
unfolding directive_bytes
directive_ascii true bytes e = (raw_ascii false (code_points bytes)).1
directive_ascii false bytes e = absurd (both_ways false refl e)

pub directive_value : (ascii : Bool) (bytes : List ℕ) → DirectiveValueKept ascii bytes
directive_value ascii bytes q sv c = directive_kept q ascii (code_points bytes) sv c

pub regex_ascii : (ascii : Bool) (bytes : List ℕ) → Ascii ascii (regex_bytes ascii bytes)
unfolding regex_bytes
regex_ascii true bytes e = (raw_ascii false (code_points bytes)).2
regex_ascii false bytes e = absurd (both_ways false refl e)

pub pattern_kept : (ascii : Bool) (bytes : List ℕ) → (raw_answer bytes).number ≡ 0 → PatternKept ascii bytes
pattern_kept ascii bytes h = regex_kept ascii (code_points bytes) (all-points 0 (code_points bytes) (formed_points bytes (good-raw bytes h).1))

pub name_ascii : (ascii : Bool) (bytes : List ℕ) → Ascii ascii (name_bytes ascii bytes)
unfolding name_bytes
name_ascii true bytes e = (raw_ascii false (code_points bytes)).3
name_ascii false bytes e = absurd (both_ways false refl e)

-- a name that keeps the rule is one of ECMA-262's

name_start : (before c : ℕ) → c ≤ 0x10FFFF → (Barred Utf8 before c → ⊥) → starts_name c ≡ true → NameStart c
name_start before c h n s =
    ⊎_elim (λ a. ⊎_elim (λ b. ⊎_elim letter (λ e. inr (inl (eqb-true c 0x24 e))) (or_cases (is_letter c) (eqb c 0x24) b)) (λ e. inr (inr (inl (eqb-true c 0x5F e)))) (or_cases (is_letter c || eqb c 0x24) (eqb c 0x5F) a))
    (λ e. inr (inr (inr (leb-true 0x80 c e, h, n)))) (or_cases (is_letter c || eqb c 0x24 || eqb c 0x5F) (leb 0x80 c) s)
  where
    letter : is_letter c ≡ true → NameStart c
    letter e =
        ⊎_elim (λ a. let p = and_parts _ _ a in inl (inl (leb-true 0x41 c p.0, leb-true c 0x5A p.1))) (λ a. let p = and_parts _ _ a in inl (inr (leb-true 0x61 c p.0, leb-true c 0x7A p.1))) (or_cases _ _ e)

name_part : (before c : ℕ) → c ≤ 0x10FFFF → (Barred Utf8 before c → ⊥) → continues_name c ≡ true → NamePart c
name_part before c h n s =
    ⊎_elim (λ a. inr (name_start before c h n a)) (λ e. let p = and_parts _ _ e in inl (leb-true 0x30 c p.0, leb-true c 0x39 p.1)) (or_cases (starts_name c) (is_digit c) s)

name-parts : (before : ℕ) (cs : List ℕ) → Points Utf8 before cs → Continues cs → AllByRecursion NamePart cs
name-parts before [] p k = tt
name-parts before (c ∷ cs) p k = (name_part before c p.0 p.1 k.0, name-parts c cs p.2 k.1)

name-text : (cs : List ℕ) → Points Utf8 0 cs → IsName cs → NameText cs
name-text [] p n = n
name-text (c ∷ cs) p n = (name_start 0 c p.0 p.1 n.0, name-parts c cs p.2 n.1)

pub name_back : (ascii : Bool) (bytes : List ℕ) → (name_answer bytes).number ≡ 0 → NameReadBack ascii bytes
name_back ascii bytes h rest ends =
    let g = good-name bytes h in
    name_read ascii (code_points bytes) rest (name-text (code_points bytes) (formed_points bytes g.1) ((named (code_points bytes)).0 g.2)) ends
