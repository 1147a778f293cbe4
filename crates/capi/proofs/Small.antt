-- The value of an answer is far below 2^32: places are within the text, and what is printed is at most four times as long.
use Rattle.std.proofs.Common.{◌≡◌, ℕ, ◌≤◌, Bool, cond, ltb, List, ◌++◌, length, Some, None, Option, sym, refl, ap, ◌∙◌, arith, length-append}
use lib.Utf8.{encodes}
use Rattle.std.proofs.lemmas.Bool.Decides.{nat_tests}
use Rattle.std.proofs.lemmas.Str.{encodes-append}
use Rattle.refusal.specs.Returned.{Returned, answer, done}
use Rattle.ecma262.specs.Template.{template_breach}
use Rattle.ecma262.proofs.Broken.{broken_at}
use Rattle.text.specs.declared.well_formed.Encoding.{Encoding}
use Rattle.text.specs.declared.well_formed.Encoding.TheVariants.{Wtf8, Utf8}
use Rattle.text.specs.Answers.{unless, text_answer, raw_answer, name_answer, template_answer}
use Rattle.text.specs.Names.{name_breach}
use Rattle.text.specs.Sequence.{breach, code_points}
use Rattle.text.specs.Wtf8.{WellFormed}
use Rattle.text.proofs.Formed.{accepted, placed, read}
use Rattle.text.proofs.Ruled.{name_placed}
use Rattle.options.specs.declared.CodegenOptions.{CodegenOptions}
use Rattle.codegen.specs.Strings.{quote_of_text, literal_bytes}
use Rattle.codegen.proofs.Bound.{body_bound}
use Rattle.codegen.proofs.Texts.{text-fits, literal_size_lem}
use Rattle.codegen.specs.declared.raw_kind.RawKind.{RawKind}
use Rattle.codegen.specs.declared.raw_kind.RawKind.TheVariants.{Piece, TaggedPiece, Directive, Pattern, Name}
use Rattle.codegen.specs.RawKinds.{check_of, printed_of}
use Rattle.codegen.proofs.RawKept.{kind_fits, kind_bound, formed_points, all-points}

-- places

front : (good rest text bytes : List ℕ) → text ≡ good ++ rest → encodes text ≡ bytes → length (encodes good) ≤ length bytes
front good rest text bytes e f =
    let l = ap length (ap encodes (sym e) ∙ f) in
    let k = ap length (encodes-append good rest) in
    omega (arith, length-append (encodes good) (encodes rest))

breach-small : (encoding : Encoding) (bytes : List ℕ) (place : ℕ) → breach encoding bytes ≡ Some place → place ≤ length bytes
breach-small encoding bytes place e =
    let b = (placed encoding bytes place).0 e in
    let l = ap length b.parts in
    omega (arith, length-append (encodes b.good) b.rest, b.here)

points_back : (bytes : List ℕ) → WellFormed Utf8 bytes → encodes (code_points bytes) ≡ bytes
points_back bytes w = ap (λ b. encodes (code_points b)) (sym w.2) ∙ ap encodes (read Utf8 w.0 w.1) ∙ w.2

name-small : (bytes : List ℕ) (place : ℕ) → WellFormed Utf8 bytes → name_breach (code_points bytes) ≡ Some place → place ≤ length bytes
name-small bytes place w e =
    let b = (name_placed (code_points bytes) place).0 e in
    let f = front b.good b.rest (code_points bytes) bytes b.parts (points_back bytes w) in
    omega (arith, b.here)

template-small : (bytes : List ℕ) (place : ℕ) → WellFormed Utf8 bytes → template_breach (code_points bytes) ≡ Some place → place ≤ length bytes
template-small bytes place w e =
    let b = (broken_at (code_points bytes) place (all-points 0 (code_points bytes) (formed_points bytes w))).0 e in
    let f = front b.good b.rest (code_points bytes) bytes b.parts (points_back bytes w) in
    omega (arith, b.in_bytes)

-- answers

abbrev Small : Returned → Type 0
Small r = r.value ≤ 16384

by_option : (number : ℕ) (o : Option ℕ) (next : Returned) → ((place : ℕ) → o ≡ Some place → place ≤ 16384) → (o ≡ None → Small next) → Small (unless number o next)
by_option number (Some place) next h k = h place refl
by_option number None next h k = k refl

limited : (limit : ℕ) (bytes : List ℕ) (next : Returned) → (length bytes ≤ limit → Small next) → Small (cond (ltb limit (length bytes)) (answer 1 0) next)
limited limit bytes next h = grind (arith, nat_tests, h)

encoded : (encoding : Encoding) (bytes : List ℕ) (next : Returned) → length bytes ≤ 16384 → (WellFormed encoding bytes → Small next) → Small (unless 2 (breach encoding bytes) next)
encoded encoding bytes next l h = by_option 2 (breach encoding bytes) next (λ place e. omega (arith, breach-small encoding bytes place e)) (λ e. h ((accepted encoding bytes).0 e))

pub text-value : (bytes : List ℕ) (lone : Bool) → Small (text_answer bytes lone)
text-value bytes lone =
    limited 16384 bytes _ (λ l. encoded Wtf8 bytes _ l (λ w. grind (arith, nat_tests)))

raw-value : (bytes : List ℕ) → Small (raw_answer bytes)
raw-value bytes = limited 16384 bytes _ (λ l. encoded Utf8 bytes _ l (λ w. omega arith))

name-value : (bytes : List ℕ) → Small (name_answer bytes)
name-value bytes =
    limited 128 bytes _ (λ l. encoded Utf8 bytes _ (omega arith) (λ w.
    by_option 4 (name_breach (code_points bytes)) done (λ place e. omega (arith, name-small bytes place w e)) (λ _. omega arith)))

template-value : (bytes : List ℕ) → Small (template_answer bytes)
template-value bytes =
    limited 16384 bytes _ (λ l. encoded Utf8 bytes _ l (λ w.
    by_option 5 (template_breach (code_points bytes)) done (λ place e. omega (arith, template-small bytes place w e)) (λ _. omega arith)))

pub kind-value : (kind : RawKind) (bytes : List ℕ) → Small (check_of kind bytes)
kind-value Piece bytes = template-value bytes
kind-value TaggedPiece bytes = raw-value bytes
kind-value Directive bytes = raw-value bytes
kind-value Pattern bytes = raw-value bytes
kind-value Name bytes = name-value bytes

-- what is printed

pub literal_short : (o : CodegenOptions) (allow : Bool) (bytes : List ℕ) (lone : Bool) → (text_answer bytes lone).number ≡ 0 → length (literal_bytes o allow bytes) ≤ 65538
literal_short o allow bytes lone h =
    let f = text-fits bytes lone h in
    let q = quote_of_text o allow bytes in
    omega (arith, literal_size_lem q o.ascii_only bytes, body_bound q o.ascii_only lone bytes f.0, f.1)

pub raw_short : (kind : RawKind) (o : CodegenOptions) (bytes : List ℕ) → (check_of kind bytes).number ≡ 0 → length (printed_of kind o bytes) ≤ 65538
raw_short kind o bytes h =
    let f = kind_fits kind bytes h in
    omega (arith, kind_bound kind o bytes h, f.1)
