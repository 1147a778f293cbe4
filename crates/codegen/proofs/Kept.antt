-- What the laws of literals say of the literal of a text that exists.
use Rattle.std.proofs.Common.{◌≡◌, ℕ, ◌≤◌, Bool, true, cond, List, [], ◌∷◌, ◌++◌, length, sym, refl, subst, ⊎_elim, arith}
use lib.Utf8.{encodes, scalar, scalars, scalar_cases}
use Rattle.std.proofs.lemmas.Bool.{and_parts}
use Rattle.std.specs.List.{AllByRecursion}
use Rattle.ecma262.specs.declared.Quote.{Quote}
use Rattle.ecma262.specs.declared.Quote.TheVariants.{Single, Double}
use Rattle.ecma262.specs.Units.{Text}
use Rattle.ecma262.proofs.Values.{unique}
use Rattle.literal.specs.Laws.{Stands}
use Rattle.literal.specs.Escapes.{literal}
use Rattle.literal.specs.Quotes.{chosen}
use Rattle.literal.proofs.Encoded.{stands}
use Rattle.literal.proofs.Output.{all_scalar}
use Rattle.text.specs.declared.well_formed.Encoding.TheVariants.{Utf8}
use Rattle.text.specs.Wtf8.{Barred, Points}
use Rattle.text.proofs.Formed.{read}
use Rattle.literal.proofs.Sizes.{shortest_chosen}
use Rattle.text.specs.Answers.{text_answer}
use Rattle.text.specs.Sequence.{code_points}
use Rattle.options.specs.declared.CodegenOptions.{CodegenOptions}
use Rattle.codegen.specs.Strings.{source_text, quoted}
use Rattle.codegen.specs.Laws.{text_units, InUtf8, ReadBack, ReadOnce, NoScriptEnd, AsciiIfAsked, ShortestUnderMinify}
use Rattle.codegen.specs.Turns.{Fine}
use Rattle.codegen.proofs.Texts.{text-fits}

all-points : (lone : Bool) (cs : List ℕ) → AllByRecursion (Fine lone) cs → Text cs
all-points lone [] a = tt
all-points lone (c ∷ cs) a = (a.0.0, all-points lone cs a.1)

scalar_point : (before c : ℕ) → scalar c ≡ true → (c ≤ 0x10FFFF) × (Barred Utf8 before c → ⊥)
scalar_point before c h = ⊎_elim (λ l. (omega arith, λ b. omega arith)) (λ g. (omega arith, λ b. omega arith)) (scalar_cases c h)

all_scalars : (before : ℕ) (cs : List ℕ) → scalars cs ≡ true → Points Utf8 before cs
all_scalars before [] h = tt
all_scalars before (c ∷ cs) h =
    let p = and_parts (scalar c) (scalars cs) h in
    let q = scalar_point before c p.0 in
    (q.0, q.1, all_scalars c cs p.1)

module _ (bytes : List ℕ) (lone : Bool) (good : (text_answer bytes lone).number ≡ 0) where
  pub points : Text (code_points bytes)
  points = all-points lone (code_points bytes) (text-fits bytes lone good).0.1

  module _ (q : Quote) (ascii : Bool) where
    law : Stands q ascii (code_points bytes)
    law = stands q ascii (code_points bytes) points

    source : Points Utf8 0 (source_text q ascii bytes)
    source = all_scalars 0 (source_text q ascii bytes) (all_scalar q ascii (code_points bytes) points)

    pub in_utf8 : InUtf8 q ascii bytes
    unfolding quoted
    in_utf8 = ((source_text q ascii bytes, source, refl), read Utf8 (source_text q ascii bytes) source)

    pub read_back : ReadBack q ascii bytes
    read_back rest = law.denotes rest

    pub read_once : ReadOnce q ascii bytes
    read_once rest end value l = unique q (source_text q ascii bytes ++ rest) end rest value (text_units bytes) l (law.denotes rest)

    pub no_script_end : NoScriptEnd q ascii bytes
    unfolding quoted
    no_script_end place = law.tagless place

    pub ascii_if_asked : AsciiIfAsked q ascii bytes
    unfolding quoted
    ascii_if_asked e = law.plain e

pub shortest_under_minify : (o : CodegenOptions) (allow : Bool) (bytes : List ℕ) → ShortestUnderMinify o allow bytes
unfolding quoted
shortest_under_minify o allow bytes e q p =
    subst (λ b. length (encodes (literal (cond b (chosen allow (code_points bytes)) (cond o.single_quote Single Double)) o.ascii_only (code_points bytes))) ≤ length (encodes (literal q o.ascii_only (code_points bytes))))
    (sym e) (shortest_chosen q o.ascii_only allow (code_points bytes) p)
