-- The keywords that a line may begin with.
use Rattle.std.specs.Prelude.{ℕ, cond, List, [], ◌∷◌, find, length, Some, None, codes, Option, ◌==◌}
use Rattle.job.specs.declared.calls.CallKind.{CallKind}
use Rattle.job.specs.declared.calls.CallKind.TheVariants.{Quoted, QuotedOrBacktick, Template}
use Rattle.job.specs.declared.words.Flag.TheVariants.{Exact, Lone, Plain}
use Rattle.job.specs.declared.words.Form.{Form}
use Rattle.job.specs.declared.words.Form.TheVariants.{AsItStands, Hex}
use Rattle.job.specs.declared.words.Keyword.{Keyword}
use Rattle.job.specs.declared.words.Keyword.TheVariants.{Options, Limit, Set}
use Rattle.std.specs.List.{before_first}
use Rattle.std.specs.Str.{bytes_eq}
use Rattle.job.specs.Lines.{from_first}

abbrev pub spelled : CallKind → List ℕ
spelled Quoted = codes "string"
spelled QuotedOrBacktick = codes "string-bt"
spelled Template = codes "as-template"

-- the kind of call with this keyword
abbrev pub kind_of : List ℕ → Option CallKind
kind_of w = find (λ kind. bytes_eq w (spelled kind)) (Quoted ∷ QuotedOrBacktick ∷ Template ∷ [])

-- how the text is written, by what follows the call's name
abbrev pub form_of : List ℕ → Option Form
form_of w =
    cond (length w == 0) (Some AsItStands)
    (cond (bytes_eq w (codes ":hex")) (Some (Hex Exact))
    (cond (bytes_eq w (codes ":hex:lone")) (Some (Hex Lone))
    (cond (bytes_eq w (codes ":hex:plain")) (Some (Hex Plain)) None)))

abbrev pub both : Option CallKind → Option Form → Option Keyword
both (Some kind) (Some form) = Some (Set kind form)
both (Some kind) None = None
both None f = None

-- the call's name goes up to a colon, 58
abbrev pub call_word : List ℕ → Option Keyword
call_word w = both (kind_of (before_first (λ b. b == 58) w)) (form_of (from_first (λ b. b == 58) w))

unfoldable pub keyword_of : List ℕ → Option Keyword
keyword_of w =
    cond (bytes_eq w (codes "options")) (Some Options)
    (cond (bytes_eq w (codes "limit")) (Some Limit) (call_word w))
