-- What stands behind `options` and `limit`.
use Rattle.std.specs.Prelude.{◌≡◌, ℕ, ◌+◌, ◌-◌, ◌*◌, Bool, true, false, cond, ◌&&◌, List, [], ◌∷◌, Some, None, Ok, Err, codes, Option, Result, nat_le}
use Rattle.std.specs.Option.{ok_or}
use Rattle.std.specs.Str.{bytes_eq}
use Rattle.job.specs.Lines.{words}
use Rattle.options.specs.declared.CodegenOptions.{CodegenOptions}
use Rattle.job.specs.declared.faults.Expected.{Expected}
use Rattle.job.specs.declared.faults.Expected.TheVariants.{OptionName, OptionOnce, LimitNumber}

abbrev pub options : Bool → Bool → Bool → CodegenOptions
options single minify ascii = record { single_quote = single; minify = minify; ascii_only = ascii }

-- what taking a setting answers and leaves, where `x` is what the setting makes
abbrev pub Taken : {A : Type 0} → Result A Expected → Result Unit Expected → A → Type 0
Taken x (Ok u) after = x ≡ Ok after
Taken x (Err e) after = x ≡ Err e

-- an option is set at most once
abbrev pub once : {A : Type 0} → Bool → A → Result A Expected
once already chosen = cond already (Err OptionOnce) (Ok chosen)

-- the options with the one of this name set as well
abbrev pub with_name : CodegenOptions → List ℕ → Result CodegenOptions Expected
with_name o name =
    cond (bytes_eq name (codes "single_quote")) (once o.single_quote (options true o.minify o.ascii_only))
    (cond (bytes_eq name (codes "minify")) (once o.minify (options o.single_quote true o.ascii_only))
    (cond (bytes_eq name (codes "ascii_only")) (once o.ascii_only (options o.single_quote o.minify true)) (Err OptionName)))

-- the options that the words name, beside those that are set already
abbrev pub chosen_from : CodegenOptions → List (List ℕ) → Result CodegenOptions Expected
chosen_from o [] = Ok o
chosen_from o (name ∷ names) = elim (with_name o name) [ Err e ↦ Err e | Ok more ↦ chosen_from more names ]

abbrev pub options_of : List ℕ → Result CodegenOptions Expected
options_of text = chosen_from (options false false false) (words text)

-- the number so far, and what one more digit makes of it, where that is no more than 65536
abbrev pub with_digit : ℕ → ℕ → Option ℕ
with_digit n b = cond ((nat_le 48 b && nat_le b 57) && nat_le (n * 10 + (b - 48)) 65536) (Some (n * 10 + (b - 48))) None

-- the number that the digits make, behind those that made `n` already
abbrev pub number_from : ℕ → List ℕ → Option ℕ
number_from n [] = Some n
number_from n (b ∷ rest) = elim (with_digit n b) [ None ↦ None | Some m ↦ number_from m rest ]

-- the number that the only word writes
abbrev pub number_in : List (List ℕ) → Option ℕ
number_in [] = None
number_in (digits ∷ []) = number_from 0 digits
number_in (digits ∷ more ∷ words) = None

-- one number between blanks, and nothing else
abbrev pub limit_of : List ℕ → Result ℕ Expected
limit_of text = ok_or (number_in (words text)) LimitNumber
