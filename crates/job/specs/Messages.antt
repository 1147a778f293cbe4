-- What is said of a line that no job may have.
use Rattle.std.specs.Prelude.{ℕ, List, ◌++◌, codes, decimal}
use Rattle.job.specs.declared.faults.Expected.{Expected}
use Rattle.job.specs.declared.faults.Expected.TheVariants.{Keyword, OptionName, OptionOnce, OptionsOnce, OptionsFirst, LimitNumber, LimitOnce, LimitFirst, HexPairs}
use Rattle.job.specs.declared.faults.JobFault.{JobFault}

-- what was expected
abbrev pub awaited : Expected → List ℕ
awaited Keyword = codes "a comment, options, limit or a call at the line's start"
awaited OptionName = codes "single_quote, minify or ascii_only"
awaited OptionOnce = codes "each option at most once"
awaited OptionsOnce = codes "at most one options line"
awaited OptionsFirst = codes "options before the first call"
awaited LimitNumber = codes "a decimal number up to 65536"
awaited LimitOnce = codes "at most one limit line"
awaited LimitFirst = codes "limit before the first call"
awaited HexPairs = codes "pairs of hex digits"

-- the line, and what was expected there
abbrev pub told : JobFault → List ℕ
told f = codes "line " ++ (decimal f.line ++ (codes ": expected " ++ awaited f.expected))
