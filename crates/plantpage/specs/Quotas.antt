-- The page's quota: what the job's limit is, else 65,536 bytes.
use Rattle.std.specs.Prelude.{ℕ, Option, unwrap_or}

abbrev pub quota_of : Option ℕ → ℕ
quota_of limit = unwrap_or limit 65536
