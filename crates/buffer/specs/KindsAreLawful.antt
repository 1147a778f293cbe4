-- That the kinds of code buffers over cells, and a quota over any of them, are lawful: what the ghost member `laws` of their impls rests on.
use Rattle.std.specs.Prelude.{ℕ, ◌≤◌, List, length}
use Rattle.std.proofs.Common.{arith, length-take}
use Rattle.buffer.specs.Kinds.{held_bytes, quota_limit}
use Rattle.buffer.specs.Laws.{Lawful}

pub held_within : (used : ℕ) (cells : List ℕ) {limit : ℕ} → used ≤ limit → length (held_bytes used cells) ≤ limit
held_within used cells fits = omega (arith, length-take used cells)

pub quota_lawful : {S B : Type 0} {bytes : B → List ℕ} {limit : B → ℕ} (below : S → B) (quota : S → ℕ) → Lawful bytes limit
    → Lawful (λ s. bytes (below s)) (λ s. quota_limit (length (bytes (below s))) (quota s) (limit (below s)))
quota_lawful below quota laws = record {
  within = λ s. omega arith;
  bounded = λ s. omega (arith, laws.within (below s), laws.bounded (below s));
}
