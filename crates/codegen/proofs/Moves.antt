-- One turn on, where the bytes are only counted.
use Rattle.std.proofs.Common.{◌≡◌, ℕ, ◌+◌, ◌<◌, ◌≤◌, Bool, List, [], ◌∷◌, length, take, drop, refl, ap, ◌∙◌, subst, arith, length-append, length-drop}
use Rattle.std.proofs.lemmas.List.{drop-drop, length-take-le}
use Rattle.ecma262.specs.declared.Quote.{Quote}
use Rattle.codegen.specs.declared.turn.Turn.{Turn}
use Rattle.codegen.specs.declared.turn.Turn.TheVariants.{Plain, Escaped, Tag}
use Rattle.codegen.specs.Turns.{Fit, takes, puts, printed_size, body, Turned}

puts_length : (s : List ℕ) (r : Turn) → takes r ≤ length s → length (puts s r) ≡ printed_size r
puts_length s (Plain n) h = length-take-le n s h
puts_length s (Escaped e c n) h = refl
puts_length s Tag h = omega (arith, length-append (take 1 s) (0x5C ∷ 0x2F ∷ []), length-take-le 1 s (omega arith))

pub record Moved (q : Quote) (ascii lone : Bool) (bytes : List ℕ) (at : ℕ) (r : Turn) : Type 0 where
  pub more : 0 < takes r
  pub within : at + takes r ≤ length bytes
  pub fit : Fit lone (drop (at + takes r) bytes)
  pub size : length (body q ascii (drop at bytes)) ≡ printed_size r + length (body q ascii (drop (at + takes r) bytes))

pub moved : {q : Quote} {ascii lone : Bool} (bytes : List ℕ) (at : ℕ) {r : Turn} → at < length bytes → Turned q ascii lone (drop at bytes) r → Moved q ascii lone bytes at r
moved {q} {ascii} {lone} bytes at {r} h t =
    let d : drop (takes r) (drop at bytes) ≡ drop (at + takes r) bytes = drop-drop (takes r) at bytes in
    let w = t.within in
    record {
      more = t.more;
      within = omega (arith, length-drop at bytes);
      fit = subst (Fit lone) d t.fit;
      size =
          ap length t.shown ∙ length-append (puts (drop at bytes) r) (body q ascii (drop (takes r) (drop at bytes)))
          ∙ ap (λ n. n + length (body q ascii (drop (takes r) (drop at bytes)))) (puts_length (drop at bytes) r w)
          ∙ ap (λ x. printed_size r + length (body q ascii x)) d;
    }
