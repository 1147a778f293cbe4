-- What stands at the front of bytes, told by the bytes.
use Rattle.std.proofs.Common.{◌≡◌, ℕ, suc, ◌<◌, ◌≤◌, Bool, List, ◌∷◌, ◌++◌, get_or, ap, ◌∙◌}
use lib.Utf8.{encodes}
use Rattle.std.specs.Char.{len_utf8}
use Rattle.ecma262.specs.Lookahead.{opens}
use Rattle.ecma262.proofs.Utf8.{encode_1, same_front}
use Rattle.literal.specs.Escapes.{tag}
use Rattle.literal.proofs.Encoded.{tag_narrow}
use Rattle.text.specs.Sequence.{sequence}
use Rattle.text.proofs.Codec.{sequence-encode}
use Rattle.codegen.proofs.Crossing.{lead_byte, lead_byte_lem, low, high}
use Rattle.codegen.proofs.Steps.{Front}

module _ (lone : Bool) (s : List ℕ) (f : Front lone s) where
  pub lead : get_or s 0 0 ≡ lead_byte f.c
  lead = ap (λ t. get_or t 0 0) f.here ∙ lead_byte_lem f.c (encodes f.cs)

  pub is_sequence : sequence s ≡ (f.c, len_utf8 f.c)
  is_sequence = ap sequence f.here ∙ sequence-encode f.c (encodes f.cs) f.fine.0

  pub is_wide : 0x80 ≤ get_or s 0 0 → 0x80 ≤ f.c
  is_wide h = (high f.c (get_or s 0 0) lead h).0

  pub is_byte : get_or s 0 0 < 0x80 → f.c ≡ get_or s 0 0
  is_byte h = low f.c (get_or s 0 0) lead h

  pub same_tag : opens tag s ≡ opens tag (f.c ∷ f.cs)
  same_tag = ap (opens tag) f.here ∙ same_front tag tag_narrow (f.c ∷ f.cs)

  pub byte_behind : f.c < 0x80 → (k : ℕ) → get_or s (suc k) 0 ≡ get_or (encodes f.cs) k 0
  byte_behind h k = ap (λ t. get_or t (suc k) 0) f.here ∙ ap (λ t. get_or (t ++ encodes f.cs) (suc k) 0) (encode_1 f.c h)
