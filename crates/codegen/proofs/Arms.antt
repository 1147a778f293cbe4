-- The arms of a turn.
use Rattle.std.proofs.Common.{◌≡◌, ℕ, ◌+◌, ◌<◌, ◌≤◌, Bool, true, false, cond, eqb, ◌⊎◌, List, [], ◌∷◌, ◌++◌, length, get_or, drop, Some, None, Option, IsSome, sym, refl, ap, ◌∙◌, subst, ⊎_elim, add-zero, arith, length-drop}
use lib.Utf8.{encode, encodes}
use Rattle.std.specs.Char.{len_utf8}
use Rattle.std.specs.List.{AllByRecursion}
use Rattle.std.proofs.lemmas.List.{get_or-drop, drop-drop}
use Rattle.std.proofs.lemmas.Str.{len_utf8_ascii}
use Rattle.std.proofs.lemmas.Bool.{and_left, and_right, and_parts, eqb-true, ne_eqb, both_ways, cases_Bool, cases_lt, cond_both}
use Rattle.std.proofs.lemmas.Bool.Decides.{nat_tests}
use Rattle.literal.specs.declared.EscapeSequence.{EscapeSequence}
use Rattle.literal.specs.declared.EscapeSequence.TheVariants.{Null, Character, Hex}
use Rattle.literal.specs.Escapes.{is_backtick}
use Rattle.ecma262.specs.declared.Quote.{Quote}
use Rattle.ecma262.specs.Lookahead.{opens, digit}
use Rattle.literal.specs.Escapes.{script, pick, rules, tag}
use Rattle.text.specs.Sequence.{seq_len, sequence}
use Rattle.text.proofs.Codec.{sequence-encode}
use Rattle.codegen.specs.declared.escape.Escape.{Escape}
use Rattle.codegen.specs.declared.escape.Escape.TheVariants.{No, NU, BE, BK, VT, FF, NL, CR, ES, BS, SQ, DQ, BQ, DO, LT, LS, NB, SU, UC}
use Rattle.codegen.specs.Classes.{class_in, short_of, wide_of, decides}
use Rattle.codegen.specs.declared.turn.Turn.TheVariants.{Plain, Escaped, Tag}
use Rattle.codegen.specs.Turns.{Fine, Fit, Turned, decides_at, Decided}
use Rattle.literal.specs.Quotes.{chosen}
use Rattle.text.specs.Sequence.{code_points}
use Rattle.ecma262.proofs.Utf8.{encode_1, same_front, first_test, digit_narrow, eqb_narrow}
use Rattle.literal.proofs.Encoded.{tag_narrow}
use Rattle.codegen.proofs.Crossing.{lead_byte, lead_byte_lem, low, high, wide_len}
use Rattle.codegen.proofs.Tallies.{Neutral, wide_neutral, less_neutral, dollar_neutral, plain_neutral, chosen-free}
use Rattle.codegen.proofs.Told.{Ordinary, Tells, told, short, short_rules, wide-rules, less_rules, plain-rules}
use Rattle.codegen.proofs.Steps.{Front, front, points_are, points-rest, plain_turn, escaped_turn, tag_turn}

-- the classes of characters above 7F
abbrev pub wide : Escape → Bool
wide No = false
wide NU = false
wide BE = false
wide BK = false
wide VT = false
wide FF = false
wide NL = false
wide CR = false
wide ES = false
wide BS = false
wide SQ = false
wide DQ = false
wide BQ = false
wide DO = false
wide LT = false
wide LS = true
wide NB = true
wide SU = true
wide UC = true

pub is_short : (k : Escape) → (k ≡ No → ⊥) → (k ≡ LT → ⊥) → (k ≡ LS → ⊥) → (k ≡ NB → ⊥) → (k ≡ SU → ⊥) → (k ≡ UC → ⊥) → short k ≡ true
is_short No n l s b u c = absurd (n refl)
is_short NU n l s b u c = refl
is_short BE n l s b u c = refl
is_short BK n l s b u c = refl
is_short VT n l s b u c = refl
is_short FF n l s b u c = refl
is_short NL n l s b u c = refl
is_short CR n l s b u c = refl
is_short ES n l s b u c = refl
is_short BS n l s b u c = refl
is_short SQ n l s b u c = refl
is_short DQ n l s b u c = refl
is_short BQ n l s b u c = refl
is_short DO n l s b u c = refl
is_short LT n l s b u c = absurd (l refl)
is_short LS n l s b u c = absurd (s refl)
is_short NB n l s b u c = absurd (b refl)
is_short SU n l s b u c = absurd (u refl)
is_short UC n l s b u c = absurd (c refl)

pub is_wide_class : (k : Escape) → (k ≡ LS) ⊎ ((k ≡ NB) ⊎ ((k ≡ SU) ⊎ (k ≡ UC))) → wide k ≡ true
is_wide_class k = ⊎_elim (λ e. ap wide e) (⊎_elim (λ e. ap wide e) (⊎_elim (λ e. ap wide e) (λ e. ap wide e)))

wide_byte : (ascii lone : Bool) (b : ℕ) (k : Escape) → wide k ≡ true → Tells ascii lone b k → 0x80 ≤ b
wide_byte ascii lone b No w t = absurd (both_ways false refl w)
wide_byte ascii lone b NU w t = absurd (both_ways false refl w)
wide_byte ascii lone b BE w t = absurd (both_ways false refl w)
wide_byte ascii lone b BK w t = absurd (both_ways false refl w)
wide_byte ascii lone b VT w t = absurd (both_ways false refl w)
wide_byte ascii lone b FF w t = absurd (both_ways false refl w)
wide_byte ascii lone b NL w t = absurd (both_ways false refl w)
wide_byte ascii lone b CR w t = absurd (both_ways false refl w)
wide_byte ascii lone b ES w t = absurd (both_ways false refl w)
wide_byte ascii lone b BS w t = absurd (both_ways false refl w)
wide_byte ascii lone b SQ w t = absurd (both_ways false refl w)
wide_byte ascii lone b DQ w t = absurd (both_ways false refl w)
wide_byte ascii lone b BQ w t = absurd (both_ways false refl w)
wide_byte ascii lone b DO w t = absurd (both_ways false refl w)
wide_byte ascii lone b LT w t = absurd (both_ways false refl w)
wide_byte ascii lone b LS w t = omega arith
wide_byte ascii lone b NB w t = omega arith
wide_byte ascii lone b SU w t = omega arith
wide_byte ascii lone b UC w t = omega arith

short_byte : (ascii lone : Bool) (b : ℕ) (k : Escape) → short k ≡ true → Tells ascii lone b k → (b < 0x80) × (eqb 0x3C b ≡ false)
short_byte ascii lone b No w t = absurd (both_ways false refl w)
short_byte ascii lone b NU w t = (omega arith, ne_eqb 0x3C b (omega arith))
short_byte ascii lone b BE w t = (omega arith, ne_eqb 0x3C b (omega arith))
short_byte ascii lone b BK w t = (omega arith, ne_eqb 0x3C b (omega arith))
short_byte ascii lone b VT w t = (omega arith, ne_eqb 0x3C b (omega arith))
short_byte ascii lone b FF w t = (omega arith, ne_eqb 0x3C b (omega arith))
short_byte ascii lone b NL w t = (omega arith, ne_eqb 0x3C b (omega arith))
short_byte ascii lone b CR w t = (omega arith, ne_eqb 0x3C b (omega arith))
short_byte ascii lone b ES w t = (omega arith, ne_eqb 0x3C b (omega arith))
short_byte ascii lone b BS w t = (omega arith, ne_eqb 0x3C b (omega arith))
short_byte ascii lone b SQ w t = (omega arith, ne_eqb 0x3C b (omega arith))
short_byte ascii lone b DQ w t = (omega arith, ne_eqb 0x3C b (omega arith))
short_byte ascii lone b BQ w t = (omega arith, ne_eqb 0x3C b (omega arith))
short_byte ascii lone b DO w t = (omega arith, ne_eqb 0x3C b (omega arith))
short_byte ascii lone b LT w t = absurd (both_ways false refl w)
short_byte ascii lone b LS w t = absurd (both_ways false refl w)
short_byte ascii lone b NB w t = absurd (both_ways false refl w)
short_byte ascii lone b SU w t = absurd (both_ways false refl w)
short_byte ascii lone b UC w t = absurd (both_ways false refl w)

module _ (q : Quote) (ascii lone : Bool) (bytes : List ℕ) (at : ℕ) (h : at < length bytes) (fit : Fit lone (drop at bytes)) where
  f : Front lone (drop at bytes)
  f = front lone (drop at bytes) fit (omega (arith, length-drop at bytes))

  at_front : get_or bytes at 0 ≡ get_or (drop at bytes) 0 0
  at_front = sym (get_or-drop at bytes 0 0 ∙ ap (λ n. get_or bytes n 0) (add-zero at))

  lead : get_or bytes at 0 ≡ lead_byte f.c
  lead = at_front ∙ ap (λ s. get_or s 0 0) f.here ∙ lead_byte_lem f.c (encodes f.cs)

  tells_of : (k : Escape) → k ≡ class_in ascii lone (get_or bytes at 0) → Tells ascii lone (get_or bytes at 0) k
  tells_of k e = subst (Tells ascii lone (get_or bytes at 0)) (sym e) (told ascii lone (get_or bytes at 0))

  -- the first byte tells how many bytes the character has
  leads : seq_len (get_or bytes at 0) ≡ Some (len_utf8 f.c)
  leads = wide_len f.c (get_or bytes at 0) lead f.fine.0

  pub is_led : IsSome (seq_len (get_or bytes at 0))
  is_led = subst IsSome (sym leads) refl

  led : (n : ℕ) → Some n ≡ seq_len (get_or bytes at 0) → n ≡ len_utf8 f.c
  led n e = let i : Some n ≡ Some (len_utf8 f.c) = e ∙ leads in cc

  plain_arm : (n : ℕ) → Some n ≡ seq_len (get_or bytes at 0) → No ≡ class_in ascii lone (get_or bytes at 0) → Turned q ascii lone (drop at bytes) (Plain n)
  plain_arm n e k =
      let p = plain-rules q ascii lone f.c (get_or bytes at 0) f.cs lead f.fine.1 (tells_of No k) in
      plain_turn q ascii lone (drop at bytes) f n (led n e) p.0 (and_left (eqb 0x3C f.c) _ p.1)

  -- the same tag in the bytes and in the text
  tag_same : opens tag (drop at bytes) ≡ opens tag (f.c ∷ f.cs)
  tag_same = ap (opens tag) f.here ∙ same_front tag tag_narrow (f.c ∷ f.cs)

  less_arm : LT ≡ class_in ascii lone (get_or bytes at 0) → opens tag (drop at bytes) ≡ false → Turned q ascii lone (drop at bytes) (Plain 1)
  less_arm k t =
      let b = tells_of LT k in
      let c : f.c ≡ 0x3C = low f.c (get_or bytes at 0) lead (omega arith) ∙ b in
      plain_turn q ascii lone (drop at bytes) f 1 (sym (len_utf8_ascii f.c (omega arith)))
      (ap (λ x. pick (rules q ascii 0 x f.cs)) c ∙ less_rules q ascii f.cs) (sym tag_same ∙ t)

  tag_arm : opens tag (drop at bytes) ≡ true → Turned q ascii lone (drop at bytes) Tag
  tag_arm t = go f.cs f.others f.here (and_parts (eqb 0x3C f.c) _ (sym tag_same ∙ t))
    where
      go : (cs : List ℕ) → AllByRecursion (Fine lone) cs → drop at bytes ≡ encode f.c ++ encodes cs → (eqb 0x3C f.c ≡ true) × (opens (eqb 0x2F ∷ script) cs ≡ true) →
          Turned q ascii lone (drop at bytes) Tag
      go [] a e p = absurd (both_ways false refl p.1)
      go (d ∷ ds) a e p =
          let r = and_parts (eqb 0x2F d) _ p.1 in
          let c : f.c ≡ 0x3C = sym (eqb-true 0x3C f.c p.0) in
          let k : d ≡ 0x2F = sym (eqb-true 0x2F d r.0) in
          let i : drop at bytes ≡ 0x3C ∷ 0x2F ∷ encodes ds =
          e ∙ ap (λ x. encode x ++ encodes (d ∷ ds)) c ∙ ap (λ x. encode 0x3C ++ (encode x ++ encodes ds)) k ∙ rw (encode_1 0x3C (omega arith), encode_1 0x2F (omega arith)) refl in
          subst (λ s. Turned q ascii lone s Tag) (sym i) (tag_turn q ascii lone ds a.1 r.1)

  module _ (k : Escape) (e : k ≡ class_in ascii lone (get_or bytes at 0)) where
    module _ (w : wide k ≡ true) (r : ℕ × ℕ) (d : r ≡ sequence (drop at bytes)) where
      is_wide : 0x80 ≤ f.c
      is_wide = (high f.c (get_or bytes at 0) lead (wide_byte ascii lone (get_or bytes at 0) k w (tells_of k e))).0

      is_seq : r ≡ (f.c, len_utf8 f.c)
      is_seq = d ∙ ap sequence f.here ∙ sequence-encode f.c (encodes f.cs) f.fine.0

      c_is : r.0 ≡ f.c
      c_is = ap (λ x. x.0) is_seq

      n_is : r.1 ≡ len_utf8 f.c
      n_is = ap (λ x. x.1) is_seq

      picked : (o : Option EscapeSequence) → o ≡ wide_of ascii r.0 → pick (rules q ascii 0 f.c f.cs) ≡ o
      picked o i = wide-rules q ascii f.c f.cs is_wide ∙ ap (wide_of ascii) (sym c_is) ∙ sym i

      not_less : eqb 0x3C f.c ≡ false
      not_less = let z = is_wide in ne_eqb 0x3C f.c (omega arith)

      wide_some : (x : EscapeSequence) → Some x ≡ wide_of ascii r.0 → Turned q ascii lone (drop at bytes) (Escaped x r.0 r.1)
      wide_some x i = escaped_turn q ascii lone (drop at bytes) f x r.0 r.1 c_is n_is (picked (Some x) i) not_less

      wide-none : None ≡ wide_of ascii r.0 → Turned q ascii lone (drop at bytes) (Plain r.1)
      wide-none i = plain_turn q ascii lone (drop at bytes) f r.1 n_is (picked None i) (and_left (eqb 0x3C f.c) _ not_less)

    module _ (w : short k ≡ true) (next : ℕ) (x : next ≡ get_or bytes (at + 1) 0) where
      byte : (get_or bytes at 0 < 0x80) × (eqb 0x3C (get_or bytes at 0) ≡ false)
      byte = short_byte ascii lone (get_or bytes at 0) k w (tells_of k e)

      b_is : f.c ≡ get_or bytes at 0
      b_is = low f.c (get_or bytes at 0) lead byte.0

      one_wide : 1 ≡ len_utf8 f.c
      one_wide = let b = byte in let c = b_is in sym (len_utf8_ascii f.c (omega arith))

      after : next ≡ get_or (encodes f.cs) 0 0
      after =
          let b = byte in let c = b_is in
          x ∙ sym (get_or-drop at bytes 1 0) ∙ ap (λ s. get_or s 1 0) f.here ∙ ap (λ s. get_or (s ++ encodes f.cs) 1 0) (encode_1 f.c (omega arith))

      seen : (p : ℕ → Bool) → p 0 ≡ false → ((y : ℕ) → 0x80 ≤ y → p y ≡ false) → opens (p ∷ []) f.cs ≡ p next
      seen p z n = sym (same_front (p ∷ []) (n, tt) f.cs) ∙ first_test p z (encodes f.cs) ∙ ap p (sym after)

      brace_seen : opens (eqb 0x7B ∷ []) f.cs ≡ eqb next 0x7B
      brace_seen = seen (eqb 0x7B) refl (eqb_narrow 0x7B (omega arith)) ∙ eqb_sym next
        where
          eqb_sym : (n : ℕ) → eqb 0x7B n ≡ eqb n 0x7B
          eqb_sym n = grind (arith, nat_tests)

      picks : (o : Option EscapeSequence) → o ≡ short_of q k next → pick (rules q ascii 0 f.c f.cs) ≡ o
      picks o i =
          ap (λ c. pick (rules q ascii 0 c f.cs)) b_is
          ∙ short_rules q ascii lone (get_or bytes at 0) next f.cs (seen digit refl digit_narrow) brace_seen k w (tells_of k e)
          ∙ sym i

      no_less : eqb 0x3C f.c ≡ false
      no_less = ap (eqb 0x3C) b_is ∙ byte.1

      short_some : (y : EscapeSequence) → Some y ≡ short_of q k next → Turned q ascii lone (drop at bytes) (Escaped y (get_or bytes at 0) 1)
      short_some y i = escaped_turn q ascii lone (drop at bytes) f y (get_or bytes at 0) 1 (sym b_is) one_wide (picks (Some y) i) no_less

      short_none : None ≡ short_of q k next → Turned q ascii lone (drop at bytes) (Plain 1)
      short_none i = plain_turn q ascii lone (drop at bytes) f 1 one_wide (picks None i) (and_left (eqb 0x3C f.c) _ no_less)

-- The same turns, for every quote that agrees where the quote decides.

some_none : {X : Type 0} (x : EscapeSequence) → None ≡ Some x → X
some_none x e = let z : ◌≡◌ {A = ℕ} 0 1 = cc in absurd (omega arith)

same_short : (p q : Quote) (k : Escape) (next : ℕ) → (decides k next ≡ true → p ≡ q) → short_of p k next ≡ short_of q k next
same_short p q No next agree = refl
same_short p q NU next agree = refl
same_short p q BE next agree = refl
same_short p q BK next agree = refl
same_short p q VT next agree = refl
same_short p q FF next agree = refl
same_short p q NL next agree = ap (λ x. short_of x NL next) (agree refl)
same_short p q CR next agree = refl
same_short p q ES next agree = refl
same_short p q BS next agree = refl
same_short p q SQ next agree = ap (λ x. short_of x SQ next) (agree refl)
same_short p q DQ next agree = ap (λ x. short_of x DQ next) (agree refl)
same_short p q BQ next agree = ap (λ x. short_of x BQ next) (agree refl)
same_short p q DO next agree =
    ⊎_elim (λ t. ap (λ x. short_of x DO next) (agree t))
    (λ n. ap (λ b. cond b (Some (Character 0x24)) None) (and_right (is_backtick p) (eqb next 0x7B) n ∙ sym (and_right (is_backtick q) (eqb next 0x7B) n))) (cases_Bool (eqb next 0x7B))
same_short p q LT next agree = refl
same_short p q LS next agree = refl
same_short p q NB next agree = refl
same_short p q SU next agree = refl
same_short p q UC next agree = refl

module _ (q : Quote) (ascii lone : Bool) (b next : ℕ) (cs : List ℕ) (o : opens (eqb 0x7B ∷ []) cs ≡ eqb next 0x7B) where
  none_neutral : (k : Escape) → short k ≡ true → Tells ascii lone b k → None ≡ short_of q k next → decides k next ≡ false → Neutral b cs
  none_neutral No s t n d = absurd (both_ways false refl s)
  none_neutral NU s t n d = cond_both (digit next) (Some Hex) (Some Null) (λ x. None ≡ x → Neutral b cs) (λ _. some_none Hex) (λ _. some_none Null) n
  none_neutral BE s t n d = some_none Hex n
  none_neutral BK s t n d = some_none (Character 0x62) n
  none_neutral VT s t n d = some_none (Character 0x76) n
  none_neutral FF s t n d = some_none (Character 0x66) n
  none_neutral NL s t n d = absurd (both_ways true d refl)
  none_neutral CR s t n d = some_none (Character 0x72) n
  none_neutral ES s t n d = some_none Hex n
  none_neutral BS s t n d = some_none (Character 0x5C) n
  none_neutral SQ s t n d = absurd (both_ways true d refl)
  none_neutral DQ s t n d = absurd (both_ways true d refl)
  none_neutral BQ s t n d = absurd (both_ways true d refl)
  none_neutral DO s t n d = subst (λ c. Neutral c cs) (sym t) (dollar_neutral cs (o ∙ d))
  none_neutral LT s t n d = absurd (both_ways false refl s)
  none_neutral LS s t n d = absurd (both_ways false refl s)
  none_neutral NB s t n d = absurd (both_ways false refl s)
  none_neutral SU s t n d = absurd (both_ways false refl s)
  none_neutral UC s t n d = absurd (both_ways false refl s)

module _ (q : Quote) (ascii lone : Bool) (bytes : List ℕ) (at : ℕ) (h : at < length bytes) (fit : Fit lone (drop at bytes)) where
  abbrev g : Front lone (drop at bytes)
  g = f q ascii lone bytes at h fit

  free_of : (n : ℕ) → n ≡ len_utf8 g.c → Neutral g.c g.cs → (allow : Bool) →
      chosen allow (code_points (drop at bytes)) ≡ chosen allow (code_points (drop (at + n) bytes))
  free_of n w u allow =
      ap (chosen allow) (points_are lone (drop at bytes) g) ∙ chosen-free allow g.c g.cs u
      ∙ sym (ap (chosen allow) (ap code_points (sym (drop-drop n at bytes)) ∙ ap (λ k. code_points (drop k (drop at bytes))) w ∙ points-rest lone (drop at bytes) g))

  ordinary_neutral : Ordinary ascii lone (get_or bytes at 0) → Neutral g.c g.cs
  ordinary_neutral o =
      ⊎_elim (λ l. subst (λ c. Neutral c g.cs) (sym (low g.c (get_or bytes at 0) (lead q ascii lone bytes at h fit) l)) (plain_neutral (get_or bytes at 0) g.cs o.sq o.dq o.tick o.dollar o.line))
      (λ l. wide_neutral g.c g.cs (high g.c (get_or bytes at 0) (lead q ascii lone bytes at h fit) l).0) (cases_lt (get_or bytes at 0) 0x80)

  pub decided_plain : (n : ℕ) → Some n ≡ seq_len (get_or bytes at 0) → No ≡ class_in ascii lone (get_or bytes at 0) → Decided q ascii lone bytes at (Plain n)
  decided_plain n e k = record {
    right = λ p _. plain_arm p ascii lone bytes at h fit n e k;
    free = λ _ _. free_of n (led q ascii lone bytes at h fit n e) (ordinary_neutral (tells_of q ascii lone bytes at h fit No k));
  }

  pub decided_less : LT ≡ class_in ascii lone (get_or bytes at 0) → opens tag (drop at bytes) ≡ false → Decided q ascii lone bytes at (Plain 1)
  decided_less k t =
      let b = tells_of q ascii lone bytes at h fit LT k in
      let c : g.c ≡ 0x3C = low g.c (get_or bytes at 0) (lead q ascii lone bytes at h fit) (omega arith) ∙ b in
      record {
        right = λ p _. less_arm p ascii lone bytes at h fit k t;
        free = λ _ _. free_of 1 (sym (len_utf8_ascii g.c (omega arith))) (subst (λ x. Neutral x g.cs) (sym c) (less_neutral g.cs));
      }

  pub decided_tag : opens tag (drop at bytes) ≡ true → Decided q ascii lone bytes at Tag
  decided_tag t = record { right = λ p _. tag_arm p ascii lone bytes at h fit t; free = λ _ i. absurd (both_ways false refl i) }

  module _ (k : Escape) (e : k ≡ class_in ascii lone (get_or bytes at 0)) where
    module _ (w : wide k ≡ true) (r : ℕ × ℕ) (d : r ≡ sequence (drop at bytes)) where
      pub decided_wide : (x : EscapeSequence) → Some x ≡ wide_of ascii r.0 → Decided q ascii lone bytes at (Escaped x r.0 r.1)
      decided_wide x i = record { right = λ p _. wide_some p ascii lone bytes at h fit k e w r d x i; free = λ _ i. absurd (both_ways false refl i) }

      pub decided_wide_plain : None ≡ wide_of ascii r.0 → Decided q ascii lone bytes at (Plain r.1)
      decided_wide_plain i = record {
        right = λ p _. wide-none p ascii lone bytes at h fit k e w r d i;
        free = λ _ _. free_of r.1 (n_is q ascii lone bytes at h fit k e w r d) (wide_neutral g.c g.cs (is_wide q ascii lone bytes at h fit k e w r d));
      }

    module _ (w : short k ≡ true) (next : ℕ) (x : next ≡ get_or bytes (at + 1) 0) where
      same-decides : decides k next ≡ decides_at ascii lone bytes at
      same-decides = ap (λ j. decides j next) e ∙ ap (decides (class_in ascii lone (get_or bytes at 0))) x

      others : (p : Quote) → (decides_at ascii lone bytes at ≡ true → p ≡ q) → short_of q k next ≡ short_of p k next
      others p agree = sym (same_short p q k next (λ t. agree (sym same-decides ∙ t)))

      pub decided_short : (y : EscapeSequence) → Some y ≡ short_of q k next → Decided q ascii lone bytes at (Escaped y (get_or bytes at 0) 1)
      decided_short y i = record {
        right = λ p agree. short_some p ascii lone bytes at h fit k e w next x y (i ∙ others p agree);
        free = λ _ i. absurd (both_ways false refl i);
      }

      pub decided_short_plain : None ≡ short_of q k next → Decided q ascii lone bytes at (Plain 1)
      decided_short_plain i = record {
        right = λ p agree. short_none p ascii lone bytes at h fit k e w next x (i ∙ others p agree);
        free = λ d _. free_of 1 (one_wide q ascii lone bytes at h fit k e w next x)
            (subst (λ c. Neutral c g.cs) (sym (b_is q ascii lone bytes at h fit k e w next x))
            (none_neutral q ascii lone (get_or bytes at 0) next g.cs (brace_seen q ascii lone bytes at h fit k e w next x) k w (tells_of q ascii lone bytes at h fit k e) i (same-decides ∙ d)));
      }
