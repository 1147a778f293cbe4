-- Steps of the cursor keep what is pending: settling the quote, a plain turn, an escape, a tag; and steps one after the other.
use Rattle.std.proofs.Common.{◌≡◌, ℕ, ◌+◌, ◌-◌, ◌≤◌, Bool, true, false, List, [], ◌∷◌, ◌++◌, length, take, drop, Some, None, Option, unwrap_or, sym, refl, ap, ◌∙◌, subst, append_assoc, arith, length-drop, take-add}
use Rattle.std.specs.List.{between}
use Rattle.std.proofs.lemmas.List.{drop-drop, append-nil, at_drop_all}
use Rattle.std.proofs.lemmas.List.Edits.{between_none}
use Rattle.ecma262.specs.declared.Quote.{Quote}
use Rattle.ecma262.specs.declared.Quote.TheVariants.{Double}
use Rattle.literal.specs.declared.EscapeSequence.{EscapeSequence}
use Rattle.literal.specs.Escapes.{behind}
use Rattle.literal.specs.Quotes.{chosen}
use Rattle.text.specs.Sequence.{code_points}
use Rattle.buffer.specs.declared.code_buffer.CodeBuffer.{Ghosts}
use Rattle.buffer.specs.Printing.{Appends}
use Rattle.buffer.proofs.Printing.{appends_join, appends-nothing}
use Rattle.codegen.specs.declared.state.PrintStringState.{PrintStringState}
use Rattle.codegen.specs.declared.turn.Turn.{Turn}
use Rattle.codegen.specs.declared.turn.Turn.TheVariants.{Plain, Escaped, Tag}
use Rattle.codegen.specs.Strings.{settled, opening}
use Rattle.codegen.specs.Turns.{Fit, takes, puts, body, decides_at, Decided}
use Rattle.codegen.specs.Cursor.{ahead, quote_of, chunk, pending, GoesOn, Known, TurnedHere, Advanced}

pub between_join : (xs : List ℕ) (i j n : ℕ) → i ≤ j → between i (j + n) xs ≡ between i j xs ++ take n (drop j xs)
between_join xs i j n h =
    let e : j + n - i ≡ (j - i) + n = omega arith in
    let k : i + (j - i) ≡ j = omega arith in
    ap (λ m. take m (drop i xs)) e ∙ take-add (j - i) n (drop i xs) ∙ ap (λ ys. between i j xs ++ take n ys) (drop-drop (j - i) i xs ∙ ap (λ m. drop m xs) k)

-- what is pending where the cursor goes on
gone_on : {s t : PrintStringState} {c a : ℕ} → GoesOn c a s t → (q : Quote) →
    pending q t ≡ between c a s.literal.now.bytes.now ++ body q s.literal.now.escaping.ascii_only (drop a s.literal.now.bytes.now)
gone_on g q = rw (g.quote, g.literal, g.chunk_start, g.at) refl

-- and the quote stays
same_of : {s t : PrintStringState} {c a : ℕ} → GoesOn c a s t → quote_of t ≡ quote_of s
same_of {s} {t} g = ap (λ o. settled o t.literal.now.allow_backtick (ahead t)) g.quote

module _ {B : Type 0} (m : Ghosts B) where
  -- one after the other

  pub joined : {r s t : PrintStringState} {a b c : B} → Advanced m r s a b → Advanced m s t b c → Advanced m r t a c
  joined {r} {s} {t} p q =
      record {
        text = p.text ++ q.text;
        appends = appends_join m p.appends q.appends;
        total =
            append_assoc p.text q.text (pending (quote_of r) t)
            ∙ ap (λ x. p.text ++ (q.text ++ pending x t)) (sym p.same_quote)
            ∙ ap (λ x. p.text ++ x) q.total
            ∙ ap (λ x. p.text ++ pending x s) p.same_quote
            ∙ p.total;
        same_literal = q.same_literal ∙ p.same_literal;
        same_quote = q.same_quote ∙ p.same_quote;
      }

  -- no step
  pub stays : (s : PrintStringState) (a : B) → Advanced m s s a a
  stays s a = record { text = []; appends = appends-nothing m a; total = refl; same_literal = refl; same_quote = refl }

  -- the quote is settled
  pub settles : {s t : PrintStringState} {a b : B} → GoesOn s.chunk_start s.at s t → Appends m a b (opening s.quote (quote_of s)) → Advanced m s t a b
  settles {s} g p = record {
    text = opening s.quote (quote_of s);
    appends = p;
    total = ap (λ x. opening s.quote (quote_of s) ++ x) (gone_on g (quote_of s));
    same_literal = g.literal;
    same_quote = same_of g;
  }

-- the quote that the next turn is taken in
or_double : (o : Option Quote) (allow : Bool) (rest : List ℕ) → o ≡ Some (settled o allow rest) → settled o allow rest ≡ unwrap_or o Double
or_double (Some q) allow rest e = refl
or_double None allow rest e = cc

-- the quote stays where the text was not escaped
same-settled : (o : Option Quote) (allow d : Bool) (rest rest2 : List ℕ) → (d ≡ true → o ≡ Some (settled o allow rest)) →
    (d ≡ false → chosen allow (code_points rest) ≡ chosen allow (code_points rest2)) → settled o allow rest2 ≡ settled o allow rest
same-settled (Some q) allow d rest rest2 known free = refl
same-settled None allow true rest rest2 known free = let e = known refl in cc
same-settled None allow false rest rest2 known free = sym (free refl)

-- the decision at a cursor
abbrev DecidedHere : PrintStringState → Turn → Type 0
DecidedHere s r = Decided (unwrap_or s.quote Double) s.literal.now.escaping.ascii_only s.literal.now.escaping.lone s.literal.now.bytes.now s.at r

pub turned : (s : PrintStringState) {r : Turn} → DecidedHere s r → Known s → TurnedHere s r
turned s d known = d.right (quote_of s) (λ t. or_double s.quote s.literal.now.allow_backtick (ahead s) (known t))

module _ (s : PrintStringState) (r : Turn) (turn : TurnedHere s r) where
  next : drop (takes r) (ahead s) ≡ drop (s.at + takes r) s.literal.now.bytes.now
  next = drop-drop (takes r) s.at s.literal.now.bytes.now

  pub on_within : s.at + takes r ≤ length s.literal.now.bytes.now
  on_within = let w = turn.within in let h = s.within in omega (arith, length-drop s.at s.literal.now.bytes.now)

  pub next_fit : Fit s.literal.now.escaping.lone (drop (s.at + takes r) s.literal.now.bytes.now)
  next_fit = subst (Fit s.literal.now.escaping.lone) next turn.fit

  rest : List ℕ
  rest = body (quote_of s) s.literal.now.escaping.ascii_only (drop (s.at + takes r) s.literal.now.bytes.now)

  shown : body (quote_of s) s.literal.now.escaping.ascii_only (ahead s) ≡ puts (ahead s) r ++ rest
  unfolding rest
  shown = turn.shown ∙ ap (λ x. puts (ahead s) r ++ body (quote_of s) s.literal.now.escaping.ascii_only x) next

  module _ {B : Type 0} (m : Ghosts B) where
    -- The turn's text is printed behind the chunk, and a new chunk begins.
    pub printed_on : {t : PrintStringState} {a b : B} (text : List ℕ) → chunk s s.at ++ puts (ahead s) r ≡ text → Appends m a b (opening s.quote (quote_of s) ++ text) →
        GoesOn (s.at + takes r) (s.at + takes r) s t → Advanced m s t a b
    unfolding rest
    printed_on text same p g =
        let first = opening s.quote (quote_of s) in
        record {
          text = first ++ text;
          appends = p;
          total =
              ap (λ x. (first ++ text) ++ x) (gone_on g (quote_of s) ∙ ap (λ x. x ++ rest) (between_none s.literal.now.bytes.now (s.at + takes r)))
              ∙ append_assoc first text rest
              ∙ ap (λ x. first ++ (x ++ rest)) (sym same)
              ∙ ap (λ x. first ++ x) (append_assoc (chunk s s.at) (puts (ahead s) r) rest ∙ ap (λ x. chunk s s.at ++ x) (sym shown));
          same_literal = g.literal;
          same_quote = same_of g;
        }

module _ {B : Type 0} (m : Ghosts B) (s : PrintStringState) where
  pub escaped_on : {t : PrintStringState} {a b : B} {e : EscapeSequence} {c n : ℕ} → TurnedHere s (Escaped e c n) → GoesOn (s.at + n) (s.at + n) s t →
      Appends m a b ((opening s.quote (quote_of s) ++ chunk s s.at) ++ (0x5C ∷ behind c e)) → Advanced m s t a b
  escaped_on {a = a} {b = b} {e = e} {c = c} {n = n} turn g p =
      printed_on s (Escaped e c n) turn m (chunk s s.at ++ (0x5C ∷ behind c e)) refl
      (subst (Appends m a b) (append_assoc (opening s.quote (quote_of s)) (chunk s s.at) (0x5C ∷ behind c e)) p) g

  -- the chunk with the <
  with_less : chunk s (s.at + 1) ≡ chunk s s.at ++ take 1 (ahead s)
  with_less = between_join s.literal.now.bytes.now s.chunk_start s.at 1 s.order

  pub tag_on : {t : PrintStringState} {a b : B} → TurnedHere s Tag → GoesOn (s.at + 2) (s.at + 2) s t →
      Appends m a b ((opening s.quote (quote_of s) ++ chunk s (s.at + 1)) ++ (0x5C ∷ 0x2F ∷ [])) → Advanced m s t a b
  tag_on {a = a} {b = b} turn g p =
      printed_on s Tag turn m (chunk s (s.at + 1) ++ (0x5C ∷ 0x2F ∷ []))
      (sym (append_assoc (chunk s s.at) (take 1 (ahead s)) (0x5C ∷ 0x2F ∷ [])) ∙ ap (λ x. x ++ (0x5C ∷ 0x2F ∷ [])) (sym with_less))
      (subst (Appends m a b) (append_assoc (opening s.quote (quote_of s)) (chunk s (s.at + 1)) (0x5C ∷ 0x2F ∷ [])) p) g

-- a plain turn, after which the chunk is longer
pub plain_on : {B : Type 0} (m : Ghosts B) (s t : PrintStringState) (n : ℕ) → DecidedHere s (Plain n) → Known s →
    t.literal ≡ s.literal → t.chunk_start ≡ s.chunk_start → t.at ≡ s.at + n → t.quote ≡ s.quote → (a : B) → Advanced m s t a a
unfolding rest
plain_on m s t n d known l c i o a =
    let turn = turned s d known in
    let first = opening s.quote (quote_of s) in
    let after = body (quote_of s) s.literal.now.escaping.ascii_only (drop (s.at + n) s.literal.now.bytes.now) in
    let here : pending (quote_of s) t ≡ first ++ (chunk s (s.at + n) ++ after) = rw (l, c, i, o) refl in
    let quotes = same-settled s.quote s.literal.now.allow_backtick (decides_at s.literal.now.escaping.ascii_only s.literal.now.escaping.lone s.literal.now.bytes.now s.at) (ahead s) (drop (s.at + n) s.literal.now.bytes.now) known (λ f. d.free f refl s.literal.now.allow_backtick) in
    record {
      text = [];
      appends = appends-nothing m a;
      total =
          here
          ∙ ap (λ x. first ++ (x ++ after)) (between_join s.literal.now.bytes.now s.chunk_start s.at n s.order)
          ∙ ap (λ x. first ++ x) (append_assoc (chunk s s.at) (take n (ahead s)) after ∙ ap (λ x. chunk s s.at ++ x) (sym (shown s (Plain n) turn)));
      same_literal = l;
      same_quote = rw (l, i, o) quotes;
    }

-- At the end of the text the opening quote and the chunk are left.
module _ {B : Type 0} (m : Ghosts B) {r s : PrintStringState} {a b : B} (steps : Advanced m r s a b) (over : length s.literal.now.bytes.now ≤ s.at) where
  at_end : pending (quote_of s) s ≡ opening s.quote (quote_of s) ++ chunk s s.at
  unfolding body
  at_end =
      ap (λ x. opening s.quote (quote_of s) ++ (chunk s s.at ++ x)) (at_drop_all (body (quote_of s) s.literal.now.escaping.ascii_only) s.literal.now.bytes.now s.at over)
      ∙ ap (λ x. opening s.quote (quote_of s) ++ x) (append-nil (chunk s s.at))

  pub flushed : {c : B} → Appends m b c (opening s.quote (quote_of s) ++ chunk s s.at) → Appends m a c (pending (quote_of r) r)
  flushed {c} p =
      subst (Appends m a c) (ap (λ x. steps.text ++ x) (sym at_end ∙ ap (λ x. pending x s) steps.same_quote) ∙ steps.total) (appends_join m steps.appends p)
