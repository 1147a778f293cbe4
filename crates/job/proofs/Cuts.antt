-- The first word of a line, cut off.
use Rattle.std.proofs.Common.{◌≡◌, ℕ, Bool, true, false, not, cond, eqb, suc, List, [], ◌∷◌, length, filter, sym, refl, ap, ◌∙◌, one-add, add-one, arith, true-eqb}
use Rattle.std.specs.List.{slice_split}
use Rattle.job.specs.Lines.{blank, from_first, word, behind, words}

-- cases of a test, with what it came to
by_test : (P : Type 0) (t : Bool) → (t ≡ true → P) → (t ≡ false → P) → P
by_test P true yes-case no-case = yes-case refl
by_test P false yes-case no-case = no-case refl

abbrev filled : List ℕ → Bool
filled w = not (eqb (length w) 0)

-- the pieces behind the first
abbrev pieces_behind : List ℕ → List (List ℕ)
pieces_behind [] = []
pieces_behind (b ∷ t) = cond (blank b) (slice_split blank t) (pieces_behind t)

first_piece : (t : List ℕ) → slice_split blank t ≡ word t ∷ pieces_behind t
first_piece [] = refl
first_piece (b ∷ t) =
    by_test (slice_split blank (b ∷ t) ≡ word (b ∷ t) ∷ pieces_behind (b ∷ t)) (blank b)
    (λ e. rw e)
    (λ e. rw (e, first_piece t, one-add))

behind-ink : (b : ℕ) (t : List ℕ) → blank b ≡ false → behind (b ∷ t) ≡ behind t
behind-ink b t e = simp (e, one-add, add-one)

pieces_behind-ink : (b : ℕ) (t : List ℕ) → blank b ≡ false → pieces_behind (b ∷ t) ≡ pieces_behind t
pieces_behind-ink b t e = rw e

words_behind : (t : List ℕ) → filter filled (pieces_behind t) ≡ words (behind t)
words_behind [] = refl
words_behind (b ∷ t) =
    by_test (filter filled (pieces_behind (b ∷ t)) ≡ words (behind (b ∷ t))) (blank b)
    (λ e. rw e)
    (λ e. ap (filter filled) (pieces_behind-ink b t e) ∙ words_behind t ∙ ap words (sym (behind-ink b t e)))

-- the words, by the first run between blanks
by_run : (t : List ℕ) → words t ≡ cond (filled (word t)) (word t ∷ words (behind t)) (words (behind t))
by_run t = ap (filter filled) (first_piece t) ∙ ap (λ ws. cond (filled (word t)) (word t ∷ ws) ws) (words_behind t)

-- the text from its first byte that is no blank
abbrev pub inked : List ℕ → List ℕ
inked line = from_first (λ b. not (blank b)) line

inked-blank : (b : ℕ) (line : List ℕ) → blank b ≡ true → inked (b ∷ line) ≡ inked line
inked-blank b line e = rw (e, one-add)

inked-ink : (b : ℕ) (line : List ℕ) → blank b ≡ false → inked (b ∷ line) ≡ b ∷ line
inked-ink b line e = rw e

words-blank : (b : ℕ) (line : List ℕ) → blank b ≡ true → words (b ∷ line) ≡ words line
words-blank b line e = rw e

words-inked : (line : List ℕ) → words line ≡ words (inked line)
words-inked [] = refl
words-inked (b ∷ line) =
    by_test (words (b ∷ line) ≡ words (inked (b ∷ line))) (blank b)
    (λ e. words-blank b line e ∙ words-inked line ∙ ap words (sym (inked-blank b line e)))
    (λ e. ap words (sym (inked-ink b line e)))

word-ink : (b : ℕ) (line : List ℕ) → blank b ≡ false → length (word (b ∷ line)) ≡ suc (length (word line))
word-ink b line e = rw (e, one-add)

nothing_inked : (line : List ℕ) → length (word (inked line)) ≡ 0 → inked line ≡ []
nothing_inked [] h = refl
nothing_inked (b ∷ line) h =
    by_test (inked (b ∷ line) ≡ []) (blank b)
    (λ e. inked-blank b line e ∙ nothing_inked line (ap (λ t. length (word t)) (sym (inked-blank b line e)) ∙ h))
    (λ e. absurd (omega (arith, word-ink b line e, ap (λ t. length (word t)) (inked-ink b line e))))

-- `w` is the first word, and `left` what follows behind the blank that ends it
module _ (line t w left : List ℕ) (begun : t ≡ inked line) (front : w ≡ word t) (back : left ≡ behind t) where
  pub no_word : true ≡ eqb (length w) 0 → (words line ≡ []) × (words left ≡ [])
  no_word h =
      let e : length (word (inked line)) ≡ 0 = sym (ap (λ t. length (word t)) begun) ∙ sym (ap length front) ∙ true-eqb (length w) 0 h in
      let none = nothing_inked line e in
      (words-inked line ∙ ap words none, ap words (back ∙ ap behind (begun ∙ none)))

  pub next_word : false ≡ eqb (length w) 0 → words line ≡ w ∷ words left
  next_word h =
      words-inked line ∙ ap words (sym begun) ∙ by_run t ∙ rw (← front, ← back, ← h)
