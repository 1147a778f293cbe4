-- How prints and appends are made, joined and told apart, over any code buffer.
use Rattle.std.proofs.Common.{◌≡◌, ℕ, ◌+◌, ◌-◌, ◌<◌, ◌≤◌, List, [], ◌++◌, length, drop, Ok, Err, Result, sym, refl, ap, ◌∙◌, ⊎_elim, append_assoc, append-nil, arith, length-append}
use Rattle.std.proofs.lemmas.Bool.{le-leb, lt-leb, cases_lt}
use Rattle.std.proofs.lemmas.List.{drop-drop}
use Rattle.buffer.specs.declared.code_buffer.BufferFault.{BufferFault}
use Rattle.buffer.specs.declared.code_buffer.BufferFault.TheVariants.{Full}
use Rattle.buffer.specs.declared.code_buffer.CodeBuffer.{Ghosts}
use Rattle.buffer.specs.Meaning.{print_answer, printed, accepted}
use Rattle.buffer.specs.Printing.{Prints, Appends}

-- what is equal from a place on is equal from a later place on
same_further : (n k : ℕ) (xs ys : List ℕ) → n ≤ k → drop n xs ≡ drop n ys → drop k xs ≡ drop k ys
same_further n k xs ys le same = let both = ap (drop (k - n)) same in grind (arith, drop-drop)

module _ {S : Type 0} (m : Ghosts S) where
  -- what the trait's own print ensures, as one record
  pub print_prints : (entry exit : S) (text : List ℕ) (answer : Result Unit BufferFault)
      → record {
        answers_seven_with_the_need : answer ≡ print_answer (m.bytes entry) (m.limit_of entry) text;
        appends_all_or_nothing : m.bytes exit ≡ printed (m.bytes entry) (m.limit_of entry) text;
        limit_stays : m.limit_of exit ≡ m.limit_of entry;
        beyond_is_untouched : drop (length (m.bytes exit)) (m.memory exit) ≡ drop (length (m.bytes exit)) (m.memory entry);
        home_stays : m.home exit ≡ m.home entry;
        notes_what_was_appended : m.noted entry exit (accepted (m.bytes entry) (m.limit_of entry) text);
      }
      → Prints m entry exit text answer
  print_prints entry exit text answer ensured = record {
    answers = ensured.answers_seven_with_the_need;
    appends = ensured.appends_all_or_nothing;
    limit_stays = ensured.limit_stays;
    beyond_untouched = ensured.beyond_is_untouched;
    home_stays = ensured.home_stays;
    noted = ensured.notes_what_was_appended;
  }

  -- nothing was printed

  pub appends-nothing : (b : S) → Appends m b b []
  appends-nothing b = record {
    appends = sym (append-nil (m.bytes b));
    limit_stays = refl;
    beyond_untouched = refl;
    home_stays = refl;
    noted = m.notes.nothing b;
  }

  pub refused_prints : (b : S) (text : List ℕ) (need : ℕ) → need ≡ length (m.bytes b) + length text → m.limit_of b < need
      → Prints m b b text (Err (Full need))
  refused_prints b text need is past =
      let full = lt-leb (length (m.bytes b) + length text) (m.limit_of b) (omega arith) in
      record {
        answers = rw full (ap (λ n. Err (Full n)) is);
        appends = rw full refl;
        limit_stays = refl;
        beyond_untouched = refl;
        home_stays = refl;
        noted = rw full (m.notes.nothing b);
      }

  -- a print with room is an append, and the other way round

  pub prints_with_room : {a b : S} {text : List ℕ} {answer : Result Unit BufferFault} → Prints m a b text answer
      → length (m.bytes a) + length text ≤ m.limit_of a → Appends m a b text
  prints_with_room {a} {b} {text} p room =
      let fits = le-leb (length (m.bytes a) + length text) (m.limit_of a) room in
      record {
        appends = rw fits at p.appends;
        limit_stays = p.limit_stays;
        beyond_untouched = p.beyond_untouched;
        home_stays = p.home_stays;
        noted = rw fits at p.noted;
      }

  ok_with_room : {a b : S} {text : List ℕ} {answer : Result Unit BufferFault} → Prints m a b text answer
      → length (m.bytes a) + length text ≤ m.limit_of a → answer ≡ Ok tt
  ok_with_room {a} {b} {text} p room = rw (le-leb (length (m.bytes a) + length text) (m.limit_of a) room) at p.answers

  pub room_when_ok : {a b : S} {text : List ℕ} {answer : Result Unit BufferFault} → Prints m a b text answer → answer ≡ Ok tt
      → length (m.bytes a) + length text ≤ m.limit_of a
  room_when_ok {a} {b} {text} p ok =
      ⊎_elim (λ past. absurd (let refused = rw (lt-leb (length (m.bytes a) + length text) (m.limit_of a) past) at p.answers in cc)) (λ room. room) (cases_lt (m.limit_of a) (length (m.bytes a) + length text))

  pub appends_prints : {a b : S} {text : List ℕ} {answer : Result Unit BufferFault} → Appends m a b text → answer ≡ Ok tt
      → length (m.bytes a) + length text ≤ m.limit_of a → Prints m a b text answer
  appends_prints {a} {b} {text} p ok room =
      let fits = le-leb (length (m.bytes a) + length text) (m.limit_of a) room in
      record {
        answers = rw fits ok;
        appends = rw fits p.appends;
        limit_stays = p.limit_stays;
        beyond_untouched = p.beyond_untouched;
        home_stays = p.home_stays;
        noted = rw fits p.noted;
      }

  -- printing nothing
  pub prints_nothing : (b : S) → Prints m b b [] (Ok tt)
  prints_nothing b = appends_prints (appends-nothing b) refl (omega (arith, m.laws.within b))

  -- how much is held after an append
  pub appended_length : {a b : S} {s : List ℕ} → Appends m a b s → length (m.bytes b) ≡ length (m.bytes a) + length s
  appended_length {a} {b} {s} p = ap length p.appends ∙ length-append (m.bytes a) s

  -- one after the other

  pub appends_join : {a b c : S} {s t : List ℕ} → Appends m a b s → Appends m b c t → Appends m a c (s ++ t)
  appends_join {a} {b} {c} {s} {t} p q =
      let longer = appended_length q in
      record {
        appends = q.appends ∙ ap (λ l. l ++ t) p.appends ∙ append_assoc (m.bytes a) s t;
        limit_stays = q.limit_stays ∙ p.limit_stays;
        beyond_untouched = q.beyond_untouched ∙ same_further (length (m.bytes b)) (length (m.bytes c)) (m.memory b) (m.memory a) (omega arith) p.beyond_untouched;
        home_stays = q.home_stays ∙ p.home_stays;
        noted = m.notes.joined a b c s t p.noted q.noted;
      }

  -- a print after an append, where there is room for both from the start
  pub prints_after : {a b c : S} {s t : List ℕ} {answer : Result Unit BufferFault} → Appends m a b s → Prints m b c t answer
      → length (m.bytes a) + length s + length t ≤ m.limit_of a → Prints m a c (s ++ t) answer
  prints_after {a} {b} {c} {s} {t} p q room =
      let longer = appended_length p in
      let limit = p.limit_stays in
      let rest : length (m.bytes b) + length t ≤ m.limit_of b = omega arith in
      appends_prints (appends_join p (prints_with_room q rest)) (ok_with_room q rest) (omega (arith, length-append s t))
