-- The theorems on well-formed bytes.
use Rattle.std.proofs.Common.{◌≡◌, ℕ, ◌+◌, ◌/◌, ◌%◌, ◌<◌, ◌≤◌, Bool, true, false, cond, ◌&&◌, ◌||◌, eqb, ltb, leb, List, [], ◌∷◌, ◌++◌, length, drop, Some, None, Option, sym, refl, ap, ◌∙◌, subst, ⊎_elim, append_assoc, arith, length-append}
use lib.Utf8.{encode, encodes}
use Rattle.std.specs.Char.{len_utf8}
use Rattle.std.proofs.lemmas.List.{take-append-drop, length-take-le}
use Rattle.std.proofs.lemmas.Str.{length-encode, encode_same}
use Rattle.std.proofs.lemmas.Bool.{cases_lt, or_left, or_right, ne_eqb, eqb-false, cases_Bool, lt-ltb, le-ltb, ltb-false}
use Rattle.std.proofs.lemmas.Bool.Decides.{nat_tests}
use Rattle.text.specs.declared.well_formed.Encoding.{Encoding}
use Rattle.text.specs.declared.well_formed.Encoding.TheVariants.{Wtf8, Utf8}
use Rattle.text.specs.Wtf8.{Points, WellFormed, last, Broken}
use Rattle.text.specs.Sequence.{is_surrogate, sequence, walk, breach, marked, surrogates, points, code_points}
use Rattle.refusal.specs.Returned.{Returned, answer, done}
use Rattle.text.specs.Answers.{unless, is_same_flag, text_answer, raw_answer, name_answer, template_answer}
use Rattle.text.specs.Names.{name_breach}
use Rattle.text.specs.Laws.{Accepted, Placed, Longest, Sequences, Marked, Read}
use Rattle.ecma262.specs.Template.{template_breach}
use Rattle.ecma262.proofs.Utf8.{encode_1, encode_2, encode_3, encode_4}
use Rattle.text.proofs.Codec.{sequence_sound, sequence-encode}
use Rattle.text.proofs.Walked.{barred_so, not_barred, walk_step, walk_stop, Outcome, outcome}

module _ (form : Encoding) where
  walk-all : (cs : List ℕ) (before at : ℕ) → Points form before cs → walk form 0 before at (encodes cs) ≡ None
  walk-all [] before at p = refl
  walk-all (c ∷ cs) before at p = walk_step form before at c (encodes cs) p.0 (not_barred form before c p.1) ∙ walk-all cs c (at + len_utf8 c) p.2

  broken-stops : (before at : ℕ) (rest : List ℕ) → Broken form before rest → walk form 0 before at rest ≡ Some at
  broken-stops before at rest b =
      walk_stop form before at rest b.0
      (⊎_elim (λ z. or_left _ _ z)
      (λ f. let q = eqb-false (sequence rest).1 0 f in
      let s = sequence_sound rest (omega arith) in
      let p = b.1 (sequence rest).0 s.2.0 s.0 s.2.1 in
      or_right _ _ (barred_so form before (sequence rest).0 p))
      (cases_Bool (eqb (sequence rest).1 0)))

  walk-broken : (cs rest : List ℕ) (before at : ℕ) → Points form before cs → Broken form (last before cs) rest → walk form 0 before at (encodes cs ++ rest) ≡ Some (at + length (encodes cs))
  walk-broken [] rest before at p b = broken-stops before at rest b ∙ ap Some (omega arith)
  walk-broken (c ∷ cs) rest before at p b =
      rw (append_assoc (encode c) (encodes cs) rest)
      (walk_step form before at c (encodes cs ++ rest) p.0 (not_barred form before c p.1) ∙ walk-broken cs rest c (at + len_utf8 c) p.2 b
      ∙ ap Some (omega (arith, length-append (encode c) (encodes cs), length-encode c)))

pub accepted : Accepted
accepted form bytes = (
  λ e. let o = subst (Outcome form 0 0 bytes) e (outcome form (length bytes) 0 0 bytes (omega arith)) in (o.0, o.1, sym o.2),
  λ w. ap (breach form) (sym w.2) ∙ walk-all form w.0 0 0 w.1,
)

pub placed : Placed
placed form bytes place = (
  λ e. let o = subst (Outcome form 0 0 bytes) e (outcome form (length bytes) 0 0 bytes (omega arith)) in
      record { good = o.0; rest = o.1.0; points = o.1.1; parts = o.1.2; here = omega (arith, o.1.3); broken = o.1.4 },
  λ b. ap (breach form) b.parts ∙ walk-broken form b.good b.rest 0 0 b.points b.broken ∙ ap Some (omega (arith, b.here)),
)

no_longer : (form : Encoding) (cs ds rest more : List ℕ) (before : ℕ) → Points form before ds → Broken form (last before cs) rest → encodes cs ++ rest ≡ encodes ds ++ more →
    length (encodes ds) ≤ length (encodes cs)
no_longer form cs [] rest more before p b e = omega arith
no_longer form [] (d ∷ ds) rest more before p b e =
    let q = b.1 d (encodes ds ++ more) p.0 (e ∙ append_assoc (encode d) (encodes ds) more) in
    absurd (p.1 q)
no_longer form (c ∷ cs) (d ∷ ds) rest more before p b e =
    let s = encode_same c d (encodes cs ++ rest) (encodes ds ++ more) (sym (append_assoc (encode c) (encodes cs) rest) ∙ e ∙ append_assoc (encode d) (encodes ds) more) in
    let q : Points form c ds = subst (λ x. Points form x ds) (sym s.0) p.2 in
    let i = no_longer form cs ds rest more c q b s.1 in
    let w : length (encode c) ≡ length (encode d) = ap (λ x. length (encode x)) s.0 in
    omega (arith, length-append (encode c) (encodes cs), length-append (encode d) (encodes ds))

pub longest : Longest
longest form bytes place n b h w =
    let l : length (encodes w.0) ≡ n = ap length w.2 ∙ length-take-le n bytes h in
    let e : encodes b.good ++ b.rest ≡ encodes w.0 ++ drop n bytes =
    sym b.parts ∙ sym (take-append-drop n bytes) ∙ ap (λ s. s ++ drop n bytes) (sym w.2) in
    let i = no_longer form b.good w.0 b.rest (drop n bytes) 0 w.1 b.broken e in
    omega (arith, b.here)

pub sequences : Sequences
sequences bytes = (
  λ z. let s = sequence_sound bytes z in (s.0, s.2),
  λ c rest k e. ap sequence e ∙ sequence-encode c rest k,
)

marked-same : (x : ℕ) (bytes : List ℕ) → eqb x 0xED ≡ false → marked x bytes ≡ marked 0 bytes
marked-same x [] e = refl
marked-same x (b ∷ bytes) e = rw e refl

one_marked : (c : ℕ) (rest : List ℕ) → c < 0x80 → marked c rest ≡ (is_surrogate c || marked 0 rest)
one_marked c rest h =
    let s : is_surrogate c ≡ false = grind (arith, nat_tests) in
    let n : eqb c 0xED ≡ false = ne_eqb c 0xED (omega arith) in
    rw s (marked-same c rest n)

two_marked : (c : ℕ) (rest : List ℕ) → c < 0x800 → 0x80 ≤ c → marked 0 ((192 + c / 64) ∷ (128 + c % 64) ∷ rest) ≡ (is_surrogate c || marked 0 rest)
two_marked c rest h k =
    let s : is_surrogate c ≡ false = grind (arith, nat_tests) in
    rw (ne_eqb (192 + c / 64) 0xED (omega arith), s) (marked-same (128 + c % 64) rest (ne_eqb _ _ (omega arith)))

is_marked : (c : ℕ) → 0x800 ≤ c → c < 0x10000 → (eqb (224 + c / 4096) 0xED && leb 0xA0 (128 + c / 64 % 64) && leb (128 + c / 64 % 64) 0xBF) ≡ is_surrogate c
is_marked c h k = grind (arith, nat_tests)

three_marked : (c : ℕ) (rest : List ℕ) → 0x800 ≤ c → c < 0x10000 →
    marked 0 ((224 + c / 4096) ∷ (128 + c / 64 % 64) ∷ (128 + c % 64) ∷ rest) ≡ (is_surrogate c || marked 0 rest)
three_marked c rest h k =
    rw (is_marked c h k, ne_eqb (128 + c / 64 % 64) 0xED (omega arith)) (ap (λ t. is_surrogate c || t) (marked-same (128 + c % 64) rest (ne_eqb _ _ (omega arith))))

four_marked : (c : ℕ) (rest : List ℕ) → 0x10000 ≤ c →
    marked 0 ((240 + c / 262144) ∷ (128 + c / 4096 % 64) ∷ (128 + c / 64 % 64) ∷ (128 + c % 64) ∷ rest) ≡ (is_surrogate c || marked 0 rest)
four_marked c rest h =
    let s : is_surrogate c ≡ false = grind (arith, nat_tests) in
    rw (ne_eqb (240 + c / 262144) 0xED (omega arith), ne_eqb (128 + c / 4096 % 64) 0xED (omega arith), ne_eqb (128 + c / 64 % 64) 0xED (omega arith), s)
    (marked-same (128 + c % 64) rest (ne_eqb _ _ (omega arith)))

pub marked_step : (c : ℕ) (rest : List ℕ) → marked 0 (encode c ++ rest) ≡ (is_surrogate c || marked 0 rest)
marked_step c rest =
    ⊎_elim (λ p. rw (encode_1 c p) (one_marked c rest p))
    (λ p1. ⊎_elim (λ p. rw (encode_2 c p1 p) (two_marked c rest p p1))
    (λ p2. ⊎_elim (λ p. rw (encode_3 c p2 p) (three_marked c rest p2 p)) (λ p3. rw (encode_4 c p3) (four_marked c rest p3))
    (cases_lt c 0x10000)) (cases_lt c 0x800)) (cases_lt c 0x80)

pub marks : Marked
marks form [] p = refl
marks form (c ∷ cs) p = marked_step c (encodes cs) ∙ ap (λ t. is_surrogate c || t) (go c cs p.2)
  where
    go : (c : ℕ) (cs : List ℕ) → Points form c cs → marked 0 (encodes cs) ≡ surrogates cs
    go c [] p = refl
    go c (d ∷ cs) p = marked_step d (encodes cs) ∙ ap (λ t. is_surrogate d || t) (go d cs p.2)

steps : (c : ℕ) → (c / 0x40 / 0x40 ≡ c / 0x1000) × (c / 0x1000 / 0x40 ≡ c / 0x40000)
steps c = omega arith

pub point_step : (c : ℕ) (bs : List ℕ) → c ≤ 0x10FFFF → points 0 0 (encode c ++ bs) ≡ c ∷ points 0 0 bs
point_step c bs h =
    ⊎_elim (λ p. rw (encode_1 c p, lt-ltb c 0x80 p))
    (λ p1. ⊎_elim (λ p. rw (encode_2 c p1 p, le-ltb (0xC0 + c / 0x40) 0x80 (omega arith), lt-ltb (0xC0 + c / 0x40) 0xE0 (omega arith)) (ap put (omega arith)))
    (λ p2. ⊎_elim (λ p. rw (encode_3 c p2 p, le-ltb (0xE0 + c / 0x1000) 0x80 (omega arith), le-ltb (0xE0 + c / 0x1000) 0xE0 (omega arith), lt-ltb (0xE0 + c / 0x1000) 0xF0 (omega arith)) (ap put (omega (arith, steps c))))
    (λ p3. rw (encode_4 c p3, le-ltb (0xF0 + c / 0x40000) 0x80 (omega arith), le-ltb (0xF0 + c / 0x40000) 0xE0 (omega arith), le-ltb (0xF0 + c / 0x40000) 0xF0 (omega arith)) (ap put (omega (arith, steps c))))
    (cases_lt c 0x10000)) (cases_lt c 0x800)) (cases_lt c 0x80)
  where
    put : ℕ → List ℕ
    put x = x ∷ points 0 0 bs

pub reads : (form : Encoding) (before : ℕ) (cs : List ℕ) → Points form before cs → points 0 0 (encodes cs) ≡ cs
reads form before [] p = refl
reads form before (c ∷ cs) p = point_step c (encodes cs) p.0 ∙ ap (λ s. c ∷ s) (reads form c cs p.2)

pub read : Read
read form cs p = reads form 0 cs p

-- what the answer 0 says
unless_zero : (n : ℕ) (o : Option ℕ) (next : Returned) → 0 < n → (unless n o next).number ≡ 0 → (o ≡ None) × (next.number ≡ 0)
unless_zero n (Some p) next z h = absurd (omega arith)
unless_zero n None next z h = (refl, h)

limit_zero : (b : Bool) (next : Returned) → (cond b (answer 1 0) next).number ≡ 0 → (b ≡ false) × (next.number ≡ 0)
limit_zero true next h = absurd (omega arith)
limit_zero false next h = (refl, h)

flag_zero : (b : Bool) → (cond b done (answer 3 0)).number ≡ 0 → b ≡ true
flag_zero true h = refl
flag_zero false h = absurd (omega arith)

same_flag : (a b : Bool) → is_same_flag a b ≡ true → a ≡ b
same_flag true true h = refl
same_flag true false h = sym h
same_flag false true h = h
same_flag false false h = refl

-- A text is within the limit, well formed and exactly flagged.
pub good-text : (bytes : List ℕ) (lone : Bool) → (text_answer bytes lone).number ≡ 0 → (length bytes ≤ 16384) × WellFormed Wtf8 bytes × (lone ≡ marked 0 bytes)
good-text bytes lone h =
    let a = limit_zero (ltb 16384 (length bytes)) _ h in
    let b = unless_zero 2 (breach Wtf8 bytes) _ (omega arith) a.1 in
    (ltb-false 16384 (length bytes) a.0, (accepted Wtf8 bytes).0 b.0, same_flag lone (marked 0 bytes) (flag_zero _ b.1))

-- Raw text is within the limit and well formed.
pub good-raw : (bytes : List ℕ) → (raw_answer bytes).number ≡ 0 → (length bytes ≤ 16384) × WellFormed Utf8 bytes
good-raw bytes h =
    let a = limit_zero (ltb 16384 (length bytes)) _ h in
    let b = unless_zero 2 (breach Utf8 bytes) _ (omega arith) a.1 in
    (ltb-false 16384 (length bytes) a.0, (accepted Utf8 bytes).0 b.0)

-- A name is within the limit, well formed, and keeps the rule of names.
pub good-name : (bytes : List ℕ) → (name_answer bytes).number ≡ 0 → (length bytes ≤ 128) × WellFormed Utf8 bytes × (name_breach (code_points bytes) ≡ None)
good-name bytes h =
    let a = limit_zero (ltb 128 (length bytes)) _ h in
    let b = unless_zero 2 (breach Utf8 bytes) _ (omega arith) a.1 in
    let c = unless_zero 4 (name_breach (code_points bytes)) done (omega arith) b.1 in
    (ltb-false 128 (length bytes) a.0, (accepted Utf8 bytes).0 b.0, c.0)

-- Template text is within the limit, well formed, and has no breach.
pub good-template : (bytes : List ℕ) → (template_answer bytes).number ≡ 0 → (length bytes ≤ 16384) × WellFormed Utf8 bytes × (template_breach (code_points bytes) ≡ None)
good-template bytes h =
    let a = limit_zero (ltb 16384 (length bytes)) _ h in
    let b = unless_zero 2 (breach Utf8 bytes) _ (omega arith) a.1 in
    let c = unless_zero 5 (template_breach (code_points bytes)) done (omega arith) b.1 in
    (ltb-false 16384 (length bytes) a.0, (accepted Utf8 bytes).0 b.0, c.0)
