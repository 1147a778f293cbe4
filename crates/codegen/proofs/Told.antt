-- What a class tells of the byte, and that the escapes of the classes are those of the rules.
use Rattle.std.proofs.Common.{◌≡◌, ℕ, ◌<◌, ◌≤◌, Bool, true, false, ◌&&◌, ◌||◌, eqb, leb, List, [], ◌∷◌, None, refl, ◌∙◌, ⊎_elim, arith}
use Rattle.std.proofs.lemmas.Bool.{both_ways, cond_both, and_parts, and_from, or_right, eqb-true, eqb-false, eq-eqb, ne_eqb, leb-true, cases_lt, cases_Bool}
use Rattle.std.proofs.lemmas.Bool.Decides.{nat_tests}
use Rattle.ecma262.specs.declared.Quote.{Quote}
use Rattle.ecma262.specs.declared.Quote.TheVariants.{Single, Double, Backtick}
use Rattle.ecma262.specs.Lookahead.{opens, digit}
use Rattle.literal.specs.Escapes.{pick, rules, other_rules}
use Rattle.text.specs.Sequence.{is_surrogate}
use Rattle.codegen.specs.declared.escape.Escape.{Escape}
use Rattle.codegen.specs.declared.escape.Escape.TheVariants.{No, NU, BE, BK, VT, FF, NL, CR, ES, BS, SQ, DQ, BQ, DO, LT, LS, NB, SU, UC}
use Rattle.codegen.specs.Classes.{class_in, short_of, wide_of}
use Rattle.codegen.proofs.Crossing.{lead_byte, low, high, nbsp, line_sep, para_sep, surrogate}

-- a byte of no class
pub record Ordinary (ascii lone : Bool) (b : ℕ) : Type 0 where
  pub nul : eqb b 0x00 ≡ false
  pub bell : eqb b 0x07 ≡ false
  pub back : eqb b 0x08 ≡ false
  pub line : eqb b 0x0A ≡ false
  pub vert : eqb b 0x0B ≡ false
  pub form : eqb b 0x0C ≡ false
  pub ret : eqb b 0x0D ≡ false
  pub esc : eqb b 0x1B ≡ false
  pub dq : eqb b 0x22 ≡ false
  pub dollar : eqb b 0x24 ≡ false
  pub sq : eqb b 0x27 ≡ false
  pub less : eqb b 0x3C ≡ false
  pub slash : eqb b 0x5C ≡ false
  pub tick : eqb b 0x60 ≡ false
  pub nb : eqb b 0xC2 ≡ false
  pub ls : eqb b 0xE2 ≡ false
  pub su : (eqb b 0xED && (ascii || lone)) ≡ false
  pub uc : (ascii && leb 0xC0 b) ≡ false

abbrev pub Tells : Bool → Bool → ℕ → Escape → Type 0
Tells ascii lone b No = Ordinary ascii lone b
Tells ascii lone b NU = b ≡ 0x00
Tells ascii lone b BE = b ≡ 0x07
Tells ascii lone b BK = b ≡ 0x08
Tells ascii lone b VT = b ≡ 0x0B
Tells ascii lone b FF = b ≡ 0x0C
Tells ascii lone b NL = b ≡ 0x0A
Tells ascii lone b CR = b ≡ 0x0D
Tells ascii lone b ES = b ≡ 0x1B
Tells ascii lone b BS = b ≡ 0x5C
Tells ascii lone b SQ = b ≡ 0x27
Tells ascii lone b DQ = b ≡ 0x22
Tells ascii lone b BQ = b ≡ 0x60
Tells ascii lone b DO = b ≡ 0x24
Tells ascii lone b LT = b ≡ 0x3C
Tells ascii lone b LS = b ≡ 0xE2
Tells ascii lone b NB = b ≡ 0xC2
Tells ascii lone b SU = b ≡ 0xED
Tells ascii lone b UC = 0xC0 ≤ b

pub told : (ascii lone : Bool) (b : ℕ) → Tells ascii lone b (class_in ascii lone b)
told ascii lone b =
    cond_both (eqb b 0xED && (ascii || lone)) _ _ P (λ t. eqb-true b 0xED (and_parts _ _ t).0) (λ su.
    cond_both (ascii && leb 0xC0 b) _ _ P (λ t. leb-true 0xC0 b (and_parts _ _ t).1) (λ uc.
    cond_both (eqb b 0x00) _ _ P (eqb-true b 0x00) (λ nul.
    cond_both (eqb b 0x07) _ _ P (eqb-true b 0x07) (λ bell.
    cond_both (eqb b 0x08) _ _ P (eqb-true b 0x08) (λ back.
    cond_both (eqb b 0x0A) _ _ P (eqb-true b 0x0A) (λ line.
    cond_both (eqb b 0x0B) _ _ P (eqb-true b 0x0B) (λ vert.
    cond_both (eqb b 0x0C) _ _ P (eqb-true b 0x0C) (λ form.
    cond_both (eqb b 0x0D) _ _ P (eqb-true b 0x0D) (λ ret.
    cond_both (eqb b 0x1B) _ _ P (eqb-true b 0x1B) (λ esc.
    cond_both (eqb b 0x22) _ _ P (eqb-true b 0x22) (λ dq.
    cond_both (eqb b 0x24) _ _ P (eqb-true b 0x24) (λ dollar.
    cond_both (eqb b 0x27) _ _ P (eqb-true b 0x27) (λ sq.
    cond_both (eqb b 0x3C) _ _ P (eqb-true b 0x3C) (λ less.
    cond_both (eqb b 0x5C) _ _ P (eqb-true b 0x5C) (λ slash.
    cond_both (eqb b 0x60) _ _ P (eqb-true b 0x60) (λ tick.
    cond_both (eqb b 0xC2) _ _ P (eqb-true b 0xC2) (λ nb.
    cond_both (eqb b 0xE2) _ _ P (eqb-true b 0xE2) (λ ls.
    record {
      nul = nul;
      bell = bell;
      back = back;
      line = line;
      vert = vert;
      form = form;
      ret = ret;
      esc = esc;
      dq = dq;
      dollar = dollar;
      sq = sq;
      less = less;
      slash = slash;
      tick = tick;
      nb = nb;
      ls = ls;
      su = su;
      uc = uc;
    }))))))))))))))))))
  where
    P : Escape → Type 0
    P = Tells ascii lone b

-- the classes of ASCII characters whose escape depends on the next byte at most
abbrev pub short : Escape → Bool
short No = false
short NU = true
short BE = true
short BK = true
short VT = true
short FF = true
short NL = true
short CR = true
short ES = true
short BS = true
short SQ = true
short DQ = true
short BQ = true
short DO = true
short LT = false
short LS = false
short NB = false
short SU = false
short UC = false

module _ (q : Quote) (ascii lone : Bool) (b next : ℕ) (cs : List ℕ) (d : opens (digit ∷ []) cs ≡ digit next) (o : opens (eqb 0x7B ∷ []) cs ≡ eqb next 0x7B) where
  pub short_rules : (k : Escape) → short k ≡ true → Tells ascii lone b k → pick (rules q ascii 0 b cs) ≡ short_of q k next
  unfolding other_rules
  short_rules No s t = absurd (both_ways false refl s)
  short_rules NU s t = grind (arith, nat_tests)
  short_rules BE s t = grind (arith, nat_tests)
  short_rules BK s t = grind (arith, nat_tests)
  short_rules VT s t = grind (arith, nat_tests)
  short_rules FF s t = grind (arith, nat_tests)
  short_rules NL s t = grind (arith, nat_tests)
  short_rules CR s t = grind (arith, nat_tests)
  short_rules ES s t = grind (arith, nat_tests)
  short_rules BS s t = grind (arith, nat_tests)
  short_rules SQ s t = grind (arith, nat_tests)
  short_rules DQ s t = grind (arith, nat_tests)
  short_rules BQ s t = grind (arith, nat_tests)
  short_rules DO s t = grind (arith, nat_tests)
  short_rules LT s t = absurd (both_ways false refl s)
  short_rules LS s t = absurd (both_ways false refl s)
  short_rules NB s t = absurd (both_ways false refl s)
  short_rules SU s t = absurd (both_ways false refl s)
  short_rules UC s t = absurd (both_ways false refl s)

pub wide-rules : (q : Quote) (ascii : Bool) (c : ℕ) (cs : List ℕ) → 0x80 ≤ c → pick (rules q ascii 0 c cs) ≡ wide_of ascii c
unfolding other_rules
wide-rules Single ascii c cs h = grind (arith, nat_tests)
wide-rules Double ascii c cs h = grind (arith, nat_tests)
wide-rules Backtick ascii c cs h = grind (arith, nat_tests)

pub less_rules : (q : Quote) (ascii : Bool) (cs : List ℕ) → pick (rules q ascii 0 0x3C cs) ≡ None
unfolding other_rules
less_rules Single ascii cs = refl
less_rules Double ascii cs = refl
less_rules Backtick ascii cs = refl

alone : (q : Quote) (ascii lone : Bool) (c b : ℕ) (cs : List ℕ) → Ordinary ascii lone b → c ≡ b → b < 0x80 → pick (rules q ascii 0 c cs) ≡ None
unfolding other_rules
alone Single ascii lone c b cs o i h = grind (arith, nat_tests)
alone Double ascii lone c b cs o i h = grind (arith, nat_tests)
alone Backtick ascii lone c b cs o i h = grind (arith, nat_tests)

-- a character of a byte of no class stands for itself
pub plain-rules : (q : Quote) (ascii lone : Bool) (c b : ℕ) (cs : List ℕ) → b ≡ lead_byte c → (is_surrogate c ≡ true → lone ≡ true) → Ordinary ascii lone b →
    (pick (rules q ascii 0 c cs) ≡ None) × (eqb 0x3C c ≡ false)
plain-rules q ascii lone c b cs e f o = ⊎_elim (λ h. narrow h (low c b e h)) (λ h. broad (high c b e h).0 (high c b e h).1) (cases_lt b 0x80)
  where
    narrow : b < 0x80 → c ≡ b → (pick (rules q ascii 0 c cs) ≡ None) × (eqb 0x3C c ≡ false)
    narrow h i = (alone q ascii lone c b cs o i h, grind (arith, nat_tests))

    broad : 0x80 ≤ c → 0xC0 ≤ b → (pick (rules q ascii 0 c cs) ≡ None) × (eqb 0x3C c ≡ false)
    broad h k =
        let a : ascii ≡ false = let u = o.uc in grind (arith, nat_tests) in
        let nb : eqb c 0xA0 ≡ false = ne_eqb c 0xA0 (λ i. eqb-false b 0xC2 o.nb (nbsp c b e i)) in
        let l : eqb c 0x2028 ≡ false = ne_eqb c 0x2028 (λ i. eqb-false b 0xE2 o.ls (line_sep c b e i)) in
        let m : eqb c 0x2029 ≡ false = ne_eqb c 0x2029 (λ i. eqb-false b 0xE2 o.ls (para_sep c b e i)) in
        let s : is_surrogate c ≡ false = ⊎_elim (λ t. absurd (both_ways (eqb b 0xED && (ascii || lone)) o.su (and_from _ _ (eq-eqb b 0xED (surrogate c b e t)) (or_right ascii lone (f t))))) (λ n. n) (cases_Bool (is_surrogate c)) in
        (wide-rules q ascii c cs h ∙ rw (s, a, nb, l, m) refl, ne_eqb 0x3C c (omega arith))
