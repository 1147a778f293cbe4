-- The function reads a whole literal exactly if it is one by ECMA-262.
use Rattle.std.proofs.lemmas.Bool.Decides.{nat_tests}
use Rattle.std.proofs.Common.{◌≡◌, ℕ, zero, suc, ◌≤◌, true, false, ◌&&◌, eqb, List, [], ◌∷◌, length, drop, refl, ap, subst, arith}
use Rattle.std.proofs.lemmas.Bool.{eq-eqb, eqb-true, cond_both, and_parts}
use Rattle.ecma262.specs.Units.{Text, mark}
use Rattle.ecma262.specs.Lookahead.{opens}
use Rattle.ecma262.specs.Laws.{WholeReadable}
use Rattle.ecma262.specs.declared.Quote.{Quote}
use Rattle.ecma262.specs.Literals.{Character, Characters, Literal}
use Rattle.ecma262.specs.Read.{Got, character, prefixed, and_then, up_to_quote, whole}
use Rattle.ecma262.specs.Read.Got.{nothing, got}
use Rattle.ecma262.proofs.Ends.{character-end, shorter, all_end}
use Rattle.ecma262.proofs.Sound.{Sound, sound, lift}
use Rattle.ecma262.proofs.Values.{reads, body}

-- no character begins with the closing quote
not_closed : (q : Quote) (s r u : List ℕ) → character q s ≡ got r u → opens (eqb (mark q) ∷ []) s ≡ false
not_closed q [] r u e = refl
not_closed q (c ∷ s) r u e = grind (arith, nat_tests)

up_to : (q : Quote) {s x u : List ℕ} (rest : List ℕ) (fuel : ℕ) → x ≡ mark q ∷ rest → length s ≤ fuel → Characters q s x u → up_to_quote fuel q s ≡ got rest u
up_to q rest zero e h Characters.none = absurd (omega (arith, ap length e))
up_to q rest (suc fuel) e h Characters.none = rw (e, eq-eqb (mark q) (mark q) refl)
up_to q rest zero e h (Characters.more c cs) = absurd (omega (arith, shorter (character-end c)))
up_to q rest (suc fuel) e h (Characters.more {s = s} {between = t} {u = u} c cs) =
    let l = shorter (character-end c) in
    rw (not_closed q s t u (reads c), reads c, up_to q rest fuel e (omega arith) cs)

pub reads_whole : {q : Quote} {s rest u : List ℕ} → Literal q s rest u → whole q s ≡ got rest u
reads_whole {q} {rest = rest} l =
    let (x, e, cs) = body l in
    rw (e, eq-eqb (mark q) (mark q) refl) (up_to q rest (suc (length x)) refl (omega arith) cs)

-- a text that begins with the quote
opened : (m : ℕ) (s : List ℕ) → opens (eqb m ∷ []) s ≡ true → s ≡ m ∷ drop 1 s
opened m [] e = cc
opened m (c ∷ s) e = grind (arith, nat_tests)

-- the characters of s up to the closing quote
abbrev Body : Quote → List ℕ → List ℕ → List ℕ → Type 0
Body q s rest u = Characters q s (mark q ∷ rest) u

prefix_sound : (q : Quote) (s t u : List ℕ) (g : Got) → Character q s t u → Sound (Body q t) g → Sound (Body q s) (prefixed u g)
prefix_sound q s t u nothing c h = tt
prefix_sound q s t u (got rest v) c h = Characters.more c h

then_sound : (q : Quote) (s : List ℕ) (g : Got) (f : List ℕ → Got) → Sound (Character q s) g →
    ((t u : List ℕ) → Character q s t u → Sound (Body q t) (f t)) → Sound (Body q s) (and_then g f)
then_sound q s nothing f h k = tt
then_sound q s (got t u) f h k = prefix_sound q s t u (f t) h (k t u h)

body_sound : (q : Quote) (fuel : ℕ) (s : List ℕ) → Text s → Sound (Body q s) (up_to_quote fuel q s)
body_sound q zero s t = tt
body_sound q (suc fuel) s t =
    cond_both (opens (eqb (mark q) ∷ []) s) (got (drop 1 s) []) (and_then (character q s) (up_to_quote fuel q)) (Sound (Body q s))
    (λ o. subst (λ x. Characters q s x []) (opened (mark q) s o) Characters.none)
    (λ _. then_sound q s (character q s) (up_to_quote fuel q) (sound q s t)
    (λ r u c. body_sound q fuel r (all_end (λ c. c ≤ 0x10FFFF) (character-end c) t)))

whole_sound : (q : Quote) (s : List ℕ) → Text s → Sound (Literal q s) (whole q s)
whole_sound q [] t = tt
whole_sound q (c ∷ s) t =
    cond_both (eqb (mark q) c && true) (up_to_quote (suc (length s)) q s) nothing (Sound (Literal q (c ∷ s)))
    (λ o. let e : mark q ≡ c = eqb-true (mark q) c (and_parts (eqb (mark q) c) true o).0 in
    lift {K = Body q s} {L = Literal q (c ∷ s)} (λ r u b. subst (λ m. Literal q (m ∷ s) r u) e (Literal.quoted b)) (up_to_quote (suc (length s)) q s) (body_sound q (suc (length s)) s t.1))
    (λ _. tt)

pub whole-readable : WholeReadable
whole-readable q s r u t = (λ l. reads_whole l, λ e. subst (Sound (Literal q s)) e (whole_sound q s t))
