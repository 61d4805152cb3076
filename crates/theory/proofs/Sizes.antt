-- How great the number of a form can be; the characters of a literal are 0 to 2FFFF, and of those just the surrogates have no UTF-8.
-- Assumes nothing.
use mathlib.Core.Path.{◌≡◌, refl, sym, ◌∙◌}
use mathlib.Core.Bool.{Bool, true, false, not, ◌&&◌, ◌||◌}
use mathlib.Core.List.{List, [], ◌∷◌}
use Rattle.std.proofs.Common.{Some}
use Rattle.ground.proofs.Options.{none-not-some}
use Prim.Native.Nat.{ℕ, zero, suc, ◌+◌, ◌*◌, ◌≤◌}
use native.Mathlib.Omega.{arith}
use lib.Dec.{leb, eqb}
use borrow.Author.Tests.{le-leb, lt-leb, leb-true, ltb-true}
use Rattle.ground.proofs.Tests.{by_order, and-false, both_left, both_right}
use Rattle.utf8.specs.Encoding.{scalar}
use Rattle.utf8.proofs.Encodings.{Between, scalar-low, scalar-surrogate, scalar-high}
use Rattle.strings.specs.Text.{any_surrogate}
use Rattle.theory.specs.Literal.{within, Literal, empty, byte, doubled, unquoted}
use Rattle.theory.specs.Theory.{is_hex, hex_value, Place, only, digit, escapes, number_by, spelled_by, characters_by, characters}
use Rattle.theory.specs.Agreement.{none_within}
use Rattle.theory.proofs.Forms.{taken, by_form, all}

-- the number of a form, written after those of n, where each digit is 0, and where each is the greatest that fits
abbrev pub least : List Place → ℕ → ℕ
least [] n = n
least (only x ∷ ps) n = least ps n
least (digit m ∷ ps) n = least ps (n * 16)

abbrev pub most : List Place → ℕ → ℕ
most [] n = n
most (only x ∷ ps) n = most ps n
most (digit m ∷ ps) n = most ps (n * 16 + m)

pub bounds : (f : List Place) (low n high : ℕ) (s : List ℕ) (x : ℕ) → low ≤ n → n ≤ high → number_by f n s ≡ Some x
    → (least f low ≤ x) × (x ≤ most f high)
unfolding number_by
bounds [] low n high s x l h e = let k : n ≡ x = cc in (omega arith, omega arith)
bounds (p ∷ ps) low n high [] x l h e = absurd (none-not-some e)
bounds (only a ∷ ps) low n high (b ∷ bs) x l h e = bounds ps low n high bs x l h (taken (eqb b a) _ x e).1
bounds (digit m ∷ ps) low n high (b ∷ bs) x l h e =
    let t = taken (is_hex b && leb (hex_value b) m) _ x e in
    let k = leb-true (hex_value b) m (both_right (is_hex b) (leb (hex_value b) m) t.0) in
    bounds ps (low * 16) (n * 16 + hex_value b) (high * 16 + m) bs x (omega arith) (omega arith) t.1

abbrev small : List Place → Bool
small f = leb (most f 0) 0x2FFFF

spelled-small : (fs : List (List Place)) → all small fs ≡ true → (b : ℕ) (bs : List ℕ) → b ≤ 0x2FFFF → (spelled_by fs b bs).character ≤ 0x2FFFF
unfolding spelled_by
spelled-small [] h b bs l = l
spelled-small (f ∷ fs) h b bs l =
    by_form (λ c. c.character ≤ 0x2FFFF) f fs b bs
    (λ x e.
    let k = leb-true (most f 0) 0x2FFFF (both_left (small f) (all small fs) h) in
    let m = bounds f 0 0 0 (b ∷ bs) x (omega arith) (omega arith) e in
    omega arith)
    (λ e. spelled-small fs (both_right (small f) (all small fs) h) b bs l)

all_small : (fs : List (List Place)) → all small fs ≡ true → (k : ℕ) (s : List ℕ) → Between 0 0x2FFFF s → Between 0 0x2FFFF (characters_by fs k s)
unfolding characters_by
all_small fs h k [] l = tt
all_small fs h (suc k) (b ∷ bs) l = all_small fs h k bs l.2
all_small fs h zero (b ∷ bs) l = (omega arith, spelled-small fs h b bs l.1, all_small fs h (spelled_by fs b bs).more bs l.2)

unquoted-small : {s : List ℕ} → Literal s → Between 0 0x2FFFF (unquoted s)
unfolding unquoted
unquoted-small empty = tt
unquoted-small (doubled l) = (omega arith, omega arith, unquoted-small l)
unquoted-small (byte {b} h q l) = let k = ltb-true b 0x80 h in rw q (omega arith, omega arith, unquoted-small l)

pub characters-small : {s : List ℕ} → Literal s → Between 0 0x2FFFF (characters (unquoted s))
unfolding characters
characters-small {s} l = all_small escapes refl 0 (unquoted s) (unquoted-small l)

scalar-within : (c : ℕ) → c ≤ 0x2FFFF → scalar c ≡ not (within 0xD800 0xDFFF c)
scalar-within c h =
    by_order c 0xD800
    (λ l. sym (scalar-low c l) ∙ rw (lt-leb 0xD800 c l))
    (λ l. by_order c 0xE000
    (λ k. sym (scalar-surrogate c l k) ∙ rw (le-leb 0xD800 c l, le-leb c 0xDFFF (omega arith)))
    (λ k. sym (scalar-high c k) ∙ rw (le-leb c 0x10FFFF (omega arith), lt-leb c 0xDFFF (omega arith), and-false (leb 0xD800 c))))

pub surrogates : (cs : List ℕ) → Between 0 0x2FFFF cs → any_surrogate cs ≡ not (none_within 0xD800 0xDFFF cs)
unfolding any_surrogate none_within
surrogates [] h = refl
surrogates (c ∷ cs) h = rw (scalar-within c h.1, surrogates cs h.2) (go (within 0xD800 0xDFFF c) (none_within 0xD800 0xDFFF cs))
  where
    go : (t u : Bool) → (not (not t) || not u) ≡ not (not t && u)
    go true u = refl
    go false u = refl
