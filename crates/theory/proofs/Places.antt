-- One place of a string: the theory's forms with the form of six digits say what `strings` says.
-- Assumes nothing.
use Rattle.std.proofs.Common.{None, Option, Some}
use mathlib.Core.Path.{◌≡◌, refl, sym, ◌∙◌, subst}
use mathlib.Core.Bool.{Bool, true, false, cond, ◌&&◌}
use mathlib.Core.List.{List, [], ◌∷◌}
use Prim.Native.Nat.{ℕ, zero, suc, ◌≤◌, ◌<◌}
use native.Mathlib.Omega.{arith}
use lib.Dec.{leb, eqb, lit≤}
use lib.ListN.{length, take}
use borrow.Author.Tests.{lt-leb, ne_eqb, eqb-true}
use Rattle.ground.proofs.Tests.{by_test, and-false}
use Rattle.words.specs.Run.{from}
use Rattle.strings.specs.declared.character.Character.{Character}
use Rattle.strings.specs.Escape.{hex_run, braced, braced_escape, four_digits, after_u, escape, closed}
use Rattle.strings.specs.Points.{escaped, character_at}
use Rattle.theory.specs.Literal.{quote}
use Rattle.theory.specs.Theory.{Place, escapes, is_hex, number_by, Spelled, or_else, spelled_by}
use Rattle.theory.specs.Agreement.{six_digits}
use Rattle.theory.proofs.Braces.{all_digits, found, shut_run, character, few-run, five-run, six-run}

abbrev pub forms : List (List Place)
forms = six_digits ∷ escapes

abbrev pub as_character : Spelled → Character
as_character c = record { point = c.character; more = c.more }

abbrev itself : ℕ → Spelled
itself b = record { character = b; more = 0 }

-- one form in question
choice : (t : Bool) (v n : ℕ) → as_character (or_else (cond t (Some v) None) n (itself 0x5C)) ≡ escaped (cond t (Some (record { value = v; bytes = n })) None)
choice true v n = refl
choice false v n = refl

-- the forms in braces, one after the other
abbrev chain : (ℕ → Option ℕ) → Spelled
chain f = or_else (f 6) 9 (or_else (f 1) 4 (or_else (f 2) 5 (or_else (f 3) 6 (or_else (f 4) 7 (or_else (f 5) 8 (itself 0x5C))))))

abbrev Settled : Bool → ℕ → ℕ → Type 0
Settled shut long v =
    as_character (chain (λ n. character (found shut long v n))) ≡ escaped (closed (cond (leb long 6 && shut) (Some (record { value = v; digits = long })) None))

long-run : (long v : ℕ) → 6 < long → Settled true long v
long-run long v h =
    rw (lt-leb long 6 h, other 6 (lit≤ tt), other 1 (lit≤ tt), other 2 (lit≤ tt), other 3 (lit≤ tt), other 4 (lit≤ tt), other 5 (lit≤ tt))
  where
    other : (n : ℕ) → n ≤ 6 → eqb long n ≡ false
    other n k = ne_eqb long n (omega arith)

settled : (shut : Bool) (long v : ℕ) → Settled shut long v
settled false long v = rw (and-false (leb long 6))
settled true zero v = refl
settled true (suc zero) v = choice (leb v 0x2FFFF) v 4
settled true (suc (suc zero)) v = choice (leb v 0x2FFFF) v 5
settled true (suc (suc (suc zero))) v = choice (leb v 0x2FFFF) v 6
settled true (suc (suc (suc (suc zero)))) v = choice (leb v 0x2FFFF) v 7
settled true (suc (suc (suc (suc (suc zero))))) v = choice (leb v 0x2FFFF) v 8
settled true (suc (suc (suc (suc (suc (suc zero)))))) v = choice (leb v 0x2FFFF) v 9
settled true (suc (suc (suc (suc (suc (suc (suc n))))))) v = long-run (suc (suc (suc (suc (suc (suc (suc n))))))) v (omega arith)

in_braces : (s : List ℕ) → as_character (spelled_by forms 0x5C (0x75 ∷ 0x7B ∷ s)) ≡ escaped (braced_escape s)
unfolding spelled_by number_by is_hex braced_escape braced
in_braces s =
    rw (six-run s, few-run s 1 (lit≤ tt), few-run s 2 (lit≤ tt), few-run s 3 (lit≤ tt), few-run s 4 (lit≤ tt), five-run s)
    (settled (shut_run s) (length (hex_run s)) (from 16 0 (hex_run s)))

with_digits : (b : ℕ) (bs : List ℕ) → eqb b 0x7B ≡ false
    → as_character (spelled_by forms 0x5C (0x75 ∷ b ∷ bs)) ≡ escaped (four_digits (b ∷ bs))
unfolding spelled_by number_by four_digits
with_digits b bs h =
    rw h
    (subst (λ (o : Option ℕ). as_character (or_else o 5 (itself 0x5C)) ≡ escaped (four_digits (b ∷ bs))) (sym (all_digits 4 0 (b ∷ bs)))
    (choice (eqb (length (hex_run (take 4 (b ∷ bs)))) 4) (from 16 0 (take 4 (b ∷ bs))) 5))

after-u : (s : List ℕ) → as_character (spelled_by forms 0x5C (0x75 ∷ s)) ≡ escaped (after_u s)
unfolding spelled_by number_by
after-u [] = refl
after-u (b ∷ bs) =
    by_test (eqb b 0x7B)
    (λ h. subst (λ (x : ℕ). as_character (spelled_by forms 0x5C (0x75 ∷ x ∷ bs)) ≡ escaped (after_u (x ∷ bs))) (sym (eqb-true b 0x7B h)) (in_braces bs))
    (λ h. with_digits b bs h ∙ rw h)

after-backslash : (s : List ℕ) → as_character (spelled_by forms 0x5C s) ≡ escaped (escape s)
unfolding spelled_by number_by escape
after-backslash [] = refl
after-backslash (b ∷ bs) =
    by_test (eqb b 0x75)
    (λ h. rw (eqb-true b 0x75 h) (after-u bs))
    (λ h. rw h)

pub spelled_at : (b : ℕ) (bs : List ℕ) → eqb b quote ≡ false → as_character (spelled_by forms b bs) ≡ character_at (b ∷ bs)
unfolding spelled_by number_by character_at
spelled_at b bs q =
    by_test (eqb b 0x5C)
    (λ h. rw (eqb-true b 0x5C h) (after-backslash bs))
    (λ h. rw (h, q))
