-- What follows a backslash, by the bytes that the code looks at.
-- Assumes nothing.
use Rattle.std.proofs.Common.{None, Option, Some}
use mathlib.Core.Path.{◌≡◌, sym, ap, ◌∙◌}
use mathlib.Core.Bool.{Bool, true, false, cond}
use mathlib.Core.List.{List, ◌∷◌}
use Prim.Native.Nat.{ℕ, ◌+◌, ◌≤◌, ◌<◌}
use native.Mathlib.Omega.{arith}
use lib.Dec.{leb}
use lib.ListN.{length, get_or, drop, drop_of_length-le}
use borrow.Author.Tests.{le-leb, lt-leb, eq-eqb, ne_eqb}
use Rattle.ground.proofs.Lists.{at_place}
use Rattle.ground.proofs.Tests.{by_order, and-false}
use Rattle.words.specs.Run.{number}
use Rattle.ground.proofs.Options.{some-same}
use Rattle.strings.specs.declared.escape.Braced.{Braced}
use Rattle.strings.specs.Escape.{hex_run, starts_by, braced, closed, braced_escape, four_digits, after_u, escape}
use Rattle.strings.specs.declared.escape.Braced.{Braced}
use Rattle.strings.specs.declared.escape.Escape.{Escape}

-- digits in braces
module _ (s : List ℕ) where
  pub braced_failed : braced s ≡ None → None ≡ braced_escape s
  unfolding braced_escape
  braced_failed e = sym (ap closed e)

  module _ (v n : ℕ) (e : braced s ≡ Some (record { value = v; digits = n })) where
    braced-is : {x : Option Escape} → x ≡ closed (Some (record { value = v; digits = n })) → x ≡ braced_escape s
    unfolding braced_escape
    braced-is q = q ∙ sym (ap closed e)

    pub braced-few : n ≤ 6
    unfolding braced
    braced-few =
        by_order 6 (length (hex_run s))
        (λ h. let f : braced s ≡ None = rw (lt-leb (length (hex_run s)) 6 h) in let z : ◌≡◌ {A = ℕ} 0 1 = cc in absurd (omega arith))
        (λ h. h' (starts_by 125 (drop (length (hex_run s)) s)) (sym (rw (le-leb (length (hex_run s)) 6 h)) ∙ e) h)
      where
        by : Bool → Option Braced
        by b = cond b (Some (record { value = number 16 (hex_run s); digits = length (hex_run s) })) None

        h' : (b : Bool) → by b ≡ Some (record { value = v; digits = n }) → length (hex_run s) ≤ 6 → n ≤ 6
        h' true q h = let z : length (hex_run s) ≡ n = ap (λ (r : Braced). r.digits) (some-same q) in omega arith
        h' false q h = let z : ◌≡◌ {A = ℕ} 0 1 = cc in absurd (omega arith)

    pub braced-empty : n ≡ 0 → None ≡ braced_escape s
    braced-empty z = let k : n < 1 = omega arith in braced-is (rw (lt-leb 1 n k))

    pub braced_large : 0x2FFFF < v → None ≡ braced_escape s
    braced_large h = braced-is (rw (lt-leb v 0x2FFFF h) (rw (and-false (leb 1 n))))

    pub braced_point : (n ≡ 0 → ⊥) → v ≤ 0x2FFFF → (Some (record { value = v; bytes = n + 3 })) ≡ braced_escape s
    braced_point z h = let k : 1 ≤ n = omega arith in braced-is (rw (le-leb 1 n k) (rw (le-leb v 0x2FFFF h)))

-- the bytes after the backslash, one by one
module _ (s : List ℕ) (i : ℕ) where
  pub escape_end : length s ≤ i → None ≡ escape (drop i s)
  unfolding escape
  escape_end h = rw (drop_of_length-le s h)

  module _ (less : i < length s) where
    escape-here : {x : Option Escape} → x ≡ escape (get_or s i 0 ∷ drop (i + 1) s) → x ≡ escape (drop i s)
    escape-here q = q ∙ ap escape (sym (at_place s i less))

    pub escape-other : (get_or s i 0 ≡ 0x75 → ⊥) → None ≡ escape (drop i s)
    unfolding escape
    escape-other h = escape-here (rw (ne_eqb (get_or s i 0) 0x75 h))

    module _ (u : get_or s i 0 ≡ 0x75) where
      escape-u : {x : Option Escape} → x ≡ after_u (drop (i + 1) s) → x ≡ escape (drop i s)
      unfolding escape
      escape-u q = escape-here (q ∙ sym (rw (eq-eqb (get_or s i 0) 0x75 u)))

      pub escape-u-end : length s ≤ i + 1 → None ≡ escape (drop i s)
      escape-u-end h = escape-u (rw (drop_of_length-le s h))

      module _ (more : i + 1 < length s) where
        after-here : {x : Option Escape} → x ≡ after_u (get_or s (i + 1) 0 ∷ drop (i + 1 + 1) s) → x ≡ escape (drop i s)
        after-here q = escape-u (q ∙ ap after_u (sym (at_place s (i + 1) more)))

        pub escape-brace : get_or s (i + 1) 0 ≡ 0x7B → braced_escape (drop (i + 1 + 1) s) ≡ escape (drop i s)
        escape-brace h = after-here (sym (rw (eq-eqb (get_or s (i + 1) 0) 0x7B h)))

        pub escape-four : (get_or s (i + 1) 0 ≡ 0x7B → ⊥) → four_digits (drop (i + 1) s) ≡ escape (drop i s)
        escape-four h = after-here (ap four_digits (at_place s (i + 1) more) ∙ sym (rw (ne_eqb (get_or s (i + 1) 0) 0x7B h)))
