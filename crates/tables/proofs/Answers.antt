-- Tests one after the other: one that fails, or one that passes and what comes after it.
-- Assumes nothing.
use mathlib.Core.Path.{◌≡◌, sym}
use mathlib.Core.Bool.{Bool, true, false, not, ◌&&◌}
use borrow.Author.Tests.{not-true, not-false}

module _ (a b r : Bool) (e : r ≡ a) where
  pub and_no : not r ≡ true → false ≡ (a && b)
  and_no h = rw (sym e, not-true r h)

  pub and_yes : not r ≡ false → (s : Bool) → s ≡ b → s ≡ (a && b)
  and_yes h s g = rw (sym e, not-false r h) g
