-- That a list starts with another.
-- Assumes nothing.
use mathlib.Core.Path.{◌≡◌, sym, ap, ap₂, ◌∙◌}
use mathlib.Core.List.{List, ◌++◌}
use Prim.Native.Nat.{ℕ, ◌≤◌}
use native.Mathlib.Omega.{arith}
use lib.ListN.{length, take, drop, length-append}
use lib.Seq.{take-append_seam, drop-append_seam, take-take, take-add}

abbrev pub Starts : List ℕ → List ℕ → Type 0
Starts xs zs = take (length xs) zs ≡ xs

module _ (xs ys zs : List ℕ) where
  taken : take (length (xs ++ ys)) zs ≡ take (length xs) zs ++ take (length ys) (drop (length xs) zs)
  taken = ap (λ (n : ℕ). take n zs) (length-append xs ys) ∙ take-add (length xs) (length ys) zs

  pub starts_first : Starts (xs ++ ys) zs → Starts xs zs
  starts_first h =
      let l : length xs ≤ length (xs ++ ys) = omega (arith, length-append xs ys) in
      sym (take-take (length xs) (length (xs ++ ys)) zs l) ∙ ap (λ (l : List ℕ). take (length xs) l) h ∙ take-append_seam xs ys

  pub starts-others : Starts (xs ++ ys) zs → Starts ys (drop (length xs) zs)
  starts-others h =
      let e : xs ++ take (length ys) (drop (length xs) zs) ≡ xs ++ ys =
      ap (λ (l : List ℕ). l ++ take (length ys) (drop (length xs) zs)) (sym (starts_first h)) ∙ sym taken ∙ h in
      sym (drop-append_seam xs (take (length ys) (drop (length xs) zs))) ∙ ap (λ (l : List ℕ). drop (length xs) l) e ∙ drop-append_seam xs ys

  pub starts-both : Starts xs zs → Starts ys (drop (length xs) zs) → Starts (xs ++ ys) zs
  starts-both h g = taken ∙ ap₂ (λ (k l : List ℕ). k ++ l) h g
