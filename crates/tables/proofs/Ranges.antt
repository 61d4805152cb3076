-- Where so many entries from one on lie: behind the list, up to its end, or wholly inside.
-- Assumes nothing.
use mathlib.Core.Path.{◌≡◌, refl, sym, ap, ◌∙◌}
use mathlib.Core.List.{List}
use Prim.Native.Nat.{ℕ, ◌+◌, ◌-◌, ◌≤◌, ◌<◌}
use native.Mathlib.Omega.{arith}
use lib.ListN.{length, take, drop, drop_of_length-le, length-drop}
use lib.Seq.{take-nil, take_all, length-take-le}
use Rattle.tables.specs.declared.row.Range.{Range}
use Rattle.tables.specs.Layout.{word, part, name_at}
use Rattle.tables.specs.Range.{Clamps}

module _ (first size most : ℕ) where
  past-part : most ≤ first → (xs : List ℕ) → length xs ≡ most → take (most - most) (drop most xs) ≡ part xs first size
  past-part h xs e =
      let k : length xs ≤ most = omega (arith, e) in
      let g : length xs ≤ first = omega (arith, e) in
      rw (drop_of_length-le xs k, drop_of_length-le xs g) (take-nil (most - most) ∙ sym (take-nil size))

  pub clamps_past : most ≤ first → Clamps first size most (record { start = most; end = most })
  clamps_past h =
      record {
        begins = omega arith;
        ends = omega arith;
        ordered = omega arith;
        within = omega arith;
        holds = past-part h;
      }

  module _ (inside : first < most) where
    cut_part : most - first ≤ size → (xs : List ℕ) → length xs ≡ most → take (most - first) (drop first xs) ≡ part xs first size
    cut_part h xs e =
        let k : length (drop first xs) ≡ most - first = length-drop first xs ∙ ap (λ (n : ℕ). n - first) e in
        take_all (most - first) (drop first xs) (omega (arith, k)) ∙ sym (take_all size (drop first xs) (omega (arith, k)))

    pub clamps_cut : most - first ≤ size → Clamps first size most (record { start = first; end = most })
    clamps_cut h =
        record {
          begins = omega arith;
          ends = omega arith;
          ordered = omega arith;
          within = omega arith;
          holds = cut_part h;
        }

    pub clamps_whole : size < most - first → Clamps first size most (record { start = first; end = first + size })
    clamps_whole h =
        record {
          begins = omega arith;
          ends = omega arith;
          ordered = omega arith;
          within = omega arith;
          holds = λ xs e.
              let k : first + size - first ≡ size = omega arith in
              ap (λ (n : ℕ). take n (drop first xs)) k;
        }

-- the range of a row's name
pub clamps_name : (names ws : List ℕ) (i first size : ℕ) (r : Range) → first ≡ word ws i 0 → size ≡ word ws i 1 → Clamps first size (length names) r → take (r.end - r.start) (drop r.start names) ≡ name_at names ws i
clamps_name names ws i first size r e g h = h.holds names refl ∙ rw (e, g) refl

-- how many entries a range has
pub length_clamped : (xs : List ℕ) (first size : ℕ) (r : Range) → Clamps first size (length xs) r → length (part xs first size) ≡ r.end - r.start
length_clamped xs first size r h =
    ap (λ (ys : List ℕ). length ys) (sym (h.holds xs refl))
    ∙ length-take-le (r.end - r.start) (drop r.start xs)
    (let e : length (drop r.start xs) ≡ length xs - r.start = length-drop r.start xs in omega (arith, e, h.ordered, h.within))
