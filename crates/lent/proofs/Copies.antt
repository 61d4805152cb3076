-- Bytes copied to the front of a buffer, one by one; and a text at the front of a lent tail.
-- Assumes nothing.
use mathlib.Core.Path.{◌≡◌, refl, sym, ap, ap₂, ◌∙◌}
use mathlib.Core.List.{List, [], ◌++◌, append_assoc, append-nil}
use Prim.Native.Nat.{ℕ, ◌+◌, ◌-◌, ◌≤◌, ◌<◌}
use native.Mathlib.Numerals.{add-one}
use native.Mathlib.Omega.{arith}
use lib.ListN.{length, get_or, take, drop, set, length-set, length-drop, drop_of_length-le}
use lib.Seq.{sets, sets-eq, take-suc, take_all, append_snoc, set_at, length-take-le, drop-drop}
use borrow.Rule.Slice.PartMut.{put_mid}
use Rattle.ground.proofs.Lists.{at_place}
use Rattle.lent.specs.Left.{onto}
use Rattle.lent.specs.Put.{Fronts}

pub record Copying (bytes entry out : List ℕ) (at : ℕ) : Type 0 where
  pub within : at ≤ length bytes
  pub room : length bytes ≤ length entry
  pub long : length out ≡ length entry
  pub holds : out ≡ take at bytes ++ drop at entry

pub copying-start : (bytes entry : List ℕ) → length bytes ≤ length entry → Copying bytes entry entry 0
copying-start bytes entry h = record { within = omega arith; room = h; long = refl; holds = refl }

module _ (bytes entry out : List ℕ) (at : ℕ) (so : Copying bytes entry out at) (less : at < length bytes) where
  pub copying-within : at < length out
  copying-within = omega (arith, so.long, so.room)

  pub copying-step : Copying bytes entry (set out at (get_or bytes at 0)) (at + 1)
  copying-step = record {
    within = omega arith;
    room = so.room;
    long = length-set out at (get_or bytes at 0) ∙ so.long;
    holds =
        ap (λ (l : List ℕ). set l at (get_or bytes at 0))
        (so.holds ∙ ap (λ (l : List ℕ). take at bytes ++ l) (at_place entry at (omega (arith, so.room))))
        ∙ set_at (take at bytes) (get_or entry at 0) (drop (at + 1) entry) (get_or bytes at 0) at (length-take-le at bytes (omega arith))
        ∙ sym (append_snoc (take at bytes) (get_or bytes at 0) (drop (at + 1) entry))
        ∙ ap (λ (l : List ℕ). l ++ drop (at + 1) entry) (sym (ap (λ (n : ℕ). take n bytes) (add-one at) ∙ take-suc bytes at 0 less));
  }

pub copying-end : (bytes entry out : List ℕ) (at : ℕ) → Copying bytes entry out at → length bytes ≤ at → Fronts bytes entry out at
unfolding onto
copying-end bytes entry out at so h =
    let e : at ≡ length bytes = omega (arith, so.within) in
    record {
      long = e;
      holds = so.holds ∙ ap₂ (λ (x y : List ℕ). x ++ y) (take_all at bytes h) (ap (λ (n : ℕ). drop n entry) e);
    }

-- what the front of a tail from a place on was given is stored from that place on
pub tail-front : (text d part : List ℕ) (at : ℕ) → at + length text ≤ length d → part ≡ onto text (take (length d - at) (drop at d))
    → put_mid at (length d - at) d part ≡ sets d at text
unfolding onto
tail-front text d part at h q =
    let t : take (length d - at) (drop at d) ≡ drop at d = take_all (length d - at) (drop at d) (rw (length-drop at d) (omega arith)) in
    let z : drop (length d - at) (drop at d) ≡ [] = drop_of_length-le (drop at d) {i = length d - at} (rw (length-drop at d) (omega arith)) in
    let p : part ≡ text ++ drop (at + length text) d = q ∙ ap (λ (l : List ℕ). text ++ drop (length text) l) t ∙ ap (λ (l : List ℕ). text ++ l) (drop-drop (length text) at d) in
    ap₂ (λ (x y : List ℕ). take at d ++ (x ++ y)) p z
    ∙ ap (λ (l : List ℕ). take at d ++ l) (append-nil (text ++ drop (at + length text) d))
    ∙ sym (append_assoc (take at d) text (drop (at + length text) d))
    ∙ sym (sets-eq text d at h)
