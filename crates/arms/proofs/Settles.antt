-- A run of arms in order as their lines, in the place where it was laid.
-- Assumes nothing.
use mathlib.Core.Path.{◌≡◌, sym, ap, ◌∙◌}
use mathlib.Core.Bool.{true}
use mathlib.Core.List.{List, map}
use Prim.Native.Nat.{ℕ, ◌+◌, ◌-◌, ◌^◌, ◌≤◌, ◌<◌}
use native.Mathlib.Omega.{arith}
use lib.ListN.{length, take, drop, replicate}
use lib.Seq.{take_at}
use borrow.Rule.Slice.PartMut.{put_mid}
use Rattle.moves.specs.Replace.{replaced}
use Rattle.moves.proofs.Replaces.{length-replaced, replaced-append}
use Rattle.order.specs.Order.{arranged}
use Rattle.order.specs.Every.{Every}
use Rattle.order.proofs.Arranges.{every-arranged}
use Rattle.runs.specs.Run.{end, stop, key, run}
use Rattle.runs.specs.Arrange.{ArrangedAs}
use Rattle.runs.proofs.Runs.{arranged-long}
use Rattle.values.specs.Text.{text}
use Rattle.literals.specs.Answer.{capped}
use Rattle.value_text.specs.Laid.{Laid}
use Rattle.value_text.proofs.Lays.{laid-part, lays_part}
use Rattle.model.specs.Model.{Arm}
use Rattle.model.specs.Listing.{arm_lines, normal_arm}
use Rattle.arms.specs.Record.{arm_record, arm_run}
use Rattle.arms.specs.Walk.{LaysArms}
use Rattle.arms.specs.Settle.{Lines, Settles}
use Rattle.arms.proofs.Records.{Shown, shown-normal, records-plain, records-arranged, lines-replaced, lines_long}

pub lined : (entry mid part : List ℕ) (n : ℕ) → ArrangedAs true entry mid n → part ≡ replaced end stop mid → Lines entry part n
lined entry mid part n h s rs p e =
    let a = h rs p e in
    let ordered = run (arranged key true rs) in
    let freed : List ℕ = replicate (length entry - n) 0 in
    record {
      long = a.long;
      front =
          ap (take n) (s ∙ ap (replaced end stop) a.bytes ∙ replaced-append end stop ordered freed)
          ∙ take_at (replaced end stop ordered) (replaced end stop freed) n (length-replaced end stop ordered ∙ sym a.long);
    }

module _ (entry : List ℕ) (start behind : ℕ) where
  -- what was laid, where there is room for the lines
  record Inside (arms : List Arm) (a : List ℕ) : Type 0 where
    room : start + length (arm_run arms) ≤ length a
    laid : Laid (arm_run arms) (arm_run (map normal_arm arms)) a entry start behind

  inside : (arms : List Arm) (a : List ℕ) → LaysArms arms a entry start behind → start + length (arm_lines arms) ≤ length a → Inside arms a
  inside arms a f h = let m : start + length (arm_run arms) ≤ length a = omega (arith, lines_long arms) in record { room = m; laid = f m }

  pub settles-behind : behind < start → (exit : List ℕ) (r : ℕ) → Settles entry exit start behind r
  settles-behind n exit r T argument result table fits a f h =
      let q = inside table.arms a f h in
      let qa = q.laid.after in
      absurd (omega arith)

  pub settles-past : length entry < behind → (exit : List ℕ) (r : ℕ) → Settles entry exit start behind r
  settles-past n exit r T argument result table fits a f h =
      let q = inside table.arms a f h in
      let qa = q.laid.after in
      let qw = q.laid.within in
      let qs = q.laid.same in
      let qr = q.room in
      absurd (omega arith)

  pub settles-lines : start ≤ behind → behind ≤ length entry → length entry < 2 ^ 64 → (part : List ℕ) (n next : ℕ) → length part ≡ length (take (behind - start) (drop start entry)) →
      Lines (take (behind - start) (drop start entry)) part n → next ≡ capped (start + n) → Settles entry (put_mid start (behind - start) entry part) start behind next
  settles-lines ordered within small part n next long lines after T argument result table fits a f h =
      let arms = table.arms in
      let ns = map normal_arm arms in
      let settled = arranged (λ (y : Arm). text y.«when») true ns in
      let q = inside arms a f h in
      let qa : behind ≡ start + length (arm_run ns) = q.laid.after in
      let qs : length entry ≡ length a = q.laid.same in
      let shown : Every Shown ns = shown-normal T argument result arms fits.keys fits.values in
      let p : take (behind - start) (drop start entry) ≡ arm_run ns = laid-part q.laid q.room in
      let w = lines (map arm_record ns) (records-plain ns shown) p in
      let e : run (arranged key true (map arm_record ns)) ≡ arm_run settled = ap run (records-arranged ns shown) in
      let l : n ≡ length (arm_lines settled) = w.long ∙ ap length e ∙ sym (lines_long settled) in
      let t : take n part ≡ arm_lines settled =
      w.front ∙ ap (replaced end stop) e ∙ lines-replaced settled (every-arranged (λ (y : Arm). text y.«when») true Shown ns shown) in
      let pl : length (arm_run ns) ≡ behind - start = omega arith in
      let few : length (arm_lines settled) ≤ length (arm_run ns) = omega (arith, arranged-long true (map arm_record ns), w.long, l) in
      lays_part entry part start behind ordered within (long ∙ ap length p ∙ pl) {x' = arm_lines arms} f (sym (lines_long arms)) l few t after (omega arith) h
