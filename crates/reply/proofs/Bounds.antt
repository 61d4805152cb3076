-- What is printed stands in the buffer.
-- Assumes nothing.
use Rattle.std.proofs.Common.{Err, Ok, Result}
use mathlib.Core.Path.{◌≡◌, refl, sym, ap, ◌∙◌, subst}
use mathlib.Core.Bool.{Bool, true, false, cond}
use mathlib.Core.List.{List, ◌++◌}
use Prim.Native.Nat.{ℕ, ◌-◌, ◌≤◌}
use native.Mathlib.Omega.{arith}
use lib.Dec.{leb}
use lib.ListN.{length, drop, replicate, length-append}
use Rattle.refusals.specs.declared.Refusal.{Refusal}
use Rattle.refusals.specs.declared.Refusal.TheVariants.{OutRoom}
use Rattle.lent.specs.Left.{onto, Left, refusing, Leaves}
use Rattle.tables.specs.Sort.{Tables}
use Rattle.commands.specs.declared.form.Form.{Form}
use Rattle.model.specs.Model.{Definition, read_reply}
use Rattle.model.specs.Listing.{listing, need}
use Rattle.listing.specs.Lists.{listed, fitted, left}
use Rattle.reply.specs.Reply.{Rooms, Walks, unread, walked, Replies, too_long, bad-table, spelled}
use Rattle.reply.specs.Printed.{refusal_lines, shown, Shows, Prints}

-- a length that is told is no longer than the buffer
abbrev Inside : Result ℕ Refusal → List ℕ → Type 0
Inside r exit = (n : ℕ) → r ≡ Ok n → n ≤ length exit

no_length : (why : Refusal) (exit : List ℕ) → Inside (Err why) exit
no_length why exit n e = let z : ◌≡◌ {A = ℕ} 0 1 = cc in absurd (omega arith)

fitted-inside : (lines : List ℕ) (room : ℕ) (out : List ℕ) → Inside (fitted lines room out).answer (fitted lines room out).holds
fitted-inside lines room out = by-room (leb room (length out))
  where
    by-room : (b : Bool) → Inside (cond b (record { answer = Ok (length lines); holds = listed lines room out }) (refusing (OutRoom room) out)).answer
        (cond b (record { answer = Ok (length lines); holds = listed lines room out }) (refusing (OutRoom room) out)).holds
    by-room true n e =
        let k : length lines ≡ n = cc in
        omega (arith, length-append lines (replicate (room - length lines) 0 ++ drop room out))
    by-room false n e = no_length (OutRoom room) out n e

left-inside : (T : Tables) (m : Result (List Definition) Refusal) (out : List ℕ) → Inside (left T m out).answer (left T m out).holds
left-inside T (Ok ds) out = fitted-inside (listing T ds) (need T ds) out
left-inside T (Err why) out = no_length why out

leaves-inside : {l : Left} {r : Result ℕ Refusal} {exit : List ℕ} → Inside l.answer l.holds → Leaves l r exit → Inside r exit
leaves-inside {l} {r} {exit} f d n e = subst (λ (x : List ℕ). n ≤ length x) (sym d.holds) (f n (sym d.answers ∙ e))

walks-inside : {form : Form} {T : Tables} {rooms : Rooms} {reply entry : List ℕ} {r : Result ℕ Refusal} {exit : List ℕ} → Walks form T rooms reply entry r exit → Inside r exit
walks-inside {form} {T} {rooms} {reply} {entry} (unread why a d) = leaves-inside (no_length why entry) d
walks-inside {form} {T} {rooms} {reply} {entry} (walked t i a d) = leaves-inside (left-inside T (read_reply T form t) entry) d

pub replies-inside : {form : Form} {tables reply entry : List ℕ} {rooms after : Rooms} {r : Result ℕ Refusal} {exit : List ℕ} → Replies form tables reply rooms entry r after exit → Inside r exit
replies-inside {form} {tables} {reply} {entry} (too_long a d x) = leaves-inside (no_length _ entry) d
replies-inside {form} {tables} {reply} {entry} (bad-table a never d x) = leaves-inside (no_length _ entry) d
replies-inside (spelled a T s w x) = walks-inside w

-- lines that are shown, or none
lines-inside : (lines out : List ℕ) (b : Bool) {r : ℕ} {exit : List ℕ} → Shows (cond b (record { count = length lines; holds = onto lines out }) (record { count = 0; holds = out })) r exit → r ≤ length exit
unfolding onto
lines-inside lines out true {r} {exit} s = omega (arith, s.counts, ap length s.holds, length-append lines (drop (length lines) out))
lines-inside lines out false {r} {exit} s = omega (arith, s.counts)

shown-inside : (answer : Result ℕ Refusal) (out : List ℕ) → Inside answer out → {r : ℕ} {exit : List ℕ} → Shows (shown answer out) r exit → r ≤ length exit
shown-inside (Ok n) out f {r} {exit} s = omega (arith, f n refl, s.counts, ap length s.holds)
shown-inside (Err why) out f s = lines-inside (refusal_lines why) out (leb (length (refusal_lines why)) (length out)) s

pub printed_within : {form : Form} {tables reply entry : List ℕ} {r : ℕ} {exit : List ℕ} → Prints form tables reply entry r exit → r ≤ length exit
printed_within p = shown-inside p.answer p.left (replies-inside p.lists.replies) p.shows
