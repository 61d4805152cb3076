-- What a tables' text and a reply come to is one: any two results that a contract allows are equal.
-- Assumes nothing.
use Rattle.std.proofs.Common.{Some, Err, Result}
use mathlib.Core.Path.{◌≡◌, sym, ap, ◌∙◌, subst}
use mathlib.Core.Bool.{true≢false}
use mathlib.Core.List.{List}
use Prim.Native.Nat.{ℕ}
use native.Mathlib.Omega.{arith}
use Rattle.ground.proofs.Tests.{one-result}
use Rattle.refusals.specs.declared.Refusal.{Refusal}
use Rattle.lent.specs.Left.{Leaves, refusing}
use Rattle.lent.proofs.Lefts.{one_left}
use Rattle.arena.specs.Tree.{Tree}
use Rattle.brackets.specs.Walk.{tree}
use Rattle.reader.specs.Read.{written}
use Rattle.tables.specs.Sort.{Tables}
use Rattle.tables_text.specs.Parse.{parse}
use Rattle.tables_text.specs.Read.{Spells}
use Rattle.tables_text.proofs.Spelled.{some-equal}
use Rattle.tables_text.proofs.Back.{read_back}
use Rattle.commands.specs.declared.form.Form.{Form}
use Rattle.model.specs.Model.{read_reply}
use Rattle.listing.specs.Lists as listing
use Rattle.reply.specs.Reply.{Rooms, Walks, unread, walked, Replies, too_long, bad-table, spelled, program_rooms}
use Rattle.reply.specs.Printed.{Shown, shown, Shows, Prints}

-- a text spells one thing
pub one-spelled : (s : List ℕ) (t u : Tables) → Spells s t → Spells s u → t ≡ u
one-spelled s t u p q =
    let a : parse s ≡ Some t = ap parse p.same ∙ read_back t p.lawful p.writable in
    let b : parse s ≡ Some u = ap parse q.same ∙ read_back u q.lawful q.writable in
    some-equal (sym a ∙ b)

module _ (form : Form) (T : Tables) (rooms : Rooms) (reply entry : List ℕ) where
  one-walk : {r s : Result ℕ Refusal} {d e : List ℕ} → Walks form T rooms reply entry r d → Walks form T rooms reply entry s e → (r ≡ s) × (d ≡ e)
  one-walk {r} {s} {d} {e} (unread why a p) (unread also b q) =
      let k : Err why ≡ Err also = sym a ∙ b in
      let w : also ≡ why = cc in
      one_left p (subst (λ (x : Refusal). Leaves (refusing x entry) s e) w q)
  one-walk (unread why a p) (walked t i b q) =
      let k : Err why ≡ (written rooms.nodes rooms.text rooms.stack t).answer = sym a ∙ b in
      let z : ◌≡◌ {A = ℕ} 0 1 = cc in
      absurd (omega arith)
  one-walk (walked t i b q) (unread why a p) =
      let k : Err why ≡ (written rooms.nodes rooms.text rooms.stack t).answer = sym a ∙ b in
      let z : ◌≡◌ {A = ℕ} 0 1 = cc in
      absurd (omega arith)
  one-walk {r} {s} {d} {e} (walked t i a p) (walked u j b q) =
      let k : tree t ≡ tree u = sym i ∙ j in
      let w : u ≡ t = cc in
      one_left p (subst (λ (x : Tree). Leaves (listing.left T (read_reply T form x) entry) s e) w q)

module _ (form : Form) (tables reply : List ℕ) (rooms : Rooms) (entry : List ℕ) where
  pub one_reply : {r s : Result ℕ Refusal} {x y : Rooms} {d e : List ℕ} → Replies form tables reply rooms entry r x d → Replies form tables reply rooms entry s y e → (r ≡ s) × (x ≡ y) × (d ≡ e)
  one_reply (too_long a p x) (too_long b q y) = let k = one_left p q in (k.0, one-result x y, k.1)
  one_reply (too_long a p x) (bad-table b never q y) = absurd (true≢false (sym b ∙ a))
  one_reply (too_long a p x) (spelled b T s q y) = absurd (true≢false (sym b ∙ a))
  one_reply (bad-table a never p x) (too_long b q y) = absurd (true≢false (sym a ∙ b))
  one_reply (bad-table a never p x) (bad-table b again q y) = let k = one_left p q in (k.0, one-result x y, k.1)
  one_reply (bad-table a never p x) (spelled b T s q y) = absurd (never T s)
  one_reply (spelled a T s p x) (too_long b q y) = absurd (true≢false (sym a ∙ b))
  one_reply (spelled a T s p x) (bad-table b never q y) = absurd (never T s)
  one_reply {r} {s} {x} {y} {d} {e} (spelled a T t p i) (spelled b U u q j) =
      let k = one-walk form T rooms reply entry p (subst (λ (v : Tables). Walks form v rooms reply entry s e) (one-spelled tables U T u t) q) in
      (k.0, one-result i j, k.1)

-- the same of a refusal's lines, and of what is printed
pub one-shown : {what : Shown} {r s : ℕ} {d e : List ℕ} → Shows what r d → Shows what s e → (r ≡ s) × (d ≡ e)
one-shown p q = (one-result p.counts q.counts, one-result p.holds q.holds)

pub one-print : (form : Form) (tables reply entry : List ℕ) {r s : ℕ} {d e : List ℕ} → Prints form tables reply entry r d → Prints form tables reply entry s e → (r ≡ s) × (d ≡ e)
one-print form tables reply entry {r} {s} {d} {e} p q =
    let k = one_reply form tables reply program_rooms entry p.lists.replies q.lists.replies in
    let same : shown q.answer q.left ≡ shown p.answer p.left =
    ap (λ (w : Result ℕ Refusal). shown w q.left) (sym k.0) ∙ ap (shown p.answer) (sym k.2) in (
      one-result p.shows.counts (q.shows.counts ∙ ap (λ x. x.count) same),
      one-result p.shows.holds (q.shows.holds ∙ ap (λ x. x.holds) same),
    )
