-- Demand 3 holds of what is printed: where it is no refusal's lines, it is the listing of definitions for which the demand holds.
-- Assumes nothing.
use Rattle.std.proofs.Common.{Err, Ok, Result}
use mathlib.Core.Path.{◌≡◌, refl, sym, ap, ◌∙◌, subst}
use mathlib.Core.List.{List, [], map}
use Prim.Native.Nat.{ℕ, ◌≤◌, ◌<◌}
use native.Mathlib.Omega.{arith}
use lib.Dec.{leb}
use lib.ListN.{length, take, drop}
use lib.Seq.{take_at}
use borrow.Author.Tests.{le-leb, lt-leb, leb-true}
use Rattle.ground.proofs.Tests.{by_order, both_right}
use Rattle.refusals.specs.declared.Refusal.{Refusal}
use Rattle.lent.specs.Left.{onto, Leaves}
use Rattle.strings.proofs.Texts.{Bytes}
use Rattle.arena.specs.Tree.{Tree, Sound}
use Rattle.brackets.specs.Walk.{tree}
use Rattle.reader.specs.Read.{parse}
use Rattle.reader.proofs.Sounds.{accepted-arena}
use Rattle.tables.specs.Sort.{Tables}
use Rattle.tables_text.specs.Read.{Spells}
use Rattle.well_sorted.proofs.Sound.{sound-octets}
use Rattle.commands.specs.declared.form.Form.{Form}
use Rattle.model.specs.Model.{Definition, read_reply}
use Rattle.model.specs.Listing.{settled, listing, need}
use Rattle.demand.specs.Alike.{Alike}
use Rattle.demand.specs.Demand.{Demanded}
use Rattle.demand.proofs.Tells.{bytes-tell}
use Rattle.demand.proofs.Theorem.{demanded}
use Rattle.listing.specs.Lists as listed
use Rattle.listing.proofs.Demand.{no_length, fronted}
use Rattle.reply.specs.Reply.{byte_limit, unread, walked, Replies, too_long, bad-table, spelled, program_rooms}
use Rattle.reply.specs.Printed.{refusal_lines, Shows, shown, Prints}
use Rattle.reply.proofs.One.{one-spelled}

-- the tables that the text spells, the tree that the reply reads as, what it defines, and its listing
pub record Listed (form : Form) (tables reply bytes : List ℕ) : Type 0 where
  pub over : Tables
  pub spells : Spells tables over
  pub of : Tree
  pub parsed : parse reply ≡ tree of
  pub sound : Sound of
  pub definitions : List Definition
  pub reads : read_reply over form of ≡ Ok definitions
  pub prints : bytes ≡ listing over definitions
  pub demand : Demanded form over of (map settled definitions)

-- what is printed is a listing or a refusal's lines; nothing where these do not fit
pub data Printed (form : Form) (tables reply : List ℕ) (r : ℕ) (exit : List ℕ) : Type 0 where
  a-listing : Listed form tables reply (take r exit) → Printed form tables reply r exit
  a-refusal : (why : Refusal) → take r exit ≡ refusal_lines why → Printed form tables reply r exit
  no_room : (why : Refusal) → r ≡ 0 → length exit < length (refusal_lines why) → Printed form tables reply r exit

module _ (form : Form) (tables reply entry : List ℕ) (bytes : Bytes reply) where
  module _ (n : ℕ) (left : List ℕ) where
    tree-listed : (T : Tables) → Spells tables T → length reply ≤ byte_limit → (t : Tree) → parse reply ≡ tree t → (m : Result (List Definition) Refusal) → read_reply T form t ≡ m →
        Leaves (listed.left T m entry) (Ok n) left → Listed form tables reply (take n left)
    tree-listed T s short t i (Ok ds) e d =
        let sound = (accepted-arena reply t [] [] bytes (omega arith) i).sound in
        record {
          over = T;
          spells = s;
          of = t;
          parsed = i;
          sound = sound;
          definitions = ds;
          reads = e;
          prints = (fronted (listing T ds) (need T ds) entry n left d).1;
          demand = demanded T s.lawful form t ds sound e;
        }
    tree-listed T s short t i (Err why) e d = no_length d.answers

    reply_listed : {rooms : _} → Replies form tables reply program_rooms entry (Ok n) rooms left → Listed form tables reply (take n left)
    reply_listed (too_long a d x) = no_length d.answers
    reply_listed (bad-table a never d x) = no_length d.answers
    reply_listed (spelled a T s (unread why i d) x) = no_length d.answers
    reply_listed (spelled a T s (walked t i b d) x) =
        tree-listed T s (leb-true (length reply) byte_limit (both_right (leb (length tables) byte_limit) (leb (length reply) byte_limit) a)) t i (read_reply T form t) refl d

  module _ (why : Refusal) (left : List ℕ) (r : ℕ) (exit : List ℕ) where
    refusal_printed : Shows (shown (Err why) left) r exit → Printed form tables reply r exit
    unfolding onto
    refusal_printed h =
        let lines = refusal_lines why in
        by_order (length left) (length lines)
        (λ k.
        let e : r ≡ 0 = h.counts ∙ rw (lt-leb (length lines) (length left) k) in
        let f : exit ≡ left = h.holds ∙ rw (lt-leb (length lines) (length left) k) in
        no_room why e (subst (λ (s : List ℕ). length s < length lines) (sym f) k))
        (λ k.
        let e : r ≡ length lines = h.counts ∙ rw (le-leb (length lines) (length left) k) in
        let f : exit ≡ onto lines left = h.holds ∙ rw (le-leb (length lines) (length left) k) in
        a-refusal why (ap (take r) f ∙ take_at lines (drop (length lines) left) r (sym e)))

  pub printed_demand : (r : ℕ) (exit : List ℕ) → Prints form tables reply entry r exit → Printed form tables reply r exit
  printed_demand r exit p = go p.answer p.lists.replies p.shows
    where
      go : (w : Result ℕ Refusal) → Replies form tables reply program_rooms entry w p.lists.after p.left → Shows (shown w p.left) r exit → Printed form tables reply r exit
      go (Ok n) x h =
          let e : take n p.left ≡ take r exit = ap (λ (k : ℕ). take k p.left) (sym h.counts) ∙ ap (take r) (sym h.holds) in
          a-listing (subst (Listed form tables reply) e (reply_listed n p.left x))
      go (Err why) x h = refusal_printed why p.left r exit h

-- the bytes tell: two replies over the same tables that print the same listing define alike, whatever their forms
pub printed_tell : {form other : Form} {tables reply reply' s : List ℕ} (a : Listed form tables reply s) (b : Listed other tables reply' s) → Alike a.over (map settled a.definitions) (map settled b.definitions)
printed_tell {form} {other} {tables} {s = s} a b =
    let e : b.over ≡ a.over = one-spelled tables b.over a.over b.spells a.spells in
    let r : read_reply a.over other b.of ≡ Ok b.definitions = subst (λ (T : Tables). read_reply T other b.of ≡ Ok b.definitions) e b.reads in
    let k : s ≡ listing a.over b.definitions = subst (λ (T : Tables). s ≡ listing T b.definitions) e b.prints in
    bytes-tell a.over a.spells.lawful form other a.of b.of a.definitions b.definitions (sound-octets a.of a.sound) (sound-octets b.of b.sound) a.reads r (sym a.prints ∙ k)
