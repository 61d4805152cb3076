-- Values without another one in them: what is told of them, and what they are.
-- Assumes nothing.
use Rattle.std.proofs.Common.{None, Option, Some, Err, Ok, Result}
use mathlib.Core.Path.{◌≡◌, refl, sym, ap, ap₂, ◌∙◌, subst}
use mathlib.Core.Bool.{Bool, true, false, true≢false}
use mathlib.Core.List.{List, [], ◌∷◌}
use Prim.Native.Nat.{ℕ, ◌-◌, ◌%◌, ◌^◌}
use Prim.Native.String.{String}
use native.Mathlib.Omega.{arith}
use lib.ListN.{length, get_or, take, drop}
use lib.Seq.{take_all}
use borrow.Author.Tests.{eq-eqb, ne_eqb}
use types.Run.{OneOf, miss}
use denote.Enum.Declared.{tag_of}
use Rattle.ground.specs.Bytes.{bytes}
use Rattle.ground.specs.Lists.{at}
use Rattle.tables.proofs.Places.{length-tabulate, at-tabulate, find-within}
use Rattle.refusals.specs.declared.Refusal.{Refusal}
use Rattle.words.specs.declared.digits.Radix.{Radix}
use Rattle.words.specs.declared.pair.Pair.{Pair}
use Rattle.words.specs.Pair.{value}
use Rattle.words.specs.Run.{parsed}
use Rattle.arena.specs.declared.node.Node.{Node}
use Rattle.arena.specs.Node.{node_at}
use Rattle.arena.specs.Text.{text_at, same_text}
use Rattle.arena.specs.Tree.{string as quoted}
use Rattle.arena.specs.contracts.node.Node as NodeType
use Rattle.tables.specs.declared.row.Range.{Range}
use Rattle.tables.specs.Find.{found as found_as, member_row}
use Rattle.tables.specs.Layout.{Lent, count, word, part, member_at, tables_of}
use Rattle.tables.specs.Lookup.{FindsMember}
use Rattle.tables.specs.Range.{Clamps}
use Rattle.tables.specs.Sort.{Sort, bool, Member}
use Rattle.tables.proofs.Ranges.{length_clamped}
use Rattle.shapes.specs.Shows.{Standing, Reads}
use Rattle.values.specs.Value.{Value, v_bool, v_bits, v_entity}
use Rattle.means.specs.Literal.{Lit, unsigned, numbered, lit_of, member_lit, at_row, word_lit}
use Rattle.well_sorted.proofs.Results.{refuses, ok_same, went}
use Rattle.forms.specs.declared.form.Form.{Form}
use Rattle.forms.specs.Form.{Says}
use Rattle.forms.specs.Leaf.{IndexedForm, EntityForm, MemberForm, WordForm}

-- the digits, with a sign or without
pub unsigned-none : (s : List ℕ) → length s ≡ 0 → s ≡ unsigned s
unsigned-none [] h = refl
unsigned-none (b ∷ bs) h = absurd (omega (arith, h))

pub unsigned-plus : (s : List ℕ) → (length s ≡ 0 → ⊥) → get_or s 0 0 ≡ 43 → take (length s - 1) (drop 1 s) ≡ unsigned s
unsigned-plus [] h e = absurd (h refl)
unsigned-plus (b ∷ bs) h e = rw (eq-eqb b 43 e) (take_all (length (b ∷ bs) - 1) bs (omega arith))

pub unsigned-bare : (s : List ℕ) → (length s ≡ 0 → ⊥) → (get_or s 0 0 ≡ 43 → ⊥) → s ≡ unsigned s
unsigned-bare [] h e = refl
unsigned-bare (b ∷ bs) h e = rw (ne_eqb b 43 e)

-- (_ bvN W)
module _ (digits slice : List ℕ) (w : ℕ) (s : slice ≡ digits) (p : Result Pair Refusal) (e : p ≡ parsed Radix.Decimal (unsigned slice)) where
  pub indexed-number : (pair : Pair) → p ≡ Ok pair → IndexedForm digits w (Form.Bits w pair.low pair.high)
  indexed-number pair k n g ts names T ms ws below i last =
      let v : value pair ≡ n = ok_same (ap numbered (sym k ∙ e ∙ ap (λ (t : List ℕ). parsed Radix.Decimal (unsigned t)) s) ∙ g) in
      ap (λ (m : ℕ). v_bits w (m % 2 ^ w)) (sym v)

  pub indexed-refused : (why : Refusal) → p ≡ Err why → IndexedForm digits w Form.NoForm
  indexed-refused why k n g ts names T ms ws below i last = refuses (ap numbered (sym k ∙ e ∙ ap (λ (t : List ℕ). parsed Radix.Decimal (unsigned t)) s) ∙ g)

-- a string at a node, and no string
pub string-reads : (ws ts : List ℕ) (i size offset : ℕ) → node_at ws i ≡ Node.String size offset → (s : List ℕ) → Standing (quoted s) ws ts i → Reads s ts offset size
string-reads ws ts i size offset e s st =
    let k : ◌≡◌ {A = Node} (Node.String (length s) st.from) (Node.String size offset) = sym st.there.here ∙ e in
    let p : length s ≡ size = cc in
    let q : st.from ≡ offset = cc in
    let r = st.there.rest in
    let w = st.there.within in
    record { bytes = sym (ap₂ (λ (x y : ℕ). text_at ts x y) q p) ∙ st.there.written; long = sym p; within = omega arith }

abbrev is_string : Node → Bool
is_string (Node.BitVec width low high) = false
is_string (Node.Numeral low high) = false
is_string (Node.String size offset) = true
is_string (Node.Symbol size offset) = false
is_string (Node.App many next) = false
is_string Node.NoNode = false

other-node : (n : Node) → OneOf (0 ∷ 1 ∷ 3 ∷ 4 ∷ 5 ∷ []) (tag_of NodeType.the_type n) → is_string n ≡ false
other-node (Node.BitVec width low high) h = refl
other-node (Node.Numeral low high) h = refl
other-node (Node.String size offset) h = absurd (miss (0 ∷ 1 ∷ 3 ∷ 4 ∷ 5 ∷ []) 2 tt h)
other-node (Node.Symbol size offset) h = refl
other-node (Node.App many next) h = refl
other-node Node.NoNode h = refl

module _ (ws : List ℕ) (row i : ℕ) (n : Node) (there : n ≡ node_at ws i) where
  pub entity-string : (size offset : ℕ) → n ≡ Node.String size offset → EntityForm ws row i (Form.Entity row offset size)
  entity-string size offset e ts s st names T ms ws' below j last = (s, string-reads ws ts i size offset (sym there ∙ e) s st, refl)

  pub entity-other : OneOf (0 ∷ 1 ∷ 3 ∷ 4 ∷ 5 ∷ []) (tag_of NodeType.the_type n) → EntityForm ws row i Form.NoForm
  entity-other h ts s st names T ms ws' below j last = absurd (true≢false (sym (ap is_string (there ∙ st.there.here)) ∙ other-node n h))

-- an enum member, by the words of its row
pub member-words : (members names : List ℕ) (i row first size : ℕ) (range : Range) → row ≡ word members i 2 → first ≡ word members i 3 → size ≡ word members i 4 → Clamps first size (length names) range →
    MemberForm members names i (Form.Member row range.start (range.end - range.start))
member-words members names i row first size range e f s c ts T ms ws below j last =
    let p : part names first size ≡ part names (word members i 3) (word members i 4) = ap₂ (λ (x y : ℕ). part names x y) f s in
    let o = c.ordered in
    let w = c.within in (
      part names (word members i 3) (word members i 4),
      record { bytes = c.holds names refl ∙ p; long = sym (length_clamped names first size range c) ∙ ap (λ (xs : List ℕ). length xs) p; within = omega arith },
      ap (λ (x : ℕ). v_entity x (part names (word members i 3) (word members i 4))) (sym e),
    )

-- what a search answered
pub found-row : (o : Option ℕ) (q : Option ℕ) (row : ℕ) → q ≡ found_as o → q ≡ Some row → o ≡ Some row
found-row None q row h k = let z : ◌≡◌ {A = (Option ℕ)} None (Some row) = sym h ∙ k in let y : ◌≡◌ {A = ℕ} 0 1 = cc in absurd (omega arith)
found-row (Some r) q row h k = let z : ◌≡◌ {A = (Option ℕ)} (Some r) (Some row) = sym h ∙ k in let y : r ≡ row = cc in ap Some y

pub found_none : (o : Option ℕ) (q : Option ℕ) → q ≡ found_as o → q ≡ None → o ≡ None
found_none None q h k = refl
found_none (Some r) q h k = let z : ◌≡◌ {A = (Option ℕ)} (Some r) None = sym h ∙ k in let y : ◌≡◌ {A = ℕ} 0 1 = cc in absurd (omega arith)

pub member-place : (l : Lent) (name : List ℕ) (row : ℕ) → member_row (tables_of l) name ≡ Some row → at (tables_of l).members row ≡ Some (member_at l row)
unfolding member_row tables_of
member-place l name row e =
    let h = find-within (λ (m : Member). same_text name m.name) (tables_of l).members row e in
    at-tabulate (member_at l) (count l.members) row (omega (arith, h, length-tabulate (member_at l) 0 (count l.members)))

-- `true`, `false`, or an enum member
module _ (members names name : List ℕ) where
  abbrev Is : String → Bool → Type 0
  Is this t = same_text name (bytes this) ≡ t

  lit-value : (l : Lent) (s : Sort) (v : Value) (k : Lit) → lit_of (tables_of l) s v ≡ Ok k → k.value ≡ v
  lit-value l s v k e = let w = went _ _ k e in ap (λ (x : Lit). x.value) (sym (ok_same w.next))

  pub name_true : Is "true" true → WordForm members names name (Form.Truth true)
  name_true h l m n k e ts T ms ws below i last = lit-value l bool (v_bool true) k (rw h at e)

  module _ (no_true : Is "true" false) where
    pub name_false : Is "false" true → WordForm members names name (Form.Truth false)
    name_false g l m n k e ts T ms ws below i last = lit-value l bool (v_bool false) k (rw (no_true, g) at e)

    module _ (no_false : Is "false" false) (q : Option ℕ) (found : FindsMember members names name q) where
      abbrev member_of : Lent → Option ℕ → Result Lit Refusal
      member_of l o = member_lit (tables_of l) (at_row (tables_of l) (tables_of l).members o)

      is_member : (l : Lent) (k : Lit) → word_lit (tables_of l) name ≡ Ok k → member_of l (member_row (tables_of l) name) ≡ Ok k
      is_member l k e = rw (no_true, no_false) at e

      pub name-member : (row : ℕ) → q ≡ Some row → (r : Form) → MemberForm members names row r → WordForm members names name r
      name-member row e r f l m n k w ts T ms ws below i last =
          let o = found-row (member_row (tables_of l) name) q row (found l m n) e in
          let p : member_lit (tables_of l) (Some (member_at l row)) ≡ Ok k =
          sym (ap (member_of l) o ∙ ap (member_lit (tables_of l)) (member-place l name row o)) ∙ is_member l k w in
          let v : v_entity (word members row 2) (part names (word members row 3) (word members row 4)) ≡ k.value =
          ap₂ (λ (xs ys : List ℕ). v_entity (word xs row 2) (part ys (word xs row 3) (word xs row 4))) (sym m) (sym n) ∙ ap (λ (x : Lit). x.value) (ok_same p) in
          subst (λ (x : Value). Says T ms ws ts names below i last x r) v (f ts T ms ws below i last)

      pub name-unknown : q ≡ None → WordForm members names name Form.NoForm
      name-unknown e l m n k w ts T ms ws below i last = refuses (sym (ap (member_of l) (found_none (member_row (tables_of l) name) q (found l m n) e)) ∙ is_member l k w)

pub word_as : (members names name slice : List ℕ) (r : Form) → slice ≡ name → WordForm members names slice r → WordForm members names name r
word_as members names name slice r e f = subst (λ (t : List ℕ). WordForm members names t r) e f
