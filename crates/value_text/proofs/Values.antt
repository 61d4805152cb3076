-- A value opened by the node that stands there, and what is written once it is: one law for each way out.
-- Assumes nothing.
use Rattle.std.proofs.Common.{Option, Ok}
use mathlib.Core.Path.{◌≡◌, refl, sym, ap, ◌∙◌, subst}
use mathlib.Core.Bool.{false}
use mathlib.Core.List.{List, [], ◌∷◌}
use Prim.Native.Nat.{ℕ, suc, ◌+◌, ◌-◌, ◌*◌, ◌/◌, ◌%◌, ◌^◌}
use native.Mathlib.Omega.{arith}
use types.Run.{OneOf, miss}
use denote.Enum.Declared.{tag_of}
use Rattle.ground.specs.Bytes.{bytes}
use Rattle.lent.specs.Put.{Offers}
use Rattle.arena.specs.declared.node.Node.{Node}
use Rattle.arena.specs.Node.{node_at}
use Rattle.arena.specs.contracts.node.Node as NodeType
use Rattle.arena.specs.Text.{text_at}
use Rattle.arena.specs.Tree.{Tree, Trees, bit_vec as bits, numeral, string as quoted, symbol, app}
use Rattle.tables.specs.Layout.{Lent, tables_of}
use Rattle.tables.specs.Sort.{Tables}
use Rattle.shapes.specs.Shows.{Standing}
use Rattle.values.specs.Value.{Value, v_string, v_bits, v_set}
use Rattle.values.specs.Text.{text}
use Rattle.values.specs.Normal.{normal}
use Rattle.values.specs.HasSort.{HasSort, Loose}
use Rattle.means.specs.Literal.{Lit, read, read_with}
use Rattle.well_sorted.proofs.Results.{refuses, ok_same, went}
use Rattle.well_sorted.proofs.Readings.{Reading, r_true, r_false, r-member, reading}
use Rattle.value_text.specs.declared.open.Opened.{Opened}
use Rattle.value_text.specs.Leaf.{WordText}
use Rattle.value_text.specs.Opened.{Opens, OpensValue, OpensApp, ClosesSet}
use Rattle.value_text.specs.Value.{Given, WritesValue, WritesMembers, WritesFields}
use Rattle.value_text.proofs.Apps.{writes_as, writes-plain}
use Rattle.value_text.proofs.Lays.{lays_then, lays_put, lays_as, wrote_front}
use Rattle.value_text.proofs.Sets.{up}

-- the node tells the tree that stands there
abbrev Tells : List ℕ → List ℕ → Node → Tree → Type 0
Tells ws ts (Node.BitVec w low high) t = (n : ℕ) × (t ≡ bits w n) × (low ≡ n % 2 ^ 64) × (high ≡ n / 2 ^ 64)
Tells ws ts (Node.Numeral low high) t = (n : ℕ) × (t ≡ numeral n)
Tells ws ts (Node.String size offset) t = (s : List ℕ) × (t ≡ quoted s) × (text_at ts offset size ≡ s)
Tells ws ts (Node.Symbol size offset) t = (s : List ℕ) × (t ≡ symbol s) × (text_at ts offset size ≡ s)
Tells ws ts (Node.App many next) t = (us : Trees) × (t ≡ app us)
Tells ws ts Node.NoNode t = ⊥

tells : (ws ts : List ℕ) (i : ℕ) (t : Tree) → Standing t ws ts i → Tells ws ts (node_at ws i) t
tells ws ts i (bits w n) s = subst (λ (x : Node). Tells ws ts x (bits w n)) (sym s.there.here) (n, refl, refl, refl)
tells ws ts i (numeral n) s = subst (λ (x : Node). Tells ws ts x (numeral n)) (sym s.there.here) (n, refl)
tells ws ts i (quoted q) s = subst (λ (x : Node). Tells ws ts x (quoted q)) (sym s.there.here) (q, refl, s.there.written)
tells ws ts i (symbol q) s = subst (λ (x : Node). Tells ws ts x (symbol q)) (sym s.there.here) (q, refl, s.there.written)
tells ws ts i (app us) s = subst (λ (x : Node). Tells ws ts x (app us)) (sym s.there.here) (us, refl)

-- what a word is read as has no set in it
word-plain : (T : Tables) (a : ℕ) (e : Option ℕ) (s : List ℕ) (row : ℕ) (v : Value) → Reading false T a e (symbol s) row v → text v ≡ text (normal v)
unfolding normal
word-plain T a e s row v (r_true h) = refl
word-plain T a e s row v (r_false h) = refl
word-plain T a e s row v (r-member i m h k) = refl

-- a value opened, by the node that stands there
module _ (sorts members names ws ts : List ℕ) (i : ℕ) (n : Node) (there : n ≡ node_at ws i) (a b : List ℕ) where
  abbrev Arm : Opened → Node → Type 0
  Arm o x = (l : Lent) → Given sorts members names l → (t : Tree) → Standing t ws ts i → Tells ws ts x t → (below : ℕ) (e : Option ℕ) (k : Lit) → read (tables_of l) (suc below) e t ≡ Ok k →
      (row : ℕ) → HasSort k.value Loose (tables_of l) row → Opens (tables_of l) ws ts below k.value a b o

  by-node : (o : Opened) (x : Node) → n ≡ x → Arm o x → OpensValue sorts members names ws ts i a b o
  by-node o x e f l g t s below y k m row hs = f l g t s (subst (λ (z : Node). Tells ws ts z t) (sym there ∙ e) (tells ws ts i t s)) below y k m row hs

  pub node-bits : (r w low high : ℕ) → n ≡ Node.BitVec w low high → Offers a b 0 (text (v_bits w ((low + high * 2 ^ 64) % 2 ^ w))) r → OpensValue sorts members names ws ts i a b (Opened.Whole r)
  unfolding read_with normal
  node-bits r w low high e f = by-node (Opened.Whole r) (Node.BitVec w low high) e (λ l g t s d below y k m row hs.
      let q = went _ _ k (subst (λ (x : Tree). read (tables_of l) (suc below) y x ≡ Ok k) d.1 m) in
      let z : low + high * 2 ^ 64 ≡ d.0 = whole d.0 low high d.2 d.3 in
      let v : v_bits w (d.0 % 2 ^ w) ≡ k.value = ap (λ (x : Lit). x.value) (ok_same q.next) in
      writes_as (v_bits w ((low + high * 2 ^ 64) % 2 ^ w)) k.value (ap (λ (x : ℕ). v_bits w (x % 2 ^ w)) z ∙ v) a b r (writes-plain (v_bits w ((low + high * 2 ^ 64) % 2 ^ w)) refl f))
    where
      whole : (n low high : ℕ) → low ≡ n % 2 ^ 64 → high ≡ n / 2 ^ 64 → low + high * 2 ^ 64 ≡ n
      whole n low high p q = omega arith

  pub node-string : (r size offset : ℕ) → n ≡ Node.String size offset → Offers a b 0 (text (v_string (text_at ts offset size))) r → OpensValue sorts members names ws ts i a b (Opened.Whole r)
  unfolding read_with normal
  node-string r size offset e f = by-node (Opened.Whole r) (Node.String size offset) e (λ l g t s d below y k m row hs.
      let q = went _ _ k (subst (λ (x : Tree). read (tables_of l) (suc below) y x ≡ Ok k) d.1 m) in
      let v : v_string d.0 ≡ k.value = ap (λ (x : Lit). x.value) (ok_same q.next) in
      writes_as (v_string (text_at ts offset size)) k.value (ap v_string d.2 ∙ v) a b r (writes-plain (v_string (text_at ts offset size)) refl f))

  pub node-word : (r size offset : ℕ) → n ≡ Node.Symbol size offset → WordText members names (text_at ts offset size) a b r → OpensValue sorts members names ws ts i a b (Opened.Whole r)
  unfolding read_with
  node-word r size offset e f = by-node (Opened.Whole r) (Node.Symbol size offset) e (λ l g t s d below y k m row hs.
      let m' = subst (λ (x : Tree). read (tables_of l) (suc below) y x ≡ Ok k) d.1 m in
      let o = subst (λ (x : List ℕ). WordText members names x a b r) d.2 f l g.members-are g.names-are k m' in
      writes-plain k.value (word-plain (tables_of l) below y d.0 k.row k.value (reading (tables_of l) false below y (symbol d.0) k m')) o)

  pub node-app : (o : Opened) (many next : ℕ) → n ≡ Node.App many next → OpensApp sorts names ws ts i a b o → OpensValue sorts members names ws ts i a b o
  node-app o many next e f = by-node o (Node.App many next) e (λ l g t s d below y k m row hs.
      f l g.sorts-are g.names-are d.0 (subst (λ (x : Tree). Standing x ws ts i) d.1 s) below y k (subst (λ (x : Tree). read (tables_of l) (suc below) y x ≡ Ok k) d.1 m) row hs)

  -- a numeral is no literal
  pub node-other : (o : Opened) → OneOf (1 ∷ 5 ∷ []) (tag_of NodeType.the_type n) → OpensValue sorts members names ws ts i a b o
  unfolding read_with
  node-other o h = by-node o n refl (λ l g t s d below y k m row hs. go n h t d (λ j e. refuses (subst (λ (x : Tree). read (tables_of l) (suc below) y x ≡ Ok k) e m)))
    where
      go : {R : Type 0} (n : Node) → OneOf (1 ∷ 5 ∷ []) (tag_of NodeType.the_type n) → (t : Tree) → Tells ws ts n t → ((j : ℕ) → t ≡ numeral j → R) → R
      go (Node.BitVec w low high) h t d f = absurd (miss (1 ∷ 5 ∷ []) 0 tt h)
      go (Node.Numeral low high) h t d f = f d.0 d.1
      go (Node.String size offset) h t d f = absurd (miss (1 ∷ 5 ∷ []) 2 tt h)
      go (Node.Symbol size offset) h t d f = absurd (miss (1 ∷ 5 ∷ []) 3 tt h)
      go (Node.App many next) h t d f = absurd (miss (1 ∷ 5 ∷ []) 4 tt h)
      go Node.NoNode h t d f = absurd d

-- the value, once it was opened
module _ (sorts members names ws ts : List ℕ) (i allow : ℕ) where
  pub value_nested : (a b : List ℕ) (r : ℕ) → allow ≡ 0 → WritesValue sorts members names ws ts i allow a b r
  unfolding read_with
  value_nested a b r z l g t s e k m = refuses (subst (λ (j : ℕ). read (tables_of l) j e t ≡ Ok k) z m)

  module _ (nonzero : allow ≡ 0 → ⊥) (a b : List ℕ) (o : Opened) (opened : OpensValue sorts members names ws ts i a b o) where
    deeper : (l : Lent) (t : Tree) (e : Option ℕ) (k : Lit) → read (tables_of l) allow e t ≡ Ok k → read (tables_of l) (suc (allow - 1)) e t ≡ Ok k
    deeper l t e k m = subst (λ (j : ℕ). read (tables_of l) j e t ≡ Ok k) (up allow nonzero) m

    opened_as : (x : Opened) → o ≡ x → (l : Lent) → Given sorts members names l → (t : Tree) → Standing t ws ts i → (e : Option ℕ) (k : Lit) → read (tables_of l) allow e t ≡ Ok k →
        (row : ℕ) → HasSort k.value Loose (tables_of l) row → Opens (tables_of l) ws ts (allow - 1) k.value a b x
    opened_as x is l g t s e k m row hs = subst (λ (y : Opened). Opens (tables_of l) ws ts (allow - 1) k.value a b y) is (opened l g t s (allow - 1) e k (deeper l t e k m) row hs)

    pub value-whole : (r : ℕ) → o ≡ Opened.Whole r → WritesValue sorts members names ws ts i allow a b r
    value-whole r is l g t s e k m row hs = opened_as (Opened.Whole r) is l g t s e k m row hs

    pub value-fields : (first many place : ℕ) → o ≡ Opened.Fields first many place → (c d : List ℕ) (end r : ℕ) → WritesFields sorts members names ws ts first many (allow - 1) b c place end →
        Offers c d end (bytes ")") r → WritesValue sorts members names ws ts i allow a d r
    value-fields first many place is c d end r f p l g t s e k m row hs room =
        let w = opened_as (Opened.Fields first many place) is l g t s e k m row hs in
        let h = w.2 in
        wrote_front
        (lays_as (sym h.as_read) (sym h.as_written)
        (lays_then (lays_put w.1) (lays_then (f l g h.trees h.there h.fields h.reads) (lays_put p)))) room

    pub value_set : (place : ℕ) → o ≡ Opened.Set place → (c d : List ℕ) (end r : ℕ) → WritesMembers sorts members names ws ts i (allow - 1) b c place end → ClosesSet c d place end r →
        WritesValue sorts members names ws ts i allow a d r
    value_set place is c d end r f p l g t s e k m row hs =
        let w = opened_as (Opened.Set place) is l g t s e k m row hs in
        let hs' = subst (λ (v : Value). HasSort v Loose (tables_of l) row) w.1.1 hs in
        writes_as (v_set w.1.0) k.value (sym w.1.1) a d r
        (p a b w.0 (tables_of l) hs'.0.inner w.1.0 hs'.0.has (f l g t s e k (deeper l t e k m) w.1.0 w.1.1 hs'.0.inner hs'.0.has))
