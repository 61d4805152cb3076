-- What a value is, by the node that stands there.
-- Assumes nothing.
use Rattle.std.proofs.Common.{Option, Ok}
use mathlib.Core.Path.{◌≡◌, refl, sym, ap, ◌∙◌, subst}
use mathlib.Core.Bool.{true, false}
use mathlib.Core.List.{List, [], ◌∷◌}
use Prim.Native.Nat.{ℕ, suc, ◌+◌, ◌*◌, ◌/◌, ◌%◌, ◌^◌, ◌≤◌}
use native.Mathlib.Omega.{arith}
use types.Run.{OneOf, miss}
use denote.Enum.Declared.{tag_of}
use Rattle.arena.specs.declared.node.Node.{Node}
use Rattle.arena.specs.Node.{node_at}
use Rattle.arena.specs.Text.{text_at}
use Rattle.arena.specs.Tree.{Tree, Trees, bit_vec as bits, numeral, string as quoted, symbol, app}
use Rattle.arena.specs.contracts.node.Node as NodeType
use Rattle.tables.specs.Layout.{Lent, tables_of}
use Rattle.shapes.specs.Shows.{Standing, Reads}
use Rattle.sorts.specs.Sort.{levels}
use Rattle.values.specs.Value.{v_bits}
use Rattle.means.specs.Literal.{Lit, read_with}
use Rattle.well_sorted.proofs.Results.{refuses, ok_same, went}
use Rattle.settled.specs.Settled.{Settled}
use Rattle.settled.specs.Taken.{is_ite}
use Rattle.forms.specs.declared.form.Form.{Form}
use Rattle.forms.specs.Form.{Given, Says, FormAt, AppForm}
use Rattle.forms.specs.Leaf.{WordForm}
use Rattle.forms.proofs.Leaves.{string-reads}

-- the node tells the tree that stands there
abbrev Tells : List ℕ → Node → Tree → Type 0
Tells ts (Node.BitVec w low high) t = (n : ℕ) × (t ≡ bits w n) × (low ≡ n % 2 ^ 64) × (high ≡ n / 2 ^ 64)
Tells ts (Node.Numeral low high) t = (n : ℕ) × (t ≡ numeral n)
Tells ts (Node.String size offset) t = (s : List ℕ) × (t ≡ quoted s) × Reads s ts offset size
Tells ts (Node.Symbol size offset) t = (s : List ℕ) × (t ≡ symbol s) × (text_at ts offset size ≡ s)
Tells ts (Node.App many next) t = (us : Trees) × (t ≡ app us)
Tells ts Node.NoNode t = ⊥

tells : (ws ts : List ℕ) (i : ℕ) (t : Tree) → Standing t ws ts i → Tells ts (node_at ws i) t
tells ws ts i (bits w n) s = subst (λ (x : Node). Tells ts x (bits w n)) (sym s.there.here) (n, refl, refl, refl)
tells ws ts i (numeral n) s = subst (λ (x : Node). Tells ts x (numeral n)) (sym s.there.here) (n, refl)
tells ws ts i (quoted q) s = subst (λ (x : Node). Tells ts x (quoted q)) (sym s.there.here) (q, refl, string-reads ws ts i _ _ s.there.here q s)
tells ws ts i (symbol q) s = subst (λ (x : Node). Tells ts x (symbol q)) (sym s.there.here) (q, refl, s.there.written)
tells ws ts i (app us) s = subst (λ (x : Node). Tells ts x (app us)) (sym s.there.here) (us, refl)

module _ (sorts members names ws ts ms : List ℕ) (i : ℕ) (n : Node) (there : n ≡ node_at ws i) where
  -- of a tree that stands there
  abbrev Of : Lent → ℕ → Option ℕ → Lit → Form → Tree → Type 0
  Of l below e k r t = (s : Standing t ws ts i) → read_with (tables_of l) true (suc below) e t ≡ Ok k → is_ite t ≡ false → Settled (tables_of l) ms ws ts i s.next →
      Says (tables_of l) ms ws ts names below i s.next k.value r

  abbrev Arm : Form → Node → Type 0
  Arm r x = (l : Lent) → Given sorts members names l → (t : Tree) → Tells ts x t → (below : ℕ) (e : Option ℕ) (k : Lit) → suc below ≤ levels → Of l below e k r t

  by-node : (r : Form) (x : Node) → n ≡ x → Arm r x → FormAt sorts members names ws ts ms i r
  by-node r x e f l g below y k first end most h =
      let s = h.stood in
      f l g s.tree (subst (λ (z : Node). Tells ts z s.tree) (sym there ∙ e) (tells ws ts i s.tree s.there)) below y k most s.there s.reads h.plain s.settled

  pub node-bits : (w low high : ℕ) → n ≡ Node.BitVec w low high → FormAt sorts members names ws ts ms i (Form.Bits w low high)
  unfolding read_with
  node-bits w low high e = by-node (Form.Bits w low high) (Node.BitVec w low high) e (λ l g t d below y k most s m plain st.
      let q = went _ _ k (subst (λ (x : Tree). read_with (tables_of l) true (suc below) y x ≡ Ok k) d.1 m) in
      let z : low + high * 2 ^ 64 ≡ d.0 = whole d.0 low high d.2 d.3 in
      sym (ap (λ (x : ℕ). v_bits w (x % 2 ^ w)) z ∙ ap (λ (x : Lit). x.value) (ok_same q.next)))
    where
      whole : (n low high : ℕ) → low ≡ n % 2 ^ 64 → high ≡ n / 2 ^ 64 → low + high * 2 ^ 64 ≡ n
      whole n low high p q = omega arith

  pub node-string : (size offset : ℕ) → n ≡ Node.String size offset → FormAt sorts members names ws ts ms i (Form.Text offset size)
  unfolding read_with
  node-string size offset e = by-node (Form.Text offset size) (Node.String size offset) e (λ l g t d below y k most s m plain st.
      let q = went _ _ k (subst (λ (x : Tree). read_with (tables_of l) true (suc below) y x ≡ Ok k) d.1 m) in
      (d.0, d.2, ap (λ (x : Lit). x.value) (sym (ok_same q.next))))

  pub node-word : (size offset : ℕ) → n ≡ Node.Symbol size offset → (r : Form) → WordForm members names (text_at ts offset size) r → FormAt sorts members names ws ts ms i r
  unfolding read_with
  node-word size offset e r f = by-node r (Node.Symbol size offset) e (λ l g t d below y k most s m plain st.
      let m' = subst (λ (x : Tree). read_with (tables_of l) true (suc below) y x ≡ Ok k) d.1 m in
      subst (λ (x : List ℕ). WordForm members names x r) d.2 f l g.members-are g.names-are k m' ts (tables_of l) ms ws below i s.next)

  pub node-app : (many next : ℕ) → n ≡ Node.App many next → (r : Form) → AppForm sorts names ws ts ms i r → FormAt sorts members names ws ts ms i r
  node-app many next e r f = by-node r (Node.App many next) e (λ l g t d below y k most.
      subst (Of l below y k r) (sym d.1) (λ s m plain st. f l g.sorts-are g.names-are d.0 s below y k most m plain st))

  -- a numeral is no literal
  pub node-other : OneOf (1 ∷ 5 ∷ []) (tag_of NodeType.the_type n) → FormAt sorts members names ws ts ms i Form.NoForm
  unfolding read_with
  node-other h = by-node Form.NoForm n refl (λ l g t d below y k most s m plain st. go n h t d (λ j e. refuses (subst (λ (x : Tree). read_with (tables_of l) true (suc below) y x ≡ Ok k) e m)))
    where
      go : (n : Node) → OneOf (1 ∷ 5 ∷ []) (tag_of NodeType.the_type n) → (t : Tree) → Tells ts n t → ((j : ℕ) → t ≡ numeral j → ⊥) → ⊥
      go (Node.BitVec w low high) h t d f = miss (1 ∷ 5 ∷ []) 0 tt h
      go (Node.Numeral low high) h t d f = f d.0 d.1
      go (Node.String size offset) h t d f = miss (1 ∷ 5 ∷ []) 2 tt h
      go (Node.Symbol size offset) h t d f = miss (1 ∷ 5 ∷ []) 3 tt h
      go (Node.App many next) h t d f = miss (1 ∷ 5 ∷ []) 4 tt h
      go Node.NoNode h t d f = d
