-- What a node is tells what tree stands there.
-- Assumes nothing.
use Rattle.std.proofs.Common.{Some}
use mathlib.Core.Path.{◌≡◌, refl, sym, ap, ◌∙◌, subst}
use mathlib.Core.List.{List}
use Prim.Native.Nat.{ℕ, ◌+◌, ◌^◌, ◌%◌, ◌/◌}
use native.Mathlib.Omega.{arith}
use lib.ListN.{length}
use Rattle.arena.specs.declared.node.Node.{Node}
use Rattle.arena.specs.declared.node.Node.TheVariants.{BitVec, Numeral, String, Symbol, App, NoNode}
use Rattle.arena.specs.Node.{node_at}
use Rattle.arena.specs.Text.{text_at}
use Rattle.arena.proofs.Views.{node-within}
use Rattle.arena.specs.Tree.{Tree, Trees, bit_vec, numeral, string, symbol, app, count}
use Rattle.shapes.specs.Shows.{Standing, StandingAll, WordAt, IndexOf, WideAt, PartsAt}

-- the kind of a node, and of the tree that stands there
abbrev pub kind : Node → ℕ
kind (BitVec w l h) = 1
kind (Numeral l h) = 2
kind (String n o) = 3
kind (Symbol n o) = 4
kind (App n e) = 5
kind NoNode = 0

abbrev pub kind_of : Tree → ℕ
kind_of (bit_vec w n) = 1
kind_of (numeral n) = 2
kind_of (string s) = 3
kind_of (symbol s) = 4
kind_of (app us) = 5

module _ (ws ts : List ℕ) (i : ℕ) where
  pub kinds : (a : Tree) → Standing a ws ts i → kind (node_at ws i) ≡ kind_of a
  kinds (bit_vec w n) s = ap kind s.there.here
  kinds (numeral n) s = ap kind s.there.here
  kinds (string t) s = ap kind s.there.here
  kinds (symbol t) s = ap kind s.there.here
  kinds (app us) s = ap kind s.there.here

module _ (ws : List ℕ) (i : ℕ) where
  pub symbol-there : (size offset : ℕ) → node_at ws i ≡ Symbol size offset → WordAt ws i (Some (record { size = size; offset = offset }))
  symbol-there size offset e ts (bit_vec w n) s = let k = kinds ws ts i (bit_vec w n) s in let h = ap kind e in absurd (omega arith)
  symbol-there size offset e ts (numeral n) s = let k = kinds ws ts i (numeral n) s in let h = ap kind e in absurd (omega arith)
  symbol-there size offset e ts (string t) s = let k = kinds ws ts i (string t) s in let h = ap kind e in absurd (omega arith)
  symbol-there size offset e ts (symbol t) s =
      let same : ◌≡◌ {A = Node} (Symbol (length t) s.from) (Symbol size offset) = sym s.there.here ∙ e in
      let long : length t ≡ size = cc in
      let off : s.from ≡ offset = cc in
      let r = s.there.rest in
      let w = s.there.within in (
        t,
        refl,
        record {
          bytes = subst (λ (o : ℕ). text_at ts o size ≡ t) off (subst (λ (l : ℕ). text_at ts s.from l ≡ t) long s.there.written);
          long = sym long;
          within = omega arith;
        },
      )
  symbol-there size offset e ts (app us) s = let k = kinds ws ts i (app us) s in let h = ap kind e in absurd (omega arith)

  pub numeral-there : (low high : ℕ) → node_at ws i ≡ Numeral low high → IndexOf ws i (Some (record { low = low; high = high }))
  numeral-there low high e ts (bit_vec w n) s = let k = kinds ws ts i (bit_vec w n) s in let h = ap kind e in absurd (omega arith)
  numeral-there low high e ts (numeral n) s =
      let same : ◌≡◌ {A = Node} (Numeral (n % 2 ^ 64) (n / 2 ^ 64)) (Numeral low high) = sym s.there.here ∙ e in
      let l : n % 2 ^ 64 ≡ low = cc in
      let h : n / 2 ^ 64 ≡ high = cc in
      ap numeral (omega arith)
  numeral-there low high e ts (string t) s = let k = kinds ws ts i (string t) s in let h = ap kind e in absurd (omega arith)
  numeral-there low high e ts (symbol t) s = let k = kinds ws ts i (symbol t) s in let h = ap kind e in absurd (omega arith)
  numeral-there low high e ts (app us) s = let k = kinds ws ts i (app us) s in let h = ap kind e in absurd (omega arith)

  pub bits-there : (width low high : ℕ) → node_at ws i ≡ BitVec width low high → width ≡ 64 → WideAt ws i (Some low)
  bits-there width low high e h ts (bit_vec w n) s =
      let same : ◌≡◌ {A = Node} (BitVec w (n % 2 ^ 64) (n / 2 ^ 64)) (BitVec width low high) = sym s.there.here ∙ e in
      let v : w ≡ width = cc in
      let l : n % 2 ^ 64 ≡ low = cc in
      (n, ap (λ (x : ℕ). bit_vec x n) (v ∙ h), sym l)
  bits-there width low high e h ts (numeral n) s = let k = kinds ws ts i (numeral n) s in let h = ap kind e in absurd (omega arith)
  bits-there width low high e h ts (string t) s = let k = kinds ws ts i (string t) s in let h = ap kind e in absurd (omega arith)
  bits-there width low high e h ts (symbol t) s = let k = kinds ws ts i (symbol t) s in let h = ap kind e in absurd (omega arith)
  bits-there width low high e h ts (app us) s = let k = kinds ws ts i (app us) s in let h = ap kind e in absurd (omega arith)

  pub list-there : (many end : ℕ) → node_at ws i ≡ App many end → PartsAt ws i (Some many)
  list-there many end e = (node-within ws i e refl, λ ts a s. children ts a s)
    where
      children : (ts : List ℕ) (a : Tree) → Standing a ws ts i → (us : Trees) × (a ≡ app us) × StandingAll us ws ts (i + 1) many
      children ts (bit_vec w n) s = let k = kinds ws ts i (bit_vec w n) s in let h = ap kind e in absurd (omega arith)
      children ts (numeral n) s = let k = kinds ws ts i (numeral n) s in let h = ap kind e in absurd (omega arith)
      children ts (string t) s = let k = kinds ws ts i (string t) s in let h = ap kind e in absurd (omega arith)
      children ts (symbol t) s = let k = kinds ws ts i (symbol t) s in let h = ap kind e in absurd (omega arith)
      children ts (app us) s =
          let same : ◌≡◌ {A = Node} (App (count us) s.next) (App many end) = sym s.there.here ∙ e in
          let c : count us ≡ many = cc in
          (us, refl, record { next = s.next; from = s.from; rest = s.rest; there = s.there.children; many-are = sym c })

-- the children of a list
pub children-of : (ws ts : List ℕ) (i many : ℕ) → PartsAt ws i (Some many) → (us : Trees) → Standing (app us) ws ts i → StandingAll us ws ts (i + 1) many
children-of ws ts i many h us s =
    let g = h.1 ts (app us) s in
    let e : us ≡ g.0 = cc in
    subst (λ (vs : Trees). StandingAll vs ws ts (i + 1) many) (sym e) g.2
