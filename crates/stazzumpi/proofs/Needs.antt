-- Every need that these calls tell is below 2 ^ 56, so that a refusal's word tells its number and its detail exactly.
-- Assumes nothing.
use Rattle.std.specs.Prelude.{⊤}
use Rattle.std.proofs.Common.{Result}
use mathlib.Core.Path.{◌≡◌, refl}
use mathlib.Core.List.{List}
use Prim.Native.Nat.{ℕ, ◌/◌, ◌^◌, ◌≤◌, ◌<◌}
use native.Mathlib.Omega.{arith}
use lib.Dec.{leb}
use lib.ListN.{length}
use borrow.Author.Tests.{le-leb, lt-leb}
use Rattle.ground.proofs.Tests.{by_order, by_test, by_cond}
use Rattle.refusals.specs.Number.{detail_of}
use Rattle.refusals.proofs.Stars.{unstarred_plain}
use Rattle.lent.specs.Left.{writing}
use Rattle.strings.specs.Points.{points}
use Rattle.strings.specs.Text.{text, any_surrogate, decoded}
use Rattle.strings.proofs.Texts.{Bytes, text_le}
use Rattle.arena.specs.Tree.{Tree, Trees, bit_vec, numeral, string, symbol, app, nil, cons, nodes, nodes_of, depth, depth_of}
use Rattle.arena.specs.Tree as arena
use Rattle.arena.specs.Layout.{stride}
use Rattle.brackets.specs.Walk.{Outcome, tree, refused}
use Rattle.refusals.specs.Limit.{input_limit}
use Rattle.reader.specs.Read.{parse, fitted, settled, reading}
use Rattle.reader.specs.Read as reader
use Rattle.reader.proofs.Bounds.{accepted-small}
use Rattle.reader.proofs.Faults.{parse_unstarred}
use Rattle.tables.specs.Layout.{Lent}
use Rattle.tables.specs.Check as tables
use Rattle.told.specs.Tells.{Yield, yields, refuses}
use Rattle.told.specs.Yields.{written, read, passed}
use Rattle.refusals.specs.declared.Refusal.{Refusal}

abbrev pub Small : Yield → Type 0
Small (yields ns) = Unit {0}
Small (refuses why) = detail_of why < 2 ^ 56

pub decoded-small : (s d : List ℕ) → Bytes s → Small (written (decoded s d).answer)
unfolding decoded writing
decoded-small s d bytes =
    by_order input_limit (length s) (λ h. rw (lt-leb (length s) input_limit h) (omega arith))
    (λ h.
    rw (le-leb (length s) input_limit h)
    (by_test (any_surrogate (points s)) (λ t. rw t (omega arith))
    (λ t.
    rw t
    (by_test (leb (length (text s)) (length d)) (λ u. rw u tt) (λ u. rw u (omega (arith, text_le s bytes)))))))

-- brackets are nodes
mutual
  depth_le : (t : Tree) → depth t ≤ nodes t
  depth_le (bit_vec w n) = omega arith
  depth_le (numeral n) = omega arith
  depth_le (string s) = omega arith
  depth_le (symbol s) = omega arith
  depth_le (app ts) = omega (arith, depths_le ts)

  depths_le : (ts : Trees) → depth_of ts ≤ nodes_of ts
  depths_le nil = omega arith
  depths_le (cons t ts) = omega (arith, depth_le t, depths_le ts)

abbrev SmallLeft : reader.Left → Type 0
SmallLeft left = Small (read left.answer)

fitted-small : (N T S : List ℕ) (t : Tree) → nodes t < 2 ^ 56 → length (arena.text t) < 2 ^ 56 → Small (read (fitted N T S t).answer)
fitted-small N T S t n x =
    by_cond SmallLeft (leb (nodes t) (length N / stride)) _ _
    (λ _. by_cond SmallLeft (leb (length (arena.text t)) (length T)) _ _
    (λ _. by_cond SmallLeft (leb (depth t) (length S)) _ _ (λ _. tt) (λ _. omega (arith, depth_le t)))
    (λ _. x))
    (λ _. n)

settled-small : (N T S s : List ℕ) → Bytes s → length s ≤ input_limit → (o : Outcome) → parse s ≡ o → Small (read (settled N T S o).answer)
settled-small N T S s bytes h (tree t) e =
    let b = accepted-small s t bytes e in
    fitted-small N T S t (omega (arith, b.few)) (omega (arith, b.short))
settled-small N T S s bytes h (refused why) e = omega (arith, unstarred_plain why (parse_unstarred s why e))

pub reading_small : (N T S s : List ℕ) → Bytes s → Small (read (reading N T S s).answer)
unfolding reading
reading_small N T S s bytes =
    by_order input_limit (length s) (λ h. rw (lt-leb (length s) input_limit h) (omega arith))
    (λ h. rw (le-leb (length s) input_limit h) (settled-small N T S s bytes h (parse s) refl))

pub tables-small : (l : Lent) → Small (passed (tables.checked l))
tables-small l = by_cond (λ (c : Result ⊤ Refusal). Small (passed c)) (tables.passes l) _ _ (λ _. tt) (λ _. omega arith)
