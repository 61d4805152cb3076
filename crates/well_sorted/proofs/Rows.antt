-- The row of a literal that is read is there, in lawful tables and whatever the tree.
-- Assumes nothing.
use Rattle.std.proofs.Common.{Option, Ok}
use mathlib.Core.Path.{◌≡◌}
use mathlib.Core.Bool.{Bool, true}
use Prim.Native.Nat.{ℕ, zero, suc, ◌<◌}
use lib.ListN.{length}
use Rattle.arena.specs.Tree.{Tree}
use Rattle.tables.specs.Sort.{Tables}
use Rattle.tables.specs.Rules.{lawful}
use Rattle.tables.proofs.Lawful.{Lawful, lawful-parts}
use Rattle.values.specs.Value.{Value}
use Rattle.means.specs.Literal.{Lit, read_with}
use Rattle.well_sorted.proofs.Results.{refuses}
use Rattle.well_sorted.proofs.Sorts.{There, there-within}
use Rattle.well_sorted.proofs.Readings.{Reading, r-bits, r-string, r_true, r_false, r-member, r-none, r-as_some, r_some, r-empty, r-singleton, r-union, r-unary, r-binary, r-ite, r-extension, r-indexed, r-entity, r_record, reading}
use Rattle.well_sorted.proofs.Members.{member-kept}

module _ (T : Tables) where
  reading-there : (o : Bool) → Lawful T → (a : ℕ) → ((e : Option ℕ) (t : Tree) (l : Lit) → read_with T o a e t ≡ Ok l → There T l.row) → (e : Option ℕ) (t : Tree) (row : ℕ) (v : Value) → Reading o T a e t row v → There T row
  reading-there o rules a below e _ _ _ (r-bits k) = (_, k)
  reading-there o rules a below e _ _ _ (r-string k) = (_, k)
  reading-there o rules a below e _ _ _ (r_true k) = (_, k)
  reading-there o rules a below e _ _ _ (r_false k) = (_, k)
  reading-there o rules a below e _ _ _ (r-member i m h k) = (_, (member-kept T m rules i k).here)
  reading-there o rules a below e _ _ _ (r-none q h k) = (_, k)
  reading-there o rules a below e _ _ _ (r-as_some l h k m) = (_, k)
  reading-there o rules a below e _ _ _ (r_some x l h m k) = (_, k)
  reading-there o rules a below e _ _ _ (r-empty q h k) = (_, k)
  reading-there o rules a below e _ _ _ (r-singleton x l h m k) = (_, k)
  reading-there o rules a below e _ _ _ (r-union {v = v} l m f g h x y) = below e v l f
  reading-there o rules a below e _ _ _ (r-unary op l h m f k) = (_, k)
  reading-there o rules a below e _ _ _ (r-binary op l m h x y f k) = (_, k)
  reading-there o rules a below e _ _ _ (r-ite {v = v} k l m h f g x y q) = below e v l g
  reading-there o rules a below e _ _ _ (r-extension k) = (_, k)
  reading-there o rules a below e _ _ _ (r-indexed h f k) = (_, k)
  reading-there o rules a below e _ _ _ (r-entity h k) = (_, k)
  reading-there o rules a below e _ _ _ (r_record fs h k g) = (_, k)

  module _ (rules : lawful T ≡ true) where
    pub read-there : (o : Bool) (allow : ℕ) (expected : Option ℕ) (t : Tree) (l : Lit) → read_with T o allow expected t ≡ Ok l → There T l.row
    unfolding read_with
    read-there o zero e t l m = refuses m
    read-there o (suc a) e t l m = reading-there o (lawful-parts T rules) a (λ x u k n. read-there o a x u k n) e t l.row l.value (reading T o a e t l m)

    pub read-within : (o : Bool) (allow : ℕ) (expected : Option ℕ) (t : Tree) (l : Lit) → read_with T o allow expected t ≡ Ok l → l.row < length T.sorts
    read-within o allow e t l m = there-within T l.row (read-there o allow e t l m)
