-- A literal that is read has the sort of its row, in lawful tables and where the strings are bytes.
-- Assumes nothing.
use Rattle.std.proofs.Common.{Option, Some, Ok}
use mathlib.Core.Path.{◌≡◌, refl, sym, ◌∙◌, subst}
use mathlib.Core.Bool.{Bool, true, false, ◌&&◌}
use mathlib.Core.List.{List}
use Prim.Native.Nat.{ℕ, zero, suc, ◌%◌, ◌^◌, ◌≤◌, ◌<◌}
use native.Mathlib.Nat.{mod-lt, mod-add-div'}
use native.Mathlib.Omega.{arith}
use lib.Dec.{leb, ltb}
use lib.Pow.{pow_pos}
use borrow.Author.Tests.{leb-true, ltb-true}
use Rattle.ground.specs.Lists.{at}
use Rattle.ground.proofs.Tests.{by_test, by_order, both_right}
use Rattle.words.specs.declared.digits.Radix.{Radix}
use Rattle.words.specs.Radix.{base_of}
use Rattle.words.specs.Run.{number, digits, some_byte, parsed}
use Rattle.words.specs.Extension.{signed}
use Rattle.words.proofs.Signs.{signed_of}
use Rattle.arena.specs.Tree.{Tree, Trees}
use Rattle.tables.specs.Sort.{bit_vec, Tables}
use Rattle.tables.specs.Rules.{width_limit, lawful}
use Rattle.tables.proofs.Lawful.{Lawful, lawful-parts, sort-right}
use Rattle.values.specs.Value.{Value, Values, v_set}
use Rattle.values.specs.HasSort.{HasSort, FieldSorts, Loose}
use Rattle.values.proofs.Digits.{InWord}
use Rattle.values.proofs.Unions.{union-fits}
use Rattle.means.specs.Literal.{Lit, unsigned, numbered, read_with}
use Rattle.well_sorted.specs.Octets.{Octets, OctetsAll}
use Rattle.well_sorted.proofs.Results.{refuses, ok_same}
use Rattle.well_sorted.proofs.Readings.{FieldReadings, f_nil, f_cons, Reading, r-bits, r-string, r_true, r_false, r-member, r-none, r-as_some, r_some, r-empty, r-singleton, r-union, r-unary, r-binary, r-ite, r-extension, r-indexed, r-entity, r_record, reading}
use Rattle.well_sorted.proofs.Insides.{members-fit}
use Rattle.well_sorted.proofs.Members.{member-kept}

-- a number that was parsed has 128 bits
pub number_fits : (r : Radix) (s : List ℕ) (n : ℕ) → numbered (parsed r s) ≡ Ok n → n < 2 ^ 128
unfolding parsed
number_fits r s n e =
    by_test (some_byte s && digits r s && ltb (number (base_of r) s) (2 ^ 128))
    (λ h.
    let k = sym (mod-add-div' (number (base_of r) s) (2 ^ 64)) ∙ ok_same (rw h at e) in
    subst (λ (m : ℕ). m < 2 ^ 128) k (ltb-true _ _ (both_right (some_byte s && digits r s) _ h)))
    (λ h. refuses (rw h at e))

-- below a width, or at the last
width_fits : (w n : ℕ) → (w < 128 → n < 2 ^ w) → w ≤ 128 → n < 2 ^ 128 → n < 2 ^ w
width_fits w n h k f = by_order w 128 h (λ l. let e : 128 ≡ w = omega arith in subst (λ (j : ℕ). n < 2 ^ j) e f)

in_word : (n : ℕ) → InWord (signed 64 (n % 2 ^ 64))
in_word n = let s = signed_of 64 (n % 2 ^ 64) (omega arith) (mod-lt n (pow_pos 64)) in (s.least, s.below)

module _ (T : Tables) (rules : Lawful T) where
  pub width-most : (row w : ℕ) → at T.sorts row ≡ Some (bit_vec w) → w ≤ 128
  width-most row w k = leb-true w width_limit (both_right (leb 1 w) (leb w width_limit) (sort-right T rules row (bit_vec w) k))

  module _ (o : Bool) (a : ℕ) (below : (e : Option ℕ) (t : Tree) (l : Lit) → Octets t → read_with T o a e t ≡ Ok l → HasSort l.value Loose T l.row) where
    fields_fit : (fs : List ℕ) (us : Trees) (vs : Values) → FieldReadings o T a fs us vs → OctetsAll us → FieldSorts vs Loose T fs
    fields_fit _ _ _ f_nil p = refl
    fields_fit _ _ _ (f_cons {f = f} {fs = fs} {u = u} {us = us} {vs = vs} l e k h) p =
        record {
          first = f;
          rest = fs;
          both = refl;
          head = subst (λ (r : ℕ). HasSort l.value Loose T r) k (below (Some f) u l p.0 e);
          tail = fields_fit fs us vs h p.1;
        }

    reading-fits : (e : Option ℕ) (t : Tree) (row : ℕ) (v : Value) → Reading o T a e t row v → Octets t → HasSort v Loose T row
    reading-fits e _ _ _ (r-bits {w = w} {n = n} k) p = (k, mod-lt n (pow_pos w))
    reading-fits e _ _ _ (r-string k) p = (k, p)
    reading-fits e _ _ _ (r_true k) p = k
    reading-fits e _ _ _ (r_false k) p = k
    reading-fits e _ _ _ (r-member i m h k) p = let g = member-kept T m rules i k in record { name = g.name; here = g.here; same = refl; has = g.has }
    reading-fits e _ _ _ (r-none q h k) p = record { inner = q; here = k; has = tt }
    reading-fits e _ _ _ (r-as_some {v = v} l h k m) p = record { inner = l.row; here = k; has = below (Some l.row) v l p.1.0 m }
    reading-fits e _ _ _ (r_some {v = v} x l h m k) p = record { inner = l.row; here = k; has = below x v l p.1.0 m }
    reading-fits e _ _ _ (r-empty q h k) p = (record { inner = q; here = k; has = tt }, tt)
    reading-fits e _ _ _ (r-singleton {v = v} x l h m k) p = (record { inner = l.row; here = k; has = (below x v l p.1.0 m, tt) }, tt)
    reading-fits e _ _ _ (r-union {v = v} {w = w} {vs = vs} {ws = ws} l m f g h x y) p =
        let left = (subst (λ (u : Value). HasSort u Loose T l.row) x (below e v l p.1.0 f)).0 in
        let right = subst (λ (u : Value). HasSort u Loose T m.row) y (below e w m p.1.1.0 g) in
        let both = members-fit Loose T l.row left.inner left.here ws (subst (λ (r : ℕ). HasSort (v_set ws) Loose T r) (sym h) right) in
        (record { inner = left.inner; here = left.here; has = union-fits Loose T left.inner vs ws left.has both }, tt)
    reading-fits e _ _ _ (r-unary op l h m f k) p = k
    reading-fits e _ _ _ (r-binary op l m h x y f k) p = k
    reading-fits e _ _ _ (r-ite {v = v} {w = w} {b = true} k l m h f g x y q) p = below e v l p.1.1.0 g
    reading-fits e _ _ _ (r-ite {v = v} {w = w} {b = false} k l m h f g x y q) p = subst (λ (r : ℕ). HasSort m.value Loose T r) (sym q) (below e w m p.1.1.1.0 x)
    reading-fits e _ _ _ (r-extension {n = n} k) p = (k, in_word n)
    reading-fits e _ _ _ (r-indexed {ds = ds} {w = w} {n = n} {row = row} h f k) p =
        (k, width_fits w n f (width-most row w k) (number_fits Radix.Decimal (unsigned ds) n h))
    reading-fits e _ _ _ (r-entity {f = f} h k) p = record { name = f; here = k; same = refl; has = p.1.0 }
    reading-fits e _ _ _ (r_record {f = f} {us = us} {vs = vs} fs h k g) p =
        record { name = f; fields = fs; here = k; same = refl; has = fields_fit fs us vs g p.1 }

  fits : (o : Bool) (allow : ℕ) (expected : Option ℕ) (t : Tree) (l : Lit) → Octets t → read_with T o allow expected t ≡ Ok l → HasSort l.value Loose T l.row
  unfolding read_with
  fits o zero e t l p m = refuses m
  fits o (suc a) e t l p m = reading-fits o a (λ x u k q n. fits o a x u k q n) e t l.row l.value (reading T o a e t l m) p

module _ (T : Tables) (o : Bool) (rules : lawful T ≡ true) (allow : ℕ) (expected : Option ℕ) (t : Tree) (l : Lit) where
  pub read_fits : Octets t → read_with T o allow expected t ≡ Ok l → HasSort l.value Loose T l.row
  read_fits h e = fits T (lawful-parts T rules) o allow expected t l h e
