-- The lines of a row, one piece after the other, and the slots' lines, one after the other.
-- Assumes nothing.
use Rattle.std.proofs.Common.{Option, Some}
use mathlib.Core.Path.{◌≡◌, refl, sym, ◌∙◌, subst}
use mathlib.Core.Bool.{true}
use mathlib.Core.List.{List}
use Prim.Native.Nat.{ℕ, ◌+◌, ◌-◌, ◌≤◌, ◌<◌}
use native.Mathlib.Omega.{arith}
use lib.ListN.{length, take, drop}
use Rattle.ground.specs.Bytes.{bytes}
use Rattle.lent.specs.Put.{Offers}
use Rattle.decimals.specs.Decimal.{decimal}
use Rattle.tables.specs.declared.row.Range.{Range}
use Rattle.tables.specs.Layout.{Lent, count, word, name_at, variable_at, tables_of}
use Rattle.tables.specs.Range.{Clamps}
use Rattle.tables.specs.Rules.{lawful}
use Rattle.tables.proofs.Ranges.{clamps_name}
use Rattle.sorts.specs.Sort.{levels}
use Rattle.values.specs.Normal.{normal}
use Rattle.values.specs.Value.{Value}
use Rattle.value_text.specs.Laid.{Lays}
use Rattle.value_text.specs.Value.{WritesInside}
use Rattle.value_text.proofs.Lays.{lays_then, lays_put, lays_none, lays_as}
use Rattle.model.specs.Model.{Definition}
use Rattle.model.specs.Listing.{settled, variable_lines}
use Rattle.arms.specs.Table.{WritesTable}
use Rattle.walk.specs.Last.{node_word, value_word, word_at}
use Rattle.walk.specs.Placed.{Placed}
use Rattle.listing.specs.Line.{line_of}
use Rattle.listing.specs.Grounds.{Known}
use Rattle.listing.specs.Entries.{entry, entry_in, settled_in, LaysVariable, LaysBody, LaysFunction, LaysEntry, LaysEntries, OfBoth, WritesVariable, WritesFunction, WritesEntry, WritesEntries}
use Rattle.listing.proofs.Lasts.{Slot, empty, variable, function, slot-known}
use Rattle.listing.proofs.Rows.{many, many-few, entry_of, settled_of, entries-are, entries-settled, Onwards, onwards-start, onwards-step, onwards-end}
use Rattle.listing.proofs.Folds.{texts}

-- the line of a row's name, and of a word of it
pub name_offered : (names rows : List ℕ) (row first size : ℕ) (range : Range) → first ≡ word rows row 0 → size ≡ word rows row 1 → Clamps first size (length names) range →
    (label a b : List ℕ) (at next : ℕ) → Offers a b at (line_of label (take (range.end - range.start) (drop range.start names))) next → Offers a b at (line_of label (name_at names rows row)) next
name_offered names rows row first size range e g h label a b at next p = subst (λ (s : List ℕ). Offers a b at (line_of label s) next) (clamps_name names rows row first size range e g h) p

word_line : (label : List ℕ) {w v : ℕ} → w ≡ v → {a b : List ℕ} {at next : ℕ} → Offers a b at (line_of label (decimal w)) next → Lays (line_of label (decimal v)) (line_of label (decimal v)) a b at next
word_line label q {a} {b} {at} {next} p = lays_put (subst (λ (n : ℕ). Offers a b at (line_of label (decimal n)) next) q p)

module _ (l : Lent) (ws ts : List ℕ) (row : ℕ) where
  pub variable-laid : (value w : ℕ) (a b c d f k : List ℕ) (place one two three four r : ℕ) → w ≡ word l.variables row 2 →
      Offers a b place (line_of (bytes "var=") (name_at l.names l.variables row)) one →
      Offers b c one (line_of (bytes "sort=") (decimal w)) two → Offers c d two (bytes "value=") three →
      WritesInside l.sorts l.members l.names ws ts value levels d f three four → Offers f k four (bytes "\n") r →
      LaysVariable l ws ts row value a k place r
  variable-laid value w a b c d f k place one two three four r q p1 p2 p3 p4 p5 v s =
      subst (λ (x : Value). Lays (variable_lines (variable_at l row) (Some x)) (variable_lines (variable_at l row) (Some (normal x))) a k place r) s.same
      (lays_then (lays_put p1)
      (lays_then (word_line (bytes "sort=") q p2)
      (lays_then (lays_put p3)
      (lays_then (p4 l (record { sorts-are = refl; members-are = refl; names-are = refl }) s.tree s.there s.expected s.lit s.reads s.lit.row s.fits) (lays_put p5)))))

  pub body-laid : (offset long body w v : ℕ) (a b c d f : List ℕ) (place one two three r : ℕ) → w ≡ word l.functions row 2 → v ≡ word l.functions row 3 →
      Offers a b place (line_of (bytes "fun=") (name_at l.names l.functions row)) one →
      Offers b c one (line_of (bytes "arg=") (decimal w)) two → Offers c d two (line_of (bytes "out=") (decimal v)) three →
      WritesTable l.sorts l.members l.names ws ts offset long body d f three r →
      LaysBody l ws ts row offset long body a f place r
  body-laid offset long body w v a b c d f place one two three r q q' p1 p2 p3 p4 x t argument result table reads s m fits =
      lays_then (lays_put p1)
      (lays_then (word_line (bytes "arg=") q p2)
      (lays_then (word_line (bytes "out=") q' p3)
      (p4 l (record { sorts-are = refl; members-are = refl; names-are = refl }) x t argument result table reads s m fits)))

-- a slot's lines, by what its words hold
module _ (l : Lent) (ws ts last : List ℕ) (k : ℕ) (node : ℕ) (q : node ≡ word_at last k node_word) where
  abbrev LaidIn : Option Placed → List ℕ → List ℕ → ℕ → ℕ → Type 0
  LaidIn o a b place r = Lays (entry_in l o) (settled_in l o) a b place r

  abbrev LaidAs : Definition → List ℕ → List ℕ → ℕ → ℕ → Type 0
  LaidAs d a b place r = Lays (entry l d) (entry l (settled d)) a b place r

  none_in : (a : List ℕ) (place : ℕ) → node ≡ 0 → (o : Option Placed) → Slot l ws ts last k o → LaidIn o a a place place
  none_in a place e _ (empty z) = lays_none a place
  none_in a place e _ (variable v z n) = absurd (omega (arith, q, e, n.some-node))
  none_in a place e _ (function i t z n) = absurd (omega (arith, q, e, n.some-node))

  module _ (there : node ≡ 0 → ⊥) (a b : List ℕ) (place r : ℕ) where
    variable_in : k < count l.variables → (value : ℕ) → value ≡ word_at last k value_word → LaysVariable l ws ts k value a b place r → (o : Option Placed) → Slot l ws ts last k o → LaidIn o a b place r
    variable_in h value e f _ (empty z) = absurd (there (q ∙ z))
    variable_in h value e f _ (variable v z n) =
        subst (λ (d : Definition). LaidAs d a b place r) (sym z) (subst (λ (j : ℕ). LaysVariable l ws ts k j a b place r) e f v n.stands)
    variable_in h value e f _ (function i t z n) = absurd (omega (arith, h, n.high))

    function_in : count l.variables ≤ k → (row : ℕ) → row ≡ k - count l.variables → lawful (tables_of l) ≡ true → LaysFunction l ws ts row node a b place r → (o : Option Placed) → Slot l ws ts last k o → LaidIn o a b place r
    function_in h row e rules f _ (empty z) = absurd (there (q ∙ z))
    function_in h row e rules f _ (variable v z n) = absurd (omega (arith, h, n.low))
    function_in h row e rules f _ (function i t z n) =
        let m : row ≡ i = omega (arith, e, n.high) in
        let g = subst (λ (j : ℕ). LaysFunction l ws ts j node a b place r) m f in
        subst (λ (d : Definition). LaidAs d a b place r) (sym z) (subst (λ (j : ℕ). LaysFunction l ws ts i j a b place r) q g t rules n.stands)

module _ (sorts variables functions members names ws ts last : List ℕ) (k node : ℕ) (q : node ≡ word_at last k node_word) where
  pub entry-none : (a : List ℕ) (place : ℕ) → node ≡ 0 → WritesEntry sorts variables functions members names ws ts last k a a place place
  entry-none a place e fields ps known low = none_in _ ws ts last k node q a place e _ (slot-known _ ws ts last k ps known low)

  module _ (there : node ≡ 0 → ⊥) (rows : ℕ) (h : rows ≡ count variables) (a b : List ℕ) (place r : ℕ) where
    pub entry-variable : k < rows → (value : ℕ) → value ≡ word_at last k value_word → WritesVariable sorts variables members names ws ts k value a b place r →
        WritesEntry sorts variables functions members names ws ts last k a b place r
    entry-variable g value e f fields ps known low =
        variable_in _ ws ts last k node q there a b place r (omega arith) value e (f fields functions) _ (slot-known _ ws ts last k ps known low)

    pub entry-function : rows ≤ k → (row : ℕ) → row ≡ k - rows → WritesFunction sorts functions members names ws ts row node a b place r →
        WritesEntry sorts variables functions members names ws ts last k a b place r
    entry-function g row e f fields ps known low =
        function_in _ ws ts last k node q there a b place r (omega arith) row (omega arith) known.rules (f fields variables) _ (slot-known _ ws ts last k ps known low)

-- what the loop keeps: the slots from one on, once they are laid, make the whole
abbrev LayingOf : Lent → List ℕ → List ℕ → List ℕ → List ℕ → ℕ → List ℕ → ℕ → ℕ → ℕ → Type 0
LayingOf l ws ts last before place d to n i =
    (ps : List Placed) → Known l ws ts last ps → Onwards (entry_of l ps) (settled_of l ps) n before place d to i

pub record Laying (sorts variables functions members names ws ts last scratch before : List ℕ) (place : ℕ) (scratch' d : List ℕ) (to n i : ℕ) : Type 0 where
  pub there : n ≡ count variables + count functions
  pub long : length d ≡ length before
  pub still : length scratch' ≡ length scratch
  pub rest : OfBoth (λ l. LayingOf l ws ts last before place d to n i) sorts variables functions members names

module _ (l : Lent) (ws ts last before : List ℕ) (place : ℕ) (d : List ℕ) (to n i : ℕ) (there : n ≡ many l) (so : LayingOf l ws ts last before place d to n i) where
  lay-one : (e : List ℕ) (next : ℕ) → i < n → LaysEntry l ws ts last i d e to next → LayingOf l ws ts last before place e next n (i + 1)
  lay-one e next inside p ps known =
      let h = many-few l known.rules in
      onwards-step (entry_of l ps) (settled_of l ps) n before place d e to next i inside (so ps known) (p ps known (omega arith))

  lay-all : n ≤ i → LaysEntries l ws ts last before d place to
  lay-all past ps known =
      let p = onwards-end (entry_of l ps) (settled_of l ps) n before place d to i past (so ps known) in
      lays_as (entries-are l ws ts ps known.grounded) (entries-settled l ws ts ps known.grounded)
      (subst (λ (m : ℕ). Lays (texts (entry_of l ps) 0 m) (texts (settled_of l ps) 0 m) before d place to) there p)

module _ (sorts variables functions members names ws ts last scratch before : List ℕ) (place n : ℕ) where
  pub laying_start : n ≡ count variables + count functions → Laying sorts variables functions members names ws ts last scratch before place scratch before place n 0
  laying_start e = record { there = e; long = refl; still = refl; rest = λ fields ps known. onwards-start _ _ n before place }

  module _ (scratch' d : List ℕ) (to i : ℕ) (so : Laying sorts variables functions members names ws ts last scratch before place scratch' d to n i) where
    pub laying_step : (scratch'' e : List ℕ) (next : ℕ) → i < n → length scratch'' ≡ length scratch' → length e ≡ length d → WritesEntry sorts variables functions members names ws ts last i d e to next →
        Laying sorts variables functions members names ws ts last scratch before place scratch'' e next n (i + 1)
    laying_step scratch'' e next inside s t p =
        record { there = so.there; long = t ∙ so.long; still = s ∙ so.still; rest = λ fields. lay-one _ ws ts last before place d to n i so.there (so.rest fields) e next inside (p fields) }

    pub laying_end : n ≤ i → WritesEntries sorts variables functions members names ws ts last before d place to
    laying_end past fields = lay-all _ ws ts last before place d to n i so.there (so.rest fields) past
