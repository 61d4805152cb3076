-- Names that are defined, counted slot by slot, and the lengths of their lines summed up.
-- Assumes nothing.
use Rattle.std.proofs.Common.{None, Option, Some}
use mathlib.Core.Path.{◌≡◌, sym, ap, ◌∙◌}
use mathlib.Core.Bool.{true}
use mathlib.Core.List.{List}
use Prim.Native.Nat.{ℕ, min, ◌+◌, ◌*◌, ◌-◌, ◌^◌, ◌≤◌, ◌<◌}
use native.Mathlib.Nat.{sub-zero}
use native.Mathlib.Omega.{arith}
use lib.ListN.{length}
use Rattle.order.specs.Every.{Every}
use Rattle.tables.specs.Layout.{Lent, count, tables_of}
use Rattle.tables.specs.Rules.{lawful}
use Rattle.tables.proofs.Rows.{variable-count, function-count}
use Rattle.literals.specs.Answer.{capped}
use Rattle.model.specs.Model.{Definition, is_variable, is_function}
use Rattle.definitions.specs.Measure.{value_size, table_size}
use Rattle.walk.specs.Noted.{size}
use Rattle.walk.specs.Last.{slots, node_word, need_word, word_at, last_in}
use Rattle.walk.specs.Placed.{Placed, its, Within}
use Rattle.listing.specs.declared.tally.Tally.{Tally}
use Rattle.listing.specs.Grounds.{Grounded, Known}
use Rattle.listing.specs.Entries.{entry, entry_in, OfBoth}
use Rattle.listing.specs.Tally.{variable_size, function_size, variable_one, function_one, one_in, Small, Added, Tallied, AddsEntry, Tallies}
use Rattle.listing.proofs.Folds.{sums, over-next, over-end, length-texts}
use Rattle.listing.proofs.Lasts.{OwnsIn, slot_owned, Slot, empty, variable, function, slot-known}
use Rattle.listing.proofs.Rows.{many, many-few, entry_of, entries-are, variables-summed, functions-summed}
use Rattle.listing.proofs.Sizes.{length-variable, length-function, variable-most, function-most}

plus_none : (a : ℕ) → a ≡ a + 0
plus_none a = omega arith

-- how long an entry can be
abbrev pub most : ℕ
most = 8796093022208

module _ (l : Lent) (rules : lawful (tables_of l) ≡ true) where
  short-of : (d : Definition) → Within (tables_of l) d → size d < 2 ^ 42 → length (entry l d) ≤ most
  short-of (is_variable i v) w small = omega (arith, length-variable l i v, variable-most l i rules (value_size v) (omega (arith, w, variable-count l)))
  short-of (is_function i t) w small = omega (arith, length-function l i t, function-most l i rules (table_size t) (omega (arith, w, function-count l)))

  short_in : (ws ts : List ℕ) (k : ℕ) (o : Option Placed) → OwnsIn l ws ts k o → length (entry_in l o) ≤ most
  short_in ws ts k None f = omega arith
  short_in ws ts k (Some p) f = short-of p.it f.ground.within f.ground.small

  pub entry-short : (ws ts : List ℕ) (k : ℕ) (ps : List Placed) → Every (Grounded l ws ts) ps → length (entry_of l ps k) ≤ most
  entry-short ws ts k ps gs = short_in ws ts k (last_in l k ps) (slot_owned l ws ts k ps gs)

module _ (l : Lent) (ws ts last : List ℕ) (k : ℕ) (rules : lawful (tables_of l) ≡ true) where
  -- what is added for a slot
  module _ (s : Tally) (small : Small s) (node : ℕ) (q : node ≡ word_at last k node_word) where
    none-added : node ≡ 0 → (o : Option Placed) → Slot l ws ts last k o → Added l o s s
    none-added e _ (empty z) = record { variables = omega arith; functions = omega arith; need = omega arith }
    none-added e _ (variable v z n) = absurd (omega (arith, q, e, n.some-node))
    none-added e _ (function i t z n) = absurd (omega (arith, q, e, n.some-node))

    module _ (there : node ≡ 0 → ⊥) (long : ℕ) (f : long ≡ word_at last k need_word) (sum : ℕ) where
      counted : (a n : ℕ) → a ≡ min (n + 1) 18446744073709551615 → n ≤ 2048 → a ≡ n + 1
      counted a n e h = omega arith

      summed : (size : ℕ) → sum ≡ capped (s.need + capped size) → size ≤ most → sum ≡ s.need + size
      summed size e h = let z = small.need in omega arith

      variable-added : k < count l.variables → (size one : ℕ) → size ≡ capped (variable_size l.names l.variables k long) → one ≡ capped (s.variables + 1) → sum ≡ capped (s.need + size) →
          (o : Option Placed) → Slot l ws ts last k o → Added l o s (record { variables = one; functions = s.functions; need = sum })
      variable-added b size one g u w _ (empty z) = absurd (there (q ∙ z))
      variable-added b size one g u w _ (variable {p} v z n) =
          let e : length (entry l p.it) ≡ variable_size l.names l.variables k (value_size v) = ap (λ (d : Definition). length (entry l d)) z ∙ length-variable l k v in
          let y = variable-most l k rules (value_size v) n.low in
          let x = n.small in
          let w' : sum ≡ capped (s.need + capped (variable_size l.names l.variables k (value_size v))) = w ∙ ap (λ (j : ℕ). capped (s.need + j)) (g ∙ ap (λ (j : ℕ). capped (variable_size l.names l.variables k j)) (f ∙ n.long)) in
          record {
            variables = counted one s.variables u small.variables ∙ ap (λ (d : Definition). s.variables + variable_one d) (sym z);
            functions = plus_none s.functions ∙ ap (λ (d : Definition). s.functions + function_one d) (sym z);
            need = summed (variable_size l.names l.variables k (value_size v)) w' (omega arith) ∙ ap (λ (j : ℕ). s.need + j) (sym e);
          }
      variable-added b size one g u w _ (function i t z n) = absurd (omega (arith, b, n.high))

      function-added : count l.variables ≤ k → (row size one : ℕ) → row ≡ k - count l.variables → size ≡ capped (function_size l.names l.functions row long) → one ≡ capped (s.functions + 1) → sum ≡ capped (s.need + size) →
          (o : Option Placed) → Slot l ws ts last k o → Added l o s (record { variables = s.variables; functions = one; need = sum })
      function-added b row size one m g u w _ (empty z) = absurd (there (q ∙ z))
      function-added b row size one m g u w _ (variable v z n) = absurd (omega (arith, b, n.low))
      function-added b row size one m g u w _ (function {p} i t z n) =
          let r : row ≡ i = omega (arith, m, n.high) in
          let e : length (entry l p.it) ≡ function_size l.names l.functions i (table_size t) = ap (λ (d : Definition). length (entry l d)) z ∙ length-function l i t in
          let y = function-most l i rules (table_size t) n.low in
          let x = n.small in
          let w' : sum ≡ capped (s.need + capped (function_size l.names l.functions i (table_size t))) =
          w ∙ ap (λ (j : ℕ). capped (s.need + j)) (g ∙ ap (λ (j : ℕ). capped (function_size l.names l.functions row j)) (f ∙ n.long) ∙ ap (λ (j : ℕ). capped (function_size l.names l.functions j (table_size t))) r) in
          record {
            variables = plus_none s.variables ∙ ap (λ (d : Definition). s.variables + variable_one d) (sym z);
            functions = counted one s.functions u small.functions ∙ ap (λ (d : Definition). s.functions + function_one d) (sym z);
            need = summed (function_size l.names l.functions i (table_size t)) w' (omega arith) ∙ ap (λ (j : ℕ). s.need + j) (sym e);
          }

-- the same of what is lent
module _ (variables functions names last : List ℕ) (k : ℕ) (s : Tally) (node : ℕ) (q : node ≡ word_at last k node_word) where
  pub add_none : node ≡ 0 → AddsEntry variables functions names last k s s
  add_none e sorts members ws ts fields ps known low small = none-added _ ws ts last k known.rules s small node q e _ (slot-known _ ws ts last k ps known low)

  module _ (there : node ≡ 0 → ⊥) (long : ℕ) (f : long ≡ word_at last k need_word) (rows : ℕ) (h : rows ≡ count variables) (size one sum : ℕ) where
    pub add-variable : k < rows → size ≡ capped (variable_size names variables k long) → one ≡ capped (s.variables + 1) → sum ≡ capped (s.need + size) →
        AddsEntry variables functions names last k s (record { variables = one; functions = s.functions; need = sum })
    add-variable b g u w sorts members ws ts fields ps known low small =
        variable-added _ ws ts last k known.rules s small node q there long f sum (omega arith) size one g u w _ (slot-known _ ws ts last k ps known low)

    pub add-function : rows ≤ k → (row : ℕ) → row ≡ k - rows → size ≡ capped (function_size names functions row long) → one ≡ capped (s.functions + 1) → sum ≡ capped (s.need + size) →
        AddsEntry variables functions names last k s (record { variables = s.variables; functions = one; need = sum })
    add-function b row m g u w sorts members ws ts fields ps known low small =
        function-added _ ws ts last k known.rules s small node q there long f sum (omega arith) row size one (omega arith) g u w _ (slot-known _ ws ts last k ps known low)

-- so far and from here on
pub record Counted (v f g : ℕ → ℕ) (n i : ℕ) (s : Tally) : Type 0 where
  pub within : i ≤ n
  pub variables : s.variables + sums v i (n - i) ≡ sums v 0 n
  pub functions : s.functions + sums f i (n - i) ≡ sums f 0 n
  pub need : s.need + sums g i (n - i) ≡ sums g 0 n
  pub few : s.variables + s.functions ≤ i
  pub small : s.need ≤ i * most

module _ (v f g : ℕ → ℕ) (n : ℕ) where
  all_left : (h : ℕ → ℕ) → 0 + sums h 0 (n - 0) ≡ sums h 0 n
  all_left h = ap (λ (m : ℕ). 0 + sums h 0 m) (sub-zero n) ∙ (omega arith)

  counted_start : Counted v f g n 0 (record { variables = 0; functions = 0; need = 0 })
  counted_start = record { within = omega arith; variables = all_left v; functions = all_left f; need = all_left g; few = omega arith; small = omega arith }

  module _ (i : ℕ) (s : Tally) (so : Counted v f g n i s) where
    one_more : (h : ℕ → ℕ) (x y : ℕ) → i < n → x + sums h i (n - i) ≡ sums h 0 n → y ≡ x + h i → y + sums h (i + 1) (n - (i + 1)) ≡ sums h 0 n
    one_more h x y inside e q = omega (arith, over-next (λ a b. a + b) 0 h n i inside, e, q)

    none_left : (h : ℕ → ℕ) (x : ℕ) → n ≤ i → x + sums h i (n - i) ≡ sums h 0 n → x ≡ sums h 0 n
    none_left h x past e = omega (arith, over-end (λ a b. a + b) 0 h n i past, e)

    counted_step : (r : Tally) → i < n → r.variables ≡ s.variables + v i → r.functions ≡ s.functions + f i → r.need ≡ s.need + g i → v i + f i ≤ 1 → g i ≤ most → Counted v f g n (i + 1) r
    counted_step r inside p q u one short =
        let few = so.few in
        let small = so.small in
        record {
          within = omega arith;
          variables = one_more v s.variables r.variables inside so.variables p;
          functions = one_more f s.functions r.functions inside so.functions q;
          need = one_more g s.need r.need inside so.need u;
          few = omega arith;
          small = omega arith;
        }

-- what the loop keeps
module _ (l : Lent) (ps : List Placed) where
  abbrev Counting : ℕ → ℕ → Tally → Type 0
  Counting n i s = Counted (λ k. one_in variable_one (last_in l k ps)) (λ k. one_in function_one (last_in l k ps)) (λ k. length (entry_in l (last_in l k ps))) n i s

pub record Sofar (variables functions names last : List ℕ) (n i : ℕ) (s : Tally) : Type 0 where
  pub there : n ≡ count variables + count functions
  pub rest : (sorts members ws ts : List ℕ) → OfBoth (λ l. (ps : List Placed) → Known l ws ts last ps → Counting l ps n i s) sorts variables functions members names

one_of : (d : Definition) → variable_one d + function_one d ≤ 1
one_of (is_variable i v) = omega arith
one_of (is_function i t) = omega arith

one_in_lem : (o : Option Placed) → one_in variable_one o + one_in function_one o ≤ 1
one_in_lem None = omega arith
one_in_lem (Some p) = one_of p.it

module _ (l : Lent) (ws ts last : List ℕ) (n i : ℕ) (s : Tally) (there : n ≡ many l) (ps : List Placed) (known : Known l ws ts last ps) (so : Counting l ps n i s) where
  sofar-small : i ≤ n → Small s
  sofar-small b =
      let h = many-few l known.rules in
      let few = so.few in
      let small = so.small in
      record { variables = omega arith; functions = omega arith; need = omega arith }

  step : (r : Tally) → i < n → (i < slots → Small s → Added l (last_in l i ps) s r) → Counting l ps n (i + 1) r
  step r inside add =
      let h = many-few l known.rules in
      let low : i < slots = omega arith in
      let a = add low (sofar-small (omega arith)) in
      counted_step _ _ _ n i s so r inside a.variables a.functions a.need (one_in_lem (last_in l i ps)) (entry-short l known.rules ws ts i ps known.grounded)

  finish : n ≤ i → Tallied l (its ps) s
  finish past =
      let h = many-few l known.rules in
      let within = so.within in
      let x = none_left _ _ _ n i s so (λ k. one_in variable_one (last_in l k ps)) s.variables past so.variables in
      let y = none_left _ _ _ n i s so (λ k. one_in function_one (last_in l k ps)) s.functions past so.functions in
      let z = none_left _ _ _ n i s so (λ k. length (entry_of l ps k)) s.need past so.need in
      record {
        variables = x ∙ ap (λ (m : ℕ). sums (λ k. one_in variable_one (last_in l k ps)) 0 m) there ∙ variables-summed l ws ts ps known.grounded;
        functions = y ∙ ap (λ (m : ℕ). sums (λ k. one_in function_one (last_in l k ps)) 0 m) there ∙ functions-summed l ws ts ps known.grounded;
        need =
            z ∙ ap (λ (m : ℕ). sums (λ k. length (entry_of l ps k)) 0 m) there
            ∙ sym (length-texts (entry_of l ps) 0 (many l)) ∙ ap length (entries-are l ws ts ps known.grounded);
        small = (sofar-small within).need;
      }

module _ (variables functions names last : List ℕ) (n : ℕ) where
  pub tally_start : n ≡ count variables + count functions → Sofar variables functions names last n 0 (record { variables = 0; functions = 0; need = 0 })
  tally_start e = record { there = e; rest = λ sorts members ws ts fields ps known. counted_start _ _ _ n }

  module _ (i : ℕ) (s : Tally) (so : Sofar variables functions names last n i s) where
    pub tally_step : i < n → (r : Tally) → AddsEntry variables functions names last i s r → Sofar variables functions names last n (i + 1) r
    tally_step inside r add =
        record {
          there = so.there;
          rest = λ sorts members ws ts fields ps known.
              step _ ws ts last n i s so.there ps known (so.rest sorts members ws ts fields ps known) r inside (add sorts members ws ts fields ps known);
        }

    pub tally_end : n ≤ i → Tallies variables functions names last s
    tally_end past sorts members ws ts fields ps known = finish _ ws ts last n i s so.there ps known (so.rest sorts members ws ts fields ps known) past
