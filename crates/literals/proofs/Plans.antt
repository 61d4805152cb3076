-- The plan of a literal: one law for each way out.
-- Assumes nothing.
use Rattle.std.proofs.Common.{None, Option, Some, Err, Ok, Result}
use mathlib.Core.Path.{◌≡◌, refl, sym, ap, ◌∙◌, subst}
use mathlib.Core.Bool.{false}
use mathlib.Core.List.{List, [], ◌∷◌}
use Prim.Native.Nat.{ℕ, suc, ◌+◌, ◌*◌, ◌%◌, ◌/◌, ◌^◌}
use native.Mathlib.Omega.{arith}
use lib.ListN.{length}
use types.Run.{OneOf, miss}
use denote.Enum.Declared.{tag_of}
use Rattle.ground.specs.Lists.{at}
use Rattle.refusals.specs.declared.Refusal.{Refusal}
use Rattle.refusals.specs.declared.Refusal.TheVariants.{UnknownLiteral, NotCovered}
use Rattle.arena.specs.declared.node.Node.{Node}
use Rattle.arena.specs.declared.node.Node.TheVariants.{BitVec, Numeral, String, Symbol, App, NoNode}
use Rattle.arena.specs.Node.{node_at}
use Rattle.arena.specs.Text.{text_at}
use Rattle.arena.specs.Tree.{Tree, bit_vec, numeral, string, symbol, app}
use Rattle.tables.specs.Find.{found as found_as}
use Rattle.tables.specs.Layout.{Lent, tables_of}
use Rattle.tables.specs.Sort.{ext, bit_vec as bit_vec_sort, Tables}
use Rattle.values.specs.Value.{v_ext, v_bits}
use Rattle.words.specs.Extension.{signed}
use Rattle.shapes.specs.declared.shape.Found.{Found as Arm}
use Rattle.shapes.specs.declared.shape.Kind.{Kind}
use Rattle.shapes.specs.Shape.{Shape, shape}
use Rattle.shapes.specs.Shows.{Standing, Shows, ShapeAt, ext_of}
use Rattle.shapes.proofs.Looks.{kind, kinds, symbol-there}
use Rattle.sorts.specs.Reads.{ReadsSort}
use Rattle.shapes.specs.contracts.shape.Found as ArmType
use Rattle.sorts.specs.Result.{◌>>=◌}
use Rattle.sorts.specs.Sort.{read_sort}
use Rattle.sorts.proofs.Read.{read-row, read-refused}
use Rattle.literals.specs.declared.form.Form.{Form}
use Rattle.literals.specs.declared.form.Then.{Then}
use Rattle.literals.specs.declared.plan.Plan.{Plan}
use Rattle.means.specs.Literal.{Lit, read, option_in, lit_of, word_lit, app_lit, read_with}
use Rattle.literals.specs.Answer.{answer}
use Rattle.literals.specs.Parts.{then_lit, bare_lit, InsideRow, Expects, BareOf, ExtensionOf, IndexedOf, BitsOf, StringOf, WordOf}
use Rattle.literals.proofs.Done.{done, done_means}
use Rattle.literals.specs.Plan.{Means, Given, then_of, PlansInside, PlansMade, PlansApp, PlansAt}
use Rattle.literals.specs.declared.answer.Literal.{Literal}

-- a result that is another, with the plan of that
means_as : (T : Tables) (fields ws ts : List ℕ) (expected : Option ℕ) (below : ℕ) (p : Result Plan Refusal) (m k : Result Lit Refusal) → m ≡ k → Means T fields ws ts expected below p k → Means T fields ws ts expected below p m
means_as T fields ws ts expected below p m k e h = subst (λ (x : Result Lit Refusal). Means T fields ws ts expected below p x) (sym e) h

-- (some v), (set.singleton v)
module _ (sorts : List ℕ) (expected : Option ℕ) (form : Form) (value : ℕ) (q : Result (Option ℕ) Refusal) (h : Expects sorts expected form q) where
  abbrev inside_read : Lent → Tree → ℕ → Result (Option ℕ) Refusal → Result Lit Refusal
  inside_read l v below m = m >>= λ o. read (tables_of l) below o v >>= λ k. then_lit (tables_of l) (then_of form) k

  pub inside_mismatch : (z : Refusal) → q ≡ Err z → PlansInside sorts expected form value (Err z)
  unfolding ◌>>=◌
  inside_mismatch z e l s fields ws ts below v k = ap (λ (m : Result (Option ℕ) Refusal). answer (inside_read l v below m)) (sym e ∙ h l s)

  pub inside_one : (inner : Option ℕ) → q ≡ Ok inner → (step : Then) → step ≡ then_of form → PlansInside sorts expected form value (Ok (Plan.One value inner step))
  unfolding ◌>>=◌
  inside_one inner e step f l s fields ws ts below v z = (
    v,
    z,
    ap (inside_read l v below) (sym (h l s) ∙ e)
        ∙ ap (λ (t : Then). read (tables_of l) below inner v >>= λ k. then_lit (tables_of l) t k) (sym f),
  )

-- what was found is itself
found_itself : (o : Option ℕ) → found_as o ≡ o
found_itself None = refl
found_itself (Some j) = refl

-- the arms
module _ (sorts : List ℕ) (most : ℕ) (names ws ts : List ℕ) (i : ℕ) (expected : Option ℕ) (below : ℕ) (f : Arm) (shown : ShapeAt ws ts i f) where
  abbrev arms_read : Lent → Shape → Result Lit Refusal
  arms_read l s = app_lit (tables_of l) (λ t. read_sort (tables_of l) below t) (λ e u. read (tables_of l) below e u) false expected s

  by_arm : (p : Result Plan Refusal) → ((l : Lent) → l.sorts ≡ sorts → l.names ≡ names → length l.fields ≡ most → (s : Shape) → Shows ws ts f s → Means (tables_of l) l.fields ws ts expected below p (arms_read l s)) → PlansApp sorts most names ws ts i expected below p
  by_arm p k l s n m us z = k l s n m (shape us) (shown.1 us z)

  -- a whole literal
  by_done : (a : Result Literal Refusal) (p : Result Plan Refusal) → done a ≡ p → ((l : Lent) → l.sorts ≡ sorts → l.names ≡ names → length l.fields ≡ most → (s : Shape) → Shows ws ts f s → a ≡ answer (arms_read l s)) → PlansApp sorts most names ws ts i expected below p
  by_done a p d k = by_arm p (λ l s n m sh g. done_means (tables_of l) l.fields ws ts expected below (arms_read l sh) a p d (k l s n m sh g))

  as_arm : (a : Arm) → f ≡ a → (s : Shape) → Shows ws ts f s → Shows ws ts a s
  as_arm a e s g = subst (λ (x : Arm). Shows ws ts x s) e g

  -- not covered by document 01
  pub arm_operator : OneOf (0 ∷ 11 ∷ 12 ∷ 13 ∷ []) (tag_of ArmType.the_type f) → PlansApp sorts most names ws ts i expected below (Err NotCovered)
  arm_operator h = by_arm (Err NotCovered) (λ l s n m sh g. sym (ap answer (go f h sh g l)))
    where
      go : (a : Arm) → OneOf (0 ∷ 11 ∷ 12 ∷ 13 ∷ []) (tag_of ArmType.the_type a) → (s : Shape) → Shows ws ts a s → (l : Lent) → arms_read l s ≡ Err NotCovered
      go Arm.Uncovered h s g l = ap (λ (x : Shape). arms_read l x) g
      go (Arm.AsNone sort) h s g l = absurd (miss (0 ∷ 11 ∷ 12 ∷ 13 ∷ []) 1 tt h)
      go (Arm.AsSome sort value) h s g l = absurd (miss (0 ∷ 11 ∷ 12 ∷ 13 ∷ []) 2 tt h)
      go (Arm.SomeOf value) h s g l = absurd (miss (0 ∷ 11 ∷ 12 ∷ 13 ∷ []) 3 tt h)
      go (Arm.AsEmpty sort) h s g l = absurd (miss (0 ∷ 11 ∷ 12 ∷ 13 ∷ []) 4 tt h)
      go (Arm.Singleton value) h s g l = absurd (miss (0 ∷ 11 ∷ 12 ∷ 13 ∷ []) 5 tt h)
      go (Arm.Union left right) h s g l = absurd (miss (0 ∷ 11 ∷ 12 ∷ 13 ∷ []) 6 tt h)
      go (Arm.Extension kind low) h s g l = absurd (miss (0 ∷ 11 ∷ 12 ∷ 13 ∷ []) 7 tt h)
      go (Arm.Indexed offset size low high) h s g l = absurd (miss (0 ∷ 11 ∷ 12 ∷ 13 ∷ []) 8 tt h)
      go (Arm.Made offset size first many) h s g l = absurd (miss (0 ∷ 11 ∷ 12 ∷ 13 ∷ []) 9 tt h)
      go Arm.Other h s g l = absurd (miss (0 ∷ 11 ∷ 12 ∷ 13 ∷ []) 10 tt h)
      go (Arm.Unary op value) h s g l = ap (λ (x : Shape). arms_read l x) g.1
      go (Arm.Binary op left right) h s g l = ap (λ (x : Shape). arms_read l x) g.2
      go (Arm.Ite condition left right) h s g l = ap (λ (x : Shape). arms_read l x) g.3

  pub arm-other : f ≡ Arm.Other → PlansApp sorts most names ws ts i expected below (Err UnknownLiteral)
  arm-other e = by_arm (Err UnknownLiteral) (λ l s n m sh g. sym (ap (λ (x : Shape). answer (arms_read l x)) (as_arm Arm.Other e sh g)))

  module _ (sort : ℕ) (b : Result ℕ Refusal) (r : ReadsSort sorts names ws ts sort below b) where
    -- the sort could not be read
    module _ (z : Refusal) (refused : b ≡ Err z) where
      pub none-refused : f ≡ Arm.AsNone sort → PlansApp sorts most names ws ts i expected below (Err z)
      unfolding ◌>>=◌
      none-refused e = by_arm (Err z) (λ l s n m sh g.
          let w = as_arm (Arm.AsNone sort) e sh g in
          sym (ap (λ (x : Shape). answer (arms_read l x)) w.1 ∙ ap (λ (q : Result ℕ Refusal). answer (q >>= λ row. bare_lit (tables_of l) Form.Option row)) (read-refused (read_sort (tables_of l) below w.0) b z (r l s n w.0 w.2) refused)))

      pub empty-refused : f ≡ Arm.AsEmpty sort → PlansApp sorts most names ws ts i expected below (Err z)
      unfolding ◌>>=◌
      empty-refused e = by_arm (Err z) (λ l s n m sh g.
          let w = as_arm (Arm.AsEmpty sort) e sh g in
          sym (ap (λ (x : Shape). answer (arms_read l x)) w.1 ∙ ap (λ (q : Result ℕ Refusal). answer (q >>= λ row. bare_lit (tables_of l) Form.Set row)) (read-refused (read_sort (tables_of l) below w.0) b z (r l s n w.0 w.2) refused)))

      pub as_some-refused : (value : ℕ) → f ≡ Arm.AsSome sort value → PlansApp sorts most names ws ts i expected below (Err z)
      unfolding ◌>>=◌
      as_some-refused value e = by_arm (Err z) (λ l s n m sh g.
          let w = as_arm (Arm.AsSome sort value) e sh g in
          sym (ap (λ (x : Shape). answer (arms_read l x)) w.2 ∙ ap (λ (q : Result ℕ Refusal). answer (q >>= λ row. read (tables_of l) below (option_in (at (tables_of l).sorts row)) w.1 >>= λ k. then_lit (tables_of l) (Then.SomeAs row) k)) (read-refused (read_sort (tables_of l) below w.0) b z (r l s n w.0 w.3) refused)))

    module _ (row : ℕ) (given : b ≡ Ok row) where
      pub arm-none : f ≡ Arm.AsNone sort → (a : Result Literal Refusal) → BareOf sorts row Form.Option a → (p : Result Plan Refusal) → done a ≡ p → PlansApp sorts most names ws ts i expected below p
      unfolding ◌>>=◌
      arm-none e a k p d = by_done a p d (λ l s n m sh g.
          let w = as_arm (Arm.AsNone sort) e sh g in
          k l s ∙ sym (ap (λ (x : Shape). answer (arms_read l x)) w.1 ∙ ap (λ (q : Result ℕ Refusal). answer (q >>= λ row. bare_lit (tables_of l) Form.Option row)) (read-row (read_sort (tables_of l) below w.0) b row (r l s n w.0 w.2) given)))

      pub arm-empty : f ≡ Arm.AsEmpty sort → (a : Result Literal Refusal) → BareOf sorts row Form.Set a → (p : Result Plan Refusal) → done a ≡ p → PlansApp sorts most names ws ts i expected below p
      unfolding ◌>>=◌
      arm-empty e a k p d = by_done a p d (λ l s n m sh g.
          let w = as_arm (Arm.AsEmpty sort) e sh g in
          k l s ∙ sym (ap (λ (x : Shape). answer (arms_read l x)) w.1 ∙ ap (λ (q : Result ℕ Refusal). answer (q >>= λ row. bare_lit (tables_of l) Form.Set row)) (read-row (read_sort (tables_of l) below w.0) b row (r l s n w.0 w.2) given)))

      pub arm_as_some : (value : ℕ) → f ≡ Arm.AsSome sort value → (q : Option ℕ) → InsideRow sorts row Form.Option q → PlansApp sorts most names ws ts i expected below (Ok (Plan.One value q (Then.SomeAs row)))
      unfolding ◌>>=◌
      arm_as_some value e q inside = by_arm (Ok (Plan.One value q (Then.SomeAs row))) (λ l s n m sh g.
          let w = as_arm (Arm.AsSome sort value) e sh g in (
            w.1,
            w.4,
            ap (λ (x : Shape). arms_read l x) w.2
                ∙ ap (λ (m : Result ℕ Refusal). m >>= λ row. read (tables_of l) below (option_in (at (tables_of l).sorts row)) w.1 >>= λ k. then_lit (tables_of l) (Then.SomeAs row) k) (read-row (read_sort (tables_of l) below w.0) b row (r l s n w.0 w.3) given)
                ∙ ap (λ (x : Option ℕ). read (tables_of l) below x w.1 >>= λ k. then_lit (tables_of l) (Then.SomeAs row) k) (sym (inside l s ∙ found_itself (option_in (at (tables_of l).sorts row)))),
          ))

  pub arm-some : (value : ℕ) → f ≡ Arm.SomeOf value → (p : Result Plan Refusal) → PlansInside sorts expected Form.Option value p → PlansApp sorts most names ws ts i expected below p
  arm-some value e p k = by_arm p (λ l s n m sh g.
      let w = as_arm (Arm.SomeOf value) e sh g in
      means_as (tables_of l) l.fields ws ts expected below p (arms_read l sh) _ (ap (λ (x : Shape). arms_read l x) w.1) (k l s l.fields ws ts below w.0 w.2))

  pub arm-singleton : (value : ℕ) → f ≡ Arm.Singleton value → (p : Result Plan Refusal) → PlansInside sorts expected Form.Set value p → PlansApp sorts most names ws ts i expected below p
  arm-singleton value e p k = by_arm p (λ l s n m sh g.
      let w = as_arm (Arm.Singleton value) e sh g in
      means_as (tables_of l) l.fields ws ts expected below p (arms_read l sh) _ (ap (λ (x : Shape). arms_read l x) w.1) (k l s l.fields ws ts below w.0 w.2))

  pub arm-union : (left right : ℕ) → f ≡ Arm.Union left right → PlansApp sorts most names ws ts i expected below (Ok (Plan.Two left right))
  arm-union left right e = by_arm (Ok (Plan.Two left right)) (λ l s n m sh g.
      let w = as_arm (Arm.Union left right) e sh g in
      (w.0, w.1, w.3, w.4, ap (λ (x : Shape). arms_read l x) w.2))

  pub arm-extension : (kind : Kind) (low : ℕ) → f ≡ Arm.Extension kind low → (a : Result Literal Refusal) → ExtensionOf sorts kind low a → (p : Result Plan Refusal) → done a ≡ p → PlansApp sorts most names ws ts i expected below p
  arm-extension kind low e a k p d = by_done a p d (λ l s n m sh g.
      let w = as_arm (Arm.Extension kind low) e sh g in
      k l s ∙ sym (ap answer (ap (λ (x : Shape). arms_read l x) w.1 ∙ extended l kind low w.0 w.2)))
    where
      extended : (l : Lent) (kind : Kind) (low n : ℕ) → low ≡ n % 2 ^ 64 → app_lit (tables_of l) (λ t. read_sort (tables_of l) below t) (λ e u. read (tables_of l) below e u) false expected (Shape.extension (ext_of kind) n) ≡ lit_of (tables_of l) (ext (ext_of kind)) (v_ext (ext_of kind) (signed 64 low))
      extended l kind low n d = ap (λ (x : ℕ). lit_of (tables_of l) (ext (ext_of kind)) (v_ext (ext_of kind) (signed 64 x))) (sym d)

  pub arm-indexed : (offset size low high : ℕ) → f ≡ Arm.Indexed offset size low high → (a : Result Literal Refusal) → IndexedOf sorts (text_at ts offset size) (low + high * 2 ^ 64) a → (p : Result Plan Refusal) → done a ≡ p → PlansApp sorts most names ws ts i expected below p
  arm-indexed offset size low high e a k p d = by_done a p d (λ l s n m sh g.
      let w = as_arm (Arm.Indexed offset size low high) e sh g in
      k l s ∙ ap (λ (d : List ℕ). answer (arms_read l (Shape.indexed d (low + high * 2 ^ 64)))) w.2.bytes ∙ sym (ap (λ (x : Shape). answer (arms_read l x)) w.1))

  pub arm-made : (offset size first many : ℕ) → f ≡ Arm.Made offset size first many → (name : List ℕ) → name ≡ text_at ts offset size → (p : Result Plan Refusal) → PlansMade sorts most names ws name first many p → PlansApp sorts most names ws ts i expected below p
  arm-made offset size first many e name d p k = by_arm p (λ l s n m sh g.
      let w = as_arm (Arm.Made offset size first many) e sh g in
      means_as (tables_of l) l.fields ws ts expected below p (arms_read l sh) _ (ap (λ (x : Shape). arms_read l x) w.2)
      (subst (λ (b : List ℕ). Means (tables_of l) l.fields ws ts expected below p (arms_read l (Shape.made b w.1))) (d ∙ w.3.bytes) (k l s n m ts expected below w.1 w.4)))

-- by the node
module _ (sorts fields members names ws ts : List ℕ) (i : ℕ) (expected : Option ℕ) (below : ℕ) where
  pub at-numeral : (low high : ℕ) → node_at ws i ≡ Numeral low high → PlansAt sorts fields members names ws ts i expected below (Err UnknownLiteral)
  unfolding read_with
  at-numeral low high e l g (bit_vec w n) s = let z = kinds ws ts i (bit_vec w n) s in let y = ap kind e in absurd (omega arith)
  at-numeral low high e l g (numeral n) s = refl
  at-numeral low high e l g (string t) s = let z = kinds ws ts i (string t) s in let y = ap kind e in absurd (omega arith)
  at-numeral low high e l g (symbol t) s = let z = kinds ws ts i (symbol t) s in let y = ap kind e in absurd (omega arith)
  at-numeral low high e l g (app us) s = let z = kinds ws ts i (app us) s in let y = ap kind e in absurd (omega arith)

  pub at-nothing : node_at ws i ≡ NoNode → PlansAt sorts fields members names ws ts i expected below (Err UnknownLiteral)
  at-nothing e l g (bit_vec w n) s = let z = kinds ws ts i (bit_vec w n) s in let y = ap kind e in absurd (omega arith)
  at-nothing e l g (numeral n) s = let z = kinds ws ts i (numeral n) s in let y = ap kind e in absurd (omega arith)
  at-nothing e l g (string t) s = let z = kinds ws ts i (string t) s in let y = ap kind e in absurd (omega arith)
  at-nothing e l g (symbol t) s = let z = kinds ws ts i (symbol t) s in let y = ap kind e in absurd (omega arith)
  at-nothing e l g (app us) s = let z = kinds ws ts i (app us) s in let y = ap kind e in absurd (omega arith)

  at_bits_read : (width low high : ℕ) → node_at ws i ≡ BitVec width low high → (a : Result Literal Refusal) → BitsOf sorts width a → (l : Lent) → Given sorts fields members names l → (t : Tree) → Standing t ws ts i → a ≡ answer (read (tables_of l) (suc below) expected t)
  unfolding read_with
  at_bits_read width low high e a k l g (bit_vec w n) s =
      let same : ◌≡◌ {A = Node} (BitVec w (n % 2 ^ 64) (n / 2 ^ 64)) (BitVec width low high) = sym s.there.here ∙ e in
      let v : w ≡ width = cc in
      k l g.sorts-are (n % 2 ^ width) ∙ ap (λ (x : ℕ). answer (lit_of (tables_of l) (bit_vec_sort x) (v_bits x (n % 2 ^ x)))) (sym v)
  at_bits_read width low high e a k l g (numeral n) s = let z = kinds ws ts i (numeral n) s in let y = ap kind e in absurd (omega arith)
  at_bits_read width low high e a k l g (string t) s = let z = kinds ws ts i (string t) s in let y = ap kind e in absurd (omega arith)
  at_bits_read width low high e a k l g (symbol t) s = let z = kinds ws ts i (symbol t) s in let y = ap kind e in absurd (omega arith)
  at_bits_read width low high e a k l g (app us) s = let z = kinds ws ts i (app us) s in let y = ap kind e in absurd (omega arith)

  pub at_bits : (width low high : ℕ) → node_at ws i ≡ BitVec width low high → (a : Result Literal Refusal) → BitsOf sorts width a → (p : Result Plan Refusal) → done a ≡ p → PlansAt sorts fields members names ws ts i expected below p
  at_bits width low high e a k p d l g t s = done_means (tables_of l) fields ws ts expected below (read (tables_of l) (suc below) expected t) a p d (at_bits_read width low high e a k l g t s)

  at-string_read : (size offset : ℕ) → node_at ws i ≡ String size offset → (a : Result Literal Refusal) → StringOf sorts size a → (l : Lent) → Given sorts fields members names l → (t : Tree) → Standing t ws ts i → a ≡ answer (read (tables_of l) (suc below) expected t)
  unfolding read_with
  at-string_read size offset e a k l g (bit_vec w n) s = let z = kinds ws ts i (bit_vec w n) s in let y = ap kind e in absurd (omega arith)
  at-string_read size offset e a k l g (numeral n) s = let z = kinds ws ts i (numeral n) s in let y = ap kind e in absurd (omega arith)
  at-string_read size offset e a k l g (string t) s =
      let same : ◌≡◌ {A = Node} (String (length t) s.from) (String size offset) = sym s.there.here ∙ e in
      let v : length t ≡ size = cc in
      k l g.sorts-are t (sym v)
  at-string_read size offset e a k l g (symbol t) s = let z = kinds ws ts i (symbol t) s in let y = ap kind e in absurd (omega arith)
  at-string_read size offset e a k l g (app us) s = let z = kinds ws ts i (app us) s in let y = ap kind e in absurd (omega arith)

  pub at-string : (size offset : ℕ) → node_at ws i ≡ String size offset → (a : Result Literal Refusal) → StringOf sorts size a → (p : Result Plan Refusal) → done a ≡ p → PlansAt sorts fields members names ws ts i expected below p
  at-string size offset e a k p d l g t s = done_means (tables_of l) fields ws ts expected below (read (tables_of l) (suc below) expected t) a p d (at-string_read size offset e a k l g t s)

  at_symbol_read : (size offset : ℕ) → node_at ws i ≡ Symbol size offset → (a : Result Literal Refusal) → WordOf sorts members names (text_at ts offset size) a → (l : Lent) → Given sorts fields members names l → (t : Tree) → Standing t ws ts i → a ≡ answer (read (tables_of l) (suc below) expected t)
  unfolding read_with
  at_symbol_read size offset e a k l g t s =
      let w = symbol-there ws i size offset e ts t s in
      k l g.sorts-are g.members-are g.names-are ∙ ap (λ (b : List ℕ). answer (word_lit (tables_of l) b)) w.2.bytes
      ∙ sym (ap (λ (x : Tree). answer (read (tables_of l) (suc below) expected x)) w.1)

  pub at_symbol : (size offset : ℕ) → node_at ws i ≡ Symbol size offset → (a : Result Literal Refusal) → WordOf sorts members names (text_at ts offset size) a → (p : Result Plan Refusal) → done a ≡ p → PlansAt sorts fields members names ws ts i expected below p
  at_symbol size offset e a k p d l g t s = done_means (tables_of l) fields ws ts expected below (read (tables_of l) (suc below) expected t) a p d (at_symbol_read size offset e a k l g t s)

  pub at-app : (many end : ℕ) → node_at ws i ≡ App many end → (p : Result Plan Refusal) → PlansApp sorts (length fields) names ws ts i expected below p → PlansAt sorts fields members names ws ts i expected below p
  unfolding read_with
  at-app many end e p k l g (bit_vec w n) s = let z = kinds ws ts i (bit_vec w n) s in let y = ap kind e in absurd (omega arith)
  at-app many end e p k l g (numeral n) s = let z = kinds ws ts i (numeral n) s in let y = ap kind e in absurd (omega arith)
  at-app many end e p k l g (string t) s = let z = kinds ws ts i (string t) s in let y = ap kind e in absurd (omega arith)
  at-app many end e p k l g (symbol t) s = let z = kinds ws ts i (symbol t) s in let y = ap kind e in absurd (omega arith)
  at-app many end e p k l g (app us) s =
      subst (λ (fs : List ℕ). Means (tables_of l) fs ws ts expected below p (read (tables_of l) (suc below) expected (app us))) g.fields-are
      (k l g.sorts-are g.names-are (ap (λ (fs : List ℕ). length fs) g.fields-are) us s)
