-- (NAME ..): an entity's literal, a record's, or none.
-- Assumes nothing.
use Rattle.std.proofs.Common.{None, Option, Some, Err, Ok, Result}
use mathlib.Core.Path.{◌≡◌, refl, sym, ap, ◌∙◌, subst}
use mathlib.Core.Bool.{Bool, true, false, true≢false}
use mathlib.Core.List.{List, [], ◌∷◌}
use Prim.Native.Nat.{ℕ, suc, ◌+◌, ◌*◌, ◌-◌}
use native.Mathlib.Omega.{arith}
use lib.ListN.{length}
use Rattle.ground.specs.Lists.{at}
use Rattle.refusals.specs.declared.Refusal.TheVariants.{UnknownLiteral, UnmatchedRecordType}
use Rattle.decimals.specs.Decimal.{digit_count}
use Rattle.arena.specs.declared.node.Node.{Node}
use Rattle.arena.specs.declared.node.Node.TheVariants.{String}
use Rattle.arena.specs.Node.{node_at}
use Rattle.arena.specs.Tree.{Tree, Trees, bit_vec, numeral, string, symbol, app, nil, cons, count}
use Rattle.tables.specs.declared.row.Range.{Range}
use Rattle.tables.specs.declared.sort.SortRow.{SortRow}
use Rattle.tables.specs.Find.{found as found_as, named_sort}
use Rattle.tables.specs.Layout.{Lent, part, tables_of}
use Rattle.tables.specs.Lookup.{FindsNamed}
use Rattle.tables.specs.Range.{Clamps}
use Rattle.tables.specs.Sort.{Sort}
use Rattle.tables.specs.View.{sort_row_at, meant}
use Rattle.tables.proofs.Ranges.{length_clamped}
use Rattle.tables.proofs.Sorts.{row-meant}
use Rattle.shapes.specs.Shows.{StandingAll}
use Rattle.shapes.proofs.Looks.{kind, kinds}
use Rattle.shapes.proofs.Stood.{first_of}
use Rattle.sorts.specs.Result.{◌>>=◌, unless, found}
use Rattle.sorts.specs.Sort.{read_sort}
use Rattle.values.specs.Value.{v_record}
use Rattle.values.proofs.Lengths.{length-entity}
use Rattle.literals.specs.declared.plan.Plan.{Plan}
use Rattle.means.specs.Literal.{Lit, lit, read, fields_of, same_count, made_row}
use Rattle.literals.specs.Answer.{capped, answer}
use Rattle.literals.proofs.Done.{done, done_means}
use Rattle.literals.specs.Plan.{Means, EntityAt, RecordAs, PlansRow, PlansMade}
use Rattle.literals.specs.declared.answer.Literal.{Literal}
use Rattle.refusals.specs.declared.Refusal.{Refusal}

-- an entity's: one argument, and that a string
module _ (ws : List ℕ) (row first many : ℕ) where
  pub entity-many : (many ≡ 1 → ⊥) → EntityAt ws row first many (Err UnknownLiteral)
  entity-many h ts nil s = refl
  entity-many h ts (cons (bit_vec w n) us) s = refl
  entity-many h ts (cons (numeral n) us) s = refl
  entity-many h ts (cons (string t) nil) s = absurd (h s.many-are)
  entity-many h ts (cons (string t) (cons u us)) s = refl
  entity-many h ts (cons (symbol t) us) s = refl
  entity-many h ts (cons (app vs) us) s = refl

  no_string : (n : Node) → ((size offset : ℕ) → n ≡ String size offset → ⊥) → kind n ≡ 3 → ⊥
  no_string (Node.BitVec width low high) f e = omega arith
  no_string (Node.Numeral low high) f e = omega arith
  no_string (Node.String size offset) f e = f size offset refl
  no_string (Node.Symbol size offset) f e = omega arith
  no_string (Node.App children end) f e = omega arith
  no_string Node.NoNode f e = omega arith

  pub entity-other : many ≡ 1 → (n : Node) → node_at ws first ≡ n → ((size offset : ℕ) → n ≡ String size offset → ⊥) → EntityAt ws row first many (Err UnknownLiteral)
  entity-other o n e f ts nil s = refl
  entity-other o n e f ts (cons (bit_vec w m) us) s = refl
  entity-other o n e f ts (cons (numeral m) us) s = refl
  entity-other o n e f ts (cons (string t) us) s = absurd (no_string n f (ap kind (sym e) ∙ kinds ws ts first (string t) (first_of ws ts (string t) us first many s)))
  entity-other o n e f ts (cons (symbol t) us) s = refl
  entity-other o n e f ts (cons (app vs) us) s = refl

  pub entity-string : many ≡ 1 → (size offset : ℕ) → node_at ws first ≡ String size offset → (long : ℕ) → long ≡ capped (digit_count row + 2 * size + 2) → EntityAt ws row first many (Ok (record { row = row; need = long; is_set = false }))
  entity-string o size offset e long k ts nil s = let c = s.many-are in absurd (omega arith)
  entity-string o size offset e long k ts (cons (bit_vec w m) us) s = let z = kinds ws ts first (bit_vec w m) (first_of ws ts (bit_vec w m) us first many s) in let y = ap kind e in absurd (omega arith)
  entity-string o size offset e long k ts (cons (numeral m) us) s = let z = kinds ws ts first (numeral m) (first_of ws ts (numeral m) us first many s) in let y = ap kind e in absurd (omega arith)
  entity-string o size offset e long k ts (cons (string t) nil) s =
      let q = first_of ws ts (string t) nil first many s in
      let same : ◌≡◌ {A = Node} (String (length t) q.from) (String size offset) = sym q.there.here ∙ e in
      let l : length t ≡ size = cc in
      ap (λ (n : ℕ). (Ok (record { row = row; need = n; is_set = false }))) (k ∙ ap (λ (n : ℕ). capped (digit_count row + 2 * n + 2)) (sym l) ∙ ap capped (sym (length-entity row t)))
  entity-string o size offset e long k ts (cons (string t) (cons u us)) s = let c = s.many-are in absurd (omega arith)
  entity-string o size offset e long k ts (cons (symbol t) us) s = let z = kinds ws ts first (symbol t) (first_of ws ts (symbol t) us first many s) in let y = ap kind e in absurd (omega arith)
  entity-string o size offset e long k ts (cons (app vs) us) s = let z = kinds ws ts first (app vs) (first_of ws ts (app vs) us first many s) in let y = ap kind e in absurd (omega arith)

-- as many trees as fields
same_count_lem : (fs : List ℕ) (us : Trees) → length fs ≡ count us → same_count fs us ≡ true
same_count_lem [] nil e = refl
same_count_lem [] (cons u us) e = absurd (omega arith)
same_count_lem (f ∷ fs) nil e = absurd (omega arith)
same_count_lem (f ∷ fs) (cons u us) e = same_count_lem fs us (omega arith)

other-count : (fs : List ℕ) (us : Trees) → (length fs ≡ count us → ⊥) → same_count fs us ≡ false
other-count [] nil e = absurd (e refl)
other-count [] (cons u us) e = refl
other-count (f ∷ fs) nil e = refl
other-count (f ∷ fs) (cons u us) e = other-count fs us (λ h. e (ap suc h))

module _ (most row begin size node many : ℕ) (r : Range) (c : Clamps begin size most r) where
  counted : (fields : List ℕ) → length fields ≡ most → length (part fields begin size) ≡ r.end - r.start
  counted fields m = length_clamped fields begin size r (subst (λ (n : ℕ). Clamps begin size n r) (sym m) c)

  pub record_refused : (r.end - r.start ≡ many → ⊥) → RecordAs most row begin size node many (Err UnmatchedRecordType)
  unfolding unless
  record_refused h T fields m ws ts expected below us s =
      let k = counted fields m in
      let n = s.many-are in
      rw (other-count (part fields begin size) us (λ e. h (sym k ∙ e ∙ sym n))) refl

  pub record_planned : r.end - r.start ≡ many → RecordAs most row begin size node many (Ok (Plan.Record row node r.start (r.end - r.start)))
  unfolding unless
  record_planned h T fields m ws ts expected below us s =
      let k = counted fields m in
      let n = s.many-are in
      let p : part fields begin size ≡ part fields r.start (r.end - r.start) = sym (c.holds fields m) in (
        us,
        subst (λ (x : ℕ). StandingAll us ws ts node x) (sym h) s,
        ap (λ (fs : List ℕ). length fs) (sym p) ∙ k,
        subst (λ (fs : List ℕ). unless (same_count (part fields begin size) us) UnmatchedRecordType (fields_of (λ e u. read T below e u) (part fields begin size) us >>= λ vs. Ok (lit row (v_record row vs))) ≡ (fields_of (λ e u. read T below e u) fs us >>= λ vs. Ok (lit row (v_record row vs)))) p
            (rw (same_count_lem (part fields begin size) us (k ∙ h ∙ n)) refl),
      )

-- by the row that NAME has
module _ (sorts : List ℕ) (most : ℕ) (ws : List ℕ) (row first many : ℕ) (sort : SortRow) (here : sort ≡ sort_row_at sorts row) where
  -- what the row stands for
  stood : (l : Lent) → l.sorts ≡ sorts → (q : SortRow) → sort ≡ q → at (tables_of l).sorts row ≡ meant l row q
  stood l s q e = row-meant l row ∙ ap (λ (x : SortRow). meant l row x) (ap (λ (ws : List ℕ). sort_row_at ws row) s ∙ sym here ∙ e)

  -- neither an entity's nor a record's
  abbrev pub nameless : SortRow → Bool
  nameless SortRow.Bool = true
  nameless SortRow.String = true
  nameless SortRow.Decimal = true
  nameless SortRow.Datetime = true
  nameless SortRow.Duration = true
  nameless (SortRow.BitVec w) = true
  nameless (SortRow.Option q) = true
  nameless (SortRow.Set q) = true
  nameless SortRow.Entity = false
  nameless (SortRow.Record f n) = false
  nameless SortRow.NoRow = true

  nothing : (l : Lent) (q : SortRow) → nameless q ≡ true → (sb : Tree → Result ℕ Refusal) (b : Option ℕ → Tree → Result Lit Refusal) (us : Trees) → made_row (tables_of l) sb b row (meant l row q) us ≡ Err UnknownLiteral
  nothing l SortRow.Bool h sb b us = refl
  nothing l SortRow.String h sb b us = refl
  nothing l SortRow.Decimal h sb b us = refl
  nothing l SortRow.Datetime h sb b us = refl
  nothing l SortRow.Duration h sb b us = refl
  nothing l (SortRow.BitVec w) h sb b us = refl
  nothing l (SortRow.Option q) h sb b us = refl
  nothing l (SortRow.Set q) h sb b us = refl
  nothing l SortRow.Entity h sb b us = absurd (true≢false (sym h))
  nothing l (SortRow.Record f n) h sb b us = absurd (true≢false (sym h))
  nothing l SortRow.NoRow h sb b us = refl

  nameless_by : (q : SortRow) → (q ≡ SortRow.Entity → ⊥) → ((f n : ℕ) → q ≡ SortRow.Record f n → ⊥) → nameless q ≡ true
  nameless_by SortRow.Bool g h = refl
  nameless_by SortRow.String g h = refl
  nameless_by SortRow.Decimal g h = refl
  nameless_by SortRow.Datetime g h = refl
  nameless_by SortRow.Duration g h = refl
  nameless_by (SortRow.BitVec w) g h = refl
  nameless_by (SortRow.Option q) g h = refl
  nameless_by (SortRow.Set q) g h = refl
  nameless_by SortRow.Entity g h = absurd (g refl)
  nameless_by (SortRow.Record f n) g h = absurd (h f n refl)
  nameless_by SortRow.NoRow g h = refl

  pub row-nameless : (sort ≡ SortRow.Entity → ⊥) → ((f n : ℕ) → sort ≡ SortRow.Record f n → ⊥) → PlansRow sorts most ws row first many (Err UnknownLiteral)
  row-nameless g h l s m ts expected below us k =
      sym (ap answer (ap (λ (o : Option Sort). made_row (tables_of l) (λ t. read_sort (tables_of l) below t) (λ x u. read (tables_of l) below x u) row o us) (stood l s sort refl) ∙ nothing l sort (nameless_by sort g h) (λ t. read_sort (tables_of l) below t) (λ x u. read (tables_of l) below x u) us))

  pub row-entity : sort ≡ SortRow.Entity → (a : Result Literal Refusal) → EntityAt ws row first many a → (p : Result Plan Refusal) → done a ≡ p → PlansRow sorts most ws row first many p
  row-entity e a d p f l s m ts expected below us k = done_means (tables_of l) l.fields ws ts expected below _ a p f (
      d ts us k ∙ sym (ap answer (ap (λ (o : Option Sort). made_row (tables_of l) (λ t. read_sort (tables_of l) below t) (λ x u. read (tables_of l) below x u) row o us) (stood l s SortRow.Entity e))))

  pub row_record : (begin size : ℕ) → sort ≡ SortRow.Record begin size → (p : Result Plan Refusal) → RecordAs most row begin size first many p → PlansRow sorts most ws row first many p
  row_record begin size e p d l s m ts expected below us k =
      subst (λ (x : Result Lit Refusal). Means (tables_of l) l.fields ws ts expected below p x)
      (sym (ap (λ (o : Option Sort). made_row (tables_of l) (λ t. read_sort (tables_of l) below t) (λ x u. read (tables_of l) below x u) row o us) (stood l s (SortRow.Record begin size) e)))
      (d (tables_of l) l.fields m ws ts expected below us k)

-- by NAME
module _ (sorts : List ℕ) (most : ℕ) (names ws name : List ℕ) (first many : ℕ) (q : Option ℕ) (h : FindsNamed sorts names name q) where
  named-row : (o : Option ℕ) (row : ℕ) → q ≡ found_as o → q ≡ Some row → o ≡ Some row
  named-row None row e f = let z : ◌≡◌ {A = (Option ℕ)} None (Some row) = sym e ∙ f in let y : ◌≡◌ {A = ℕ} 0 1 = cc in absurd (omega arith)
  named-row (Some i) row e f = let z : ◌≡◌ {A = (Option ℕ)} (Some i) (Some row) = sym e ∙ f in let y : i ≡ row = cc in ap Some y

  named_none : (o : Option ℕ) → q ≡ found_as o → q ≡ None → o ≡ None
  named_none None e f = refl
  named_none (Some i) e f = let z : ◌≡◌ {A = (Option ℕ)} (Some i) None = sym e ∙ f in let y : ◌≡◌ {A = ℕ} 0 1 = cc in absurd (omega arith)

  pub made_row_lem : (row : ℕ) → q ≡ Some row → (p : Result Plan Refusal) → PlansRow sorts most ws row first many p → PlansMade sorts most names ws name first many p
  unfolding ◌>>=◌
  made_row_lem row e p d l s n m ts expected below us k =
      subst (λ (x : Result Lit Refusal). Means (tables_of l) l.fields ws ts expected below p x)
      (sym (ap (λ (o : Option ℕ). found UnknownLiteral o >>= λ i. made_row (tables_of l) (λ t. read_sort (tables_of l) below t) (λ x u. read (tables_of l) below x u) i (at (tables_of l).sorts i) us) (named-row (named_sort (tables_of l) name) row (h l s n) e)))
      (d l s m ts expected below us k)

  pub made_none : q ≡ None → PlansMade sorts most names ws name first many (Err UnknownLiteral)
  unfolding ◌>>=◌
  made_none e l s n m ts expected below us k =
      sym (ap answer (ap (λ (o : Option ℕ). found UnknownLiteral o >>= λ i. made_row (tables_of l) (λ t. read_sort (tables_of l) below t) (λ x u. read (tables_of l) below x u) i (at (tables_of l).sorts i) us) (named_none (named_sort (tables_of l) name) (h l s n) e)))
