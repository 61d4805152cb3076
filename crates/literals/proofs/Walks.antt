-- The record walk: what is left of the fields, and the values before them.
-- Assumes nothing.
use Rattle.std.proofs.Common.{Option, Some, Err, Ok, Result}
use mathlib.Core.Path.{◌≡◌, refl, sym, ap, ◌∙◌, subst}
use mathlib.Core.Bool.{Bool, false, cond}
use mathlib.Core.List.{List, [], ◌∷◌}
use Prim.Native.Nat.{ℕ, suc, min, ◌+◌, ◌-◌, ◌≤◌, ◌<◌}
use native.Mathlib.Omega.{arith}
use lib.Dec.{eqb}
use lib.ListN.{length, get_or, drop}
use lib.Seq.{drop-cons, drop-length, get_or-take, get_or-drop}
use borrow.Author.Tests.{eq-eqb, eqb-true}
use Rattle.ground.proofs.Tests.{by_test}
use Rattle.refusals.specs.declared.Refusal.{Refusal}
use Rattle.refusals.specs.declared.Refusal.TheVariants.{UnmatchedFieldType}
use Rattle.decimals.specs.Decimal.{digit_count}
use Rattle.arena.specs.Node.{after_at}
use Rattle.arena.specs.Tree.{Tree, Trees, nil, cons, count}
use Rattle.tables.specs.Layout.{Lent, part, tables_of}
use Rattle.shapes.specs.Shows.{StandingAll}
use Rattle.shapes.proofs.Stood.{first_of, others-of}
use Rattle.sorts.specs.Result.{◌>>=◌, unless}
use Rattle.values.specs.Text.{text}
use Rattle.values.specs.Value.{Value, Values, v_record, v_nil, v_cons, union}
use Rattle.values.proofs.Lengths.{size, size-union, length_record}
use Rattle.values.proofs.Unions.{union_grouped, union-empty}
use Rattle.means.specs.Literal.{Lit, lit, read, fields_of}
use Rattle.literals.specs.Answer.{capped, need, answer}
use Rattle.literals.specs.Field.{field_answer, record_need}
use Rattle.literals.specs.Plan.{Given, DecodesAt, FieldsAt}
use Rattle.literals.specs.declared.answer.Literal.{Literal}

-- steps one after the other
bind_ok : (m : Result Values Refusal) → (m >>= λ vs. Ok vs) ≡ m
unfolding ◌>>=◌
bind_ok (Ok vs) = refl
bind_ok (Err r) = refl

-- the values before, then those that follow
bind_front : (m : Result Values Refusal) (v : Value) (front : Values) → ((m >>= λ vs. Ok (v_cons v vs)) >>= λ vs. Ok (union front vs)) ≡ (m >>= λ vs. Ok (union (union front (v_cons v v_nil)) vs))
unfolding ◌>>=◌
bind_front (Ok vs) v front = ap Ok (sym (union_grouped front (v_cons v v_nil) vs))
bind_front (Err r) v front = refl

-- what a field's answer tells of what was read
pub record Took (m : Result Lit Refusal) (wanted long : ℕ) : Type 0 where
  pub value : Value
  pub read_as : m ≡ Ok (lit wanted value)
  pub takes : long ≡ need value

pub took : (m : Result Lit Refusal) (a : Result Literal Refusal) (wanted long : ℕ) → a ≡ answer m → field_answer a wanted ≡ Ok long → Took m wanted long
took (Ok l) a wanted long e f =
    let g : cond (eqb l.row wanted) (Ok (need l.value)) (Err UnmatchedFieldType) ≡ Ok long = ap (λ (x : Result Literal Refusal). field_answer x wanted) (sym e) ∙ f in
    by_test (eqb l.row wanted)
    (λ t. let r : l.row ≡ wanted = eqb-true l.row wanted t in
    let k : ◌≡◌ {A = (Result ℕ Refusal)} (Ok (need l.value)) (Ok long) = ap (λ (b : Bool). cond b (Ok (need l.value)) (Err UnmatchedFieldType)) (sym t) ∙ g in
    let n : need l.value ≡ long = cc in
    record { value = l.value; read_as = ap (λ (row : ℕ). Ok (lit row l.value)) r; takes = sym n })
    (λ t. let k : ◌≡◌ {A = (Result ℕ Refusal)} (Err UnmatchedFieldType) (Ok long) = ap (λ (b : Bool). cond b (Ok (need l.value)) (Err UnmatchedFieldType)) (sym t) ∙ g in
    let z : ◌≡◌ {A = ℕ} 0 1 = cc in absurd (omega arith))
took (Err r) a wanted long e f =
    let k : ◌≡◌ {A = (Result ℕ Refusal)} (Err r) (Ok long) = ap (λ (x : Result Literal Refusal). field_answer x wanted) (sym e) ∙ f in
    let z : ◌≡◌ {A = ℕ} 0 1 = cc in absurd (omega arith)

-- a field that is refused ends the walk
pub not_taken : (m : Result Lit Refusal) (a : Result Literal Refusal) (wanted : ℕ) (r : Refusal) (next : Lit → Result Values Refusal) → a ≡ answer m → field_answer a wanted ≡ Err r → (m >>= λ l. unless (eqb l.row wanted) UnmatchedFieldType (next l)) ≡ Err r
unfolding ◌>>=◌ unless
not_taken (Ok l) a wanted r next e f =
    let g : cond (eqb l.row wanted) (Ok (need l.value)) (Err UnmatchedFieldType) ≡ Err r = ap (λ (x : Result Literal Refusal). field_answer x wanted) (sym e) ∙ f in
    by_test (eqb l.row wanted)
    (λ t. let k : ◌≡◌ {A = (Result ℕ Refusal)} (Ok (need l.value)) (Err r) = ap (λ (b : Bool). cond b (Ok (need l.value)) (Err UnmatchedFieldType)) (sym t) ∙ g in
    let z : ◌≡◌ {A = ℕ} 0 1 = cc in absurd (omega arith))
    (λ t. let k : ◌≡◌ {A = (Result ℕ Refusal)} (Err UnmatchedFieldType) (Err r) = ap (λ (b : Bool). cond b (Ok (need l.value)) (Err UnmatchedFieldType)) (sym t) ∙ g in
    let n : UnmatchedFieldType ≡ r = cc in
    rw t (ap Err n))
not_taken (Err q) a wanted r next e f =
    let k : ◌≡◌ {A = (Result ℕ Refusal)} (Err q) (Err r) = ap (λ (x : Result Literal Refusal). field_answer x wanted) (sym e) ∙ f in
    let n : q ≡ r = cc in
    ap Err n

-- of the fields fs and the trees us, those from place i on are left, and stand from a node on
pub record Left (below : Option ℕ → Tree → Result Lit Refusal) (fs : List ℕ) (us : Trees) (ws ts : List ℕ) (place total i many : ℕ) : Type 0 where
  pub front : Values
  pub others : Trees
  pub there : StandingAll others ws ts place (many - i)
  pub same : fields_of below fs us ≡ (fields_of below (drop i fs) others >>= λ vs. Ok (union front vs))
  pub sum : total ≡ capped (size front)

module _ (sorts fields members names ws ts : List ℕ) (row node first many allow : ℕ) where
  abbrev pub LeftAt : ℕ → ℕ → ℕ → Type 0
  LeftAt place total i =
      (l : Lent) → Given sorts fields members names l → (us : Trees) → StandingAll us ws ts node many → length (part fields first many) ≡ many →
      Left (λ e u. read (tables_of l) allow e u) (part fields first many) us ws ts place total i many

  pub left-start : LeftAt node 0 0
  left-start l g us s len = record {
    front = v_nil;
    others = us;
    there = subst (λ (n : ℕ). StandingAll us ws ts node n) (let e : many ≡ many - 0 = omega arith in e) s;
    same = sym (bind_ok (fields_of (λ e u. read (tables_of l) allow e u) (part fields first many) us));
    sum = refl;
  }

  module _ (place total i : ℕ) (h : LeftAt place total i) where
    pub left_end : many ≤ i → i ≤ many → (long : ℕ) → long ≡ record_need row total → FieldsAt sorts fields members names ws ts row node first many allow (Ok (record { row = row; need = long; is_set = false }))
    unfolding ◌>>=◌
    left_end p q long e l g us s len =
        let w = h l g us s len in
        let all : i ≡ length (part fields first many) = omega arith in
        let none_left : drop i (part fields first many) ≡ [] = ap (λ (n : ℕ). drop n (part fields first many)) all ∙ drop-length (part fields first many) in
        let walked : fields_of (λ e u. read (tables_of l) allow e u) (part fields first many) us ≡ Ok w.front =
        w.same ∙ ap (λ (fs : List ℕ). fields_of (λ e u. read (tables_of l) allow e u) fs w.others >>= λ vs. Ok (union w.front vs)) none_left ∙ ap Ok (union-empty w.front) in
        let t = w.sum in
        let k = length_record row w.front in
        let n : long ≡ need (v_record row w.front) = e ∙ needs (digit_count row) total (size w.front) (length (text (v_record row w.front))) t k in
        ap (λ (x : ℕ). (Ok (record { row = row; need = x; is_set = false }))) n ∙ sym (ap (λ (m : Result Values Refusal). answer (m >>= λ vs. Ok (lit row (v_record row vs)))) walked)
      where
        needs : (d total n m : ℕ) → total ≡ min n 18446744073709551615 → m ≡ d + (n - 1) + 3 → min (d + (total - 1) + 3) 18446744073709551615 ≡ min m 18446744073709551615
        needs d total n m e f = omega arith

    module _ (more : i < many) (wanted : ℕ) (field : wanted ≡ get_or fields (first + i) 0) (a : Result Literal Refusal) (d : DecodesAt sorts fields members names ws ts place (Some wanted) allow a) where
      -- the field that comes next
      next_field : length (part fields first many) ≡ many → drop i (part fields first many) ≡ wanted ∷ drop (suc i) (part fields first many)
      next_field len =
          drop-cons (part fields first many) i 0 (omega arith)
          ∙ ap (λ (f : ℕ). f ∷ drop (suc i) (part fields first many)) (get_or-take many (drop first fields) i 0 more ∙ get_or-drop first fields i 0 ∙ sym field)

      pub left-refused : (r : Refusal) → field_answer a wanted ≡ Err r → FieldsAt sorts fields members names ws ts row node first many allow (Err r)
      unfolding ◌>>=◌
      left-refused r f l g us s len =
          let w = h l g us s len in
          go w.others w refl
        where
          go : (vs : Trees) (w : Left (λ e u. read (tables_of l) allow e u) (part fields first many) us ws ts place total i many) → w.others ≡ vs → Err r ≡ answer (fields_of (λ e u. read (tables_of l) allow e u) (part fields first many) us >>= λ vs. Ok (lit row (v_record row vs)))
          go nil w o = let c = w.there.many-are in let z = ap count o in absurd (omega arith)
          go (cons u vs) w o =
              let st : StandingAll (cons u vs) ws ts place (many - i) = subst (λ (x : Trees). StandingAll x ws ts place (many - i)) o w.there in
              let n = not_taken (read (tables_of l) allow (Some wanted) u) a wanted r (λ k. fields_of (λ e u. read (tables_of l) allow e u) (drop (suc i) (part fields first many)) vs >>= λ xs. Ok (v_cons k.value xs)) (d l g u (first_of ws ts u vs place (many - i) st)) f in
              let m : fields_of (λ e u. read (tables_of l) allow e u) (part fields first many) us ≡ Err r =
              w.same ∙ ap (λ (x : Trees). fields_of (λ e u. read (tables_of l) allow e u) (drop i (part fields first many)) x >>= λ xs. Ok (union w.front xs)) o
              ∙ ap (λ (fs : List ℕ). fields_of (λ e u. read (tables_of l) allow e u) fs (cons u vs) >>= λ xs. Ok (union w.front xs)) (next_field len)
              ∙ ap (λ (x : Result Values Refusal). x >>= λ xs. Ok (union w.front xs)) n in
              sym (ap (λ (x : Result Values Refusal). answer (x >>= λ vs. Ok (lit row (v_record row vs)))) m)

      pub left-next : (long : ℕ) → field_answer a wanted ≡ Ok long → (now : ℕ) → now ≡ capped (total + capped (long + 1)) → (after : ℕ) → after ≡ after_at ws place → LeftAt after now (i + 1)
      unfolding ◌>>=◌ unless
      left-next long f now e after p l g us s len =
          let w = h l g us s len in
          go w.others w refl
        where
          sums : (t n k now v : ℕ) → t ≡ min n 18446744073709551615 → k ≡ min v 18446744073709551615 → now ≡ min (t + min (k + 1) 18446744073709551615) 18446744073709551615 → now ≡ min (n + (v + 1 + 0)) 18446744073709551615
          sums t n k now v a b c = omega arith

          go : (vs : Trees) (w : Left (λ e u. read (tables_of l) allow e u) (part fields first many) us ws ts place total i many) → w.others ≡ vs → Left (λ e u. read (tables_of l) allow e u) (part fields first many) us ws ts after now (i + 1) many
          go nil w o = let c = w.there.many-are in let z = ap count o in absurd (omega arith)
          go (cons u vs) w o =
              let st : StandingAll (cons u vs) ws ts place (many - i) = subst (λ (x : Trees). StandingAll x ws ts place (many - i)) o w.there in
              let k = took (read (tables_of l) allow (Some wanted) u) a wanted long (d l g u (first_of ws ts u vs place (many - i) st)) f in
              let one : suc i ≡ i + 1 = omega arith in
              let step : fields_of (λ e u. read (tables_of l) allow e u) (wanted ∷ drop (suc i) (part fields first many)) (cons u vs) ≡ (fields_of (λ e u. read (tables_of l) allow e u) (drop (suc i) (part fields first many)) vs >>= λ xs. Ok (v_cons k.value xs)) =
              ap (λ (m : Result Lit Refusal). m >>= λ x. unless (eqb x.row wanted) UnmatchedFieldType (fields_of (λ e u. read (tables_of l) allow e u) (drop (suc i) (part fields first many)) vs >>= λ xs. Ok (v_cons x.value xs))) k.read_as ∙ rw (eq-eqb wanted wanted refl) refl in
              record {
                front = union w.front (v_cons k.value v_nil);
                others = vs;
                there = others-of ws ts u vs place (many - i) st after (many - (i + 1)) p (omega arith);
                same =
                    w.same ∙ ap (λ (x : Trees). fields_of (λ e u. read (tables_of l) allow e u) (drop i (part fields first many)) x >>= λ xs. Ok (union w.front xs)) o
                    ∙ ap (λ (fs : List ℕ). fields_of (λ e u. read (tables_of l) allow e u) fs (cons u vs) >>= λ xs. Ok (union w.front xs)) (next_field len)
                    ∙ ap (λ (x : Result Values Refusal). x >>= λ xs. Ok (union w.front xs)) step
                    ∙ bind_front (fields_of (λ e u. read (tables_of l) allow e u) (drop (suc i) (part fields first many)) vs) k.value w.front
                    ∙ ap (λ (j : ℕ). fields_of (λ e u. read (tables_of l) allow e u) (drop j (part fields first many)) vs >>= λ xs. Ok (union (union w.front (v_cons k.value v_nil)) xs)) one;
                sum = sums total (size w.front) long now (length (text k.value)) w.sum k.takes e ∙ ap capped (sym (size-union w.front (v_cons k.value v_nil)));
              }
