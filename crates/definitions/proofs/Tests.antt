-- The tests of an `or` body: those before, and what is left.
-- Assumes nothing.
use Rattle.std.proofs.Common.{None, Err, Ok, Result}
use mathlib.Core.Path.{◌≡◌, refl, sym, ap, ◌∙◌, subst}
use mathlib.Core.Bool.{Bool, true, false}
use mathlib.Core.List.{List, [], ◌∷◌, ◌++◌, append-nil}
use Prim.Native.Nat.{ℕ, min, ◌+◌, ◌-◌, ◌≤◌, ◌<◌}
use native.Mathlib.Omega.{arith}
use lib.Dec.{eqb}
use lib.ListN.{length, length-append}
use Rattle.refusals.specs.declared.Refusal.{Refusal}
use Rattle.refusals.specs.declared.Refusal.TheVariants.{UnmatchedType, UnexpectedForm}
use Rattle.arena.specs.Node.{after_at}
use Rattle.arena.specs.Tree.{Tree, Trees, nil, cons, count}
use Rattle.tables.specs.Layout.{Lent, tables_of}
use Rattle.tables.specs.Sort.{Tables}
use Rattle.shapes.specs.Shows.{StandingAll, Reads}
use Rattle.shapes.proofs.Stood.{first_of, others-of}
use Rattle.sorts.specs.Result.{◌>>=◌, unless, found}
use Rattle.sorts.specs.Sort.{levels}
use Rattle.values.specs.Text.{text}
use Rattle.values.specs.Value.{v_bool}
use Rattle.means.specs.Literal.{Lit, read}
use Rattle.literals.specs.Answer.{capped}
use Rattle.literals.specs.Plan.{Given}
use Rattle.commands.specs.Command.{key}
use Rattle.model.specs.Model.{Arm, arm_of, Table, table_of, push, read_tests}
use Rattle.model.specs.Listing.{line, arm_lines}
use Rattle.definitions.specs.Measure.{arm_size, table_size, measured, read_test, TestAt, TestsOf}
use Rattle.definitions.proofs.Chains.{after, bind_none, bind_more, lines-append, was-refused, was-need, sums-more}

-- a test is read before what follows it
pulled : (o : Result Tree Refusal) (f : Tree → Result Lit Refusal) (p : Lit → Bool) (next : Result Table Refusal) →
    (o >>= λ k. f k >>= λ m. unless (p m) UnmatchedType (next >>= λ t. Ok (push (arm_of m.value (v_bool true)) t)))
    ≡ ((o >>= λ k. f k >>= λ m. unless (p m) UnmatchedType (Ok (arm_of m.value (v_bool true)))) >>= λ a. next >>= λ t. Ok (push a t))
unfolding ◌>>=◌ unless
pulled (Err r) f p next = refl
pulled (Ok k) f p next = first (f k)
  where
    second : (m : Lit) (b : Bool) → unless b UnmatchedType (next >>= λ t. Ok (push (arm_of m.value (v_bool true)) t)) ≡ (unless b UnmatchedType (Ok (arm_of m.value (v_bool true))) >>= λ a. next >>= λ t. Ok (push a t))
    second m true = refl
    second m false = refl

    first : (x : Result Lit Refusal) → (x >>= λ m. unless (p m) UnmatchedType (next >>= λ t. Ok (push (arm_of m.value (v_bool true)) t))) ≡ ((x >>= λ m. unless (p m) UnmatchedType (Ok (arm_of m.value (v_bool true)))) >>= λ a. next >>= λ t. Ok (push a t))
    first (Err r) = refl
    first (Ok m) = second m (p m)

module _ (T : Tables) (x : List ℕ) (argument result : ℕ) where
  tests-first : (b : Tree) (us : Trees) → read_tests T x argument result (cons b us) ≡ (read_test T x argument b >>= λ a. read_tests T x argument result us >>= λ t. Ok (push a t))
  unfolding read_tests
  tests-first b us = pulled (found UnexpectedForm (key x b)) (λ k. read T levels None k) (λ m. eqb m.row argument) (read_tests T x argument result us)

-- of the tests us, those before are read, and what is left stands from a node on
pub record Left (T : Tables) (x : List ℕ) (argument result : ℕ) (us : Trees) (ws ts : List ℕ) (at total left : ℕ) : Type 0 where
  pub front : List Arm
  pub others : Trees
  pub there : StandingAll others ws ts at left
  pub same : read_tests T x argument result us ≡ (read_tests T x argument result others >>= λ table. Ok (after front table))
  pub sum : total ≡ capped (length (arm_lines front))

module _ (sorts fields members names ws ts : List ℕ) (offset size argument first many : ℕ) where
  abbrev pub LeftAt : ℕ → ℕ → ℕ → Type 0
  LeftAt at total i =
      (l : Lent) → Given sorts fields members names l → (x : List ℕ) (us : Trees) (result : ℕ) → Reads x ts offset size → StandingAll us ws ts first many →
      Left (tables_of l) x argument result us ws ts at total (many - i)

  pub tests-start : LeftAt first 0 0
  tests-start l g x us result r s =
      let e : many ≡ many - 0 = omega arith in
      record { front = []; others = us; there = subst (λ (n : ℕ). StandingAll us ws ts first n) e s; same = sym (bind_none (read_tests (tables_of l) x argument result us)); sum = refl }

  module _ (at total i : ℕ) (h : LeftAt at total i) where
    pub tests-end : many ≤ i → (r : ℕ) → r ≡ capped (total + 11) → TestsOf sorts fields members names ws ts offset size argument first many (Ok r)
    unfolding ◌>>=◌ read_tests text
    tests-end p r e l g x us result z s =
        let w = h l g x us result z s in
        go w.others w refl
      where
        sums : (t n x : ℕ) → t ≡ min n 18446744073709551615 → x ≡ n + 11 → min (t + 11) 18446744073709551615 ≡ min x 18446744073709551615
        sums t n x a b = omega arith

        go : (vs : Trees) (w : Left (tables_of l) x argument result us ws ts at total (many - i)) → w.others ≡ vs → Ok r ≡ measured table_size (read_tests (tables_of l) x argument result us)
        go (cons b vs) w o = let c = w.there.many-are in let y = ap count o in absurd (omega arith)
        go nil w o =
            ap Ok
            (e ∙ sums total (length (arm_lines w.front)) (table_size (after w.front (table_of [] (v_bool false)))) w.sum
            (length-append (arm_lines (w.front ++ [])) (line "else" (text (v_bool false))) ∙ ap (λ (xs : List Arm). length (arm_lines xs) + 11) (append-nil w.front)))
            ∙ sym (ap (λ (n : Result Table Refusal). measured table_size n) (w.same ∙ ap (λ (vs : Trees). read_tests (tables_of l) x argument result vs >>= λ table. Ok (after w.front table)) o))

    module _ (more : i < many) (m : Result ℕ Refusal) (a : TestAt sorts fields members names ws ts offset size argument at m) where
      pub tests-refused : (z : Refusal) → m ≡ Err z → TestsOf sorts fields members names ws ts offset size argument first many (Err z)
      unfolding ◌>>=◌
      tests-refused z f l g x us result r s =
          let w = h l g x us result r s in
          go w.others w refl
        where
          go : (vs : Trees) (w : Left (tables_of l) x argument result us ws ts at total (many - i)) → w.others ≡ vs → Err z ≡ measured table_size (read_tests (tables_of l) x argument result us)
          go nil w o = let c = w.there.many-are in let y = ap count o in absurd (omega arith)
          go (cons b vs) w o =
              let st : StandingAll (cons b vs) ws ts at (many - i) = subst (λ (y : Trees). StandingAll y ws ts at (many - i)) o w.there in
              let y = was-refused (read_test (tables_of l) x argument b) arm_size z (sym f ∙ a l g x b r (first_of ws ts b vs at (many - i) st)) in
              sym (ap (λ (n : Result Table Refusal). measured table_size n)
              (w.same ∙ ap (λ (u : Trees). read_tests (tables_of l) x argument result u >>= λ table. Ok (after w.front table)) o
              ∙ ap (λ (n : Result Table Refusal). n >>= λ table. Ok (after w.front table)) (tests-first (tables_of l) x argument result b vs)
              ∙ ap (λ (n : Result Arm Refusal). (n >>= λ q. read_tests (tables_of l) x argument result vs >>= λ table. Ok (push q table)) >>= λ table. Ok (after w.front table)) y))

      pub tests-next : (long : ℕ) → m ≡ Ok long → (now : ℕ) → now ≡ capped (total + long) → (next : ℕ) → next ≡ after_at ws at → LeftAt next now (i + 1)
      unfolding ◌>>=◌
      tests-next long f now e next p l g x us result r s =
          let w = h l g x us result r s in
          go w.others w refl
        where
          go : (vs : Trees) (w : Left (tables_of l) x argument result us ws ts at total (many - i)) → w.others ≡ vs → Left (tables_of l) x argument result us ws ts next now (many - (i + 1))
          go nil w o = let c = w.there.many-are in let y = ap count o in absurd (omega arith)
          go (cons b vs) w o =
              let st : StandingAll (cons b vs) ws ts at (many - i) = subst (λ (y : Trees). StandingAll y ws ts at (many - i)) o w.there in
              let y = was-need (read_test (tables_of l) x argument b) arm_size long (sym f ∙ a l g x b r (first_of ws ts b vs at (many - i) st)) in
              record {
                front = w.front ++ (y.it ∷ []);
                others = vs;
                there = others-of ws ts b vs at (many - i) st next (many - (i + 1)) p (omega arith);
                same =
                    w.same ∙ ap (λ (u : Trees). read_tests (tables_of l) x argument result u >>= λ table. Ok (after w.front table)) o
                    ∙ ap (λ (n : Result Table Refusal). n >>= λ table. Ok (after w.front table)) (tests-first (tables_of l) x argument result b vs)
                    ∙ ap (λ (n : Result Arm Refusal). (n >>= λ q. read_tests (tables_of l) x argument result vs >>= λ table. Ok (push q table)) >>= λ table. Ok (after w.front table)) y.read
                    ∙ bind_more (read_tests (tables_of l) x argument result vs) w.front y.it;
                sum = sums-more total long now (length (arm_lines w.front)) (arm_size y.it) (length (arm_lines (w.front ++ (y.it ∷ [])))) w.sum y.size_is e (lines-append w.front (y.it ∷ []));
              }
