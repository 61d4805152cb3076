-- Words at the fronts of what was lent, or the need of the first buffer that is short.
-- Assumes nothing.
use Rattle.std.proofs.Common.{Err, None, Ok, Option, Result, Some}
use mathlib.Core.Path.{◌≡◌, refl, sym, ap, ◌∙◌}
use mathlib.Core.Bool.{Bool, true, false, cond}
use mathlib.Core.List.{List, []}
use Prim.Native.Nat.{ℕ, ◌≤◌, ◌<◌}
use native.Mathlib.Omega.{arith}
use lib.Dec.{leb}
use lib.ListN.{length, take}
use lib.Seq.{length-take-le}
use borrow.Author.Tests.{le-leb, lt-leb}
use Rattle.ground.proofs.Tests.{by_order}
use Rattle.refusals.specs.declared.Refusal.{Refusal}
use Rattle.refusals.specs.declared.Refusal.TheVariants.{BadTable, OutRoom}
use Rattle.lent.specs.Left.{onto}
use Rattle.tables.specs.Layout.{Lent}
use Rattle.tables_text.specs.Read.{Buffers, Left, refusing, stored, fitted, Leaves}
use Rattle.tables_text.specs.Reading.{Fits}
use Rattle.tables_text.specs.Fronts.{Within, short, first_short, answer_told, stored_by, Stored}
use Rattle.tables_text.specs.declared.parse.Counts.{Counts}

pub leaves-refused : (entry : Buffers) (why : _) → Leaves (refusing entry why) (Err why) entry
leaves-refused entry why = record { answers = refl; holds = refl }

pub buffers_equal : {a b c d e i j k m n : List ℕ} → a ≡ i → b ≡ j → c ≡ k → d ≡ m → e ≡ n
    → ◌≡◌ {A = Buffers} (record { sorts = a; fields = b; variables = c; functions = d; members = e }) (record { sorts = i; fields = j; variables = k; functions = m; members = n })
buffers_equal p q r s t = simp (p, q, r, s, t)

module _ (entry : Buffers) (l : Lent) where
  pub fit-stored : Fits l entry → (r : Result Counts Refusal) (exit : Buffers) → Leaves (stored entry l) r exit → Leaves (fitted entry l) r exit
  unfolding fitted
  fit-stored f r exit s =
      rw (
        le-leb (length l.sorts) (length entry.sorts) f.sorts,
        le-leb (length l.fields) (length entry.fields) f.fields,
        le-leb (length l.variables) (length entry.variables) f.variables,
        le-leb (length l.functions) (length entry.functions) f.functions,
        le-leb (length l.members) (length entry.members) f.members,
      )
      s

-- the answer that the rows and the lengths tell
module _ (i j k m n sorts fields variables functions members : ℕ) (p : Option Counts) (q : p ≡ Some (record { sorts = i; fields = j; variables = k; functions = m; members = n })) where
  rows_told : answer_told sorts fields variables functions members p ≡ first_short i j k m n sorts fields variables functions members
  rows_told = ap (answer_told sorts fields variables functions members) q

  pub first_1 : sorts < i → Err (OutRoom i) ≡ answer_told sorts fields variables functions members p
  unfolding first_short
  first_1 h = sym (rows_told ∙ rw (lt-leb i sorts h) refl)

  module _ (a : i ≤ sorts) where
    pub first_2 : fields < j → Err (OutRoom j) ≡ answer_told sorts fields variables functions members p
    unfolding first_short
    first_2 h = sym (rows_told ∙ rw (le-leb i sorts a, lt-leb j fields h) refl)

    module _ (b : j ≤ fields) where
      pub first_3 : variables < k → Err (OutRoom k) ≡ answer_told sorts fields variables functions members p
      unfolding first_short
      first_3 h = sym (rows_told ∙ rw (le-leb i sorts a, le-leb j fields b, lt-leb k variables h) refl)

      module _ (c : k ≤ variables) where
        pub first_4 : functions < m → Err (OutRoom m) ≡ answer_told sorts fields variables functions members p
        unfolding first_short
        first_4 h = sym (rows_told ∙ rw (le-leb i sorts a, le-leb j fields b, le-leb k variables c, lt-leb m functions h) refl)

        module _ (d : m ≤ functions) where
          pub first_5 : members < n → Err (OutRoom n) ≡ answer_told sorts fields variables functions members p
          unfolding first_short
          first_5 h = sym (rows_told ∙ rw (le-leb i sorts a, le-leb j fields b, le-leb k variables c, le-leb m functions d, lt-leb n members h) refl)

          pub first-none : n ≤ members → (Ok (record { sorts = i; fields = j; variables = k; functions = m; members = n })) ≡ answer_told sorts fields variables functions members p
          unfolding first_short
          first-none h = sym (rows_told ∙ rw (le-leb i sorts a, le-leb j fields b, le-leb k variables c, le-leb m functions d, le-leb n members h) refl)

pub none_told : (sorts fields variables functions members : ℕ) (p : Option Counts) → p ≡ None → Err BadTable ≡ answer_told sorts fields variables functions members p
none_told sorts fields variables functions members p q = ap (answer_told sorts fields variables functions members) (sym q)

-- what was read had room
record Roomy (need room : ℕ) (rest : Result Counts Refusal) (i j k m n : ℕ) : Type 0 where
  has : need ≤ room
  next : rest ≡ Ok (record { sorts = i; fields = j; variables = k; functions = m; members = n })

roomy : (need room : ℕ) (rest : Result Counts Refusal) (i j k m n : ℕ) → short need room rest ≡ Ok (record { sorts = i; fields = j; variables = k; functions = m; members = n }) → Roomy need room rest i j k m n
roomy need room rest i j k m n q =
    by_order room need
    (λ l.
    let y : Err (OutRoom need) ≡ (Ok (record { sorts = i; fields = j; variables = k; functions = m; members = n })) = ap (λ (b : Bool). cond b rest (Err (OutRoom need))) (sym (lt-leb need room l)) ∙ q in
    let z : ◌≡◌ {A = ℕ} 0 1 = cc in
    absurd (omega arith))
    (λ l. record { has = l; next = ap (λ (b : Bool). cond b rest (Err (OutRoom need))) (sym (le-leb need room l)) ∙ q })

-- what is left, by the answer
module _ (rows entry : Buffers) where
  abbrev pub left_by : Result Counts Refusal → Left
  left_by answer = record { answer = answer; holds = stored_by rows entry answer }

  left_by_lem : (t : Bool) (need : ℕ) (rest : Result Counts Refusal) (x : Left) → x ≡ left_by rest → cond t x (refusing entry (OutRoom need)) ≡ left_by (cond t rest (Err (OutRoom need)))
  left_by_lem true need rest x q = q
  left_by_lem false need rest x q = refl

  module _ (i j k m n : ℕ) where
    abbrev pub words : Lent
    words = record { sorts = take i rows.sorts; fields = take j rows.fields; variables = take k rows.variables; functions = take m rows.functions; members = take n rows.members; names = [] }

    abbrev pub first : Result Counts Refusal
    first = first_short i j k m n (length entry.sorts) (length entry.fields) (length entry.variables) (length entry.functions) (length entry.members)

    module _ (w : Within i j k m n rows) where
      size_1 : length (take i rows.sorts) ≡ i
      size_1 = length-take-le i rows.sorts w.sorts

      size_2 : length (take j rows.fields) ≡ j
      size_2 = length-take-le j rows.fields w.fields

      size_3 : length (take k rows.variables) ≡ k
      size_3 = length-take-le k rows.variables w.variables

      size_4 : length (take m rows.functions) ≡ m
      size_4 = length-take-le m rows.functions w.functions

      size_5 : length (take n rows.members) ≡ n
      size_5 = length-take-le n rows.members w.members

      five-equal : {a b c d e : ℕ} → a ≡ i → b ≡ j → c ≡ k → d ≡ m → e ≡ n → ◌≡◌ {A = Result Counts Refusal} (Ok (record { sorts = a; fields = b; variables = c; functions = d; members = e })) (Ok (record { sorts = i; fields = j; variables = k; functions = m; members = n }))
      five-equal p q r s t = cc

      stored-so : stored entry words ≡ left_by (Ok (record { sorts = i; fields = j; variables = k; functions = m; members = n }))
      stored-so = ap (λ (x : Result Counts Refusal). record { answer = x; holds = stored_by rows entry (Ok (record { sorts = i; fields = j; variables = k; functions = m; members = n })) }) (five-equal size_1 size_2 size_3 size_4 size_5)

      fitting-so : (t u : ℕ) (room : ℕ) (rest : Result Counts Refusal) (x : Left) → t ≡ u → x ≡ left_by rest
          → cond (leb t room) x (refusing entry (OutRoom t)) ≡ left_by (short u room rest)
      fitting-so t u room rest x e q = ap (λ (z : ℕ). cond (leb z room) x (refusing entry (OutRoom z))) e ∙ left_by_lem (leb u room) u rest x q

      pub fitted-so : fitted entry words ≡ left_by first
      unfolding fitted first_short
      fitted-so =
          fitting-so (length (take i rows.sorts)) i (length entry.sorts) _ _ size_1
          (fitting-so (length (take j rows.fields)) j (length entry.fields) _ _ size_2
          (fitting-so (length (take k rows.variables)) k (length entry.variables) _ _ size_3
          (fitting-so (length (take m rows.functions)) m (length entry.functions) _ _ size_4
          (fitting-so (length (take n rows.members)) n (length entry.members) (Ok (record { sorts = i; fields = j; variables = k; functions = m; members = n })) (stored entry words) size_5 stored-so))))

    pub read-within : (a b c d e : ℕ) → first ≡ Ok (record { sorts = a; fields = b; variables = c; functions = d; members = e }) → ◌≡◌ {A = Result Counts Refusal} (Ok (record { sorts = i; fields = j; variables = k; functions = m; members = n })) (Ok (record { sorts = a; fields = b; variables = c; functions = d; members = e })) × Within i j k m n entry
    unfolding first_short
    read-within a b c d e q =
        let f = roomy i (length entry.sorts) _ a b c d e q in
        let g = roomy j (length entry.fields) _ a b c d e f.next in
        let h = roomy k (length entry.variables) _ a b c d e g.next in
        let o = roomy m (length entry.functions) _ a b c d e h.next in
        let p = roomy n (length entry.members) (Ok (record { sorts = i; fields = j; variables = k; functions = m; members = n })) a b c d e o.next in
        (p.next, record { sorts = f.has; fields = g.has; variables = h.has; functions = o.has; members = p.has })

-- what the code that stores does
module _ (answer : Result Counts Refusal) (rows entry : Buffers) where
  pub none-stored : (why : Refusal) → answer ≡ Err why → Stored answer rows entry (Err why) entry
  none-stored why q = record { answers = sym q; holds = ap (stored_by rows entry) (sym q) }

  pub all-stored : (i j k m n : ℕ) → answer ≡ Ok (record { sorts = i; fields = j; variables = k; functions = m; members = n }) → (a b c d e : List ℕ)
      → a ≡ onto (take i rows.sorts) entry.sorts → b ≡ onto (take j rows.fields) entry.fields
      → c ≡ onto (take k rows.variables) entry.variables → d ≡ onto (take m rows.functions) entry.functions → e ≡ onto (take n rows.members) entry.members
      → Stored answer rows entry (Ok (record { sorts = i; fields = j; variables = k; functions = m; members = n })) (record { sorts = a; fields = b; variables = c; functions = d; members = e })
  all-stored i j k m n q a b c d e p s t u v = record { answers = sym q; holds = buffers_equal p s t u v ∙ ap (stored_by rows entry) (sym q) }
