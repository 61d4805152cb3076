-- The parts in order: those before, what they defined and where, and the parts that are left.
-- Assumes nothing.
use Rattle.std.proofs.Common.{Err, Ok, Result, None, Option, Some}
use mathlib.Core.Path.{◌≡◌, refl, sym, ap, ◌∙◌, subst}
use mathlib.Core.Bool.{true}
use mathlib.Core.List.{List, [], ◌∷◌, ◌++◌, map, append_assoc, append-nil}
use Prim.Native.Nat.{ℕ, ◌+◌, ◌-◌, ◌*◌, ◌≤◌, ◌<◌}
use native.Mathlib.Omega.{arith}
use lib.ListN.{replicate}
use Rattle.refusals.specs.declared.Refusal.{Refusal}
use Rattle.arena.specs.Node.{after_at}
use Rattle.arena.specs.Tree.{Tree, Trees, nil, cons, count, nodes}
use Rattle.arena.proofs.Layouts.{stands_lays, stands_after}
use Rattle.tables.specs.Layout.{Lent, tables_of}
use Rattle.tables.specs.Rules.{lawful}
use Rattle.tables.proofs.Lawful.{lawful-parts}
use Rattle.tables.proofs.Rows.{variable-count}
use Rattle.shapes.specs.Shows.{StandingAll}
use Rattle.shapes.proofs.Stood.{first_of, others-of}
use Rattle.sorts.specs.Result.{◌>>=◌}
use Rattle.literals.specs.Answer.{capped}
use Rattle.commands.specs.declared.form.Form.{Form}
use Rattle.model.specs.Model.{Definition, is_variable, is_function, read_part}
use Rattle.walk.specs.declared.command.Noted.{Noted}
use Rattle.walk.specs.Placed.{Placed, Within, value_at, placed_at, placed}
use Rattle.walk.specs.Noted.{slot, size, noted, NotesAt}
use Rattle.walk.specs.Last.{slots, stride, kept, Keeps, Kept}
use Rattle.walk.specs.Walked.{WalkedAs, Walks}
use Rattle.walk.proofs.Sizes.{tree-given}
use Rattle.walk.proofs.Lasts.{kept-none, kept_more}
use Rattle.ground.proofs.Options.{some-same, ok-same}

-- what was noted tells what was read
module _ (l : Lent) (at : ℕ) where
  was-skipped : (m : Result (List Definition) Refusal) → (Ok None) ≡ noted l m at → m ≡ Ok []
  was-skipped (Ok []) e = refl
  was-skipped (Ok (d ∷ ds)) e = let z : ◌≡◌ {A = ℕ} 0 1 = cc in absurd (omega arith)
  was-skipped (Err r) e = let z : ◌≡◌ {A = ℕ} 0 1 = cc in absurd (omega arith)

  was-refused : (m : Result (List Definition) Refusal) (z : Refusal) → Err z ≡ noted l m at → m ≡ Err z
  was-refused (Ok []) z e = let q : ◌≡◌ {A = ℕ} 0 1 = cc in absurd (omega arith)
  was-refused (Ok (d ∷ ds)) z e = let q : ◌≡◌ {A = ℕ} 0 1 = cc in absurd (omega arith)
  was-refused (Err r) z e = let q : z ≡ r = cc in ap Err (sym q)

  record Gave (m : Result (List Definition) Refusal) (k value long : ℕ) : Type 0 where
    it : Definition
    others : List Definition
    read : m ≡ Ok (it ∷ others)
    slot_is : k ≡ slot l it
    value-is : value ≡ at
    long-is : long ≡ capped (size it)

  was-given : (m : Result (List Definition) Refusal) (k value long : ℕ) → (Ok (Some (record { slot = k; value = value; need = long }))) ≡ noted l m at → Gave m k value long
  was-given (Ok []) k value long e = let q : ◌≡◌ {A = ℕ} 0 1 = cc in absurd (omega arith)
  was-given (Ok (d ∷ ds)) k value long e = let q = some-same (ok-same e) in record { it = d; others = ds; read = refl; slot_is = ap (λ (n : Noted). n.slot) q; value-is = ap (λ (n : Noted). n.value) q; long-is = ap (λ (n : Noted). n.need) q }
  was-given (Err r) k value long e = let q : ◌≡◌ {A = ℕ} 0 1 = cc in absurd (omega arith)

-- a row of its table has a slot
within-slot : (l : Lent) → lawful (tables_of l) ≡ true → (d : Definition) → Within (tables_of l) d → slot l d < slots
within-slot l rules (is_variable i v) h = omega (arith, h, (lawful-parts (tables_of l) rules).variables.few)
within-slot l rules (is_function i t) h =
    omega (arith, h, (lawful-parts (tables_of l) rules).variables.few, (lawful-parts (tables_of l) rules).functions.few, variable-count l)

kept_as : (last : List ℕ) (at : ℕ) {j k u v m n : ℕ} → j ≡ k → u ≡ v → m ≡ n → kept last j at u m ≡ kept last k at v n
kept_as last at p q r = rw (p, q, r)

bind_none : (m : Result (List Placed) Refusal) → (m >>= λ es. Ok ([] ++ es)) ≡ m
unfolding ◌>>=◌
bind_none (Ok es) = refl
bind_none (Err r) = refl

bind_more : (m : Result (List Placed) Refusal) (ds es : List Placed) → ((m >>= λ fs. Ok (es ++ fs)) >>= λ fs. Ok (ds ++ fs)) ≡ (m >>= λ fs. Ok ((ds ++ es) ++ fs))
unfolding ◌>>=◌
bind_more (Ok fs) ds es = ap Ok (sym (append_assoc ds es fs))
bind_more (Err r) ds es = refl

-- of the parts us, those before gave definitions, and what is left stands from a node on
pub record Left (form : Form) (l : Lent) (ws ts : List ℕ) (first : ℕ) (us : Trees) (at left : ℕ) (last : List ℕ) : Type 0 where
  pub front : List Placed
  pub others : Trees
  pub there : StandingAll others ws ts at left
  pub same : placed (tables_of l) form first us ≡ (placed (tables_of l) form at others >>= λ es. Ok (front ++ es))
  pub holds : Kept l front last

module _ (form : Form) (l : Lent) (ws ts : List ℕ) (first many : ℕ) (entry : List ℕ) where
  abbrev pub LeftAt : ℕ → ℕ → List ℕ → Type 0
  LeftAt at i last = (us : Trees) → StandingAll us ws ts first many → lawful (tables_of l) ≡ true → entry ≡ replicate (slots * stride) 0 → Left form l ws ts first us at (many - i) last

  pub walk_start : LeftAt first 0 entry
  walk_start us s h e =
      let n : many ≡ many - 0 = omega arith in
      record {
        front = [];
        others = us;
        there = subst (λ (k : ℕ). StandingAll us ws ts first k) n s;
        same = sym (bind_none (placed (tables_of l) form first us));
        holds = kept-none l entry e;
      }

  module _ (at i : ℕ) (last : List ℕ) (h : LeftAt at i last) where
    pub walk_end : many ≤ i → Walks form l ws ts first many entry last (Ok tt)
    unfolding ◌>>=◌ placed
    walk_end p us s z e =
        let w = h us s z e in
        go w.others w refl
      where
        go : (vs : Trees) (w : Left form l ws ts first us at (many - i) last) → w.others ≡ vs → WalkedAs l (placed (tables_of l) form first us) last (Ok tt)
        go (cons b vs) w o = let c = w.there.many-are in let y = ap count o in absurd (omega arith)
        go nil w o =
            let d : placed (tables_of l) form first us ≡ Ok (w.front ++ []) = w.same ∙ ap (λ (u : Trees). placed (tables_of l) form at u >>= λ es. Ok (w.front ++ es)) o in
            subst (λ (m : Result (List Placed) Refusal). WalkedAs l m last (Ok tt)) (sym (d ∙ ap Ok (append-nil w.front))) (refl, w.holds)

    module _ (more : i < many) (n : Result (Option Noted) Refusal) (a : NotesAt form l ws ts at n) where
      -- the parts that are left, the first of them read
      next-read : (us : Trees) (b : Tree) (vs : Trees) (w : Left form l ws ts first us at (many - i) last) → w.others ≡ cons b vs → (m : Result (List Definition) Refusal) → read_part (tables_of l) form b ≡ m →
          placed (tables_of l) form first us ≡ ((m >>= λ ds. placed (tables_of l) form (at + nodes b) vs >>= λ es. Ok (map (placed_at at (value_at form b at)) ds ++ es)) >>= λ es. Ok (w.front ++ es))
      unfolding placed
      next-read us b vs w o m y =
          w.same ∙ ap (λ (u : Trees). placed (tables_of l) form at u >>= λ es. Ok (w.front ++ es)) o
          ∙ ap (λ (x : Result (List Definition) Refusal). (x >>= λ ds. placed (tables_of l) form (at + nodes b) vs >>= λ es. Ok (map (placed_at at (value_at form b at)) ds ++ es)) >>= λ es. Ok (w.front ++ es)) y

      standing : (us : Trees) (b : Tree) (vs : Trees) (w : Left form l ws ts first us at (many - i) last) → w.others ≡ cons b vs → StandingAll (cons b vs) ws ts at (many - i)
      standing us b vs w o = subst (λ (y : Trees). StandingAll y ws ts at (many - i)) o w.there

      pub walk_refused : (z : Refusal) → n ≡ Err z → Walks form l ws ts first many entry last (Err z)
      unfolding ◌>>=◌
      walk_refused z f us s k e =
          let w = h us s k e in
          go w.others w refl
        where
          go : (vs : Trees) (w : Left form l ws ts first us at (many - i) last) → w.others ≡ vs → WalkedAs l (placed (tables_of l) form first us) last (Err z)
          go nil w o = let c = w.there.many-are in let y = ap count o in absurd (omega arith)
          go (cons b vs) w o =
              let y = was-refused l (value_at form b at) (read_part (tables_of l) form b) z (sym f ∙ a b (first_of ws ts b vs at (many - i) (standing us b vs w o))) in
              subst (λ (m : Result (List Placed) Refusal). WalkedAs l m last (Err z)) (sym (next-read us b vs w o (Err z) y)) refl

      -- a part that was read is behind
      module _ (next : ℕ) (p : next ≡ after_at ws at) where
        behind : (us : Trees) (b : Tree) (vs : Trees) (w : Left form l ws ts first us at (many - i) last) → w.others ≡ cons b vs → (ds : List Definition) → read_part (tables_of l) form b ≡ Ok ds →
            (now : List ℕ) → Kept l (w.front ++ map (placed_at at (value_at form b at)) ds) now → Left form l ws ts first us next (many - (i + 1)) now
        unfolding ◌>>=◌
        behind us b vs w o ds y now k =
            let st = standing us b vs w o in
            let f = first_of ws ts b vs at (many - i) st in
            let g : at + nodes b ≡ next = sym (stands_lays ws ts b at f.next f.from f.rest f.there).next ∙ stands_after ws ts b at f.next f.from f.rest f.there ∙ sym p in
            record {
              front = w.front ++ map (placed_at at (value_at form b at)) ds;
              others = vs;
              there = others-of ws ts b vs at (many - i) st next (many - (i + 1)) p (omega arith);
              same =
                  next-read us b vs w o (Ok ds) y
                  ∙ bind_more (placed (tables_of l) form (at + nodes b) vs) w.front (map (placed_at at (value_at form b at)) ds)
                  ∙ ap (λ (j : ℕ). placed (tables_of l) form j vs >>= λ es. Ok ((w.front ++ map (placed_at at (value_at form b at)) ds) ++ es)) g;
              holds = k;
            }

        pub walk-skipped : n ≡ (Ok None) → (now : List ℕ) → now ≡ last → LeftAt next (i + 1) now
        walk-skipped f now x us s k e =
            let w = h us s k e in
            go w.others w refl
          where
            go : (vs : Trees) (w : Left form l ws ts first us at (many - i) last) → w.others ≡ vs → Left form l ws ts first us next (many - (i + 1)) now
            go nil w o = let c = w.there.many-are in let y = ap count o in absurd (omega arith)
            go (cons b vs) w o =
                let y = was-skipped l (value_at form b at) (read_part (tables_of l) form b) (sym f ∙ a b (first_of ws ts b vs at (many - i) (standing us b vs w o))) in
                behind us b vs w o [] y now (subst (λ (ds : List Placed). Kept l ds now) (sym (append-nil w.front)) (subst (Kept l w.front) (sym x) w.holds))

        pub walk_defines : (k value long : ℕ) → n ≡ (Ok (Some (record { slot = k; value = value; need = long }))) → (put now : List ℕ) → Keeps last k at value long put → now ≡ put → LeftAt next (i + 1) now
        walk_defines k value long f put now x same us s rules e =
            let w = h us s rules e in
            go w.others w refl
          where
            go : (vs : Trees) (w : Left form l ws ts first us at (many - i) last) → w.others ≡ vs → Left form l ws ts first us next (many - (i + 1)) now
            go nil w o = let c = w.there.many-are in let y = ap count o in absurd (omega arith)
            go (cons b vs) w o =
                let here = first_of ws ts b vs at (many - i) (standing us b vs w o) in
                let y = was-given l (value_at form b at) (read_part (tables_of l) form b) k value long (sym f ∙ a b here) in
                let v = tree-given (tables_of l) rules form b y.it y.others y.read in
                let low = within-slot l rules y.it v.within in
                let d = placed_at at (value_at form b at) y.it in
                let r : read_part (tables_of l) form b ≡ Ok (y.it ∷ []) = y.read ∙ ap (λ (ds : List Definition). Ok (y.it ∷ ds)) v.alone in
                let t : now ≡ kept last (slot l y.it) at (value_at form b at) (capped (size y.it)) =
                same ∙ x (omega (arith, y.slot_is, low, w.holds.full)) ∙ kept_as last at y.slot_is y.value-is y.long-is in
                behind us b vs w o (y.it ∷ []) r now (subst (Kept l (w.front ++ (d ∷ []))) (sym t) (kept_more l w.front last w.holds d low))
