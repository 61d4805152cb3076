-- The whole listing: the room that it needs, its lines one part after the other, the zeros behind them, and each refusal.
-- Assumes nothing.
use Rattle.std.specs.Prelude.{⊤}
use Rattle.std.proofs.Common.{Err, None, Ok, Option, Result, Some}
use mathlib.Core.Path.{◌≡◌, refl, sym, ap, ap₂, ◌∙◌, subst}
use mathlib.Core.Bool.{true, false, true≢false}
use mathlib.Core.List.{List, ◌++◌, map, append_assoc}
use Prim.Native.Nat.{ℕ, min, ◌+◌, ◌*◌, ◌-◌, ◌^◌, ◌≤◌, ◌<◌}
use native.Mathlib.Omega.{arith}
use lib.ListN.{length, take, drop, replicate, length-append}
use lib.Seq.{drop-drop}
use borrow.Author.Tests.{le-leb, lt-leb}
use borrow.Rule.Slice.PartMut.{put_mid, mid_len}
use Rattle.ground.proofs.Tests.{by_test, both_right}
use Rattle.refusals.specs.declared.Refusal.{Refusal}
use Rattle.refusals.specs.declared.Refusal.TheVariants.{OutRoom, BadTable, BadArena, UnexpectedModel}
use Rattle.lent.specs.Left.{Left, refusing, Leaves}
use Rattle.lent.specs.Put.{Offers}
use Rattle.lent.proofs.Lefts.{leaves-refused}
use Rattle.arena.specs.Arena.{Arena}
use Rattle.arena.specs.Tree.{Tree, Trees, bit_vec, numeral, string, symbol, app, nodes, text}
use Rattle.arena.proofs.Arenas.{arena-stands}
use Rattle.arena_check.specs.Checks.{Checks}
use Rattle.decimals.specs.Decimal.{decimal}
use Rattle.tables.specs.Check.{passes, checked}
use Rattle.tables.specs.Layout.{Lent, tables_of, formed}
use Rattle.tables.specs.Rules.{lawful}
use Rattle.tables.proofs.Lawful.{passed-passes}
use Rattle.shapes.specs.Shape.{on_app}
use Rattle.shapes.specs.Shows.{Standing, PartsAt}
use Rattle.sorts.specs.Result.{◌>>=◌}
use Rattle.literals.specs.Answer.{capped}
use Rattle.well_sorted.proofs.Sound.{sound-octets}
use Rattle.value_text.specs.Laid.{Lays}
use Rattle.value_text.specs.Wrote.{Wrote}
use Rattle.value_text.proofs.Lays.{lays_then, lays_put, lays_as, wrote_front}
use Rattle.commands.specs.declared.form.Form.{Form}
use Rattle.model.specs.Model.{Definition, read_parts, read_reply}
use Rattle.model.specs.Listing.{line, settled, variable_count, function_count, rendered, listing, need}
use Rattle.walk.specs.Last.{slots, stride}
use Rattle.walk.specs.Placed.{Placed, its, placed}
use Rattle.walk.specs.Walked.{WalkedAs, Walks}
use Rattle.walk.proofs.Places.{placed-read}
use Rattle.listing.specs.declared.tally.Tally.{Tally}
use Rattle.listing.specs.Lists.{listed, fitted, left, Lists, bad-table, bad-arena, walked}
use Rattle.listing.specs.Line.{header}
use Rattle.listing.specs.Grounds.{Known}
use Rattle.listing.specs.Entries.{entries, LaysEntries}
use Rattle.listing.specs.Tally.{Tallied}
use Rattle.listing.specs.Stages.{Sure, Zeroed, FinishesOf, Parted, Replied, Stored}
use Rattle.listing.proofs.Readings.{parts-grounded}
use Rattle.listing.proofs.Rows.{same-variables, same-functions}
use Rattle.listing.proofs.Sizes.{header-small}
use Rattle.arena_check.specs.declared.Checked.{Checked}

-- zeros from a place up to another one
module _ (out : List ℕ) (start end : ℕ) where
  pub zeroed-none : (exit : List ℕ) → end < start → Zeroed out start end exit
  zeroed-none exit h a b = absurd (omega (arith, h, a))

  pub zeroed-past : (exit : List ℕ) → length out < end → Zeroed out start end exit
  zeroed-past exit h a b = absurd (omega (arith, h, b))

  pub zeroed : (part : List ℕ) → part ≡ replicate (length (take (end - start) (drop start out))) 0 → Zeroed out start end (put_mid start (end - start) out part)
  zeroed part e a b =
      let k : start + (end - start) ≡ end = omega arith in
      let m : part ≡ replicate (end - start) 0 = e ∙ ap (λ (n : ℕ). replicate n 0) (mid_len start end out b) in
      ap₂ (λ (x y : List ℕ). take start out ++ (x ++ y)) m (drop-drop (end - start) start out ∙ ap (λ (n : ℕ). drop n out) k)

-- a rendering in its two parts, the counts being given
module _ (l : Lent) (ds : List Definition) where
  pub parts : (v f : ℕ) → v ≡ variable_count ds 0 (tables_of l).variables → f ≡ function_count ds 0 (tables_of l).functions → header v f ++ entries l ds ≡ rendered ds (tables_of l)
  unfolding rendered
  parts v f p q =
      ap₂ (λ (a b : ℕ). header a b ++ entries l ds) p q
      ∙ append_assoc (line "vars" (decimal (variable_count ds 0 (tables_of l).variables))) (line "funs" (decimal (function_count ds 0 (tables_of l).functions))) (entries l ds)

-- where there is room
module _ (lines : List ℕ) (room : ℕ) (out : List ℕ) where
  pub fits : room ≤ length out → fitted lines room out ≡ record { answer = Ok (length lines); holds = listed lines room out }
  fits h = rw (le-leb room (length out) h)

  pub short : length out < room → fitted lines room out ≡ refusing (OutRoom room) out
  short h = rw (lt-leb room (length out) h)

  short-room : (sum : ℕ) → sum ≡ room → length out < sum → Leaves (fitted lines room out) (Err (OutRoom sum)) out
  short-room sum e h =
      subst (λ (x : Left). Leaves x (Err (OutRoom sum)) out) (sym (short (omega arith))) (record { answers = ap (λ (k : ℕ). Err (OutRoom k)) e; holds = refl })

  enough-room : (sum end : ℕ) (d exit : List ℕ) → sum ≡ room → sum ≤ length out → length d ≡ length out → Wrote room lines out d end → Zeroed d end sum exit → Leaves (fitted lines room out) (Ok end) exit
  enough-room sum end d exit e h same w z =
      let n : end ≡ length lines = w.long in
      let k : length lines ≤ room = w.within in
      let x : exit ≡ take end d ++ (replicate (sum - end) 0 ++ drop sum d) = z (omega arith) (omega arith) in
      let y : take end d ≡ lines = ap (λ (i : ℕ). take i d) n ∙ w.front in
      let u : drop sum d ≡ drop room out = ap (λ (i : ℕ). drop i d) e ∙ w.beyond in
      let v : replicate {A = ℕ} (sum - end) 0 ≡ replicate (room - length lines) 0 = ap₂ (λ (i j : ℕ). replicate {A = ℕ} (i - j) 0) e n in
      subst (λ (s : Left). Leaves s (Ok end) exit) (sym (fits (omega arith)))
      (record { answers = ap Ok n; holds = x ∙ ap₂ (λ (a b : List ℕ). a ++ b) y (ap₂ (λ (a b : List ℕ). a ++ b) v u) })

-- what is noted
module _ (l : Lent) (ws ts last out : List ℕ) (s : Tally) (tallied : (ps : List Placed) → Known l ws ts last ps → Tallied l (its ps) s) where
  module _ (head sum : ℕ) (e : head ≡ length (header s.variables s.functions)) (h : sum ≡ capped (head + s.need)) where
    module _ (ps : List Placed) (known : Known l ws ts last ps) where
      exact : sum ≡ need (tables_of l) (its ps)
      unfolding need
      exact =
          let p = tallied ps known in
          let a = header-small s.variables s.functions in
          summed head s.need sum h (omega (arith, p.small))
          ∙ long head s.need (header s.variables s.functions) (entries l (its ps)) e p.need
          ∙ ap (λ (t : List ℕ). length t) (parts l (its ps) s.variables s.functions p.variables p.functions)
        where
          summed : (a b sum : ℕ) → sum ≡ min (a + b) 18446744073709551615 → a + b < 2 ^ 62 → sum ≡ a + b
          summed a b sum h m = omega arith

          long : (a b : ℕ) (x y : List ℕ) → a ≡ length x → b ≡ length y → a + b ≡ length (x ++ y)
          long a b x y p q = omega (arith, length-append x y)

    pub finish-short : length out < sum → FinishesOf l ws ts last out (Err (OutRoom sum)) out
    finish-short k ps known = short-room (listing (tables_of l) (its ps)) (need (tables_of l) (its ps)) out sum (exact ps known) k

    module _ (b d exit : List ℕ) (start end : ℕ) where
      module _ (ps : List Placed) (known : Known l ws ts last ps) where
        all_laid : Offers out b 0 (header s.variables s.functions) start → LaysEntries l ws ts last b d start end → Lays (rendered (its ps) (tables_of l)) (rendered (map settled (its ps)) (tables_of l)) out d 0 end
        all_laid p q =
            let x = tallied ps known in
            lays_as (parts l (its ps) s.variables s.functions x.variables x.functions)
            (parts l (map settled (its ps)) s.variables s.functions (x.variables ∙ same-variables l (its ps)) (x.functions ∙ same-functions l (its ps)))
            (lays_then (lays_put p) (q ps known))

        laid-whole : sum ≤ length out → Lays (rendered (its ps) (tables_of l)) (rendered (map settled (its ps)) (tables_of l)) out d 0 end → (Wrote (need (tables_of l) (its ps)) (listing (tables_of l) (its ps)) out d end) × (length d ≡ length out)
        unfolding need listing
        laid-whole k p =
            let z = exact ps known in
            let n : length (rendered (its ps) (tables_of l)) ≤ length out = omega (arith, z, k) in
            (wrote_front p n, (p (omega (arith, n))).same)

      pub finish-written : sum ≤ length out → Offers out b 0 (header s.variables s.functions) start → LaysEntries l ws ts last b d start end → Zeroed d end sum exit →
          FinishesOf l ws ts last out (Ok end) exit
      finish-written k p q z ps known =
          let w = laid-whole ps known k (all_laid ps known p q) in
          enough-room (listing (tables_of l) (its ps)) (need (tables_of l) (its ps)) out sum end d exit (exact ps known) k w.1 w.0 z

-- the parts
module _ (form : Form) (l : Lent) (ws ts : List ℕ) (many : ℕ) (last last' entry : List ℕ) (w : Result ⊤ Refusal) (walks : Walks form l ws ts 1 many last last' w) where
  -- what is left by the parts, by what they define with their nodes
  parts-left : (us : Trees) (m : Result (List Placed) Refusal) → placed (tables_of l) form 1 us ≡ m → (r : Result ℕ Refusal) (exit : List ℕ) →
      Leaves (left (tables_of l) (m >>= λ ps. Ok (its ps)) entry) r exit → Leaves (left (tables_of l) (read_parts (tables_of l) form us) entry) r exit
  parts-left us m e r exit h =
      subst (λ (x : Result (List Definition) Refusal). Leaves (left (tables_of l) x entry) r exit) (sym (ap (λ (x : Result (List Placed) Refusal). x >>= λ ps. Ok (its ps)) e) ∙ placed-read (tables_of l) form 1 us) h

  pub parts-done : w ≡ (Ok tt) → (r : Result ℕ Refusal) (exit : List ℕ) → FinishesOf l ws ts last' entry r exit → Parted form l ws ts many last entry r exit
  unfolding ◌>>=◌
  parts-done e r exit f us s sure q = go (placed (tables_of l) form 1 us) refl (walks us s sure.rules q)
    where
      go : (m : Result (List Placed) Refusal) → placed (tables_of l) form 1 us ≡ m → WalkedAs l m last' w → Leaves (left (tables_of l) (read_parts (tables_of l) form us) entry) r exit
      go (Ok ps) z h = parts-left us (Ok ps) z r exit (f ps (record { rules = sure.rules; kept = h.1; grounded = parts-grounded form l ws ts us many s sure ps z }))
      go (Err y) z h = let g : (Ok tt) ≡ Err y = sym e ∙ h in let c : ◌≡◌ {A = ℕ} 0 1 = cc in absurd (omega arith)

  pub parts-refused : (z : Refusal) → w ≡ Err z → Parted form l ws ts many last entry (Err z) entry
  unfolding ◌>>=◌
  parts-refused z e us s sure q = go (placed (tables_of l) form 1 us) refl (walks us s sure.rules q)
    where
      go : (m : Result (List Placed) Refusal) → placed (tables_of l) form 1 us ≡ m → WalkedAs l m last' w → Leaves (left (tables_of l) (read_parts (tables_of l) form us) entry) (Err z) entry
      go (Ok ps) x h = let g : (Ok tt) ≡ Err z = sym h.0 ∙ e in let c : ◌≡◌ {A = ℕ} 0 1 = cc in absurd (omega arith)
      go (Err y) x h =
          let g : Err z ≡ Err y = sym e ∙ h in
          let k : z ≡ y = cc in
          parts-left us (Err y) x (Err z) entry (record { answers = ap Err k; holds = refl })

-- the root
pub passes-rules : (l : Lent) → passes l ≡ true → lawful (tables_of l) ≡ true
unfolding passes
passes-rules l e = both_right (formed l) (lawful (tables_of l)) e

module _ (l : Lent) (ws ts : List ℕ) where
  stood : (t : Tree) → Arena ws ts t → Standing t ws ts 0
  stood t a = record { next = nodes t; from = 0; rest = length (text t); there = arena-stands ws ts t a }

  pub sure_of : (us : Trees) → passes l ≡ true → Arena ws ts (app us) → Sure l us
  sure_of us p a = record { rules = passes-rules l p; octets = sound-octets (app us) a.sound; few = omega (arith, a.few); short = a.short }

module _ (form : Form) (l : Lent) (ws ts last entry : List ℕ) (list : Option ℕ) (found : PartsAt ws 0 list) where
  of-app : (us : Trees) (r : Result ℕ Refusal) (exit : List ℕ) → Leaves (left (tables_of l) (read_parts (tables_of l) form us) entry) r exit → Leaves (left (tables_of l) (read_reply (tables_of l) form (app us)) entry) r exit
  unfolding read_reply
  of-app us r exit h = h

  pub reply_listed : (many : ℕ) → list ≡ Some many → (r : Result ℕ Refusal) (exit : List ℕ) → Parted form l ws ts many last entry r exit → Replied form l ws ts last entry r exit
  reply_listed many e r exit f t p a q =
      let k = (subst (PartsAt ws 0) e found).1 ts t (stood l ws ts t a) in
      let g : t ≡ app k.0 = k.1 in
      subst (λ (x : Tree). Leaves (left (tables_of l) (read_reply (tables_of l) form x) entry) r exit) (sym g)
      (of-app k.0 r exit (f k.0 k.2 (sure_of l ws ts k.0 p (subst (λ (x : Tree). Arena ws ts x) g a)) q))

  no-list : (t : Tree) → on_app t false (λ us. true) ≡ false → read_reply (tables_of l) form t ≡ Err UnexpectedModel
  unfolding read_reply
  no-list (bit_vec w n) h = refl
  no-list (numeral n) h = refl
  no-list (string s) h = refl
  no-list (symbol s) h = refl
  no-list (app us) h = absurd (true≢false h)

  pub reply_no-list : list ≡ None → Replied form l ws ts last entry (Err UnexpectedModel) entry
  reply_no-list e t p a q =
      subst (λ (m : Result (List Definition) Refusal). Leaves (left (tables_of l) m entry) (Err UnexpectedModel) entry) (sym (no-list t (subst (PartsAt ws 0) e found ts t (stood l ws ts t a))))
      (leaves-refused UnexpectedModel entry)

-- equal refusals refuse by the same
err-same : {A : Type 0} {x y : Refusal} → ◌≡◌ {A = Result A Refusal} (Err x) (Err y) → x ≡ y
err-same e = cc

-- the arena, and the tables
module _ (form : Form) (l : Lent) (ws ts last entry : List ℕ) (c : Result Checked Refusal) (checks : Checks ws ts c) where
  pub stored-tree : (n k : ℕ) → c ≡ Ok (record { nodes = n; text = k }) → (r : Result ℕ Refusal) (exit : List ℕ) → Replied form l ws ts last entry r exit → Stored form l ws ts last entry r exit
  stored-tree n k e r exit f p q = let t = checks.tree n k e in walked p t.0 t.1 (f t.0 p t.1 q)

  pub stored_refused : (z : Refusal) → c ≡ Err z → Stored form l ws ts last entry (Err BadArena) entry
  stored_refused z e p q = bad-arena p (checks.refused z e) (leaves-refused BadArena entry)

  -- the check has no other refusal
  pub stored_back : (z : Refusal) → c ≡ Err z → Stored form l ws ts last entry (Err z) entry
  stored_back z e p q =
      subst (λ (r : Result ℕ Refusal). Lists form l ws ts entry r entry) (ap Err (err-same (sym (checks.none (checks.refused z e)) ∙ e)))
      (stored_refused z e p q)

module _ (form : Form) (l : Lent) (ws ts entry : List ℕ) (c : Result ⊤ Refusal) (e : c ≡ checked l) where
  pub tables-passed : c ≡ (Ok tt) → (last : List ℕ) → last ≡ replicate (slots * stride) 0 → (r : Result ℕ Refusal) (exit : List ℕ) → Stored form l ws ts last entry r exit → Lists form l ws ts entry r exit
  tables-passed g last q r exit f = f (passed-passes l (sym e ∙ g)) q

  pub tables-refused : (z : Refusal) → c ≡ Err z → Lists form l ws ts entry (Err BadTable) entry
  tables-refused z g =
      by_test (passes l)
      (λ h. let k : (Ok tt) ≡ Err z = sym (e ∙ rw h refl) ∙ g in let n : ◌≡◌ {A = ℕ} 0 1 = cc in absurd (omega arith))
      (λ h. bad-table h (leaves-refused BadTable entry))

  pub tables_back : (z : Refusal) → c ≡ Err z → Lists form l ws ts entry (Err z) entry
  tables_back z g =
      by_test (passes l)
      (λ h. let k : (Ok tt) ≡ Err z = sym (e ∙ rw h refl) ∙ g in let n : ◌≡◌ {A = ℕ} 0 1 = cc in absurd (omega arith))
      (λ h.
      let k : ◌≡◌ {A = Result ⊤ Refusal} (Err BadTable) (Err z) = sym (e ∙ rw h refl) ∙ g in
      subst (λ (r : Result ℕ Refusal). Lists form l ws ts entry r entry) (ap Err (err-same k)) (tables-refused z g))
