-- Demand 3 holds of what was listed: the bytes are the listing of definitions for which it holds.
-- Assumes nothing.
use Rattle.std.proofs.Common.{Err, Ok, Result}
use mathlib.Core.Path.{◌≡◌, refl, sym, ap, ◌∙◌}
use mathlib.Core.Bool.{true}
use mathlib.Core.List.{List, ◌++◌, map}
use Prim.Native.Nat.{ℕ, ◌-◌}
use native.Mathlib.Omega.{arith}
use lib.ListN.{length, take, drop, replicate}
use lib.Seq.{take_at}
use Rattle.ground.proofs.Tests.{by_order}
use Rattle.refusals.specs.declared.Refusal.{Refusal}
use Rattle.lent.specs.Left.{Left, Leaves}
use Rattle.arena.specs.Arena.{Arena}
use Rattle.arena.specs.Tree.{Tree}
use Rattle.tables.specs.Layout.{Lent, tables_of}
use Rattle.tables.specs.Rules.{lawful}
use Rattle.well_sorted.proofs.Sound.{sound-octets}
use Rattle.commands.specs.declared.form.Form.{Form}
use Rattle.model.specs.Model.{Definition, read_reply}
use Rattle.model.specs.Listing.{settled, listing, need}
use Rattle.demand.specs.Alike.{Alike}
use Rattle.demand.specs.Demand.{Demanded}
use Rattle.demand.proofs.Tells.{bytes-tell}
use Rattle.demand.proofs.Theorem.{demanded}
use Rattle.listing.specs.Lists.{fitted, left, Lists, bad-table, bad-arena, walked}
use Rattle.listing.proofs.Wholes.{fits, short, passes-rules}

-- the reply that the words and the text hold, what it defines, and its listing at the front
pub record Listed (form : Form) (l : Lent) (ws ts : List ℕ) (n : ℕ) (exit : List ℕ) : Type 0 where
  pub rules : lawful (tables_of l) ≡ true
  pub tree : Tree
  pub definitions : List Definition
  pub arena : Arena ws ts tree
  pub reads : read_reply (tables_of l) form tree ≡ Ok definitions
  pub front : take n exit ≡ listing (tables_of l) definitions
  pub long : n ≡ length (listing (tables_of l) definitions)
  pub demand : Demanded form (tables_of l) tree (map settled definitions)

pub no_length : {R : Type 0} {n : ℕ} {why : Refusal} → Ok n ≡ Err why → R
no_length e = let z : ◌≡◌ {A = ℕ} 0 1 = cc in absurd (omega arith)

-- a text that was written
pub fronted : (lines : List ℕ) (room : ℕ) (out : List ℕ) (n : ℕ) (exit : List ℕ) → Leaves (fitted lines room out) (Ok n) exit → (n ≡ length lines) × (take n exit ≡ lines)
fronted lines room out n exit h =
    by_order (length out) room
    (λ k. no_length (h.answers ∙ ap (λ (x : Left). x.answer) (short lines room out k)))
    (λ k.
    let e : Ok n ≡ Ok (length lines) = h.answers ∙ ap (λ (x : Left). x.answer) (fits lines room out k) in
    let m : n ≡ length lines = cc in
    let f : exit ≡ lines ++ (replicate (room - length lines) 0 ++ drop room out) = h.holds ∙ ap (λ (x : Left). x.holds) (fits lines room out k) in
    (m, ap (take n) f ∙ take_at lines (replicate (room - length lines) 0 ++ drop room out) n (sym m)))

pub listed-demand : (form : Form) (l : Lent) (ws ts entry : List ℕ) (n : ℕ) (exit : List ℕ) → Lists form l ws ts entry (Ok n) exit → Listed form l ws ts n exit
listed-demand form l ws ts entry n exit (bad-table p h) = no_length h.answers
listed-demand form l ws ts entry n exit (bad-arena p f h) = no_length h.answers
listed-demand form l ws ts entry n exit (walked p t a h) = go (read_reply (tables_of l) form t) refl h
  where
    go : (m : Result (List Definition) Refusal) → read_reply (tables_of l) form t ≡ m → Leaves (left (tables_of l) m entry) (Ok n) exit → Listed form l ws ts n exit
    go (Ok ds) e k =
        let g = fronted (listing (tables_of l) ds) (need (tables_of l) ds) entry n exit k in
        record {
          rules = passes-rules l p;
          tree = t;
          definitions = ds;
          arena = a;
          reads = e;
          front = g.1;
          long = g.0;
          demand = demanded (tables_of l) (passes-rules l p) form t ds a.sound e;
        }
    go (Err z) e k = no_length k.answers

-- the bytes tell: what two calls over the same tables list alike, they define alike, whatever the forms
pub listed-tell : {form other : Form} {l : Lent} {ws ts ws' ts' exit exit' : List ℕ} {n m : ℕ} (a : Listed form l ws ts n exit) (b : Listed other l ws' ts' m exit') → take n exit ≡ take m exit' →
    Alike (tables_of l) (map settled a.definitions) (map settled b.definitions)
listed-tell {form} {other} {l} a b e =
    bytes-tell (tables_of l) a.rules form other a.tree b.tree a.definitions b.definitions (sound-octets a.tree a.arena.sound) (sound-octets b.tree b.arena.sound)
    a.reads b.reads (sym a.front ∙ e ∙ b.front)
