-- A reply that is read: what the rooms hold is the arena of its tree, so that the walk is of that tree.
-- Assumes nothing.
use Rattle.std.proofs.Common.{Err, Ok, Result}
use mathlib.Core.Path.{◌≡◌, refl, sym, ap, ◌∙◌, subst, subst₂}
use mathlib.Core.Bool.{Bool, true, false, cond, true≢false}
use mathlib.Core.List.{List}
use Prim.Native.Nat.{ℕ, ◌*◌, ◌/◌, ◌≤◌}
use native.Mathlib.Omega.{arith}
use lib.Dec.{leb}
use lib.ListN.{length, drop}
use borrow.Author.Tests.{le-leb}
use Rattle.refusals.specs.declared.Refusal.{Refusal}
use Rattle.refusals.specs.declared.Refusal.TheVariants.{InputTooLong, NodeRoom, TextRoom, DepthRoom}
use Rattle.lent.specs.Left.{Leaves}
use Rattle.strings.proofs.Texts.{Bytes}
use Rattle.arena.specs.Tree.{Tree, nodes, text, depth}
use Rattle.arena.specs.Layout.{stride}
use Rattle.arena.specs.Arena.{Arena}
use Rattle.arena.proofs.Arenas.{one-arena}
use Rattle.brackets.specs.Walk.{Outcome, tree, refused}
use Rattle.reader.specs.Read as read
use Rattle.refusals.specs.Limit.{input_limit}
use Rattle.reader.specs.Read.{parse, reading, refusing, written, fitted, settled}
use Rattle.reader.proofs.Sounds.{accepted-arena}
use Rattle.tables.specs.Check.{passes}
use Rattle.tables.specs.Layout.{Lent, tables_of}
use Rattle.commands.specs.declared.form.Form.{Form}
use Rattle.model.specs.Model.{read_reply}
use Rattle.listing.specs.Lists.{Lists, bad-table, bad-arena, walked, left}
use Rattle.reply.specs.Reply.{byte_limit, Rooms, read_in, rooms_of, Walks}
use Rattle.reply.specs.Read.{ReadsOn}
use Rattle.reader.specs.declared.read.Reading.{Reading}

-- a reading that is no refusal is of a tree that has room
module _ (N T S s : List ℕ) (a b c : ℕ) where
  chosen : (test : Bool) (x : read.Left) (why : Refusal) → (cond test x (refusing N T S why)).answer ≡ Ok (record { nodes = a; text = b; depth = c }) → cond test x (refusing N T S why) ≡ x
  chosen true x why h = refl
  chosen false x why h = let z : ◌≡◌ {A = ℕ} 0 1 = cc in absurd (omega arith)

  fitted-whole : (t : Tree) → (fitted N T S t).answer ≡ Ok (record { nodes = a; text = b; depth = c }) → fitted N T S t ≡ written N T S t
  fitted-whole t h =
      let third = cond (leb (depth t) (length S)) (written N T S t) (refusing N T S (DepthRoom (depth t))) in
      let second = cond (leb (length (text t)) (length T)) third (refusing N T S (TextRoom (length (text t)))) in
      let p : fitted N T S t ≡ second = chosen (leb (nodes t) (length N / stride)) second (NodeRoom (nodes t)) h in
      let q : second ≡ third = chosen (leb (length (text t)) (length T)) third (TextRoom (length (text t))) (ap (λ (x : read.Left). x.answer) (sym p) ∙ h) in
      let r : third ≡ written N T S t = chosen (leb (depth t) (length S)) (written N T S t) (DepthRoom (depth t)) (ap (λ (x : read.Left). x.answer) (sym (p ∙ q)) ∙ h) in
      p ∙ q ∙ r

  record Told : Type 0 where
    of : Tree
    is : parse s ≡ tree of
    all : reading N T S s ≡ written N T S of

  told : length s ≤ input_limit → (reading N T S s).answer ≡ Ok (record { nodes = a; text = b; depth = c }) → Told
  unfolding reading
  told h e = by-outcome (parse s) refl
    where
      within : reading N T S s ≡ settled N T S (parse s)
      within = ap (λ (test : Bool). cond test (settled N T S (parse s)) (refusing N T S InputTooLong)) (le-leb (length s) input_limit h)

      by-outcome : (o : Outcome) → parse s ≡ o → Told
      by-outcome (tree t) p =
          let q : reading N T S s ≡ fitted N T S t = within ∙ ap (settled N T S) p in
          record { of = t; is = p; all = q ∙ fitted-whole t (ap (λ (x : read.Left). x.answer) (sym q) ∙ e) }
      by-outcome (refused why) p =
          let q : ◌≡◌ {A = Result Reading Refusal} (Ok (record { nodes = a; text = b; depth = c })) (Err why) = sym e ∙ ap (λ (x : read.Left). x.answer) (within ∙ ap (settled N T S) p) in
          let z : ◌≡◌ {A = ℕ} 0 1 = cc in
          absurd (omega arith)

-- words and a text that start with the arena of a tree are walked as that tree
module _ (form : Form) (l : Lent) (ws ts entry : List ℕ) (r : Result ℕ Refusal) (exit : List ℕ) (t : Tree) (fine : passes l ≡ true) (arena : Arena ws ts t) where
  walked_as : Lists form l ws ts entry r exit → Leaves (left (tables_of l) (read_reply (tables_of l) form t) entry) r exit
  walked_as (bad-table h d) = absurd (true≢false (sym fine ∙ h))
  walked_as (bad-arena h none d) = absurd (none t arena)
  walked_as (walked h u a d) = subst (λ (v : Tree). Leaves (left (tables_of l) (read_reply (tables_of l) form v) entry) r exit) (one-arena ws ts u t a arena) d

pub rooms-equal : {a b c d e f : List ℕ} → a ≡ d → b ≡ e → c ≡ f → ◌≡◌ {A = Rooms} (record { nodes = a; text = b; stack = c }) (record { nodes = d; text = e; stack = f })
rooms-equal p q r = simp (p, q, r)

module _ (form : Form) (l : Lent) (reply N T S entry : List ℕ) (found : Result Reading Refusal) (ws ts ss : List ℕ) (d : read.Leaves (reading N T S reply) found ws ts ss) where
  abbrev rooms : Rooms
  rooms = record { nodes = N; text = T; stack = S }

  after_read : record { nodes = ws; text = ts; stack = ss } ≡ rooms_of (read_in rooms reply)
  after_read = rooms-equal d.nodes d.text d.stack

  pub text-unread : (why : Refusal) → found ≡ Err why → ReadsOn form l reply rooms entry (Err why) (record { nodes = ws; text = ts; stack = ss }) entry
  text-unread why e = record {
    walks = λ _ _. Walks.unread why (sym d.answers ∙ e) (record { answers = refl; holds = refl });
    leaves = after_read;
  }

  pub text-walked : (a b c : ℕ) → found ≡ Ok (record { nodes = a; text = b; depth = c }) → Bytes reply → (r : Result ℕ Refusal) (exit : List ℕ) → Lists form l ws ts entry r exit
      → ReadsOn form l reply rooms entry r (record { nodes = ws; text = ts; stack = ss }) exit
  text-walked a b c e bytes r exit lists = record { walks = walks; leaves = after_read }
    where
      walks : passes l ≡ true → length reply ≤ byte_limit → Walks form (tables_of l) rooms reply entry r exit
      walks fine short =
          let k = told N T S reply a b c (omega arith) (sym d.answers ∙ e) in
          let t = k.of in
          let n : ws ≡ (written N T S t).nodes = d.nodes ∙ ap (λ (x : read.Left). x.nodes) k.all in
          let m : ts ≡ (written N T S t).text = d.text ∙ ap (λ (x : read.Left). x.text) k.all in
          let arena : Arena ws ts t =
          subst₂ (λ (x y : List ℕ). Arena x y t) (sym n) (sym m)
          (accepted-arena reply t (drop (nodes t * stride) N) (drop (length (text t)) T) bytes (omega arith) k.is) in
          Walks.walked t k.is (ap (λ (x : read.Left). x.answer) k.all) (walked_as form l ws ts entry r exit t fine arena lists)
