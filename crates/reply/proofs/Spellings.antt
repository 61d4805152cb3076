-- A tables' text in rooms of 1,024 rows and 32,768 fields: what it spells always has room there, and is lent on as it was laid.
-- Assumes nothing.
use Rattle.std.proofs.Common.{Err, Ok, Result}
use mathlib.Core.Path.{◌≡◌, refl, sym, ap, ◌∙◌, subst}
use mathlib.Core.Bool.{Bool, true, false, ◌&&◌}
use mathlib.Core.List.{List, [], ◌∷◌, ◌++◌}
use Prim.Native.Nat.{ℕ, ◌*◌, ◌≤◌, ◌<◌}
use native.Mathlib.Omega.{arith}
use lib.Dec.{leb}
use lib.ListN.{length, take, drop, length-append}
use lib.Seq.{take-append_seam}
use borrow.Author.Tests.{le-leb, lt-leb}
use Rattle.ground.proofs.Tests.{and-false}
use Rattle.refusals.specs.declared.Refusal.{Refusal}
use Rattle.refusals.specs.declared.Refusal.TheVariants.{InputTooLong, BadTable}
use Rattle.lent.specs.Left.{onto}
use Rattle.tables.specs.Sort.{Sort, Tables}
use Rattle.tables.specs.Check.{passes}
use Rattle.tables.specs.Layout.{Lent, tables_of}
use Rattle.tables.proofs.Lawful.{lawful-parts}
use Rattle.tables_text.specs.Line.{lines, written, sort_line, variable_line, function_line, member_line}
use Rattle.tables_text.specs.Words.{fields_of, all_fields, variable_words, function_words, member_words, variables_at, functions_at, members_at, laid}
use Rattle.tables_text.specs.Read.{text_limit, Spells, Buffers, stored, Reads}
use Rattle.tables_text.specs.Read as text
use Rattle.tables_text.specs.Reading.{Fits}
use Rattle.tables_text.proofs.SortWalks.{half}
use Rattle.tables_text.proofs.Parses.{table-long, sorts-long}
use Rattle.tables_text.proofs.Meanings.{laid-means}
use Rattle.tables_text.proofs.Stores.{fit-stored}
use Rattle.tables_text.proofs.Readings.{passes-lawful, by-spelling}
use Rattle.commands.specs.declared.form.Form.{Form}
use Rattle.reply.specs.Reply.{byte_limit, within, Rooms, Walks, Replies}
use Rattle.reply.specs.Read.{ReadsOn}
use Rattle.tables_text.specs.declared.parse.Counts.{Counts}
use Rattle.ground.proofs.Options.{ok-same}

-- each field takes at least two bytes of its line
fields-half : (ss : List Sort) → length (all_fields ss) * 2 ≤ length (lines sort_line ss)
unfolding all_fields lines
fields-half [] = omega arith
fields-half (s ∷ ss) = omega (arith, length-append (fields_of s) (all_fields ss), length-append (sort_line s) (lines sort_line ss), half s, fields-half ss)

sorts-within : (t : Tables) → length (lines sort_line t.sorts) ≤ length (written t)
unfolding written
sorts-within t =
    omega (
      arith,
      length-append (lines sort_line t.sorts) (lines variable_line t.variables ++ (lines function_line t.functions ++ lines member_line t.members)),
    )

-- the rooms
pub record Roomy (entry : Buffers) : Type 0 where
  pub sorts : 5120 ≡ length entry.sorts
  pub fields : 32768 ≡ length entry.fields
  pub variables : 5120 ≡ length entry.variables
  pub functions : 5120 ≡ length entry.functions
  pub members : 5120 ≡ length entry.members

laid-fits : (s : List ℕ) (t : Tables) → length s ≤ text_limit → Spells s t → (entry : Buffers) → Roomy entry → Fits (laid t s) entry
unfolding laid
laid-fits s t short spells entry roomy =
    let h = lawful-parts t spells.lawful in
    let e : length s ≡ length (written t) = ap length spells.same in
    record {
      sorts = omega (arith, h.few, sorts-long 0 0 t.sorts, roomy.sorts);
      fields = omega (arith, fields-half t.sorts, sorts-within t, roomy.fields);
      variables = omega (arith, h.variables.few, table-long variable_words variable_line (λ at v. refl) (variables_at t) t.variables, roomy.variables);
      functions = omega (arith, h.functions.few, table-long function_words function_line (λ at f. refl) (functions_at t) t.functions, roomy.functions);
      members = omega (arith, h.members.few, table-long member_words member_line (λ at m. refl) (members_at t) t.members, roomy.members);
    }

-- the inputs are within the limit, or not
module _ (tables reply : List ℕ) where
  pub tables-long : byte_limit < length tables → within tables reply ≡ false
  tables-long h = ap (λ (b : Bool). b && leb (length reply) byte_limit) (lt-leb (length tables) byte_limit h)

  pub reply_long : byte_limit < length reply → within tables reply ≡ false
  reply_long h = ap (λ (b : Bool). leb (length tables) byte_limit && b) (lt-leb (length reply) byte_limit h) ∙ and-false (leb (length tables) byte_limit)

  both-short : length tables ≤ byte_limit → length reply ≤ byte_limit → within tables reply ≡ true
  both-short h k = ap (λ (b : Bool). b && leb (length reply) byte_limit) (le-leb (length tables) byte_limit h) ∙ le-leb (length reply) byte_limit k

  pub refused-long : (form : Form) (rooms : Rooms) (out : List ℕ) → within tables reply ≡ false → Replies form tables reply rooms out (Err InputTooLong) rooms out
  refused-long form rooms out h = Replies.too_long h (record { answers = refl; holds = refl }) refl

-- what reading the text in those rooms leaves
module _ (tables : List ℕ) (entry : Buffers) (r : Result Counts Refusal) (exit : Buffers) (d : Reads tables entry r exit) (short : length tables ≤ byte_limit) (roomy : Roomy entry) where
  all-stored : (t : Tables) → Spells tables t → text.Leaves (stored entry (laid t tables)) r exit
  all-stored t s =
      let p = d.spelled short t s in
      let q = fit-stored entry (laid t tables) (laid-fits tables t short s entry roomy) (stored entry (laid t tables)).answer (stored entry (laid t tables)).holds (record { answers = refl; holds = refl }) in
      record { answers = p.answers ∙ sym q.answers; holds = p.holds ∙ sym q.holds }

  -- a refusal is of a text that spells nothing
  pub nothing-spelled : (form : Form) (reply out : List ℕ) (rooms : Rooms) (why : Refusal) → length reply ≤ byte_limit → r ≡ Err why → Replies form tables reply rooms out (Err why) rooms out
  nothing-spelled form reply out rooms why h e =
      by-spelling tables
      (λ t s.
      let q : Err why ≡ (stored entry (laid t tables)).answer = sym e ∙ (all-stored t s).answers in
      let z : ◌≡◌ {A = ℕ} 0 1 = cc in
      absurd (omega arith))
      (λ never.
      let q : Err why ≡ Err BadTable = sym e ∙ (d.other short never).answers in
      let w : why ≡ BadTable = cc in
      Replies.bad-table (both-short tables reply short h) never (record { answers = ap Err w; holds = refl }) refl)

  module _ (a b c e f : ℕ) (is : r ≡ Ok (record { sorts = a; fields = b; variables = c; functions = e; members = f })) where
    record Held : Type 0 where
      of : Tables
      spells : Spells tables of
      size_1 : a ≡ length (laid of tables).sorts
      size_2 : b ≡ length (laid of tables).fields
      size_3 : c ≡ length (laid of tables).variables
      size_4 : e ≡ length (laid of tables).functions
      size_5 : f ≡ length (laid of tables).members
      holds : exit ≡ (stored entry (laid of tables)).holds

    held : Held
    held =
        by-spelling tables
        (λ t s.
        let p = all-stored t s in
        let q : (Ok (record { sorts = a; fields = b; variables = c; functions = e; members = f })) ≡ (stored entry (laid t tables)).answer = sym is ∙ p.answers in
        let u = ok-same q in
        record { of = t; spells = s; size_1 = ap (λ (r : Counts). r.sorts) u; size_2 = ap (λ (r : Counts). r.fields) u; size_3 = ap (λ (r : Counts). r.variables) u; size_4 = ap (λ (r : Counts). r.functions) u; size_5 = ap (λ (r : Counts). r.members) u; holds = p.holds })
        (λ never.
        let q : ◌≡◌ {A = Result Counts Refusal} (Ok (record { sorts = a; fields = b; variables = c; functions = e; members = f })) (Err BadTable) = sym is ∙ (d.other short never).answers in
        let z : ◌≡◌ {A = ℕ} 0 1 = cc in
        absurd (omega arith))

    -- words at the front of a room
    under : (n : ℕ) (words room left : List ℕ) → n ≡ length words → left ≡ onto words room → n ≤ length left
    unfolding onto
    under n words room left p q = omega (arith, p, ap length q, length-append words (drop (length words) room))

    front : (n : ℕ) (words room left : List ℕ) → n ≡ length words → left ≡ onto words room → take n left ≡ words
    unfolding onto
    front n words room left p q =
        ap (λ (k : ℕ). take k left) p ∙ ap (take (length words)) q ∙ take-append_seam words (drop (length words) room)

    pub under_1 : a ≤ length exit.sorts
    under_1 = let h = held in under a (laid h.of tables).sorts entry.sorts exit.sorts h.size_1 (ap (λ (x : Buffers). x.sorts) h.holds)

    pub under_2 : b ≤ length exit.fields
    under_2 = let h = held in under b (laid h.of tables).fields entry.fields exit.fields h.size_2 (ap (λ (x : Buffers). x.fields) h.holds)

    pub under_3 : c ≤ length exit.variables
    under_3 = let h = held in under c (laid h.of tables).variables entry.variables exit.variables h.size_3 (ap (λ (x : Buffers). x.variables) h.holds)

    pub under_4 : e ≤ length exit.functions
    under_4 = let h = held in under e (laid h.of tables).functions entry.functions exit.functions h.size_4 (ap (λ (x : Buffers). x.functions) h.holds)

    pub under_5 : f ≤ length exit.members
    under_5 = let h = held in under f (laid h.of tables).members entry.members exit.members h.size_5 (ap (λ (x : Buffers). x.members) h.holds)

    -- what is lent on
    abbrev lent : Lent
    lent = record {
      sorts = take a exit.sorts;
      fields = take b exit.fields;
      variables = take c exit.variables;
      functions = take e exit.functions;
      members = take f exit.members;
      names = tables;
    }

    lent-equal : {g h i j k m n o p q : List ℕ} → g ≡ m → h ≡ n → i ≡ o → j ≡ p → k ≡ q
        → ◌≡◌ {A = Lent} (record { sorts = g; fields = h; variables = i; functions = j; members = k; names = tables }) (record { sorts = m; fields = n; variables = o; functions = p; members = q; names = tables })
    lent-equal p q r s t = simp (p, q, r, s, t)

    lent_laid : (h : Held) → lent ≡ laid h.of tables
    unfolding laid
    lent_laid h =
        lent-equal
        (front a (laid h.of tables).sorts entry.sorts exit.sorts h.size_1 (ap (λ (x : Buffers). x.sorts) h.holds))
        (front b (laid h.of tables).fields entry.fields exit.fields h.size_2 (ap (λ (x : Buffers). x.fields) h.holds))
        (front c (laid h.of tables).variables entry.variables exit.variables h.size_3 (ap (λ (x : Buffers). x.variables) h.holds))
        (front e (laid h.of tables).functions entry.functions exit.functions h.size_4 (ap (λ (x : Buffers). x.functions) h.holds))
        (front f (laid h.of tables).members entry.members exit.members h.size_5 (ap (λ (x : Buffers). x.members) h.holds))

    pub spelled-walked : (form : Form) (reply out : List ℕ) (rooms after : Rooms) (answer : Result ℕ Refusal) (left : List ℕ) → length reply ≤ byte_limit → ReadsOn form lent reply rooms out answer after left → Replies form tables reply rooms out answer after left
    spelled-walked form reply out rooms after answer left h on =
        let k = held in
        let l : lent ≡ laid k.of tables = lent_laid k in
        let fine : passes lent ≡ true = ap passes l ∙ passes-lawful k.of tables k.spells.same ∙ k.spells.lawful in
        let means : tables_of lent ≡ k.of = ap tables_of l ∙ ap (λ (s : List ℕ). tables_of (laid k.of s)) k.spells.same ∙ laid-means k.of in
        Replies.spelled (both-short tables reply short h) k.of k.spells (subst (λ (T : Tables). Walks form T rooms reply out answer left) means (on.walks fine h)) on.leaves
