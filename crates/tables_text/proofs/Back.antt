-- Lines that lawful rows are written as are read as those rows.
-- Assumes nothing.
use Rattle.std.proofs.Common.{None, Option, Some}
use mathlib.Core.Path.{◌≡◌, refl, sym, ap, ap₂, ◌∙◌}
use mathlib.Core.Bool.{Bool, true, false, ◌&&◌, true≢false}
use mathlib.Core.List.{List, [], ◌∷◌, ◌++◌, map, append_assoc, append-nil}
use Prim.Native.Nat.{ℕ, zero, suc, ◌+◌, ◌≤◌, ◌<◌}
use native.Mathlib.Omega.{arith}
use lib.Dec.{eqb, leb, ltb}
use lib.ListN.{length, take, drop}
use lib.Seq.{take_at, drop_at, take-length, drop-length, append_snoc}
use borrow.Author.Tests.{ltb-true, leb-true}
use Rattle.ground.specs.Bytes.{bytes}
use Rattle.ground.specs.Lists.{joined, all, at, distinct}
use Rattle.ground.specs.Options.{over}
use Rattle.ground.proofs.Tests.{by_test, both_left, both_right}
use Rattle.utf8.specs.Octets.{utf8}
use Rattle.lexicon.specs.Span.{span_by}
use Rattle.arena.specs.Text.{same_text}
use Rattle.decimals.specs.Decimal.{decimal}
use Rattle.tables.specs.Sort as Sort
use Rattle.tables.specs.Sort.{Sort, bool, string, ext, bit_vec, option_of, set_of, entity_of, record_of, Variable, Function, Member, Tables}
use Rattle.tables.specs.Rules.{row_limit, name_limit, field_limit, width_limit, name_right, own_name, is_entity, present, sort_right, sorts_right, same_sort, table, lawful, variable_right, function_right, member_right}
use Rattle.tables_text.specs.Line.{sort_line, variable_line, function_line, member_line, lines, written, one_line, writable}
use Rattle.tables_text.specs.Parse.{begins, apart, span_to, space, line_feed, Cut, cut_at, led, further, numerals, record_in, named_form, numbered_form, form, sort_in, variable_after, variable_in, function_after, function_in, member_after, member_in, Walked, line_row, walk, sort_rows, variable_rows, function_rows, member_rows, parse}
use Rattle.tables_text.proofs.Cuts.{clear, span_clear, span_whole, cut_clear}
use Rattle.tables_text.proofs.Numerals.{numeral-back}
use Rattle.tables_text.proofs.Fields.{pieces_span}
use Rattle.tables_text.proofs.Clears.{clear-append, name_spaceless, name_feedless, own-right, decimal-clear, one-line-clear}
use Rattle.tables_text.proofs.Spelled as spelled
use Rattle.tables_text.proofs.Walks.{walk-stop, walk-goes}

-- a line without a line feed in it is cut where it ends
module _ {A : Type 0} (row : List ℕ → Option A) where
  pub line-back : (s r : List ℕ) (x : A) → clear line_feed s ≡ true → row s ≡ Some x → line_row row (s ++ line_feed ∷ r) ≡ Some x
  unfolding line_row
  line-back s r x h q = ap (λ (o : Option Cut). over o (λ c. row c.word)) (cut_clear line_feed s r h) ∙ q

  -- no row starts with this byte
  pub line_other : (b : ℕ) (s : List ℕ) → ((w : List ℕ) → row (b ∷ w) ≡ None) → apart line_feed b ≡ true → line_row row (b ∷ s) ≡ None
  unfolding line_row cut_at span_by
  line_other b s f h = rw h (by_test (ltb (suc (span_to line_feed s)) (suc (length s))) (λ e. rw e (f (take (span_to line_feed s) s))) (λ e. rw e))

  pub line-empty : line_row row [] ≡ None
  unfolding line_row cut_at span_by
  line-empty = refl

-- rows one after the other are read back, as many as there are
module _ {A : Type 0} (row : List ℕ → Option A) (write : A → List ℕ) (sound : (s : List ℕ) (x : A) → row s ≡ Some x → write x ≡ spelled.ended s) where
  pub data Reads : List A → Type 0 where
    nil : Reads []
    cons : {x : A} {xs : List A} → ((r : List ℕ) → line_row row (write x ++ r) ≡ Some x) → Reads xs → Reads (x ∷ xs)

  pub walk-back : (xs : List A) → Reads xs → (most : ℕ) → length xs ≤ most → (r : List ℕ) → line_row row r ≡ None → walk row most (lines write xs ++ r) ≡ record { rows = xs; rest = r }
  unfolding lines
  walk-back [] f most h r q = walk-stop row most r q
  walk-back (x ∷ xs) f zero h r q = absurd (omega arith)
  walk-back (x ∷ xs) (cons g f) (suc most) h r q =
      let a : (write x ++ lines write xs) ++ r ≡ write x ++ (lines write xs ++ r) = append_assoc (write x) (lines write xs) r in
      let d : drop (length (write x)) (write x ++ (lines write xs ++ r)) ≡ lines write xs ++ r = drop_at (write x) (lines write xs ++ r) (length (write x)) refl in
      ap (walk row (suc most)) a
      ∙ walk-goes row write sound most (write x ++ (lines write xs ++ r)) x (g (lines write xs ++ r))
      ∙ ap (λ (s : List ℕ). record { rows = x ∷ (walk row most s).rows; rest = (walk row most s).rest }) d
      ∙ ap (λ (w : Walked A). record { rows = x ∷ w.rows; rest = w.rest }) (walk-back xs f most (omega arith) r q)

-- a variable's line
module _ (name : List ℕ) (spaceless : clear space name ≡ true) (feedless : clear line_feed name ≡ true) where
  variable-reads : (n : ℕ) → n < 10000 → variable_in (bytes "var=" ++ (name ++ space ∷ decimal n)) ≡ Some (record { name = name; sort = n })
  unfolding variable_in variable_after begins
  variable-reads n h = rw (cut_clear space name (decimal n) spaceless) (rw (numeral-back n h))

  variable-clear : (n : ℕ) → clear line_feed (bytes "var=" ++ (name ++ space ∷ decimal n)) ≡ true
  unfolding all
  variable-clear n = clear-append line_feed name (space ∷ decimal n) feedless (decimal-clear line_feed (omega arith) n)

  function-reads : (n m : ℕ) → n < 10000 → m < 10000 → function_in (bytes "fun=" ++ (name ++ space ∷ (decimal n ++ space ∷ decimal m))) ≡ Some (record { name = name; argument = n; result = m })
  unfolding function_in function_after begins led
  function-reads n m h k =
      rw (cut_clear space name (decimal n ++ space ∷ decimal m) spaceless)
      (rw (cut_clear space (decimal n) (decimal m) (decimal-clear space (omega arith) n)) (rw (numeral-back n h) (rw (numeral-back m k))))

  function-clear : (n m : ℕ) → clear line_feed (bytes "fun=" ++ (name ++ space ∷ (decimal n ++ space ∷ decimal m))) ≡ true
  unfolding all
  function-clear n m =
      clear-append line_feed name (space ∷ (decimal n ++ space ∷ decimal m)) feedless
      (clear-append line_feed (decimal n) (space ∷ decimal m) (decimal-clear line_feed (omega arith) n) (decimal-clear line_feed (omega arith) m))

  member-reads : (n : ℕ) (text : List ℕ) → n < 10000 → member_in (bytes "enum=" ++ (name ++ space ∷ (decimal n ++ space ∷ text))) ≡ Some (record { name = name; entity = n; text = text })
  unfolding member_in member_after begins led
  member-reads n text h =
      rw (cut_clear space name (decimal n ++ space ∷ text) spaceless)
      (rw (cut_clear space (decimal n) text (decimal-clear space (omega arith) n)) (rw (numeral-back n h)))

  member-clear : (n : ℕ) (text : List ℕ) → clear line_feed text ≡ true → clear line_feed (bytes "enum=" ++ (name ++ space ∷ (decimal n ++ space ∷ text))) ≡ true
  unfolding all
  member-clear n text h =
      clear-append line_feed name (space ∷ (decimal n ++ space ∷ text)) feedless
      (clear-append line_feed (decimal n) (space ∷ text) (decimal-clear line_feed (omega arith) n) h)

entity-there : (ss : List Sort) (i : ℕ) → is_entity (at ss i) ≡ true → i < length ss
unfolding at
entity-there [] i q = absurd (true≢false (sym q))
entity-there (s ∷ ss) zero q = omega arith
entity-there (s ∷ ss) (suc i) q = omega (arith, entity-there ss i q)

module _ (t : Tables) (few : length t.sorts ≤ row_limit) where
  small : (n : ℕ) → present t n ≡ true → n < 10000
  small n h = omega (arith, ltb-true n (length t.sorts) h)

  variable-back : (v : Variable) → variable_right t v ≡ true → (r : List ℕ) → line_row variable_in (variable_line v ++ r) ≡ Some v
  unfolding joined
  variable-back v h r =
      let n = both_left (name_right v.name) (present t v.sort) h in
      let k = small v.sort (both_right (name_right v.name) (present t v.sort) h) in
      ap (λ (w : List ℕ). line_row variable_in (bytes "var=" ++ w)) (append_snoc (v.name ++ space ∷ decimal v.sort) line_feed r)
      ∙ line-back variable_in (bytes "var=" ++ (v.name ++ space ∷ decimal v.sort)) r v (variable-clear v.name (name_spaceless v.name n) (name_feedless v.name n) v.sort)
      (variable-reads v.name (name_spaceless v.name n) (name_feedless v.name n) v.sort k)

  function-back : (f : Function) → function_right t f ≡ true → (r : List ℕ) → line_row function_in (function_line f ++ r) ≡ Some f
  unfolding joined
  function-back f h r =
      let a = both_left (name_right f.name && present t f.argument) (present t f.result) h in
      let n = both_left (name_right f.name) (present t f.argument) a in
      let k = small f.argument (both_right (name_right f.name) (present t f.argument) a) in
      let m = small f.result (both_right (name_right f.name && present t f.argument) (present t f.result) h) in
      ap (λ (w : List ℕ). line_row function_in (bytes "fun=" ++ w)) (append_snoc (f.name ++ space ∷ (decimal f.argument ++ space ∷ decimal f.result)) line_feed r)
      ∙ line-back function_in (bytes "fun=" ++ (f.name ++ space ∷ (decimal f.argument ++ space ∷ decimal f.result))) r f
      (function-clear f.name (name_spaceless f.name n) (name_feedless f.name n) f.argument f.result)
      (function-reads f.name (name_spaceless f.name n) (name_feedless f.name n) f.argument f.result k m)

  member_back : (m : Member) → member_right t m ≡ true → one_line m.text ≡ true → (r : List ℕ) → line_row member_in (member_line m ++ r) ≡ Some m
  unfolding joined
  member_back m h o r =
      let a = both_left (own_name m.name && is_entity (at t.sorts m.entity) && leb (length m.text) name_limit) (utf8 m.text) h in
      let b = both_left (own_name m.name && is_entity (at t.sorts m.entity)) (leb (length m.text) name_limit) a in
      let n = own-right m.name (both_left (own_name m.name) (is_entity (at t.sorts m.entity)) b) in
      let k : m.entity < 10000 = omega (arith, entity-there t.sorts m.entity (both_right (own_name m.name) (is_entity (at t.sorts m.entity)) b)) in
      ap (λ (w : List ℕ). line_row member_in (bytes "enum=" ++ w)) (append_snoc (m.name ++ space ∷ (decimal m.entity ++ space ∷ m.text)) line_feed r)
      ∙ line-back member_in (bytes "enum=" ++ (m.name ++ space ∷ (decimal m.entity ++ space ∷ m.text))) r m
      (member-clear m.name (name_spaceless m.name n) (name_feedless m.name n) m.entity m.text (one-line-clear m.text o))
      (member-reads m.name (name_spaceless m.name n) (name_feedless m.name n) m.entity m.text k)

  pub variables-back : (vs : List Variable) → all (variable_right t) vs ≡ true → Reads variable_in variable_line spelled.variable-sound vs
  unfolding all
  variables-back [] h = nil
  variables-back (v ∷ vs) h =
      cons (variable-back v (both_left (variable_right t v) (all (variable_right t) vs) h)) (variables-back vs (both_right (variable_right t v) (all (variable_right t) vs) h))

  pub functions-back : (fs : List Function) → all (function_right t) fs ≡ true → Reads function_in function_line spelled.function-sound fs
  unfolding all
  functions-back [] h = nil
  functions-back (f ∷ fs) h =
      cons (function-back f (both_left (function_right t f) (all (function_right t) fs) h)) (functions-back fs (both_right (function_right t f) (all (function_right t) fs) h))

  pub members-back : (ms : List Member) → all (member_right t) ms ≡ true → all (λ m. one_line m.text) ms ≡ true → Reads member_in member_line spelled.member-sound ms
  unfolding all
  members-back [] h o = nil
  members-back (m ∷ ms) h o =
      cons (member_back m (both_left (member_right t m) (all (member_right t) ms) h) (both_left (one_line m.text) (all (λ x. one_line x.text) ms) o))
      (members-back ms (both_right (member_right t m) (all (member_right t) ms) h) (both_right (one_line m.text) (all (λ x. one_line x.text) ms) o))

-- a record's name and rows
all-clear : (rows : List ℕ) (name : List ℕ) → clear line_feed name ≡ true → clear line_feed (joined (bytes " ") (name ∷ map decimal rows)) ≡ true
unfolding joined all
all-clear [] name h = h
all-clear (n ∷ rows) name h =
    clear-append line_feed name (space ∷ joined (bytes " ") (decimal n ∷ map decimal rows)) h (all-clear rows (decimal n) (decimal-clear line_feed (omega arith) n))

further-back : (rows : List ℕ) (name : List ℕ) → clear space name ≡ true
    → (take (span_to space (joined (bytes " ") (name ∷ map decimal rows))) (joined (bytes " ") (name ∷ map decimal rows)) ≡ name)
    × (further (drop (span_to space (joined (bytes " ") (name ∷ map decimal rows))) (joined (bytes " ") (name ∷ map decimal rows))) ≡ map decimal rows)
unfolding joined
further-back [] name h =
    let n = span_whole space name h in
    (ap (λ (k : ℕ). take k name) n ∙ take-length name, ap (λ (k : ℕ). further (drop k name)) n ∙ ap further (drop-length name))
further-back (m ∷ rows) name h =
    let j = joined (bytes " ") (decimal m ∷ map decimal rows) in
    let n = span_clear space name j h in
    let f = further-back rows (decimal m) (decimal-clear space (omega arith) m) in (
      ap (λ (k : ℕ). take k (name ++ space ∷ j)) n ∙ take_at name (space ∷ j) (length name) refl,
      ap (λ (k : ℕ). further (drop k (name ++ space ∷ j))) n ∙ ap further (drop_at name (space ∷ j) (length name) refl)
          ∙ pieces_span j ∙ ap₂ (λ (x : List ℕ) (y : List (List ℕ)). x ∷ y) f.0 f.1,
    )

numerals-back : (i : ℕ) → i ≤ 10000 → (rows : List ℕ) → all (λ row. ltb row i) rows ≡ true → numerals (map decimal rows) ≡ Some rows
unfolding numerals all
numerals-back i b [] h = refl
numerals-back i b (n ∷ rows) h =
    rw (numeral-back n (omega (arith, ltb-true n i (both_left (ltb n i) (all (λ row. ltb row i) rows) h))))
    (rw (numerals-back i b rows (both_right (ltb n i) (all (λ row. ltb row i) rows) h)))

record_back : (i : ℕ) → i ≤ 10000 → (name rows : List ℕ) → clear space name ≡ true → all (λ row. ltb row i) rows ≡ true
    → record_in (joined (bytes " ") (name ∷ map decimal rows)) ≡ Some (record_of name rows)
unfolding record_in
record_back i b name rows h q =
    let f = further-back rows name h in
    ap₂ (λ (x : List (List ℕ)) (y : List ℕ). over (numerals x) (λ ns. Some (record_of y ns))) f.1 f.0
    ∙ ap (λ (o : Option (List ℕ)). over o (λ ns. Some (record_of name ns))) (numerals-back i b rows q)

-- a sort's line
bits-reads : (n : ℕ) → n < 10000 → sort_in (bytes "sort=bitvec " ++ decimal n) ≡ Some (bit_vec n)
unfolding form numbered_form same_text begins
bits-reads n h = rw (numeral-back n h)

option_reads : (n : ℕ) → n < 10000 → sort_in (bytes "sort=option " ++ decimal n) ≡ Some (option_of n)
unfolding form numbered_form same_text begins
option_reads n h = rw (numeral-back n h)

set_reads : (n : ℕ) → n < 10000 → sort_in (bytes "sort=set " ++ decimal n) ≡ Some (set_of n)
unfolding form numbered_form same_text begins
set_reads n h = rw (numeral-back n h)

entity-reads : (name : List ℕ) → sort_in (bytes "sort=entity " ++ name) ≡ Some (entity_of name)
unfolding form numbered_form named_form same_text begins
entity-reads name = refl

record_reads : (body : List ℕ) → sort_in (bytes "sort=record " ++ body) ≡ record_in body
unfolding form numbered_form named_form same_text begins
record_reads body = refl

module _ (i : ℕ) (most : i ≤ row_limit) where
  numbered-back : (key : List ℕ) (n : ℕ) (x : Sort) (r : List ℕ) → clear line_feed key ≡ true → sort_in (key ++ decimal n) ≡ Some x → line_row sort_in ((key ++ (decimal n ++ (line_feed ∷ []))) ++ r) ≡ Some x
  numbered-back key n x r k q =
      ap (line_row sort_in) (append_assoc key (decimal n ++ (line_feed ∷ [])) r ∙ ap (λ (w : List ℕ). key ++ w) (append_snoc (decimal n) line_feed r) ∙ sym (append_assoc key (decimal n) (line_feed ∷ r)))
      ∙ line-back sort_in (key ++ decimal n) r x (clear-append line_feed key (decimal n) k (decimal-clear line_feed (omega arith) n)) q

  sort-back : (x : Sort) → sort_right i x ≡ true → (r : List ℕ) → line_row sort_in (sort_line x ++ r) ≡ Some x
  unfolding form same_text all joined
  sort-back bool h r = line-back sort_in (bytes "sort=bool") r bool refl refl
  sort-back string h r = line-back sort_in (bytes "sort=string") r string refl refl
  sort-back (ext Sort.decimal) h r = line-back sort_in (bytes "sort=decimal") r (ext Sort.decimal) refl refl
  sort-back (ext Sort.datetime) h r = line-back sort_in (bytes "sort=datetime") r (ext Sort.datetime) refl refl
  sort-back (ext Sort.duration) h r = line-back sort_in (bytes "sort=duration") r (ext Sort.duration) refl refl
  sort-back (bit_vec n) h r =
      numbered-back (bytes "sort=bitvec ") n (bit_vec n) r refl (bits-reads n (omega (arith, leb-true n width_limit (both_right (leb 1 n) (leb n width_limit) h))))
  sort-back (option_of n) h r = numbered-back (bytes "sort=option ") n (option_of n) r refl (option_reads n (omega (arith, ltb-true n i h)))
  sort-back (set_of n) h r = numbered-back (bytes "sort=set ") n (set_of n) r refl (set_reads n (omega (arith, ltb-true n i h)))
  sort-back (entity_of name) h r =
      ap (λ (w : List ℕ). line_row sort_in (bytes "sort=entity " ++ w)) (append_snoc name line_feed r)
      ∙ line-back sort_in (bytes "sort=entity " ++ name) r (entity_of name) (name_feedless name (own-right name h)) (entity-reads name)
  sort-back (record_of name rows) h r =
      let a = both_left (own_name name && leb (length rows) field_limit) (all (λ row. ltb row i) rows) h in
      let n = own-right name (both_left (own_name name) (leb (length rows) field_limit) a) in
      let j = joined (bytes " ") (name ∷ map decimal rows) in
      ap (λ (w : List ℕ). line_row sort_in (bytes "sort=record " ++ w)) (append_snoc j line_feed r)
      ∙ line-back sort_in (bytes "sort=record " ++ j) r (record_of name rows) (all-clear rows name (name_feedless name n))
      (record_reads j ∙ record_back i (omega arith) name rows (name_spaceless name n) (both_right (own_name name && leb (length rows) field_limit) (all (λ row. ltb row i) rows) h))

pub sorts-back : (i : ℕ) (ss : List Sort) → i + length ss ≤ row_limit → sorts_right i ss ≡ true → Reads sort_in sort_line spelled.sort-sound ss
unfolding sorts_right
sorts-back i [] b h = nil
sorts-back i (s ∷ ss) b h =
    cons (sort-back i (omega arith) s (both_left (sort_right i s) (sorts_right (suc i) ss) h)) (sorts-back (suc i) ss (omega arith) (both_right (sort_right i s) (sorts_right (suc i) ss) h))

-- the kinds after a kind start otherwise
members-apart : {A : Type 0} (row : List ℕ → Option A) → ((w : List ℕ) → row (101 ∷ w) ≡ None) → (ms : List Member) → line_row row (lines member_line ms) ≡ None
unfolding lines
members-apart row f [] = line-empty row
members-apart row f (m ∷ ms) = line_other row 101 _ f refl

functions-apart : {A : Type 0} (row : List ℕ → Option A) → ((w : List ℕ) → row (101 ∷ w) ≡ None) → ((w : List ℕ) → row (102 ∷ w) ≡ None)
    → (fs : List Function) (ms : List Member) → line_row row (lines function_line fs ++ lines member_line ms) ≡ None
unfolding lines
functions-apart row f g [] ms = members-apart row f ms
functions-apart row f g (x ∷ fs) ms = line_other row 102 _ g refl

variables-apart : {A : Type 0} (row : List ℕ → Option A) → ((w : List ℕ) → row (101 ∷ w) ≡ None) → ((w : List ℕ) → row (102 ∷ w) ≡ None) → ((w : List ℕ) → row (118 ∷ w) ≡ None)
    → (vs : List Variable) (fs : List Function) (ms : List Member) → line_row row (lines variable_line vs ++ (lines function_line fs ++ lines member_line ms)) ≡ None
unfolding lines
variables-apart row f g h [] fs ms = functions-apart row f g fs ms
variables-apart row f g h (v ∷ vs) fs ms = line_other row 118 _ h refl

sort-first : (b : ℕ) (w : List ℕ) → eqb b 115 ≡ false → sort_in (b ∷ w) ≡ None
unfolding form numbered_form named_form same_text begins
sort-first b w h = rw h

variable-first : (b : ℕ) (w : List ℕ) → eqb b 118 ≡ false → variable_in (b ∷ w) ≡ None
unfolding variable_in begins
variable-first b w h = rw h

function-first : (b : ℕ) (w : List ℕ) → eqb b 102 ≡ false → function_in (b ∷ w) ≡ None
unfolding function_in begins
function-first b w h = rw h

module _ (t : Tables) (right : lawful t ≡ true) (spoken : writable t ≡ true) where
  abbrev R₁ : List ℕ
  R₁ = lines variable_line t.variables ++ (lines function_line t.functions ++ lines member_line t.members)

  abbrev R₂ : List ℕ
  R₂ = lines function_line t.functions ++ lines member_line t.members

  record Parts : Type 0 where
    few : length t.sorts ≤ row_limit
    sorts : sorts_right 0 t.sorts ≡ true
    variables : table (variable_right t) (λ v w. same_text v.name w.name) t.variables ≡ true
    functions : table (function_right t) (λ f g. same_text f.name g.name) t.functions ≡ true
    members : table (member_right t) (λ m n. same_text m.name n.name) t.members ≡ true

  abbrev variables_pass : Bool
  variables_pass = table (variable_right t) (λ v w. same_text v.name w.name) t.variables

  abbrev functions_pass : Bool
  functions_pass = table (function_right t) (λ f g. same_text f.name g.name) t.functions

  abbrev sorts_pass : Bool
  sorts_pass = leb (length t.sorts) row_limit && sorts_right 0 t.sorts && distinct same_sort t.sorts

  parts : Parts
  unfolding lawful
  parts =
      let a = both_left _ (table (member_right t) (λ m n. same_text m.name n.name) t.members) right in
      let b = both_left _ (table (function_right t) (λ f g. same_text f.name g.name) t.functions) a in
      let c = both_left _ (table (variable_right t) (λ v w. same_text v.name w.name) t.variables) b in
      let d = both_left (leb (length t.sorts) row_limit && sorts_right 0 t.sorts) (distinct same_sort t.sorts) c in
      record {
        few = leb-true (length t.sorts) row_limit (both_left (leb (length t.sorts) row_limit) (sorts_right 0 t.sorts) d);
        sorts = both_right (leb (length t.sorts) row_limit) (sorts_right 0 t.sorts) d;
        variables = both_right sorts_pass (table (variable_right t) (λ v w. same_text v.name w.name) t.variables) b;
        functions = both_right (sorts_pass && variables_pass) (table (function_right t) (λ f g. same_text f.name g.name) t.functions) a;
        members = both_right (sorts_pass && variables_pass && functions_pass) (table (member_right t) (λ m n. same_text m.name n.name) t.members) right;
      }

  of-table : {A : Type 0} (test : A → Bool) (same : A → A → Bool) (xs : List A) → table test same xs ≡ true → (length xs ≤ row_limit) × (all test xs ≡ true)
  of-table test same xs h =
      let a = both_left (leb (length xs) row_limit && all test xs) (distinct same xs) h in
      (leb-true (length xs) row_limit (both_left (leb (length xs) row_limit) (all test xs) a), both_right (leb (length xs) row_limit) (all test xs) a)

  sorts-read : sort_rows (written t) ≡ record { rows = t.sorts; rest = R₁ }
  unfolding written
  sorts-read =
      walk-back sort_in sort_line spelled.sort-sound t.sorts (sorts-back 0 t.sorts (omega (arith, parts.few)) parts.sorts) row_limit parts.few R₁
      (variables-apart sort_in (λ w. sort-first 101 w refl) (λ w. sort-first 102 w refl) (λ w. sort-first 118 w refl) t.variables t.functions t.members)

  variables-read : variable_rows (written t) ≡ record { rows = t.variables; rest = R₂ }
  variables-read =
      let p = of-table (variable_right t) (λ v w. same_text v.name w.name) t.variables parts.variables in
      ap (λ (w : Walked Sort). walk variable_in row_limit w.rest) sorts-read
      ∙ walk-back variable_in variable_line spelled.variable-sound t.variables (variables-back t parts.few t.variables p.1) row_limit p.0 R₂
      (functions-apart variable_in (λ w. variable-first 101 w refl) (λ w. variable-first 102 w refl) t.functions t.members)

  functions-read : function_rows (written t) ≡ record { rows = t.functions; rest = lines member_line t.members }
  functions-read =
      let p = of-table (function_right t) (λ f g. same_text f.name g.name) t.functions parts.functions in
      ap (λ (w : Walked Variable). walk function_in row_limit w.rest) variables-read
      ∙ walk-back function_in function_line spelled.function-sound t.functions (functions-back t parts.few t.functions p.1) row_limit p.0 (lines member_line t.members)
      (members-apart function_in (λ w. function-first 101 w refl) t.members)

  members-read : member_rows (written t) ≡ record { rows = t.members; rest = [] }
  unfolding writable
  members-read =
      let p = of-table (member_right t) (λ m n. same_text m.name n.name) t.members parts.members in
      ap (λ (w : Walked Function). walk member_in row_limit w.rest) functions-read
      ∙ ap (walk member_in row_limit) (sym (append-nil (lines member_line t.members)))
      ∙ walk-back member_in member_line spelled.member-sound t.members (members-back t parts.few t.members p.1 spoken) row_limit p.0 [] (line-empty member_in)

  pub read_back : parse (written t) ≡ Some t
  unfolding parse
  read_back = rw (members-read, functions-read, variables-read, sorts-read)
