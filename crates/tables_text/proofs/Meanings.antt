-- What the words laid over a text mean: the tables that the text spells.
-- Assumes nothing.
use mathlib.Core.Path.{◌≡◌, refl, sym, ap, ap₂, ◌∙◌}
use mathlib.Core.Bool.{Bool, true, cond, ◌&&◌}
use mathlib.Core.List.{List, [], ◌∷◌, ◌++◌, map, map-id, append_assoc, append-nil}
use Prim.Native.Nat.{ℕ, suc, ◌+◌, ◌*◌, ◌%◌}
use native.Mathlib.Omega.{arith}
use lib.Dec.{eqb, leb}
use lib.ListN.{length, get_or, take, drop, length-append}
use lib.Seq.{append_snoc, drop-append-add, take-append_seam, drop-append_seam, get_or-append-add, drop_at}
use borrow.Author.Tests.{le-leb, eq-eqb}
use Rattle.ground.specs.Bytes.{bytes}
use Rattle.ground.specs.Lists.{joined, all, tabulate}
use Rattle.ground.proofs.Tests.{both}
use Rattle.decimals.specs.Decimal.{decimal}
use Rattle.tables.specs.Sort as Sort
use Rattle.tables.specs.Sort.{Sort, bool, string, ext, bit_vec, option_of, set_of, entity_of, record_of, Variable, Function, Member, Tables}
use Rattle.tables.specs.Layout.{stride, count, word, part, name_at, sort_of, tables_of, whole, inside, name_inside, rows, formed, last_kind}
use Rattle.tables_text.specs.Line.{lines, written, sort_line, variable_line, function_line, member_line}
use Rattle.tables_text.specs.Words.{row_words, sort_words, fields_of, all_fields, all_sort_words, variable_words, function_words, member_words, table_words, laid}
use Rattle.tables_text.specs.Parse.{space, line_feed}
use Rattle.tables_text.proofs.SortWalks.{five}
use Rattle.tables_text.proofs.Parses.{table-long, sorts-long}

-- the words of a row
by-words : {B : Type 0} (h : ℕ → ℕ → ℕ → ℕ → ℕ → B) (a b c d e : ℕ) (pre post : List ℕ) (i : ℕ) → length pre ≡ i * stride
    → h (word (pre ++ (row_words a b c d e ++ post)) i 0) (word (pre ++ (row_words a b c d e ++ post)) i 1) (word (pre ++ (row_words a b c d e ++ post)) i 2)
    (word (pre ++ (row_words a b c d e ++ post)) i 3) (word (pre ++ (row_words a b c d e ++ post)) i 4) ≡ h a b c d e
by-words h a b c d e pre post i q = five-equal (at 0) (at 1) (at 2) (at 3) (at 4)
  where
    at : (k : ℕ) → word (pre ++ (row_words a b c d e ++ post)) i k ≡ get_or (row_words a b c d e ++ post) k 0
    at k = ap (λ (n : ℕ). get_or (pre ++ (row_words a b c d e ++ post)) (n + k) 0) (sym q) ∙ get_or-append-add pre (row_words a b c d e ++ post) k 0

    five-equal : {x y z v w : ℕ} → x ≡ a → y ≡ b → z ≡ c → v ≡ d → w ≡ e → h x y z v w ≡ h a b c d e
    five-equal p q r s t = rw (p, q, r, s, t)

-- a part of the text behind what stands to the left
part_at : (left s name rest : List ℕ) (k : ℕ) → drop k s ≡ name ++ rest → part (left ++ s) (length left + k) (length name) ≡ name
part_at left s name rest k h = ap (take (length name)) (drop-append-add left s k ∙ h) ∙ take-append_seam name rest

front : (n a b c : List ℕ) → ((n ++ a) ++ b) ++ c ≡ n ++ ((a ++ b) ++ c)
front n a b c = ap (λ (l : List ℕ). l ++ c) (append_assoc n a b) ∙ append_assoc n (a ++ b) c

-- a table's rows one after the other
module _ {A B : Type 0} (write : A → List ℕ) (words : ℕ → A → List ℕ) (fives : (at : ℕ) (x : A) → length (words at x) ≡ stride) (f : List ℕ → List ℕ → ℕ → B) (g : A → B)
    (law : (x : A) (pre post left right : List ℕ) (i : ℕ) → length pre ≡ i * stride → f (left ++ (write x ++ right)) (pre ++ (words (length left) x ++ post)) i ≡ g x) where
  rows_mean : (xs : List A) (i : ℕ) (pre left right : List ℕ) → length pre ≡ i * stride
      → tabulate (f (left ++ (lines write xs ++ right)) (pre ++ table_words words write (length left) xs)) i (length xs) ≡ map g xs
  unfolding lines table_words tabulate
  rows_mean [] i pre left right e = refl
  rows_mean (x ∷ xs) i pre left right e =
      let n : left ++ ((write x ++ lines write xs) ++ right) ≡ left ++ (write x ++ (lines write xs ++ right)) = ap (λ (l : List ℕ). left ++ l) (append_assoc (write x) (lines write xs) right) in
      let m : left ++ (write x ++ (lines write xs ++ right)) ≡ (left ++ write x) ++ (lines write xs ++ right) = sym (append_assoc left (write x) (lines write xs ++ right)) in
      let w : pre ++ (words (length left) x ++ table_words words write (length left + length (write x)) xs) ≡ (pre ++ words (length left) x) ++ table_words words write (length (left ++ write x)) xs =
      sym (append_assoc pre (words (length left) x) (table_words words write (length left + length (write x)) xs))
      ∙ ap (λ (k : ℕ). (pre ++ words (length left) x) ++ table_words words write k xs) (sym (length-append left (write x))) in
      ap₂ (λ (y : B) (ys : List B). y ∷ ys)
      (ap (λ (l : List ℕ). f l (pre ++ (words (length left) x ++ table_words words write (length left + length (write x)) xs)) i) n
      ∙ law x pre (table_words words write (length left + length (write x)) xs) left (lines write xs ++ right) i e)
      (ap₂ (λ (l v : List ℕ). tabulate (f l v) (suc i) (length xs)) (n ∙ m) w
      ∙ rows_mean xs (suc i) (pre ++ words (length left) x) (left ++ write x) right (omega (arith, length-append pre (words (length left) x), fives (length left) x, e)))

  -- all of them, over a text that is theirs from a place on
  table_mean : (xs : List A) (left right text : List ℕ) (at : ℕ) → text ≡ left ++ (lines write xs ++ right) → at ≡ length left
      → tabulate (f text (table_words words write at xs)) 0 (count (table_words words write at xs)) ≡ map g xs
  table_mean xs left right text at p q =
      let c : count (table_words words write at xs) ≡ length xs = omega (arith, table-long words write fives at xs) in
      ap₂ (λ (l : List ℕ) (k : ℕ). tabulate (f l (table_words words write at xs)) 0 k) p c
      ∙ ap (λ (k : ℕ). tabulate (f (left ++ (lines write xs ++ right)) (table_words words write k xs)) 0 (length xs)) q
      ∙ rows_mean xs 0 [] left right refl

-- sorts, with their fields behind each other
module _ {B : Type 0} (f : List ℕ → List ℕ → List ℕ → ℕ → B) (g : Sort → B)
    (law : (x : Sort) (pre post left right first last : List ℕ) (i : ℕ) → length pre ≡ i * stride
    → f (left ++ (sort_line x ++ right)) (first ++ (fields_of x ++ last)) (pre ++ (sort_words (length left) (length first) x ++ post)) i ≡ g x) where
  sorts_mean : (xs : List Sort) (i : ℕ) (pre left right first last : List ℕ) → length pre ≡ i * stride
      → tabulate (f (left ++ (lines sort_line xs ++ right)) (first ++ (all_fields xs ++ last)) (pre ++ all_sort_words (length left) (length first) xs)) i (length xs) ≡ map g xs
  unfolding lines all_sort_words all_fields tabulate
  sorts_mean [] i pre left right first last e = refl
  sorts_mean (x ∷ xs) i pre left right first last e =
      let n : left ++ ((sort_line x ++ lines sort_line xs) ++ right) ≡ left ++ (sort_line x ++ (lines sort_line xs ++ right)) = ap (λ (l : List ℕ). left ++ l) (append_assoc (sort_line x) (lines sort_line xs) right) in
      let m : left ++ (sort_line x ++ (lines sort_line xs ++ right)) ≡ (left ++ sort_line x) ++ (lines sort_line xs ++ right) = sym (append_assoc left (sort_line x) (lines sort_line xs ++ right)) in
      let j : first ++ ((fields_of x ++ all_fields xs) ++ last) ≡ first ++ (fields_of x ++ (all_fields xs ++ last)) = ap (λ (l : List ℕ). first ++ l) (append_assoc (fields_of x) (all_fields xs) last) in
      let k : first ++ (fields_of x ++ (all_fields xs ++ last)) ≡ (first ++ fields_of x) ++ (all_fields xs ++ last) = sym (append_assoc first (fields_of x) (all_fields xs ++ last)) in
      let tail = all_sort_words (length left + length (sort_line x)) (length first + length (fields_of x)) xs in
      let w : pre ++ (sort_words (length left) (length first) x ++ tail) ≡ (pre ++ sort_words (length left) (length first) x) ++ all_sort_words (length (left ++ sort_line x)) (length (first ++ fields_of x)) xs =
      sym (append_assoc pre (sort_words (length left) (length first) x) tail)
      ∙ ap₂ (λ (a b : ℕ). (pre ++ sort_words (length left) (length first) x) ++ all_sort_words a b xs) (sym (length-append left (sort_line x))) (sym (length-append first (fields_of x))) in
      ap₂ (λ (y : B) (ys : List B). y ∷ ys)
      (ap₂ (λ (l v : List ℕ). f l v (pre ++ (sort_words (length left) (length first) x ++ tail)) i) n j
      ∙ law x pre tail left (lines sort_line xs ++ right) first (all_fields xs ++ last) i e)
      (ap₂ (λ (l v : List ℕ). tabulate (f l v (pre ++ (sort_words (length left) (length first) x ++ tail))) (suc i) (length xs)) (n ∙ m) (j ∙ k)
      ∙ ap (λ (v : List ℕ). tabulate (f ((left ++ sort_line x) ++ (lines sort_line xs ++ right)) ((first ++ fields_of x) ++ (all_fields xs ++ last)) v) (suc i) (length xs)) w
      ∙ sorts_mean xs (suc i) (pre ++ sort_words (length left) (length first) x) (left ++ sort_line x) right (first ++ fields_of x) last
      (omega (arith, length-append pre (sort_words (length left) (length first) x), five (length left) (length first) x, e)))

  all-sorts_mean : (xs : List Sort) (right text : List ℕ) → text ≡ lines sort_line xs ++ right
      → tabulate (f text (all_fields xs) (all_sort_words 0 0 xs)) 0 (count (all_sort_words 0 0 xs)) ≡ map g xs
  all-sorts_mean xs right text p =
      let c : count (all_sort_words 0 0 xs) ≡ length xs = omega (arith, sorts-long 0 0 xs) in
      ap₂ (λ (l : List ℕ) (k : ℕ). tabulate (f l (all_fields xs) (all_sort_words 0 0 xs)) 0 k) p c
      ∙ ap (λ (v : List ℕ). tabulate (f (lines sort_line xs ++ right) v (all_sort_words 0 0 xs)) 0 (length xs)) (sym (append-nil (all_fields xs)))
      ∙ sorts_mean xs 0 [] [] right [] [] refl

-- a variable's row
module _ (v : Variable) (pre post left right : List ℕ) (i : ℕ) (e : length pre ≡ i * stride) where
  variable-name : part (left ++ (variable_line v ++ right)) (length left + 4) (length v.name) ≡ v.name
  unfolding joined
  variable-name =
      part_at left (variable_line v ++ right) v.name (((space ∷ decimal v.sort) ++ (line_feed ∷ [])) ++ right) 4
      (front v.name (space ∷ decimal v.sort) (line_feed ∷ []) right)

  variable-means : record { name = name_at (left ++ (variable_line v ++ right)) (pre ++ (variable_words (length left) v ++ post)) i; sort = word (pre ++ (variable_words (length left) v ++ post)) i 2 } ≡ v
  variable-means =
      by-words (λ a b c d e. record { name = part (left ++ (variable_line v ++ right)) a b; sort = c }) (length left + 4) (length v.name) v.sort 0 0 pre post i e
      ∙ ap (λ (n : List ℕ). record { name = n; sort = v.sort }) variable-name

  variable-inside : name_inside (left ++ (variable_line v ++ right)) (pre ++ (variable_words (length left) v ++ post)) i ≡ true
  unfolding joined
  variable-inside =
      by-words (λ a b c d e. leb (a + b) (length (left ++ (variable_line v ++ right)))) (length left + 4) (length v.name) v.sort 0 0 pre post i e
      ∙ le-leb (length left + 4 + length v.name) (length (left ++ (variable_line v ++ right)))
      (omega (
        arith,
        length-append left (variable_line v ++ right),
        length-append ((v.name ++ space ∷ decimal v.sort) ++ (line_feed ∷ [])) right,
        length-append (v.name ++ space ∷ decimal v.sort) (line_feed ∷ []),
        length-append v.name (space ∷ decimal v.sort),
      ))

-- a function's
module _ (f : Function) (pre post left right : List ℕ) (i : ℕ) (e : length pre ≡ i * stride) where
  abbrev function-rest : List ℕ
  function-rest = space ∷ (decimal f.argument ++ space ∷ decimal f.result)

  function-name : part (left ++ (function_line f ++ right)) (length left + 4) (length f.name) ≡ f.name
  unfolding joined
  function-name =
      part_at left (function_line f ++ right) f.name ((function-rest ++ (line_feed ∷ [])) ++ right) 4 (front f.name function-rest (line_feed ∷ []) right)

  function-means : record {
    name = name_at (left ++ (function_line f ++ right)) (pre ++ (function_words (length left) f ++ post)) i;
    argument = word (pre ++ (function_words (length left) f ++ post)) i 2;
    result = word (pre ++ (function_words (length left) f ++ post)) i 3;
  } ≡ f
  function-means =
      by-words (λ a b c d e. record { name = part (left ++ (function_line f ++ right)) a b; argument = c; result = d }) (length left + 4) (length f.name) f.argument f.result 0 pre post i e
      ∙ ap (λ (n : List ℕ). record { name = n; argument = f.argument; result = f.result }) function-name

  function-inside : name_inside (left ++ (function_line f ++ right)) (pre ++ (function_words (length left) f ++ post)) i ≡ true
  unfolding joined
  function-inside =
      by-words (λ a b c d e. leb (a + b) (length (left ++ (function_line f ++ right)))) (length left + 4) (length f.name) f.argument f.result 0 pre post i e
      ∙ le-leb (length left + 4 + length f.name) (length (left ++ (function_line f ++ right)))
      (omega (
        arith,
        length-append left (function_line f ++ right),
        length-append ((f.name ++ function-rest) ++ (line_feed ∷ [])) right,
        length-append (f.name ++ function-rest) (line_feed ∷ []),
        length-append f.name function-rest,
      ))

-- an enum member's
module _ (m : Member) (pre post left right : List ℕ) (i : ℕ) (e : length pre ≡ i * stride) where
  abbrev member-rest : List ℕ
  member-rest = space ∷ (decimal m.entity ++ space ∷ m.text)

  abbrev member-front : List ℕ
  member-front = bytes "enum=" ++ (m.name ++ space ∷ (decimal m.entity ++ (space ∷ [])))

  member-long : length member-front ≡ 5 + length m.name + 1 + length (decimal m.entity) + 1
  member-long =
      omega (arith, length-append m.name (space ∷ (decimal m.entity ++ (space ∷ []))), length-append (decimal m.entity) (space ∷ []))

  member_splits : member_line m ++ right ≡ member-front ++ (m.text ++ line_feed ∷ right)
  unfolding joined
  member_splits =
      ap (λ (l : List ℕ). bytes "enum=" ++ l)
      (append_snoc (m.name ++ member-rest) line_feed right
      ∙ append_assoc m.name member-rest (line_feed ∷ right)
      ∙ ap (λ (l : List ℕ). m.name ++ space ∷ l) (append_assoc (decimal m.entity) (space ∷ m.text) (line_feed ∷ right)
      ∙ sym (append_snoc (decimal m.entity) space (m.text ++ line_feed ∷ right)))
      ∙ sym (append_assoc m.name (space ∷ (decimal m.entity ++ (space ∷ []))) (m.text ++ line_feed ∷ right)))

  abbrev text-place : ℕ
  text-place = length left + 5 + length m.name + 1 + length (decimal m.entity) + 1

  member-name : part (left ++ (member_line m ++ right)) (length left + 5) (length m.name) ≡ m.name
  unfolding joined
  member-name =
      part_at left (member_line m ++ right) m.name ((member-rest ++ (line_feed ∷ [])) ++ right) 5 (front m.name member-rest (line_feed ∷ []) right)

  member-text : part (left ++ (member_line m ++ right)) text-place (length m.text) ≡ m.text
  member-text =
      let p : text-place ≡ length left + length member-front = omega (arith, member-long) in
      ap (λ (k : ℕ). part (left ++ (member_line m ++ right)) k (length m.text)) p
      ∙ part_at left (member_line m ++ right) m.text (line_feed ∷ right) (length member-front)
      (ap (drop (length member-front)) member_splits ∙ drop_at member-front (m.text ++ line_feed ∷ right) (length member-front) refl)

  member-means : record {
    name = name_at (left ++ (member_line m ++ right)) (pre ++ (member_words (length left) m ++ post)) i;
    entity = word (pre ++ (member_words (length left) m ++ post)) i 2;
    text = part (left ++ (member_line m ++ right)) (word (pre ++ (member_words (length left) m ++ post)) i 3) (word (pre ++ (member_words (length left) m ++ post)) i 4);
  } ≡ m
  member-means =
      by-words (λ a b c d e. record { name = part (left ++ (member_line m ++ right)) a b; entity = c; text = part (left ++ (member_line m ++ right)) d e })
      (length left + 5) (length m.name) m.entity text-place (length m.text) pre post i e
      ∙ ap₂ (λ (n s : List ℕ). record { name = n; entity = m.entity; text = s }) member-name member-text

  member-inside : (name_inside (left ++ (member_line m ++ right)) (pre ++ (member_words (length left) m ++ post)) i
      && inside (word (pre ++ (member_words (length left) m ++ post)) i 3) (word (pre ++ (member_words (length left) m ++ post)) i 4) (left ++ (member_line m ++ right))) ≡ true
  member-inside =
      let l : length (left ++ (member_line m ++ right)) ≡ length left + (length member-front + (length m.text + suc (length right))) =
      length-append left (member_line m ++ right)
      ∙ ap (λ (n : ℕ). length left + n) (ap length member_splits ∙ length-append member-front (m.text ++ line_feed ∷ right) ∙ ap (λ (n : ℕ). length member-front + n) (length-append m.text (line_feed ∷ right))) in
      by-words (λ a b c d e. leb (a + b) (length (left ++ (member_line m ++ right))) && leb (d + e) (length (left ++ (member_line m ++ right))))
      (length left + 5) (length m.name) m.entity text-place (length m.text) pre post i e
      ∙ both (le-leb (length left + 5 + length m.name) (length (left ++ (member_line m ++ right))) (omega (arith, l, member-long)))
      (le-leb (text-place + length m.text) (length (left ++ (member_line m ++ right))) (omega (arith, l, member-long)))

-- a sort's
module _ (pre post left right first last : List ℕ) (i : ℕ) (e : length pre ≡ i * stride) where
  abbrev sort-view : List ℕ → List ℕ → ℕ → ℕ → ℕ → ℕ → ℕ → Sort
  sort-view names fields a b c d e = sort_of c (part names a b) d (part fields d e)

  abbrev sort_test : List ℕ → List ℕ → ℕ → ℕ → ℕ → ℕ → ℕ → Bool
  sort_test names fields a b c d e =
      leb 1 c && leb c last_kind && cond (leb 9 c) (inside a b names) true && cond (eqb c last_kind) (inside d e fields) true

  entity-name : (name : List ℕ) → part (left ++ (sort_line (entity_of name) ++ right)) (length left + 12) (length name) ≡ name
  unfolding joined
  entity-name name = part_at left (sort_line (entity_of name) ++ right) name ((line_feed ∷ []) ++ right) 12 (append_assoc name (line_feed ∷ []) right)

  entity-inside : (name : List ℕ) → inside (length left + 12) (length name) (left ++ (sort_line (entity_of name) ++ right)) ≡ true
  unfolding joined
  entity-inside name =
      le-leb (length left + 12 + length name) (length (left ++ (sort_line (entity_of name) ++ right)))
      (omega (arith, length-append left (sort_line (entity_of name) ++ right), length-append (name ++ (line_feed ∷ [])) right, length-append name (line_feed ∷ [])))

  -- a record's name is followed by its rows, or by the line feed
  record_splits : (name rows : List ℕ) → (rest : List ℕ) × (sort_line (record_of name rows) ++ right ≡ bytes "sort=record " ++ (name ++ rest))
  unfolding joined
  record_splits name [] = ((line_feed ∷ []) ++ right, ap (λ (l : List ℕ). bytes "sort=record " ++ l) (append_assoc name (line_feed ∷ []) right))
  record_splits name (n ∷ ns) =
      let j = space ∷ joined (bytes " ") (decimal n ∷ map decimal ns) in
      ((j ++ (line_feed ∷ [])) ++ right, ap (λ (l : List ℕ). bytes "sort=record " ++ l) (front name j (line_feed ∷ []) right))

  record_name : (name rows : List ℕ) → part (left ++ (sort_line (record_of name rows) ++ right)) (length left + 12) (length name) ≡ name
  record_name name rows = let s = record_splits name rows in part_at left (sort_line (record_of name rows) ++ right) name s.0 12 (ap (drop 12) s.1)

  record_inside : (name rows : List ℕ) → inside (length left + 12) (length name) (left ++ (sort_line (record_of name rows) ++ right)) ≡ true
  record_inside name rows =
      let s = record_splits name rows in
      le-leb (length left + 12 + length name) (length (left ++ (sort_line (record_of name rows) ++ right)))
      (omega (arith, length-append left (sort_line (record_of name rows) ++ right), ap length s.1, length-append name s.0))

  record_fields : (rows : List ℕ) → part (first ++ (rows ++ last)) (length first) (length rows) ≡ rows
  record_fields rows = ap (take (length rows)) (drop-append_seam first (rows ++ last)) ∙ take-append_seam rows last

  fields-inside : (rows : List ℕ) → inside (length first) (length rows) (first ++ (rows ++ last)) ≡ true
  fields-inside rows =
      le-leb (length first + length rows) (length (first ++ (rows ++ last))) (omega (arith, length-append first (rows ++ last), length-append rows last))

  abbrev names : Sort → List ℕ
  names x = left ++ (sort_line x ++ right)

  abbrev lists : Sort → List ℕ
  lists x = first ++ (fields_of x ++ last)

  abbrev table : Sort → List ℕ
  table x = pre ++ (sort_words (length left) (length first) x ++ post)

  sort-means : (x : Sort) → sort-view (names x) (lists x) (word (table x) i 0) (word (table x) i 1) (word (table x) i 2) (word (table x) i 3) (word (table x) i 4) ≡ x
  sort-means bool = by-words (sort-view (names bool) (lists bool)) 0 0 1 0 0 pre post i e
  sort-means string = by-words (sort-view (names string) (lists string)) 0 0 2 0 0 pre post i e
  sort-means (ext Sort.decimal) = by-words (sort-view (names (ext Sort.decimal)) (lists (ext Sort.decimal))) 0 0 3 0 0 pre post i e
  sort-means (ext Sort.datetime) = by-words (sort-view (names (ext Sort.datetime)) (lists (ext Sort.datetime))) 0 0 4 0 0 pre post i e
  sort-means (ext Sort.duration) = by-words (sort-view (names (ext Sort.duration)) (lists (ext Sort.duration))) 0 0 5 0 0 pre post i e
  sort-means (bit_vec n) = by-words (sort-view (names (bit_vec n)) (lists (bit_vec n))) 0 0 6 n 0 pre post i e
  sort-means (option_of n) = by-words (sort-view (names (option_of n)) (lists (option_of n))) 0 0 7 n 0 pre post i e
  sort-means (set_of n) = by-words (sort-view (names (set_of n)) (lists (set_of n))) 0 0 8 n 0 pre post i e
  sort-means (entity_of name) =
      by-words (sort-view (names (entity_of name)) (lists (entity_of name))) (length left + 12) (length name) 9 0 0 pre post i e ∙ ap entity_of (entity-name name)
  sort-means (record_of name rows) =
      by-words (sort-view (names (record_of name rows)) (lists (record_of name rows))) (length left + 12) (length name) 10 (length first) (length rows) pre post i e
      ∙ ap₂ record_of (record_name name rows) (record_fields rows)

  sort-inside : (x : Sort) → sort_test (names x) (lists x) (word (table x) i 0) (word (table x) i 1) (word (table x) i 2) (word (table x) i 3) (word (table x) i 4) ≡ true
  sort-inside bool = by-words (sort_test (names bool) (lists bool)) 0 0 1 0 0 pre post i e
  sort-inside string = by-words (sort_test (names string) (lists string)) 0 0 2 0 0 pre post i e
  sort-inside (ext Sort.decimal) = by-words (sort_test (names (ext Sort.decimal)) (lists (ext Sort.decimal))) 0 0 3 0 0 pre post i e
  sort-inside (ext Sort.datetime) = by-words (sort_test (names (ext Sort.datetime)) (lists (ext Sort.datetime))) 0 0 4 0 0 pre post i e
  sort-inside (ext Sort.duration) = by-words (sort_test (names (ext Sort.duration)) (lists (ext Sort.duration))) 0 0 5 0 0 pre post i e
  sort-inside (bit_vec n) = by-words (sort_test (names (bit_vec n)) (lists (bit_vec n))) 0 0 6 n 0 pre post i e
  sort-inside (option_of n) = by-words (sort_test (names (option_of n)) (lists (option_of n))) 0 0 7 n 0 pre post i e
  sort-inside (set_of n) = by-words (sort_test (names (set_of n)) (lists (set_of n))) 0 0 8 n 0 pre post i e
  sort-inside (entity_of name) =
      by-words (sort_test (names (entity_of name)) (lists (entity_of name))) (length left + 12) (length name) 9 0 0 pre post i e
      ∙ both (entity-inside name) refl
  sort-inside (record_of name rows) =
      by-words (sort_test (names (record_of name rows)) (lists (record_of name rows))) (length left + 12) (length name) 10 (length first) (length rows) pre post i e
      ∙ both (record_inside name rows) (fields-inside rows)

always : {A : Type 0} (xs : List A) → all (λ b. b) (map (λ (x : A). true) xs) ≡ true
unfolding all
always [] = refl
always (x ∷ xs) = always xs

whole-rows : (ws : List ℕ) (n : ℕ) → length ws ≡ n * stride → whole ws ≡ true
whole-rows ws n h = eq-eqb (length ws % stride) 0 (omega (arith, h))

module _ (t : Tables) where
  abbrev S : List ℕ
  S = lines sort_line t.sorts

  abbrev W : List ℕ
  W = lines variable_line t.variables

  abbrev F : List ℕ
  F = lines function_line t.functions

  abbrev M : List ℕ
  M = lines member_line t.members

  functions-there : written t ≡ (S ++ W) ++ (F ++ M)
  unfolding written
  functions-there = sym (append_assoc S W (F ++ M))

  members-there : written t ≡ ((S ++ W) ++ F) ++ (M ++ [])
  members-there = functions-there ∙ sym (append_assoc (S ++ W) F M) ∙ ap (λ (l : List ℕ). ((S ++ W) ++ F) ++ l) (sym (append-nil M))

  functions-place : length S + length W ≡ length (S ++ W)
  functions-place = sym (length-append S W)

  members-place : length S + length W + length F ≡ length ((S ++ W) ++ F)
  members-place = omega (arith, length-append (S ++ W) F, length-append S W)

  tables-equal : {a b c d : _} → a ≡ t.sorts → b ≡ t.variables → c ≡ t.functions → d ≡ t.members → ◌≡◌ {A = Tables} (record { sorts = a; variables = b; functions = c; members = d }) t
  tables-equal p q r s = simp (p, q, r, s)

  pub laid-means : tables_of (laid t (written t)) ≡ t
  unfolding tables_of laid written
  laid-means =
      tables-equal
      (all-sorts_mean (λ names fields ws i. sort_of (word ws i 2) (name_at names ws i) (word ws i 3) (part fields (word ws i 3) (word ws i 4))) (λ x. x)
      (λ x pre post left right first last i e. sort-means pre post left right first last i e x) t.sorts (W ++ (F ++ M)) (written t) refl ∙ map-id t.sorts)
      (table_mean variable_line variable_words (λ at x. refl) (λ names ws i. record { name = name_at names ws i; sort = word ws i 2 }) (λ x. x) variable-means t.variables S (F ++ M) (written t) (length S) refl refl
      ∙ map-id t.variables)
      (table_mean function_line function_words (λ at x. refl) (λ names ws i. record { name = name_at names ws i; argument = word ws i 2; result = word ws i 3 }) (λ x. x) function-means t.functions (S ++ W) M (written t)
      (length S + length W) functions-there functions-place
      ∙ map-id t.functions)
      (table_mean member_line member_words (λ at x. refl) (λ names ws i. record { name = name_at names ws i; entity = word ws i 2; text = part names (word ws i 3) (word ws i 4) }) (λ x. x) member-means t.members
      ((S ++ W) ++ F) [] (written t) (length S + length W + length F) members-there members-place
      ∙ map-id t.members)

  pub laid-formed : formed (laid t (written t)) ≡ true
  unfolding formed laid written
  laid-formed =
      both
      (both
      (both
      (both (whole-rows (all_sort_words 0 0 t.sorts) (length t.sorts) (sorts-long 0 0 t.sorts))
      (ap (all (λ b. b)) (all-sorts_mean
      (λ names fields ws i. leb 1 (word ws i 2) && leb (word ws i 2) last_kind && cond (leb 9 (word ws i 2)) (name_inside names ws i) true && cond (eqb (word ws i 2) last_kind) (inside (word ws i 3) (word ws i 4) fields) true)
      (λ x. true) (λ x pre post left right first last i e. sort-inside pre post left right first last i e x) t.sorts (W ++ (F ++ M)) (written t) refl)
      ∙ always t.sorts))
      (both (whole-rows (table_words variable_words variable_line (length S) t.variables) (length t.variables) (table-long variable_words variable_line (λ at x. refl) (length S) t.variables))
      (ap (all (λ b. b)) (table_mean variable_line variable_words (λ at x. refl) (λ names ws i. name_inside names ws i) (λ x. true) variable-inside t.variables S (F ++ M) (written t) (length S) refl refl)
      ∙ always t.variables)))
      (both (whole-rows (table_words function_words function_line (length S + length W) t.functions) (length t.functions) (table-long function_words function_line (λ at x. refl) (length S + length W) t.functions))
      (ap (all (λ b. b)) (table_mean function_line function_words (λ at x. refl) (λ names ws i. name_inside names ws i) (λ x. true) function-inside t.functions (S ++ W) M (written t) (length S + length W) functions-there functions-place)
      ∙ always t.functions)))
      (both (whole-rows (table_words member_words member_line (length S + length W + length F) t.members) (length t.members) (table-long member_words member_line (λ at x. refl) (length S + length W + length F) t.members))
      (ap (all (λ b. b)) (table_mean member_line member_words (λ at x. refl) (λ names ws i. name_inside names ws i && inside (word ws i 3) (word ws i 4) names) (λ x. true) member-inside t.members
      ((S ++ W) ++ F) [] (written t) (length S + length W + length F) members-there members-place)
      ∙ always t.members))
