-- An application opened, by its shape; and a value in the rest of the buffer.
-- Assumes nothing.
use Rattle.std.proofs.Common.{Option, Some}
use mathlib.Core.Path.{◌≡◌, refl, sym, ap, ◌∙◌, subst}
use mathlib.Core.Bool.{true}
use mathlib.Core.List.{List, [], ◌∷◌, ◌++◌, append-nil, append_assoc}
use Prim.Native.Nat.{ℕ, ◌+◌, ◌-◌, ◌*◌, ◌^◌, ◌≤◌, ◌<◌}
use native.Mathlib.Nat.{mod-eq_of_lt}
use native.Mathlib.Omega.{arith}
use lib.ListN.{length, take, drop}
use borrow.Rule.Slice.PartMut.{put_mid}
use types.Run.{OneOf, miss}
use denote.Enum.Declared.{tag_of}
use Rattle.ground.specs.Bytes.{bytes}
use Rattle.ground.specs.Lists.{joined}
use Rattle.lent.specs.Put.{Offers}
use Rattle.words.specs.declared.digits.Radix.{Radix}
use Rattle.words.specs.Extension.{signed}
use Rattle.words.specs.Run.{parsed}
use Rattle.decimals.specs.Decimal.{decimal}
use Rattle.arena.specs.Text.{text_at}
use Rattle.arena.specs.Tree.{Tree, Trees, string as quoted, nil, cons}
use Rattle.tables.specs.Find.{named_sort}
use Rattle.tables.specs.Layout.{Lent, tables_of}
use Rattle.tables.specs.Sort.{Tables}
use Rattle.shapes.specs.declared.shape.Found.{Found}
use Rattle.shapes.specs.declared.shape.Kind.{Kind}
use Rattle.shapes.specs.Shape.{Shape, shape}
use Rattle.shapes.specs.Shows.{Standing, StandingAll, Shows, ShapeAt, ext_of, Reads as TextReads}
use Rattle.shapes.proofs.Stood.{first_of}
use Rattle.shapes.specs.contracts.shape.Found as FoundType
use Rattle.values.specs.Value.{Value, Values, v_bits, v_ext, v_none, v_some, v_entity, v_record, v_nil, v_cons}
use Rattle.values.specs.Text.{text, texts}
use Rattle.values.specs.Normal.{normal, normals}
use Rattle.values.specs.HasSort.{HasSort, Loose}
use Rattle.literals.specs.Answer.{capped}
use Rattle.means.specs.Literal.{Lit, unsigned, numbered}
use Rattle.well_sorted.proofs.Results.{refuses}
use Rattle.value_text.specs.declared.made.Made.{Made}
use Rattle.value_text.specs.Leaf.{IndexedText, EntityText}
use Rattle.value_text.specs.Made.{RowIs, MadeOf}
use Rattle.value_text.specs.declared.open.Opened.{Opened}
use Rattle.value_text.specs.Opened.{Fielded, Opens, OpensApp, OpensMade}
use Rattle.value_text.specs.Value.{Listed, l_nil, l_cons, onward, Writes, WritesValue, WritesInside}
use Rattle.value_text.proofs.Arms.{Inner, Reads, app-reads, as_none_lem, as_some_lem, some_of_lem, as_extension, as_indexed, made-name, as_entity, as_record, set-shape, set_shape, listed}
use Rattle.value_text.proofs.Fields.{onward-joined}
use Rattle.value_text.proofs.Lays.{lays_put, lays_as, lays_tail, wrote_front}

pub writes_as : (v w : Value) → v ≡ w → (a b : List ℕ) (r : ℕ) → Writes v a b r → Writes w a b r
writes_as v w e a b r f = subst (λ (x : Value). Writes x a b r) e f

-- a value without a set in it
pub writes-plain : (v : Value) → text v ≡ text (normal v) → {a b : List ℕ} {r : ℕ} → Offers a b 0 (text v) r → Writes v a b r
writes-plain v e f h = wrote_front (lays_as refl e (lays_put f)) h

module _ (sorts members names ws ts : List ℕ) where
  pub inside_past : (i allow : ℕ) (a : List ℕ) (place next : ℕ) → length a < place → WritesInside sorts members names ws ts i allow a a place next
  inside_past i allow a place next h l g t s e k m row hs r = absurd (omega arith)

  pub inside-tail : (i allow : ℕ) (a part : List ℕ) (place count next : ℕ) → place ≤ length a → length part ≡ length (take (length a - place) (drop place a)) → length a < 2 ^ 64 →
      WritesValue sorts members names ws ts i allow (take (length a - place) (drop place a)) part count → next ≡ capped (place + count) →
      WritesInside sorts members names ws ts i allow a (put_mid place (length a - place) a part) place next
  inside-tail i allow a part place count next u n small d c l g t s e k m row hs = lays_tail a part place u n small (d l g t s e k m row hs) c

-- a tree alone
alone : (t : Tree) (ws ts : List ℕ) (i : ℕ) → Standing t ws ts i → StandingAll (cons t nil) ws ts i 1
alone t ws ts i s = record {
  next = s.next;
  from = s.from;
  rest = s.rest;
  there = record { mid = s.next; off = s.rest; first = s.there; others = record { next = refl; rest = refl } };
  many-are = refl;
}

-- `some(` and the one value in it
some_fielded : (T : Tables) (ws ts : List ℕ) (below value : ℕ) (t : Tree) → Standing t ws ts value → (whole : Value) → Inner T below t v_some whole → (row : ℕ) → HasSort whole Loose T row →
    Fielded T ws ts below value 1 whole (bytes "some(")
unfolding text normal onward
some_fielded T ws ts below value t st whole n row hs =
    let hs' = subst (λ (x : Value). HasSort x Loose T row) (sym n.is) hs in
    record {
      trees = cons t nil;
      fields = v_cons n.inner.value v_nil;
      there = alone t ws ts value st;
      reads = l_cons n.expected n.inner n.was hs'.inner hs'.has l_nil;
      as_read = ap text (sym n.is) ∙ ap (λ (s : List ℕ). bytes "some(" ++ (s ++ bytes ")")) (sym (append-nil (text n.inner.value)));
      as_written = ap (λ (x : Value). text (normal x)) (sym n.is) ∙ ap (λ (s : List ℕ). bytes "some(" ++ (s ++ bytes ")")) (sym (append-nil (text (normal n.inner.value))));
    }

-- what stands before the fields of a record, and the rest behind it
record_head : (row : ℕ) (parts : List (List ℕ)) →
    bytes "r" ++ (decimal row ++ (bytes "(" ++ (joined (bytes ",") parts ++ bytes ")"))) ≡ bytes "r" ++ (decimal row ++ bytes "(") ++ (onward 0 parts ++ bytes ")")
record_head row parts =
    ap (λ (s : List ℕ). bytes "r" ++ s)
    (ap (λ (s : List ℕ). decimal row ++ (bytes "(" ++ (s ++ bytes ")"))) (sym (onward-joined parts)) ∙ sym (append_assoc (decimal row) (bytes "(") (onward 0 parts ++ bytes ")")))

record_fielded : (T : Tables) (ws ts : List ℕ) (below first many row : ℕ) (us : Trees) (vs : Values) → StandingAll us ws ts first many → Listed T below us vs →
    Fielded T ws ts below first many (v_record row vs) (bytes "r" ++ (decimal row ++ bytes "("))
unfolding text normal
record_fielded T ws ts below first many row us vs s h =
    record { trees = us; fields = vs; there = s; reads = h; as_read = record_head row (texts vs); as_written = record_head row (texts (normals vs)) }

module _ (sorts names ws ts : List ℕ) where
  -- (NAME ..), where NAME is the text there
  module _ (offset size first many : ℕ) (a b : List ℕ) (slice : List ℕ) (is : slice ≡ text_at ts offset size) (made_as : Made) (of : MadeOf sorts names slice made_as) where
    row_is : (l : Lent) → l.sorts ≡ sorts → l.names ≡ names → (f : List ℕ) → TextReads f ts offset size → (row : ℕ) → named_sort (tables_of l) f ≡ Some row → RowIs (tables_of l) row made_as
    row_is l p n f q row h = of l p n row (ap (named_sort (tables_of l)) (is ∙ q.bytes) ∙ h)

    pub made-entity : (row r : ℕ) → made_as ≡ Made.Entity row → EntityText ws ts row first a b r → OpensMade sorts names ws ts offset size first many a b (Opened.Whole r)
    unfolding text normal
    made-entity row r e d l p o f us q s below x k m own hs =
        let n = made-name (tables_of l) below x k f us m in
        let w = subst (λ (y : Made). RowIs (tables_of l) n.0 y) e (row_is l p o f q n.0 n.1) in
        let z = as_entity (tables_of l) below x k f us n.0 w.1.0 m n.1 w.1.1 in
        let st = first_of ws ts (quoted z.0) nil first many (subst (λ (y : Trees). StandingAll y ws ts first many) z.1 s) in
        writes_as (v_entity row z.0) k.value (ap (λ (y : ℕ). v_entity y z.0) w.0 ∙ z.2) a b r (writes-plain (v_entity row z.0) refl (d z.0 st))

    pub made_record : (row place : ℕ) → made_as ≡ Made.Record row → Offers a b 0 (bytes "r" ++ (decimal row ++ bytes "(")) place → OpensMade sorts names ws ts offset size first many a b (Opened.Fields first many place)
    made_record row place e d l p o f us q s below x k m own hs =
        let n = made-name (tables_of l) below x k f us m in
        let w = subst (λ (y : Made). RowIs (tables_of l) n.0 y) e (row_is l p o f q n.0 n.1) in
        let z = as_record (tables_of l) below x k f us n.0 w.1.0 w.1.1.0 m n.1 w.1.1.1 in
        let hs' = subst (λ (v : Value). HasSort v Loose (tables_of l) own) (sym z.3) hs in
        let u = listed (tables_of l) below w.1.1.0 us z.0 hs'.fields z.1 z.2 hs'.has in
        let v : v_record row z.0 ≡ k.value = ap (λ (y : ℕ). v_record y z.0) w.0 ∙ z.3 in
        (bytes "r" ++ (decimal row ++ bytes "("), d, subst (λ (y : Value). Fielded (tables_of l) ws ts below first many y (bytes "r" ++ (decimal row ++ bytes "("))) v (record_fielded (tables_of l) ws ts below first many row us z.0 s u))

    pub made_nothing : (r : Opened) → made_as ≡ Made.NoName → OpensMade sorts names ws ts offset size first many a b r
    made_nothing r e l p o f us q s below x k m own hs =
        let n = made-name (tables_of l) below x k f us m in
        absurd (subst (λ (y : Made). RowIs (tables_of l) n.0 y) e (row_is l p o f q n.0 n.1) f n.1)

  module _ (i : ℕ) (found : Found) (at : ShapeAt ws ts i found) (a b : List ℕ) where
    abbrev Arm : Opened → Found → Type 0
    Arm o f = (l : Lent) → l.sorts ≡ sorts → l.names ≡ names → (us : Trees) (below : ℕ) (e : Option ℕ) (k : Lit) →
        Shows ws ts f (shape us) → Reads (tables_of l) below e k (shape us) → (row : ℕ) → HasSort k.value Loose (tables_of l) row → Opens (tables_of l) ws ts below k.value a b o

    by_arm : (o : Opened) (f : Found) → found ≡ f → Arm o f → OpensApp sorts names ws ts i a b o
    by_arm o f e h l p n us s below x k m row hs = h l p n us below x k (subst (λ (y : Found). Shows ws ts y (shape us)) e (at.1 us s)) (app-reads (tables_of l) below x k us m) row hs

    abbrev At : (l : Lent) → ℕ → Option ℕ → Lit → Shape → Type 0
    At l below e k s = Reads (tables_of l) below e k s

    -- what is no literal
    pub app-other : (o : Opened) → OneOf (0 ∷ 10 ∷ 11 ∷ 12 ∷ 13 ∷ []) (tag_of FoundType.the_type found) → OpensApp sorts names ws ts i a b o
    app-other o h = by_arm o found refl (λ l p n us below x k w q row hs. go l below x k found h (shape us) w q)
      where
        go : {R : Type 0} (l : Lent) (below : ℕ) (x : Option ℕ) (k : Lit) (f : Found) → OneOf (0 ∷ 10 ∷ 11 ∷ 12 ∷ 13 ∷ []) (tag_of FoundType.the_type f) → (s : Shape) → Shows ws ts f s → At l below x k s → R
        go l below x k Found.Uncovered h s w q = refuses (subst (At l below x k) w q)
        go l below x k (Found.AsNone sort) h s w q = absurd (miss (0 ∷ 10 ∷ 11 ∷ 12 ∷ 13 ∷ []) 1 tt h)
        go l below x k (Found.AsSome sort value) h s w q = absurd (miss (0 ∷ 10 ∷ 11 ∷ 12 ∷ 13 ∷ []) 2 tt h)
        go l below x k (Found.SomeOf value) h s w q = absurd (miss (0 ∷ 10 ∷ 11 ∷ 12 ∷ 13 ∷ []) 3 tt h)
        go l below x k (Found.AsEmpty sort) h s w q = absurd (miss (0 ∷ 10 ∷ 11 ∷ 12 ∷ 13 ∷ []) 4 tt h)
        go l below x k (Found.Singleton value) h s w q = absurd (miss (0 ∷ 10 ∷ 11 ∷ 12 ∷ 13 ∷ []) 5 tt h)
        go l below x k (Found.Union left right) h s w q = absurd (miss (0 ∷ 10 ∷ 11 ∷ 12 ∷ 13 ∷ []) 6 tt h)
        go l below x k (Found.Extension kind low) h s w q = absurd (miss (0 ∷ 10 ∷ 11 ∷ 12 ∷ 13 ∷ []) 7 tt h)
        go l below x k (Found.Indexed offset size low high) h s w q = absurd (miss (0 ∷ 10 ∷ 11 ∷ 12 ∷ 13 ∷ []) 8 tt h)
        go l below x k (Found.Made offset size first many) h s w q = absurd (miss (0 ∷ 10 ∷ 11 ∷ 12 ∷ 13 ∷ []) 9 tt h)
        go l below x k Found.Other h s w q = refuses (subst (At l below x k) w q)
        go l below x k (Found.Unary op value) h s w q = refuses (subst (At l below x k) w.1 q)
        go l below x k (Found.Binary op left right) h s w q = refuses (subst (At l below x k) w.2 q)
        go l below x k (Found.Ite condition left right) h s w q = refuses (subst (At l below x k) w.3 q)

    pub app-none : (sort r : ℕ) → found ≡ Found.AsNone sort → Offers a b 0 (bytes "none") r → OpensApp sorts names ws ts i a b (Opened.Whole r)
    unfolding text normal
    app-none sort r e f = by_arm (Opened.Whole r) (Found.AsNone sort) e (λ l p n us below x k w q row hs.
        writes_as v_none k.value (as_none_lem (tables_of l) below x k w.0 (subst (At l below x k) w.1 q)) a b r (writes-plain v_none refl f))

    pub app_as_some : (sort value place : ℕ) → found ≡ Found.AsSome sort value → Offers a b 0 (bytes "some(") place → OpensApp sorts names ws ts i a b (Opened.Fields value 1 place)
    app_as_some sort value place e d = by_arm (Opened.Fields value 1 place) (Found.AsSome sort value) e (λ l p n us below x k w q row hs.
        (bytes "some(", d, some_fielded (tables_of l) ws ts below value w.1 w.4 k.value (as_some_lem (tables_of l) below x k w.0 w.1 (subst (At l below x k) w.2 q)) row hs))

    pub app-some : (value place : ℕ) → found ≡ Found.SomeOf value → Offers a b 0 (bytes "some(") place → OpensApp sorts names ws ts i a b (Opened.Fields value 1 place)
    app-some value place e d = by_arm (Opened.Fields value 1 place) (Found.SomeOf value) e (λ l p n us below x k w q row hs.
        (bytes "some(", d, some_fielded (tables_of l) ws ts below value w.0 w.2 k.value (some_of_lem (tables_of l) below x k w.0 (subst (At l below x k) w.1 q)) row hs))

    shown-set : (f : Found) → OneOf (4 ∷ 5 ∷ 6 ∷ []) (tag_of FoundType.the_type f) → (s : Shape) → Shows ws ts f s → (T : Tables) (below : ℕ) (e : Option ℕ) (k : Lit) → set_shape T below e k s ≡ true
    shown-set Found.Uncovered h s w T below e k = absurd (miss (4 ∷ 5 ∷ 6 ∷ []) 0 tt h)
    shown-set (Found.AsNone sort) h s w T below e k = absurd (miss (4 ∷ 5 ∷ 6 ∷ []) 1 tt h)
    shown-set (Found.AsSome sort value) h s w T below e k = absurd (miss (4 ∷ 5 ∷ 6 ∷ []) 2 tt h)
    shown-set (Found.SomeOf value) h s w T below e k = absurd (miss (4 ∷ 5 ∷ 6 ∷ []) 3 tt h)
    shown-set (Found.AsEmpty sort) h s w T below e k = ap (set_shape T below e k) w.1
    shown-set (Found.Singleton value) h s w T below e k = ap (set_shape T below e k) w.1
    shown-set (Found.Union left right) h s w T below e k = ap (set_shape T below e k) w.2
    shown-set (Found.Extension kind low) h s w T below e k = absurd (miss (4 ∷ 5 ∷ 6 ∷ []) 7 tt h)
    shown-set (Found.Indexed offset size low high) h s w T below e k = absurd (miss (4 ∷ 5 ∷ 6 ∷ []) 8 tt h)
    shown-set (Found.Made offset size first many) h s w T below e k = absurd (miss (4 ∷ 5 ∷ 6 ∷ []) 9 tt h)
    shown-set Found.Other h s w T below e k = absurd (miss (4 ∷ 5 ∷ 6 ∷ []) 10 tt h)
    shown-set (Found.Unary op value) h s w T below e k = absurd (miss (4 ∷ 5 ∷ 6 ∷ []) 11 tt h)
    shown-set (Found.Binary op left right) h s w T below e k = absurd (miss (4 ∷ 5 ∷ 6 ∷ []) 12 tt h)
    shown-set (Found.Ite condition left right) h s w T below e k = absurd (miss (4 ∷ 5 ∷ 6 ∷ []) 13 tt h)

    pub app-set : (place : ℕ) → OneOf (4 ∷ 5 ∷ 6 ∷ []) (tag_of FoundType.the_type found) → Offers a b 0 (bytes "{") place → OpensApp sorts names ws ts i a b (Opened.Set place)
    app-set place h f = by_arm (Opened.Set place) found refl (λ l p n us below x k w q row hs.
        let z = set-shape (tables_of l) below x k (shape us) q (shown-set found h (shape us) w (tables_of l) below x k) in
        (f, (z.0, sym z.1)))

    pub app-extension : (kind : Kind) (low r : ℕ) → found ≡ Found.Extension kind low → Offers a b 0 (text (v_ext (ext_of kind) (signed 64 low))) r → OpensApp sorts names ws ts i a b (Opened.Whole r)
    unfolding normal
    app-extension kind low r e f = by_arm (Opened.Whole r) (Found.Extension kind low) e (λ l p n us below x k w q row hs.
        let v = as_extension (tables_of l) below x k (ext_of kind) w.0 (subst (At l below x k) w.1 q) in
        writes_as (v_ext (ext_of kind) (signed 64 low)) k.value (ap (λ (n : ℕ). v_ext (ext_of kind) (signed 64 n)) w.2 ∙ v) a b r (writes-plain (v_ext (ext_of kind) (signed 64 low)) refl f))

    pub app-indexed : (offset size low high r : ℕ) → found ≡ Found.Indexed offset size low high → IndexedText (text_at ts offset size) low a b r → OpensApp sorts names ws ts i a b (Opened.Whole r)
    unfolding normal
    app-indexed offset size low high r e f = by_arm (Opened.Whole r) (Found.Indexed offset size low high) e (λ l p n' us below x k w q row hs.
        let n = as_indexed (tables_of l) below x k w.0 (low + high * 2 ^ 64) (subst (At l below x k) w.1 q) in
        let z : low + high * 2 ^ 64 ≡ low = narrow low high n.small in
        let v : v_bits low n.number ≡ k.value = ap (λ (y : ℕ). v_bits y n.number) (sym z) ∙ n.is in
        let hs' = subst (λ (y : Value). HasSort y Loose (tables_of l) row) (sym v) hs in
        let p = f n.number (ap (λ (y : List ℕ). numbered (parsed Radix.Decimal (unsigned y))) w.2.bytes ∙ n.was) in
        let o = subst (λ (y : ℕ). Offers a b 0 (text (v_bits low y)) r) (mod-eq_of_lt hs'.1) p in
        writes_as (v_bits low n.number) k.value v a b r (writes-plain (v_bits low n.number) refl o))
      where
        narrow : (low high : ℕ) → low + high * 2 ^ 64 < 2 ^ 32 → low + high * 2 ^ 64 ≡ low
        narrow low high h = omega arith

    pub app-made : (o : Opened) (offset size first many : ℕ) → found ≡ Found.Made offset size first many → OpensMade sorts names ws ts offset size first many a b o → OpensApp sorts names ws ts i a b o
    app-made o offset size first many e d = by_arm o (Found.Made offset size first many) e (λ l p n us below x k w q row hs.
        d l p n w.0 w.1 w.3 w.4 below x k (subst (At l below x k) w.2 q) row hs)
