-- How long the text of a literal can be: 131,200 bytes a node, which holds a member's longest text, and two for each byte of the tree's.
-- Assumes nothing.
use Rattle.std.proofs.Common.{Option, Some, Ok}
use mathlib.Core.Path.{◌≡◌, subst}
use mathlib.Core.Bool.{Bool, true, false}
use mathlib.Core.List.{List}
use Prim.Native.Nat.{ℕ, zero, suc, ◌+◌, ◌*◌, ◌%◌, ◌^◌, ◌≤◌, ◌<◌}
use native.Mathlib.Nat.{mul-add}
use native.Mathlib.Omega.{arith}
use lib.IntN.{ℤ}
use lib.ListN.{length, length-append}
use Rattle.ground.specs.Bytes.{bytes}
use Rattle.words.specs.Extension.{signed}
use Rattle.decimals.proofs.Counts.{count_most}
use Rattle.arena.specs.Tree.{Tree, Trees, symbol, string as quoted, app, nil, cons, nodes, nodes_of, text as tree_text, texts as tree_texts, most_nodes, most_text}
use Rattle.tables.specs.Sort.{Ext, Tables}
use Rattle.tables.specs.Rules.{lawful}
use Rattle.tables.proofs.Lawful.{Lawful, lawful-parts}
use Rattle.values.specs.Value.{Value, Values, v_bool, v_ext, v_bits, v_set, v_entity, v_nil, v_cons, union}
use Rattle.values.specs.Text.{text}
use Rattle.values.proofs.Lengths.{signed-most, size, size-union, length_true, length_false, length-string, length-ext, length-bits, length_none, length_some, length-set, length-entity, length_record}
use Rattle.means.specs.Literal.{Lit, read_with}
use Rattle.well_sorted.proofs.Results.{refuses}
use Rattle.well_sorted.proofs.Views.{call2}
use Rattle.well_sorted.proofs.Readings.{FieldReadings, f_nil, f_cons, Reading, r-bits, r-string, r_true, r_false, r-member, r-none, r-as_some, r_some, r-empty, r-singleton, r-union, r-unary, r-binary, r-ite, r-extension, r-indexed, r-entity, r_record, reading}
use Rattle.well_sorted.proofs.Members.{member-kept}
use Rattle.well_sorted.proofs.Fits.{width-most}

-- so many bytes a node, and two for each byte of the text
abbrev pub room_by : ℕ → Tree → ℕ
room_by each t = each * nodes t + 2 * length (tree_text t)

abbrev pub rooms_by : ℕ → Trees → ℕ
rooms_by each us = each * nodes_of us + 2 * length (tree_texts us)

-- trees have the room of each
pub rooms-cons : (each : ℕ) (u : Tree) (us : Trees) → rooms_by each (cons u us) ≡ room_by each u + rooms_by each us
rooms-cons each u us = omega (arith, length-append (tree_text u) (tree_texts us), mul-add each (nodes u) (nodes_of us))

abbrev room : Tree → ℕ
room t = room_by 131200 t

abbrev rooms : Trees → ℕ
rooms us = rooms_by 131200 us

-- an application has the room of its parts, and a node's more
room-second : (h v : Tree) → 131200 + room v ≤ room (app (cons h (cons v nil)))
room-second h v = let p = rooms-cons 131200 h (cons v nil) in let q = rooms-cons 131200 v nil in omega arith

room-third : (h v w : Tree) → 131200 + room v + room w ≤ room (app (cons h (cons v (cons w nil))))
room-third h v w = let p = rooms-cons 131200 h (cons v (cons w nil)) in let q = rooms-cons 131200 v (cons w nil) in let r = rooms-cons 131200 w nil in omega arith

room-fourth : (h u v w : Tree) → 131200 + room v + room w ≤ room (app (cons h (cons u (cons v (cons w nil)))))
room-fourth h u v w = let p = rooms-cons 131200 h (cons u (cons v (cons w nil))) in let q = rooms-cons 131200 u (cons v (cons w nil)) in let r = rooms-cons 131200 v (cons w nil) in let s = rooms-cons 131200 w nil in omega arith

room-node : (t : Tree) → 131200 ≤ room t
room-node (Tree.bit_vec w n) = omega arith
room-node (Tree.numeral n) = omega arith
room-node (Tree.string s) = omega arith
room-node (Tree.symbol s) = omega arith
room-node (Tree.app us) = omega arith

bool-short : (b : Bool) (t : Tree) → length (text (v_bool b)) < room t
bool-short true t = omega (arith, length_true, room-node t)
bool-short false t = omega (arith, length_false, room-node t)

bits-short : (w n : ℕ) → w ≤ 128 → length (text (v_bits w n)) < 131200
bits-short w n h = let k = count_most w in let e = length-bits w n in omega arith

entity-short : (row : ℕ) (s : List ℕ) → length (text (v_entity row s)) ≤ 2 * length s + 42
entity-short row s = let k = count_most row in let e = length-entity row s in omega arith

ext-short : (x : Ext) (z : ℤ) → length (text (v_ext x z)) < 131200
ext-short x z = let k = signed-most z in let e = length-ext x z in omega arith

union-short : (vs ws : Values) → length (text (v_set (union vs ws))) ≤ length (text (v_set vs)) + length (text (v_set ws))
union-short vs ws =
    let e = length-set (union vs ws) in
    let s = size-union vs ws in
    let p = length-set vs in
    let q = length-set ws in
    omega arith

module _ (T : Tables) (rules : Lawful T) where
  module _ (o : Bool) (a : ℕ) (below : (e : Option ℕ) (t : Tree) (l : Lit) → read_with T o a e t ≡ Ok l → length (text l.value) < room t) where
    fields-short : (fs : List ℕ) (us : Trees) (vs : Values) → FieldReadings o T a fs us vs → size vs ≤ rooms us
    fields-short _ _ _ f_nil = omega arith
    fields-short _ _ _ (f_cons {f = f} {fs = fs} {u = u} {us = us} {vs = vs} l e k h) =
        let p = below (Some f) u l e in
        let q = fields-short fs us vs h in
        let r = rooms-cons 131200 u us in
        omega arith

    reading-short : (e : Option ℕ) (t : Tree) (row : ℕ) (v : Value) → Reading o T a e t row v → length (text v) < room t
    reading-short e t _ _ (r-bits {w = w} {n = n} {row = row} k) = let h = bits-short w (n % 2 ^ w) (width-most T rules row w k) in omega (arith, h)
    reading-short e t _ _ (r-string {s = s} k) = let h = length-string s in omega arith
    reading-short e t _ _ (r_true k) = bool-short true t
    reading-short e t _ _ (r_false k) = bool-short false t
    reading-short e t _ _ (r-member i m h k) =
        let g = (member-kept T m rules i k).short in
        omega (arith, g, entity-short m.entity m.text, room-node t)
    reading-short e t _ _ (r-none q h k) = omega (arith, length_none, room-node t)
    reading-short e t _ _ (r-as_some {t = u} {v = v} l h k m) =
        omega (arith, length_some l.value, below (Some l.row) v l m, room-second (app (call2 (bytes "as") (symbol (bytes "some")) u)) v)
    reading-short e t _ _ (r_some {v = v} x l h m k) = omega (arith, length_some l.value, below x v l m, room-second (symbol (bytes "some")) v)
    reading-short e t _ _ (r-empty q h k) = omega (arith, length-set v_nil, room-node t)
    reading-short e t _ _ (r-singleton {v = v} x l h m k) = omega (arith, length-set (v_cons l.value v_nil), below x v l m, room-second (symbol (bytes "set.singleton")) v)
    reading-short e t _ _ (r-union {v = v} {w = w} {vs = vs} {ws = ws} l m f g h x y) =
        let left = subst (λ (u : Value). length (text u) < room v) x (below e v l f) in
        let right = subst (λ (u : Value). length (text u) < room w) y (below e w m g) in
        omega (arith, union-short vs ws, left, right, room-third (symbol (bytes "set.union")) v w)
    reading-short e t _ _ (r-unary {b = b} op l h m f k) = bool-short b t
    reading-short e t _ _ (r-binary {b = b} op l m h x y f k) = bool-short b t
    reading-short e t _ _ (r-ite {c = c} {v = v} {w = w} {b = true} k l m h f g x y q) = omega (arith, below e v l g, room-fourth (symbol (bytes "ite")) c v w)
    reading-short e t _ _ (r-ite {c = c} {v = v} {w = w} {b = false} k l m h f g x y q) = omega (arith, below e w m x, room-fourth (symbol (bytes "ite")) c v w)
    reading-short e t _ _ (r-extension {x = x} {n = n} k) = omega (arith, ext-short x (signed 64 (n % 2 ^ 64)), room-node t)
    reading-short e t _ _ (r-indexed {w = w} {n = n} {row = row} h f k) = omega (arith, bits-short w n (width-most T rules row w k), room-node t)
    reading-short e t _ _ (r-entity {f = f} {s = s} {row = row} h k) = omega (arith, entity-short row s, room-second (symbol f) (quoted s))
    reading-short e t _ _ (r_record {f = f} {us = us} {row = row} {vs = vs} fs h k g) =
        omega (arith, length_record row vs, count_most row, fields-short fs us vs g, rooms-cons 131200 (symbol f) us)

  short : (o : Bool) (allow : ℕ) (expected : Option ℕ) (t : Tree) (l : Lit) → read_with T o allow expected t ≡ Ok l → length (text l.value) < room t
  unfolding read_with
  short o zero e t l m = refuses m
  short o (suc a) e t l m = reading-short o a (λ x u k n. short o a x u k n) e t l.row l.value (reading T o a e t l m)

module _ (T : Tables) (o : Bool) (rules : lawful T ≡ true) (allow : ℕ) (expected : Option ℕ) (t : Tree) (l : Lit) where
  pub read_short : read_with T o allow expected t ≡ Ok l → length (text l.value) < 131200 * nodes t + 2 * length (tree_text t)
  read_short m = short T (lawful-parts T rules) o allow expected t l m

  -- of a tree that an arena holds
  pub read_small : nodes t ≤ most_nodes → length (tree_text t) ≤ most_text → read_with T o allow expected t ≡ Ok l → length (text l.value) < 2 ^ 60
  read_small h k m = let s = read_short m in omega arith
