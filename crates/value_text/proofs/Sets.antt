-- The members of a set, each ended, and the set that is made of them.
-- Assumes nothing.
use Rattle.std.proofs.Common.{Option, Ok}
use mathlib.Core.Path.{◌≡◌, refl, sym, ap, ◌∙◌, subst}
use mathlib.Core.Bool.{Bool, true, false, true≢false}
use mathlib.Core.List.{List, [], ◌∷◌, ◌++◌}
use Prim.Native.Nat.{ℕ, zero, suc, ◌+◌, ◌-◌, ◌^◌, ◌≤◌, ◌<◌}
use native.Mathlib.Omega.{arith}
use lib.ListN.{length, take, drop}
use borrow.Rule.Slice.PartMut.{put_mid}
use types.Run.{OneOf, miss}
use denote.Enum.Declared.{tag_of}
use Rattle.ground.specs.Bytes.{bytes}
use Rattle.ground.specs.Lists.{joined}
use Rattle.lent.specs.Put.{Offers}
use Rattle.order.specs.Order.{arranged}
use Rattle.runs.specs.Run.{key, run}
use Rattle.runs.proofs.Runs.{run-append, run_long, arranged-long}
use Rattle.arena.specs.Tree.{Tree, Trees}
use Rattle.tables.specs.Layout.{Lent, tables_of}
use Rattle.tables.specs.Sort.{Tables}
use Rattle.shapes.specs.declared.shape.Found.{Found}
use Rattle.shapes.specs.contracts.shape.Found as FoundType
use Rattle.shapes.specs.Shape.{Shape, shape}
use Rattle.shapes.specs.Shows.{Standing, Shows, ShapeAt}
use Rattle.values.specs.Value.{Value, Values, v_set, v_nil, v_cons, union as both}
use Rattle.values.specs.Text.{text, texts}
use Rattle.values.specs.Normal.{normal, normals, arranged_values}
use Rattle.values.specs.HasSort.{HaveSort, Ascending, Loose}
use Rattle.values.proofs.Lengths.{size, length-set}
use Rattle.values.proofs.Members.{members_plain, members-arranged}
use Rattle.values.proofs.Normals.{normals-fit}
use Rattle.values.proofs.Unions.{texts-union}
use Rattle.literals.specs.Answer.{capped}
use Rattle.means.specs.Literal.{Lit, read, read_with}
use Rattle.well_sorted.proofs.Results.{refuses}
use Rattle.value_text.specs.Closed.{closed, Closes}
use Rattle.value_text.specs.Laid.{Laid, Lays}
use Rattle.value_text.specs.Wrote.{Wrote}
use Rattle.value_text.specs.Opened.{ClosesSet}
use Rattle.value_text.specs.Value.{Given, WritesInside, WritesMembers}
use Rattle.value_text.proofs.Arms.{no-set, same_set, Reads, app-reads, as_empty_lem, as_singleton, as_union, set_shape, other-shape, set-app}
use Rattle.value_text.proofs.Closes.{length-closed}
use Rattle.value_text.proofs.Lays.{lays_then, lays_put, lays_none, lays_as, laid-part, lays_part, wrote_front}

abbrev set_found : Found → Bool
set_found Found.Uncovered = false
set_found (Found.AsNone sort) = false
set_found (Found.AsSome sort value) = false
set_found (Found.SomeOf value) = false
set_found (Found.AsEmpty sort) = true
set_found (Found.Singleton value) = true
set_found (Found.Union left right) = true
set_found (Found.Extension kind low) = false
set_found (Found.Indexed offset size low high) = false
set_found (Found.Made offset size first many) = false
set_found Found.Other = false
set_found (Found.Unary op value) = false
set_found (Found.Binary op left right) = false
set_found (Found.Ite condition left right) = false

-- the run of both is the runs one after the other
normals-both : (vs ws : Values) → normals (both vs ws) ≡ both (normals vs) (normals ws)
unfolding normal
normals-both v_nil ws = refl
normals-both (v_cons v vs) ws = ap (λ (l : Values). v_cons (normal v) l) (normals-both vs ws)

run-both : (vs ws : Values) → run (texts (both vs ws)) ≡ run (texts vs) ++ run (texts ws)
run-both vs ws = ap run (texts-union vs ws) ∙ run-append (texts vs) (texts ws)

run-normals : (vs ws : Values) → run (texts (normals (both vs ws))) ≡ run (texts (normals vs)) ++ run (texts (normals ws))
run-normals vs ws = ap (λ (l : Values). run (texts l)) (normals-both vs ws) ∙ run-both (normals vs) (normals ws)

left-sorts : (T : Tables) (r : ℕ) (vs ws : Values) → HaveSort (both vs ws) Loose T r → HaveSort vs Loose T r
left-sorts T r v_nil ws h = tt
left-sorts T r (v_cons v vs) ws h = (h.0, left-sorts T r vs ws h.1)

right-sorts : (T : Tables) (r : ℕ) (vs ws : Values) → HaveSort (both vs ws) Loose T r → HaveSort ws Loose T r
right-sorts T r v_nil ws h = h
right-sorts T r (v_cons v vs) ws h = right-sorts T r vs ws h.1

pub up : (n : ℕ) → (n ≡ 0 → ⊥) → n ≡ suc (n - 1)
up zero h = absurd (h refl)
up (suc n) h = omega arith

module _ (sorts members names ws ts : List ℕ) (i : ℕ) (found : Found) (at : ShapeAt ws ts i found) where
  shown-other : (s : Shape) → Shows ws ts found s → set_found found ≡ false → (T : Tables) (a : ℕ) (e : Option ℕ) (k : Lit) → set_shape T a e k s ≡ false
  shown-other s w h T a e k = go found s w h
    where
      go : (f : Found) (s : Shape) → Shows ws ts f s → set_found f ≡ false → set_shape T a e k s ≡ false
      go Found.Uncovered s w h = ap (set_shape T a e k) w
      go (Found.AsNone sort) s w h = ap (set_shape T a e k) w.1
      go (Found.AsSome sort value) s w h = ap (set_shape T a e k) w.2
      go (Found.SomeOf value) s w h = ap (set_shape T a e k) w.1
      go (Found.AsEmpty sort) s w h = absurd (true≢false h)
      go (Found.Singleton value) s w h = absurd (true≢false h)
      go (Found.Union left right) s w h = absurd (true≢false h)
      go (Found.Extension kind low) s w h = ap (set_shape T a e k) w.1
      go (Found.Indexed offset size low high) s w h = ap (set_shape T a e k) w.1
      go (Found.Made offset size first many) s w h = ap (set_shape T a e k) w.2
      go Found.Other s w h = ap (set_shape T a e k) w
      go (Found.Unary op value) s w h = ap (set_shape T a e k) w.1
      go (Found.Binary op left right) s w h = ap (set_shape T a e k) w.2
      go (Found.Ite condition left right) s w h = ap (set_shape T a e k) w.3

  -- an application's shape and what was read, of a tree that is read as a set
  module _ (below : ℕ) (a b : List ℕ) (place r : ℕ) where
    abbrev Arm : Type 0
    Arm = (l : Lent) → Given sorts members names l → (us : Trees) (e : Option ℕ) (k : Lit) → Shows ws ts found (shape us) → Reads (tables_of l) below e k (shape us) →
        (vs : Values) → k.value ≡ v_set vs → (row : ℕ) → HaveSort vs Loose (tables_of l) row → Lays (run (texts vs)) (run (texts (normals vs))) a b place r

    by_arm : Arm → WritesMembers sorts members names ws ts i below a b place r
    by_arm f l g t s e k m vs h row hs =
        let u = set-app (tables_of l) below e k t vs m h in
        let s' = subst (λ (x : Tree). Standing x ws ts i) u.1 s in
        let m' = subst (λ (x : Tree). read (tables_of l) (suc below) e x ≡ Ok k) u.1 m in
        f l g u.0 e k (at.1 u.0 s') (app-reads (tables_of l) below e k u.0 m') vs h row hs

  members-other : (below : ℕ) (a : List ℕ) (place : ℕ) → set_found found ≡ false → WritesMembers sorts members names ws ts i below a a place place
  members-other below a place h = by_arm below a a place place (λ l g us e k w m vs q row hs.
      no-set k.value vs (other-shape (tables_of l) below e k (shape us) m (shown-other (shape us) w h (tables_of l) below e k)) q)

  members-empty : (below : ℕ) (a : List ℕ) (place sort : ℕ) → found ≡ Found.AsEmpty sort → WritesMembers sorts members names ws ts i below a a place place
  unfolding run text normal
  members-empty below a place sort f = by_arm below a a place place (λ l g us e k w m vs q row hs.
      let x = subst (λ (y : Found). Shows ws ts y (shape us)) f w in
      let z : v_nil ≡ vs = same_set v_nil vs (as_empty_lem (tables_of l) below e k x.0 (subst (λ (y : Shape). Reads (tables_of l) below e k y) x.1 m) ∙ q) in
      subst (λ (us : Values). Lays (run (texts us)) (run (texts (normals us))) a a place place) z (lays_none a place))

  -- a set without members, and what is no set
  pub members_else : (below : ℕ) (a : List ℕ) (place : ℕ) → OneOf (0 ∷ 1 ∷ 2 ∷ 3 ∷ 4 ∷ 7 ∷ 8 ∷ 9 ∷ 10 ∷ 11 ∷ 12 ∷ 13 ∷ []) (tag_of FoundType.the_type found) → WritesMembers sorts members names ws ts i below a a place place
  members_else below a place h = go found refl h
    where
      go : (f : Found) → found ≡ f → OneOf (0 ∷ 1 ∷ 2 ∷ 3 ∷ 4 ∷ 7 ∷ 8 ∷ 9 ∷ 10 ∷ 11 ∷ 12 ∷ 13 ∷ []) (tag_of FoundType.the_type f) → WritesMembers sorts members names ws ts i below a a place place
      go Found.Uncovered e h = members-other below a place (ap set_found e)
      go (Found.AsNone sort) e h = members-other below a place (ap set_found e)
      go (Found.AsSome sort value) e h = members-other below a place (ap set_found e)
      go (Found.SomeOf value) e h = members-other below a place (ap set_found e)
      go (Found.AsEmpty sort) e h = members-empty below a place sort e
      go (Found.Singleton value) e h = absurd (miss (0 ∷ 1 ∷ 2 ∷ 3 ∷ 4 ∷ 7 ∷ 8 ∷ 9 ∷ 10 ∷ 11 ∷ 12 ∷ 13 ∷ []) 5 tt h)
      go (Found.Union left right) e h = absurd (miss (0 ∷ 1 ∷ 2 ∷ 3 ∷ 4 ∷ 7 ∷ 8 ∷ 9 ∷ 10 ∷ 11 ∷ 12 ∷ 13 ∷ []) 6 tt h)
      go (Found.Extension kind low) e h = members-other below a place (ap set_found e)
      go (Found.Indexed offset size low high) e h = members-other below a place (ap set_found e)
      go (Found.Made offset size first many) e h = members-other below a place (ap set_found e)
      go Found.Other e h = members-other below a place (ap set_found e)
      go (Found.Unary op value) e h = members-other below a place (ap set_found e)
      go (Found.Binary op left right) e h = members-other below a place (ap set_found e)
      go (Found.Ite condition left right) e h = members-other below a place (ap set_found e)

  pub members-one : (below : ℕ) (a b c : List ℕ) (place one r value : ℕ) → found ≡ Found.Singleton value → WritesInside sorts members names ws ts value below a b place one → Offers b c one (0 ∷ []) r →
      WritesMembers sorts members names ws ts i below a c place r
  unfolding run text normal
  members-one below a b c place one r value f d o = by_arm below a c place r (λ l g us e k w m vs q row hs.
      let x = subst (λ (y : Found). Shows ws ts y (shape us)) f w in
      let n = as_singleton (tables_of l) below e k x.0 (subst (λ (y : Shape). Reads (tables_of l) below e k y) x.1 m) in
      let z : v_cons n.inner.value v_nil ≡ vs = same_set (v_cons n.inner.value v_nil) vs (n.is ∙ q) in
      let hs' = subst (λ (us : Values). HaveSort us Loose (tables_of l) row) (sym z) hs in
      subst (λ (us : Values). Lays (run (texts us)) (run (texts (normals us))) a c place r) z
      (lays_then (d l g x.0 x.2 n.expected n.inner n.was row hs'.0) (lays_put o)))

  module _ (below : ℕ) (left right : ℕ) (f : found ≡ Found.Union left right) where
    pub members_nested : (a : List ℕ) (place : ℕ) → below ≡ 0 → WritesMembers sorts members names ws ts i below a a place place
    unfolding read_with
    members_nested a place z = by_arm below a a place place (λ l g us e k w m vs q row hs.
        let x = subst (λ (y : Found). Shows ws ts y (shape us)) f w in
        let n = as_union (tables_of l) below e k x.0 x.1 (subst (λ (y : Shape). Reads (tables_of l) below e k y) x.2 m) in
        refuses (subst (λ (j : ℕ). read (tables_of l) j n.expected x.0 ≡ Ok n.left) z n.left-was))

    pub members-two : (a b c : List ℕ) (place one r : ℕ) → (below ≡ 0 → ⊥) → WritesMembers sorts members names ws ts left (below - 1) a b place one → WritesMembers sorts members names ws ts right (below - 1) b c one r →
        WritesMembers sorts members names ws ts i below a c place r
    members-two a b c place one r z d₁ d₂ = by_arm below a c place r (λ l g us e k w m vs q row hs.
        let x = subst (λ (y : Found). Shows ws ts y (shape us)) f w in
        let n = as_union (tables_of l) below e k x.0 x.1 (subst (λ (y : Shape). Reads (tables_of l) below e k y) x.2 m) in
        let y : both n.vs n.ws ≡ vs = same_set (both n.vs n.ws) vs (n.is ∙ q) in
        let hs' = subst (λ (us : Values). HaveSort us Loose (tables_of l) row) (sym y) hs in
        let p₁ = d₁ l g x.0 x.3 n.expected n.left (subst (λ (j : ℕ). read (tables_of l) j n.expected x.0 ≡ Ok n.left) (up below z) n.left-was) n.vs n.left_is row (left-sorts (tables_of l) row n.vs n.ws hs') in
        let p₂ = d₂ l g x.1 x.4 n.expected n.right (subst (λ (j : ℕ). read (tables_of l) j n.expected x.1 ≡ Ok n.right) (up below z) n.right-was) n.ws n.right_is row (right-sorts (tables_of l) row n.vs n.ws hs') in
        subst (λ (us : Values). Lays (run (texts us)) (run (texts (normals us))) a c place r) y
        (lays_as (sym (run-both n.vs n.ws)) (sym (run-normals n.vs n.ws)) (lays_then p₁ p₂)))

-- the members take as much as their texts with what follows each
length_run : (vs : Values) → length (run (texts vs)) ≡ size vs
unfolding run text
length_run v_nil = refl
length_run (v_cons v vs) = let h = length_run vs in omega (arith, run_long (text v) (texts vs))

-- nothing laid is laid in its place
nothing-laid : {b c : List ℕ} {one two : ℕ} → Lays [] [] b c one two → Lays [] [] b c one one
nothing-laid {b} {c} {one} {two} f h =
    let p = f h in
    let e : two ≡ one = omega (arith, p.after) in
    subst (λ (n : ℕ). Laid [] [] b c one n) e p

-- there is room for the members where there is room for the set
set_room : (vs : Values) → 1 + length (run (texts vs)) ≤ length (text (v_set vs))
set_room vs = omega (arith, length_run vs, length-set vs)

-- a run that takes no more than another one does not when it is closed
closed-most : (rs : List (List ℕ)) (n : ℕ) → length (run rs) ≤ n → 0 < n → length (closed rs) ≤ n
unfolding joined
closed-most [] n h k = omega arith
closed-most (r ∷ rs) n h k = omega (arith, length-closed r rs)

module _ (a b c : List ℕ) (one two : ℕ) (first : Offers a b 0 (bytes "{") one) where
  -- what the members' writer laid, where there is room for the set
  record Inside (vs : Values) : Type 0 where
    begins : one ≡ 1
    long : length b ≡ length a
    room : one + length (run (texts vs)) ≤ length b
    laid : Laid (run (texts vs)) (run (texts (normals vs))) b c one two

  inside : (vs : Values) → length (text (v_set vs)) ≤ length a → Lays (run (texts vs)) (run (texts (normals vs))) b c one two → Inside vs
  inside vs h f =
      let s = set_room vs in
      let p = lays_put first (omega arith) in
      let pa : one ≡ 0 + length (bytes "{") = p.after in
      let ps : length b ≡ length a = p.same in
      let z : one ≡ 1 = omega arith in
      let m : one + length (run (texts vs)) ≤ length b = omega arith in
      record { begins = z; long = ps; room = m; laid = f m }

  some-run : (v : Value) (vs : Values) → 0 < length (run (texts (normals (v_cons v vs))))
  unfolding run text normal
  some-run v vs = omega (arith, run_long (text (normal v)) (texts (normals vs)))

  abbrev Writes : Values → List ℕ → ℕ → Type 0
  Writes vs d r = Wrote (length (text (v_set vs))) (text (normal (v_set vs))) a d r

  abbrev Room : Values → Type 0
  Room vs = length (text (v_set vs)) ≤ length a

  abbrev Rest : Values → Type 0
  Rest vs = Lays (run (texts vs)) (run (texts (normals vs))) b c one two

  none_is : (d : List ℕ) (r : ℕ) → Offers c d one (bytes "}") r → (vs : Values) → two ≤ one → Room vs → Rest vs → Writes vs d r
  unfolding text normal run arranged_values arranged joined
  none_is d r o v_nil n room f = wrote_front (lays_then (lays_put first) (lays_then (nothing-laid f) (lays_put o))) room
  none_is d r o (v_cons v vs) n room f = let q = inside (v_cons v vs) room f in let z = q.laid.after in absurd (omega (arith, some-run v vs))

  -- there is room for what was laid
  short-is : length c < two → (d : List ℕ) (r : ℕ) (vs : Values) → Room vs → Rest vs → Writes vs d r
  short-is n d r vs room f =
      let q = inside vs room f in
      let qa = q.laid.after in
      let qw = q.laid.within in
      let qs = q.laid.same in
      let qr = q.room in
      absurd (omega arith)

  module _ (more : one < two) (within : two ≤ length c) (small : length c < 2 ^ 64) (part : List ℕ) (count next : ℕ) (long : length part ≡ length (take (two - one) (drop one c)))
      (closes : Closes (take (two - one) (drop one c)) part count) (after : next ≡ capped (one + count)) where
    closed_is : (T : Tables) (row : ℕ) (vs : Values) → HaveSort vs Loose T row → Room vs → Rest vs → Writes vs (put_mid one (two - one) c part) next
    unfolding text normal run
    closed_is T row v_nil hs room f = let q = inside v_nil room f in let z = q.laid.after in absurd (omega arith)
    closed_is T row (v_cons v vs) hs room f =
        let q = inside (v_cons v vs) room f in
        let fit = normals-fit Loose T (v_cons v vs) row hs in
        let p = laid-part q.laid q.room in
        let w = closes (text (normal v)) (texts (normals vs)) (members_plain Ascending T row (normals (v_cons v vs)) fit) p in
        let n : length part ≡ two - one = long ∙ ap length p ∙ (let z = q.laid.after in let y : length (run (texts (normals (v_cons v vs)))) ≡ two - one = omega arith in y) in
        let few : length (closed (arranged key true (texts (normals (v_cons v vs))))) ≤ length (run (texts (normals (v_cons v vs)))) =
        closed-most (arranged key true (texts (normals (v_cons v vs)))) (length (run (texts (normals (v_cons v vs))))) (arranged-long true (texts (normals (v_cons v vs)))) (some-run v vs) in
        let laid = lays_part c part one two (omega arith) within n {x' = closed (text v ∷ texts vs)} f (sym (length-closed (text v) (texts vs))) w.long few w.front after (omega (arith, q.laid.same)) in
        wrote_front
        (lays_then (lays_put first)
        (lays_as refl (ap closed (sym (members-arranged Ascending T row (normals (v_cons v vs)) fit))) laid)) room

pub set-none : (c d : List ℕ) (one two r : ℕ) → two ≤ one → Offers c d one (bytes "}") r → ClosesSet c d one two r
set-none c d one two r n o a b f T row vs hs rest room = none_is a b c one two f d r o vs n room rest

pub set-short : (c d : List ℕ) (one two r : ℕ) → length c < two → ClosesSet c d one two r
set-short c d one two r n a b f T row vs hs rest room = short-is a b c one two f n d r vs room rest

pub set-closed : (c part : List ℕ) (one two count r : ℕ) → one < two → two ≤ length c → length c < 2 ^ 64 → length part ≡ length (take (two - one) (drop one c)) → Closes (take (two - one) (drop one c)) part count →
    r ≡ capped (one + count) → ClosesSet c (put_mid one (two - one) c part) one two r
set-closed c part one two count r more within small long closes after a b f T row vs hs rest room = closed_is a b c one two f more within small part count r long closes after T row vs hs room rest
