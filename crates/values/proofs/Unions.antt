-- Unions: sets put together in any order and grouping, with themselves, and brought into order before or not, are one value.
-- Assumes nothing.
use mathlib.Core.Path.{◌≡◌, refl, ap, ap₂, sym, ◌∙◌}
use mathlib.Core.Bool.{true}
use mathlib.Core.List.{List, [], ◌∷◌, ◌++◌, map, nil≢cons, cons≢nil, head-eq_of_cons-eq, tail-eq_of_cons-eq}
use Prim.Native.Nat.{ℕ}
use Rattle.order.specs.Order.{arranged}
use Rattle.order.proofs.Arranges.{map_keys}
use Rattle.order.proofs.Unions.{union_left, union-either, union-same}
use Rattle.tables.specs.Sort.{Tables}
use Rattle.values.specs.Value.{Value, Values, v_set, v_nil, v_cons, listed, unlisted, union, members}
use Rattle.values.specs.Text.{text, texts}
use Rattle.values.specs.Normal.{normal, normals, arranged_values}
use Rattle.values.specs.HasSort.{HaveSort, Ascending}
use Rattle.values.proofs.Normals.{normals-fit, arranged-fit, members-twice}
use Rattle.values.proofs.Tells.{tells}

-- a text that is its own key
abbrev pub own : List ℕ → List ℕ
own t = t

one_key : (a b : List ℕ) → own a ≡ own b → a ≡ b
one_key a b e = e

pub union_grouped : (us vs ws : Values) → union (union us vs) ws ≡ union us (union vs ws)
union_grouped v_nil vs ws = refl
union_grouped (v_cons u us) vs ws = ap (λ (l : Values). v_cons u l) (union_grouped us vs ws)

pub union-empty : (vs : Values) → union vs v_nil ≡ vs
union-empty v_nil = refl
union-empty (v_cons v vs) = ap (λ (l : Values). v_cons v l) (union-empty vs)

pub union-fits : (A : Values → Type 0) (T : Tables) (r : ℕ) (vs ws : Values) → HaveSort vs A T r → HaveSort ws A T r → HaveSort (union vs ws) A T r
union-fits A T r v_nil ws h k = k
union-fits A T r (v_cons v vs) ws h k = (h.0, union-fits A T r vs ws h.1 k)

pub texts-union : (vs ws : Values) → texts (union vs ws) ≡ texts vs ++ texts ws
unfolding text
texts-union v_nil ws = refl
texts-union (v_cons v vs) ws = ap (λ (l : List (List ℕ)). text v ∷ l) (texts-union vs ws)

normals-union : (vs ws : Values) → normals (union vs ws) ≡ union (normals vs) (normals ws)
unfolding normal
normals-union v_nil ws = refl
normals-union (v_cons v vs) ws = ap (λ (l : Values). v_cons (normal v) l) (normals-union vs ws)

-- the texts of members in order are the texts, in order
texts-listed : (vs : Values) → texts vs ≡ map text (listed vs)
unfolding text
texts-listed v_nil = refl
texts-listed (v_cons v vs) = ap (λ (l : List (List ℕ)). text v ∷ l) (texts-listed vs)

texts-unlisted : (xs : List Value) → texts (unlisted xs) ≡ map text xs
unfolding text
texts-unlisted [] = refl
texts-unlisted (x ∷ xs) = ap (λ (l : List (List ℕ)). text x ∷ l) (texts-unlisted xs)

pub texts-arranged : (vs : Values) → texts (arranged_values vs) ≡ arranged own true (texts vs)
unfolding arranged_values
texts-arranged vs =
    texts-unlisted (arranged text true (listed vs)) ∙ map_keys text own text true (listed vs) (λ v. refl) ∙ ap (λ (l : List (List ℕ)). arranged own true l) (sym (texts-listed vs))

module _ (A B : Values → Type 0) (T : Tables) (r : ℕ) where
  -- members of one sort with one list of texts are one
  pub texts-tell : (vs ws : Values) → HaveSort vs A T r → HaveSort ws B T r → texts vs ≡ texts ws → vs ≡ ws
  unfolding text
  texts-tell v_nil v_nil h k e = refl
  texts-tell v_nil (v_cons w ws) h k e = absurd (nil≢cons e)
  texts-tell (v_cons v vs) v_nil h k e = absurd (cons≢nil e)
  texts-tell (v_cons v vs) (v_cons w ws) h k e =
      ap₂ {C = Values} v_cons (tells A B T v w r h.0 k.0 (head-eq_of_cons-eq e)) (texts-tell vs ws h.1 k.1 (tail-eq_of_cons-eq e))

  -- and so are sets of them that have, in order, one list of texts
  pub one-order : (vs ws : Values) → HaveSort vs A T r → HaveSort ws B T r → arranged own true (texts vs) ≡ arranged own true (texts ws) → arranged_values vs ≡ arranged_values ws
  one-order vs ws h k e =
      texts-tell (arranged_values vs) (arranged_values ws) (arranged-fit A T r vs h) (arranged-fit B T r ws k) (texts-arranged vs ∙ e ∙ sym (texts-arranged ws))

texts-both : (vs ws : Values) → texts (normals (union vs ws)) ≡ texts (normals vs) ++ texts (normals ws)
texts-both vs ws = ap texts (normals-union vs ws) ∙ texts-union (normals vs) (normals ws)

module _ (A : Values → Type 0) (T : Tables) (r : ℕ) where
  -- what the members of two sets come to, where their texts come to the same
  one-union : (us vs ws : Values) → HaveSort us A T r → HaveSort vs A T r → HaveSort ws A T r →
      arranged own true (texts (normals us) ++ texts (normals vs)) ≡ arranged own true (texts (normals ws)) → normal (v_set (union us vs)) ≡ normal (v_set ws)
  unfolding normal
  one-union us vs ws f g h e =
      ap v_set (ap arranged_values (normals-union us vs)
      ∙ one-order Ascending Ascending T r (union (normals us) (normals vs)) (normals ws)
      (union-fits Ascending T r (normals us) (normals vs) (normals-fit A T us r f) (normals-fit A T vs r g)) (normals-fit A T ws r h)
      (ap (arranged own true) (texts-union (normals us) (normals vs)) ∙ e))

  pub union_turned : (vs ws : Values) → HaveSort vs A T r → HaveSort ws A T r → normal (v_set (union vs ws)) ≡ normal (v_set (union ws vs))
  union_turned vs ws h k =
      one-union vs ws (union ws vs) h k (union-fits A T r ws vs k h)
      (union-either own true one_key (texts (normals vs)) (texts (normals ws)) ∙ ap (arranged own true) (sym (texts-both ws vs)))

  pub union-doubled : (vs : Values) → HaveSort vs A T r → normal (v_set (union vs vs)) ≡ normal (v_set vs)
  union-doubled vs h = one-union vs vs vs h h h (union-same own true one_key (texts (normals vs)))

  -- a part may be brought into order before
  pub union-before : (vs ws : Values) → HaveSort vs A T r → HaveSort ws A T r → normal (v_set (union (members (normal (v_set vs))) ws)) ≡ normal (v_set (union vs ws))
  unfolding normal
  union-before vs ws h k =
      let f = normals-fit A T vs r h in
      let g = normals-fit A T ws r k in
      let us = arranged_values (normals vs) in
      ap v_set (ap arranged_values (normals-union us ws ∙ ap (λ (l : Values). union l (normals ws)) (members-twice vs))
      ∙ one-order Ascending Ascending T r (union us (normals ws)) (union (normals vs) (normals ws))
      (union-fits Ascending T r us (normals ws) (arranged-fit Ascending T r (normals vs) f) g) (union-fits Ascending T r (normals vs) (normals ws) f g)
      (ap (arranged own true) (texts-union us (normals ws) ∙ ap (λ (l : List (List ℕ)). l ++ texts (normals ws)) (texts-arranged (normals vs)))
      ∙ union_left own true (texts (normals vs)) (texts (normals ws)) ∙ ap (arranged own true) (sym (texts-union (normals vs) (normals ws))))
      ∙ ap arranged_values (sym (normals-union vs ws)))
