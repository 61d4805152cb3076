-- The view of a node: the words that it is made of, and that it lies within the words.
-- Assumes nothing.
use mathlib.Core.Path.{◌≡◌, refl, sym, ap, ◌∙◌}
use mathlib.Core.Bool.{Bool, true, false, true≢false}
use mathlib.Core.List.{List, [], ◌∷◌}
use Prim.Native.Nat.{ℕ, ◌+◌, ◌*◌, ◌/◌, ◌≤◌, ◌<◌}
use native.Mathlib.Omega.{arith}
use lib.Dec.{eqb, ltb}
use lib.ListN.{length, get_or, take, drop, length-take, length-drop}
use lib.Seq.{get_or-take, get_or-drop}
use borrow.Author.Tests.{lt-ltb, le-ltb, ltb-true, ne_eqb, eqb-true}
use Rattle.ground.proofs.Tests.{by_test, by_cond}
use Rattle.ground.proofs.Lists.{at_place}
use Rattle.arena.specs.declared.node.Node.{Node}
use Rattle.arena.specs.declared.node.Node.TheVariants.{BitVec, Numeral, String, Symbol, App, NoNode}
use Rattle.arena.specs.Layout.{stride, bit_vec_kind, numeral_kind, string_kind, symbol_kind, app_kind, node_words}
use Rattle.arena.specs.Node.{unused, node_of, node_at, after_of, after_at}

abbrev pub there : Node → Bool
there (BitVec width low high) = true
there (Numeral low high) = true
there (String size offset) = true
there (Symbol size offset) = true
there (App children end) = true
there NoNode = false

-- the words of a node that is there
abbrev pub laid : Node → List ℕ
laid (BitVec width low high) = node_words bit_vec_kind width low high
laid (Numeral low high) = node_words numeral_kind 0 low high
laid (String size offset) = node_words string_kind size offset 0
laid (Symbol size offset) = node_words symbol_kind size offset 0
laid (App children end) = node_words app_kind children end 0
laid NoNode = []

pub length-laid : (n : Node) → there n ≡ true → length (laid n) ≡ stride
length-laid (BitVec width low high) e = refl
length-laid (Numeral low high) e = refl
length-laid (String size offset) e = refl
length-laid (Symbol size offset) e = refl
length-laid (App children end) e = refl
length-laid NoNode e = absurd (true≢false (sym e))

abbrev read : List ℕ → Node
read ws = node_of (get_or ws 0 0) (get_or ws 1 0) (get_or ws 2 0) (get_or ws 3 0)

read-laid : (n : Node) → there n ≡ true → read (laid n) ≡ n
read-laid (BitVec width low high) e = refl
read-laid (Numeral low high) e = refl
read-laid (String size offset) e = refl
read-laid (Symbol size offset) e = refl
read-laid (App children end) e = refl
read-laid NoNode e = absurd (true≢false (sym e))

-- the definitions by their cases
module _ (kind one two three : ℕ) where
  pub no_kind : (kind ≡ 1 → ⊥) → (kind ≡ 2 → ⊥) → (kind ≡ 3 → ⊥) → (kind ≡ 4 → ⊥) → (kind ≡ 5 → ⊥) → NoNode ≡ node_of kind one two three
  no_kind a b c d e = rw (ne_eqb kind 1 a, ne_eqb kind 2 b, ne_eqb kind 3 c, ne_eqb kind 4 d, ne_eqb kind 5 e)

-- what is said of both cases of a test is said of the one that it picks
module _ (kind one two three : ℕ) where
  abbrev Made : Node → Type 0
  Made n = there n ≡ true → laid n ≡ node_words kind one two three

  made_none : Made NoNode
  made_none e = absurd (true≢false (sym e))

  made-unused : (word : ℕ) (n : Node) → (word ≡ 0 → Made n) → Made (unused word n)
  made-unused word n f = by_cond Made (eqb word 0) n NoNode (λ t. f (eqb-true word 0 t)) (λ _. made_none)

  laid_of : Made (node_of kind one two three)
  laid_of =
      by_cond Made (eqb kind 1) _ _ (λ t e. let k = eqb-true kind 1 t in cc)
      (λ _. by_cond Made (eqb kind 2) _ _ (λ t. made-unused one _ (λ z e. let k = eqb-true kind 2 t in cc))
      (λ _. by_cond Made (eqb kind 3) _ _ (λ t. made-unused three _ (λ z e. let k = eqb-true kind 3 t in cc))
      (λ _. by_cond Made (eqb kind 4) _ _ (λ t. made-unused three _ (λ z e. let k = eqb-true kind 4 t in cc))
      (λ _. by_cond Made (eqb kind 5) _ _ (λ t. made-unused three _ (λ z e. let k = eqb-true kind 5 t in cc))
      (λ _. made_none)))))

module _ (ws : List ℕ) (i : ℕ) where
  abbrev word : ℕ → ℕ
  word k = get_or ws (i * stride + k) 0

  pub node_in : i < length ws / stride → node_at ws i ≡ node_of (get_or ws (i * stride) 0) (word 1) (word 2) (word 3)
  unfolding node_at
  node_in h = rw (lt-ltb i (length ws / stride) h)

  pub node-past : length ws / stride ≤ i → NoNode ≡ node_at ws i
  unfolding node_at
  node-past h = rw (le-ltb i (length ws / stride) h)

  -- a node that is there lies within the words
  pub node-within : {n : Node} → node_at ws i ≡ n → there n ≡ true → i < length ws / stride
  unfolding node_at
  node-within e t =
      by_test (ltb i (length ws / stride)) (λ h. ltb-true _ _ h)
      (λ h. let z : node_at ws i ≡ NoNode = rw h in absurd (true≢false (sym t ∙ ap there (sym e ∙ z))))

  next_word : (k m : ℕ) → m ≡ k + 1 → i * stride + k < length ws → drop (i * stride + k) ws ≡ word k ∷ drop (i * stride + m) ws
  next_word k m e h =
      let a : i * stride + k + 1 ≡ i * stride + m = omega arith in
      at_place ws (i * stride + k) h ∙ ap (λ (p : ℕ). word k ∷ drop p ws) a

  module _ (h : i < length ws / stride) where
    node-words : take stride (drop (i * stride) ws) ≡ node_words (get_or ws (i * stride) 0) (word 1) (word 2) (word 3)
    node-words =
        ap (λ (l : List ℕ). take 4 l) (at_place ws (i * stride) (omega arith))
        ∙ ap (λ (l : List ℕ). get_or ws (i * stride) 0 ∷ take 3 l) (next_word 1 2 refl (omega arith))
        ∙ ap (λ (l : List ℕ). get_or ws (i * stride) 0 ∷ word 1 ∷ take 2 l) (next_word 2 3 refl (omega arith))
        ∙ ap (λ (l : List ℕ). get_or ws (i * stride) 0 ∷ word 1 ∷ word 2 ∷ take 1 l) (next_word 3 4 refl (omega arith))

  -- from the words to the node
  pub node-laid : (n : Node) → there n ≡ true → take stride (drop (i * stride) ws) ≡ laid n → node_at ws i ≡ n
  node-laid n t e =
      let l : length (take stride (drop (i * stride) ws)) ≡ stride = ap (λ (l : List ℕ). length l) e ∙ length-laid n t in
      let m = simp (length-take, length-drop) at l in
      let h : i < length ws / stride = omega arith in
      node_in h ∙ sym (ap read (node-words h)) ∙ ap read e ∙ read-laid n t

  -- and back
  pub laid-node : (n : Node) → there n ≡ true → node_at ws i ≡ n → take stride (drop (i * stride) ws) ≡ laid n
  laid-node n t e =
      let h = node-within e t in
      node-words h ∙ sym (laid_of _ _ _ _ (ap there (sym (node_in h) ∙ e) ∙ t)) ∙ ap laid (sym (node_in h) ∙ e)

  -- what a node says stands in the words
  pub laid_word : (n : Node) → there n ≡ true → node_at ws i ≡ n → (k : ℕ) → k < stride → get_or ws (i * stride + k) 0 ≡ get_or (laid n) k 0
  laid_word n t e k h =
      sym (get_or-drop (i * stride) ws k 0) ∙ sym (get_or-take stride (drop (i * stride) ws) k 0 h)
      ∙ ap (λ (l : List ℕ). get_or l k 0) (laid-node n t e)

  pub after-of : {n : Node} → node_at ws i ≡ n → after_of n i ≡ after_at ws i
  after-of e = sym (ap (λ (n : Node). after_of n i) e)

-- a numeral's words are words of the arena, so they are below any bound of all of those
pub numeral-below : (ws : List ℕ) (i low high b : ℕ) → ((k : ℕ) → get_or ws k 0 < b) → node_at ws i ≡ Numeral low high → (low < b) × (high < b)
numeral-below ws i low high b f e =
    let l : get_or ws (i * stride + 2) 0 ≡ low = laid_word ws i (Numeral low high) refl e 2 (omega arith) in
    let h : get_or ws (i * stride + 3) 0 ≡ high = laid_word ws i (Numeral low high) refl e 3 (omega arith) in
    let l' = f (i * stride + 2) in
    let h' = f (i * stride + 3) in
    (omega arith, omega arith)
