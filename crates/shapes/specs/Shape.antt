-- Document 01, "Sorts and literals", applications by `decode_literal_app`'s arms, their words and counts matched and nothing read.
use Rattle.std.specs.Prelude.{Bool, cond, ◌&&◌, ◌||◌, List, [], ◌∷◌, ℕ, eqb}
use Prim.Native.String.{String}
use Rattle.ground.specs.Bytes.{bytes}
use Rattle.arena.specs.Text.{same_text}
use Rattle.arena.specs.Tree.{Tree, Trees, bit_vec, numeral, string, symbol, app, nil, cons}
use Rattle.tables.specs.Sort.{Ext, decimal, datetime, duration}
use Rattle.shapes.specs.declared.shape.UnaryOp.{UnaryOp}
use Rattle.shapes.specs.declared.shape.BinaryOp.{BinaryOp}

-- an arm, and the trees that it hands on
pub data Shape : Type 0 where
  uncovered : Shape
  as_none : Tree → Shape
  as_some : Tree → Tree → Shape
  some_of : Tree → Shape
  as_empty : Tree → Shape
  singleton : Tree → Shape
  union : Tree → Tree → Shape
  extension : Ext → ℕ → Shape
  indexed : List ℕ → ℕ → Shape
  made : List ℕ → Trees → Shape
  other : Shape
  unary : UnaryOp → Tree → Shape
  binary : BinaryOp → Tree → Tree → Shape
  ite : Tree → Tree → Tree → Shape

-- a tree of one kind, and what holds of any other
abbrev pub on_symbol {ℓ} : {A : Type ℓ} → Tree → A → (List ℕ → A) → A
on_symbol (bit_vec w n) else some = else
on_symbol (numeral n) else some = else
on_symbol (string s) else some = else
on_symbol (symbol s) else some = some s
on_symbol (app us) else some = else

abbrev pub on_numeral {ℓ} : {A : Type ℓ} → Tree → A → (ℕ → A) → A
on_numeral (bit_vec w n) else some = else
on_numeral (numeral n) else some = some n
on_numeral (string s) else some = else
on_numeral (symbol s) else some = else
on_numeral (app us) else some = else

abbrev pub on_bit_vec {ℓ} : {A : Type ℓ} → Tree → A → (ℕ → ℕ → A) → A
on_bit_vec (bit_vec w n) else some = some w n
on_bit_vec (numeral n) else some = else
on_bit_vec (string s) else some = else
on_bit_vec (symbol s) else some = else
on_bit_vec (app us) else some = else

abbrev pub on_app {ℓ} : {A : Type ℓ} → Tree → A → (Trees → A) → A
on_app (bit_vec w n) else some = else
on_app (numeral n) else some = else
on_app (string s) else some = else
on_app (symbol s) else some = else
on_app (app us) else some = some us

-- the name is the word
abbrev pub is : List ℕ → String → Bool
is f word = same_text f (bytes word)

-- (Decimal b), (Datetime b), (Duration b) with b of 64 bits
abbrev pub ext_or : List ℕ → ℕ → Shape → Shape
ext_or f n else =
    cond (is f "Decimal") (extension decimal n)
    (cond (is f "Datetime") (extension datetime n)
    (cond (is f "Duration") (extension duration n)
    else))

abbrev pub ext_shape : List ℕ → Tree → Shape
ext_shape f a =
    on_bit_vec a (made f (cons a nil))
    (λ w n. cond (eqb w 64) (ext_or f n (made f (cons a nil))) (made f (cons a nil)))

-- (f a)
abbrev pub one : List ℕ → Tree → Shape
one f a =
    cond (is f "not") (unary UnaryOp.Not a)
    (cond (is f "bvnego") (unary UnaryOp.Bvnego a)
    (cond (is f "some") (some_of a)
    (cond (is f "set.singleton") (singleton a)
    (ext_shape f a))))

-- what follows `bv` in a name that starts with it
abbrev pub on_bv {ℓ} : {A : Type ℓ} → List ℕ → A → (List ℕ → A) → A
on_bv [] else some = else
on_bv (a ∷ []) else some = else
on_bv (a ∷ b ∷ digits) else some = cond (eqb a 98 && eqb b 118) (some digits) else

-- (_ bvN W)
abbrev pub index_shape : List ℕ → List ℕ → Tree → Shape
index_shape f g b =
    on_numeral b (made f (cons (symbol g) (cons b nil)))
    (λ w. on_bv g (made f (cons (symbol g) (cons b nil))) (λ digits. indexed digits w))

-- (as none T), (as set.empty T), (_ bvN W)
abbrev pub word_shape : List ℕ → List ℕ → Tree → Shape
word_shape f g b =
    cond (is f "as" && is g "none") (as_none b)
    (cond (is f "as" && is g "set.empty") (as_empty b)
    (cond (is f "_") (index_shape f g b)
    (made f (cons (symbol g) (cons b nil)))))

abbrev pub pair_shape : List ℕ → Tree → Tree → Shape
pair_shape f a b = on_symbol a (made f (cons a (cons b nil))) (λ g. word_shape f g b)

-- (f a b)
abbrev pub two : List ℕ → Tree → Tree → Shape
two f a b =
    cond (is f "or") (binary BinaryOp.Or a b)
    (cond (is f "=") (binary BinaryOp.Equal a b)
    (cond (is f "bvsaddo") (binary BinaryOp.Bvsaddo a b)
    (cond (is f "bvsmulo") (binary BinaryOp.Bvsmulo a b)
    (cond (is f "set.union") (union a b)
    (cond (is f "V4" || is f "V6") uncovered
    (pair_shape f a b))))))

-- (f a b c)
abbrev pub three : List ℕ → Tree → Tree → Tree → Shape
three f a b c = cond (is f "ite") (ite a b c) (made f (cons a (cons b (cons c nil))))

abbrev pub applied : List ℕ → Trees → Shape
applied f nil = made f nil
applied f (cons a nil) = one f a
applied f (cons a (cons b nil)) = two f a b
applied f (cons a (cons b (cons c nil))) = three f a b c
applied f (cons a (cons b (cons c (cons d us)))) = made f (cons a (cons b (cons c (cons d us))))

-- ((as some T) v)
abbrev pub some_shape : Tree → Tree → Tree → Tree → Shape
some_shape a b t v = on_symbol a other (λ f. on_symbol b other (λ g. cond (is f "as" && is g "some") (as_some t v) other))

abbrev pub headed : Trees → Trees → Shape
headed nil us = other
headed (cons a nil) us = other
headed (cons a (cons b nil)) us = other
headed (cons a (cons b (cons t nil))) nil = other
headed (cons a (cons b (cons t nil))) (cons v nil) = some_shape a b t v
headed (cons a (cons b (cons t nil))) (cons v (cons w us)) = other
headed (cons a (cons b (cons t (cons d ts)))) us = other

unfoldable pub shape : Trees → Shape
shape nil = other
shape (cons h us) = on_symbol h (on_app h other (λ ts. headed ts us)) (λ f. applied f us)
