-- How long the pieces of a line are together.
-- Assumes nothing.
use mathlib.Core.Path.{◌≡◌, refl, sym, ap, ◌∙◌}
use mathlib.Core.List.{List, [], ◌∷◌, ◌++◌, map}
use Prim.Native.Nat.{ℕ, ◌+◌}
use native.Mathlib.Omega.{arith}
use lib.ListN.{length}
use lib.Dec.{eqb}
use borrow.Author.Tests.{eq-eqb, ne_eqb}
use mathlib.Core.Bool.{Bool, true, false, cond}
use Rattle.ground.specs.Bytes.{bytes}
use Rattle.ground.specs.Lists.{joined}
use Rattle.parts.specs.Parts.{paired}
use Rattle.parts.specs.Texts.{pair, spaced}
use Rattle.parts.proofs.Sizes.{long-then}
use Rattle.parts.proofs.Spaces.{length-spaced}
use Rattle.script.specs.Line.{comment, define_fun, declare_fun, indent, constructor_list, is_empty, parametric, with_parameters, datatype_line, declare_datatype}
use Rattle.script.proofs.Lines.{define_fun_line, declare_fun_line, bare-line, parametric-line}

pub one-long : (head part : List ℕ) → length head + length part + 2 ≡ length (head ++ (part ++ bytes ")\n"))
one-long head part = omega (arith, long-then head (part ++ bytes ")\n") (length part + 2) (long-then part (bytes ")\n") 2 refl))

pub two-long : (head first second : List ℕ) → length head + length first + length second + 3 ≡ length (head ++ (first ++ (bytes " " ++ (second ++ bytes ")\n"))))
two-long head first second =
    omega (
      arith,
      long-then head (first ++ (bytes " " ++ (second ++ bytes ")\n"))) (length first + (1 + (length second + 2)))
          (long-then first (bytes " " ++ (second ++ bytes ")\n")) (1 + (length second + 2))
          (long-then (bytes " ") (second ++ bytes ")\n") (length second + 2) (long-then second (bytes ")\n") 2 refl))),
    )

pub comment-long : (text : List ℕ) → length text + 3 ≡ length (comment text)
unfolding comment
comment-long text = omega (arith, length-spaced text, long-then (bytes "; ") (map spaced text ++ bytes "\n") (length (map spaced text) + 1) (long-then (map spaced text) (bytes "\n") 1 refl))

pub declare_fun_long : (name : List ℕ) (arguments : List (List ℕ)) (sort : List ℕ) (inner : ℕ) → inner ≡ length (joined (bytes " ") arguments)
    → length name + inner + length sort + 19 ≡ length (declare_fun name arguments sort)
declare_fun_long name arguments sort inner e =
    let J = joined (bytes " ") arguments in
    omega (
      arith,
      e,
      sym (ap length (declare_fun_line name arguments sort)),
      long-then name (bytes " (" ++ (J ++ (bytes ") " ++ (sort ++ bytes ")\n")))) (2 + (length J + (2 + (length sort + 2))))
          (long-then (bytes " (") (J ++ (bytes ") " ++ (sort ++ bytes ")\n"))) (length J + (2 + (length sort + 2)))
          (long-then J (bytes ") " ++ (sort ++ bytes ")\n")) (2 + (length sort + 2))
          (long-then (bytes ") ") (sort ++ bytes ")\n") (length sort + 2) (long-then sort (bytes ")\n") 2 refl)))),
    )

pub define_fun_long : (name : List ℕ) (arguments : List (List ℕ)) (sort body : List ℕ) (inner : ℕ) → inner ≡ length (joined (bytes " ") (paired pair arguments))
    → length name + inner + length sort + length body + 19 ≡ length (define_fun name arguments sort body)
define_fun_long name arguments sort body inner e =
    let J = joined (bytes " ") (paired pair arguments) in
    let tail = sort ++ (bytes " " ++ (body ++ bytes ")\n")) in
    let t : length tail ≡ length sort + (1 + (length body + 2)) =
    long-then sort (bytes " " ++ (body ++ bytes ")\n")) (1 + (length body + 2)) (long-then (bytes " ") (body ++ bytes ")\n") (length body + 2) (long-then body (bytes ")\n") 2 refl)) in
    omega (
      arith,
      e,
      t,
      sym (ap length (define_fun_line name arguments sort body)),
      long-then name (bytes " (" ++ (J ++ (bytes ") " ++ tail))) (2 + (length J + (2 + length tail)))
          (long-then (bytes " (") (J ++ (bytes ") " ++ tail)) (length J + (2 + length tail))
          (long-then J (bytes ") " ++ tail) (2 + length tail) (long-then (bytes ") ") tail (length tail) refl))),
    )

bare-long : (name : List ℕ) (constructors : List (List ℕ)) → length (datatype_line name (constructor_list constructors)) ≡ length name + length (joined indent constructors) + 26
bare-long name constructors =
    let J = joined indent constructors in
    omega (
      arith,
      sym (ap length (bare-line name constructors)),
      long-then name (bytes " (\n  " ++ (J ++ bytes "))\n")) (5 + (length J + 3)) (long-then (bytes " (\n  ") (J ++ bytes "))\n") (length J + 3) (long-then J (bytes "))\n") 3 refl)),
    )

parametric-long : (name : List ℕ) (parameters constructors : List (List ℕ))
    → length (datatype_line name (parametric parameters (constructor_list constructors))) ≡ length name + length (joined (bytes " ") parameters) + length (joined indent constructors) + 35
parametric-long name parameters constructors =
    let P = joined (bytes " ") parameters in
    let J = joined indent constructors in
    omega (
      arith,
      sym (ap length (parametric-line name parameters constructors)),
      long-then name (bytes " (par (" ++ (P ++ (bytes ") (\n  " ++ (J ++ bytes ")))\n")))) (7 + (length P + (6 + (length J + 4))))
          (long-then (bytes " (par (") (P ++ (bytes ") (\n  " ++ (J ++ bytes ")))\n"))) (length P + (6 + (length J + 4)))
          (long-then P (bytes ") (\n  " ++ (J ++ bytes ")))\n")) (6 + (length J + 4))
          (long-then (bytes ") (\n  ") (J ++ bytes ")))\n") (length J + 4) (long-then J (bytes ")))\n") 4 refl)))),
    )

-- a text is empty where it has no byte
pub is-empty : (l : List ℕ) → is_empty l ≡ eqb (length l) 0
is-empty [] = refl
is-empty (b ∷ bs) = sym (ne_eqb (length (b ∷ bs)) 0 (λ e. omega (arith, e)))

pub datatype_as : (name : List ℕ) (parameters constructors : List (List ℕ)) (inner : ℕ) → inner ≡ length (joined (bytes " ") parameters)
    → declare_datatype name parameters constructors ≡ cond (eqb inner 0) (datatype_line name (constructor_list constructors)) (datatype_line name (parametric parameters (constructor_list constructors)))
unfolding declare_datatype with_parameters
datatype_as name parameters constructors inner e =
    apart (eqb inner 0) (is-empty (joined (bytes " ") parameters) ∙ ap (λ (k : ℕ). eqb k 0) (sym e))
  where
    apart : (t : Bool) → is_empty (joined (bytes " ") parameters) ≡ t
        → datatype_line name (cond (is_empty (joined (bytes " ") parameters)) (constructor_list constructors) (parametric parameters (constructor_list constructors)))
        ≡ cond t (datatype_line name (constructor_list constructors)) (datatype_line name (parametric parameters (constructor_list constructors)))
    apart true h = ap (λ (b : Bool). datatype_line name (cond b (constructor_list constructors) (parametric parameters (constructor_list constructors)))) h
    apart false h = ap (λ (b : Bool). datatype_line name (cond b (constructor_list constructors) (parametric parameters (constructor_list constructors)))) h

pub datatype_long : (name : List ℕ) (parameters constructors : List (List ℕ)) (inner rows need : ℕ) → inner ≡ length (joined (bytes " ") parameters) → rows ≡ length (joined indent constructors)
    → need ≡ cond (eqb inner 0) (length name + rows + 26) (length name + inner + rows + 35)
    → need ≡ length (declare_datatype name parameters constructors)
datatype_long name parameters constructors inner rows need e f g =
    g ∙ apart (eqb inner 0) ∙ sym (ap length (datatype_as name parameters constructors inner e))
  where
    apart : (t : Bool) → cond t (length name + rows + 26) (length name + inner + rows + 35) ≡ length (cond t (datatype_line name (constructor_list constructors)) (datatype_line name (parametric parameters (constructor_list constructors))))
    apart true = omega (arith, f, bare-long name constructors)
    apart false = omega (arith, e, f, parametric-long name parameters constructors)

module _ (name : List ℕ) (parameters constructors : List (List ℕ)) (inner : ℕ) (e : inner ≡ length (joined (bytes " ") parameters)) where
  pub datatype_bare : inner ≡ 0 → datatype_line name (constructor_list constructors) ≡ declare_datatype name parameters constructors
  datatype_bare h = sym (datatype_as name parameters constructors inner e ∙ ap (λ (t : Bool). cond t (datatype_line name (constructor_list constructors)) (datatype_line name (parametric parameters (constructor_list constructors)))) (eq-eqb inner 0 h))

  pub datatype_parametric : (inner ≡ 0 → ⊥) → datatype_line name (parametric parameters (constructor_list constructors)) ≡ declare_datatype name parameters constructors
  datatype_parametric h = sym (datatype_as name parameters constructors inner e ∙ ap (λ (t : Bool). cond t (datatype_line name (constructor_list constructors)) (datatype_line name (parametric parameters (constructor_list constructors)))) (ne_eqb inner 0 h))
