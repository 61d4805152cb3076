-- The line feeds of a line: the last byte, those inside its parts, and declare-datatype's own. A comment has the last one only.
-- Assumes nothing.
use mathlib.Core.Path.{◌≡◌, refl, ap, ◌∙◌}
use mathlib.Core.Bool.{Bool, true, false, cond}
use mathlib.Core.List.{List, [], ◌∷◌, ◌++◌, map}
use Prim.Native.Nat.{ℕ, suc, ◌+◌, ◌-◌, ◌*◌}
use native.Mathlib.Nat.{zero-mul, suc-mul}
use native.Mathlib.Omega.{arith}
use lib.Dec.{eqb}
use lib.ListN.{length}
use Rattle.ground.specs.Bytes.{bytes}
use Rattle.ground.specs.Lists.{joined}
use Rattle.ground.proofs.Tests.{by_test}
use Rattle.parts.specs.Parts.{paired}
use Rattle.parts.specs.Texts.{list, spaced, pair}
use Rattle.script.specs.Line.{command, set_logic, set_option, comment, assert, define_fun, declare_const, declare_fun, indent, constructor_list, is_empty, parametric, with_parameters, declare_datatype}
use Rattle.script.specs.Feeds.{feeds, feeds_in}

feeds-append : (a b : List ℕ) → feeds (a ++ b) ≡ feeds a + feeds b
unfolding feeds
feeds-append [] b = omega arith
feeds-append (x ∷ xs) b = apart (eqb x 0x0A) (feeds-append xs b)
  where
    apart : (t : Bool) → feeds (xs ++ b) ≡ feeds xs + feeds b → cond t (suc (feeds (xs ++ b))) (feeds (xs ++ b)) ≡ cond t (suc (feeds xs)) (feeds xs) + feeds b
    apart true h = omega (arith, h)
    apart false h = h

-- the separator's stand between two parts
feeds-joined : (separator : List ℕ) (parts : List (List ℕ)) → feeds (joined separator parts) ≡ feeds_in parts + (length parts - 1) * feeds separator
unfolding joined feeds feeds_in
feeds-joined separator [] = omega (arith, zero-mul (feeds separator))
feeds-joined separator (part ∷ []) = omega (arith, zero-mul (feeds separator))
feeds-joined separator (part ∷ next ∷ parts) =
    let rest = joined separator (next ∷ parts) in
    let h = feeds-joined separator (next ∷ parts) in
    let c : suc (length parts) - 1 ≡ length parts = omega arith in
    let d : suc (suc (length parts)) - 1 ≡ suc (length parts) = omega arith in
    let i : feeds rest ≡ feeds_in (next ∷ parts) + length parts * feeds separator = h ∙ ap (λ (k : ℕ). feeds_in (next ∷ parts) + k * feeds separator) c in
    rw d (omega (arith, feeds-append part (separator ++ rest), feeds-append separator rest, i, suc-mul (length parts) (feeds separator)))

pub list-feeds : (parts : List (List ℕ)) → feeds (list parts) ≡ feeds_in parts
unfolding feeds
list-feeds parts =
    let j = feeds-joined (bytes " ") parts in
    omega (arith, feeds-append (joined (bytes " ") parts) (bytes ")"), j, mul_none (length parts - 1))
  where
    mul_none : (n : ℕ) → n * 0 ≡ 0
    mul_none n = omega arith

-- a command has one line feed more than its parts
pub command-feeds : (parts : List (List ℕ)) → feeds (command parts) ≡ feeds_in parts + 1
unfolding feeds
command-feeds parts = feeds-append (list parts) (bytes "\n") ∙ ap (λ (k : ℕ). k + 1) (list-feeds parts)

pub set_logic_feeds : (logic : List ℕ) → feeds (set_logic logic) ≡ feeds logic + 1
unfolding set_logic feeds_in feeds
set_logic_feeds logic = omega (arith, command-feeds (bytes "set-logic" ∷ logic ∷ []))

pub set_option_feeds : (option value : List ℕ) → feeds (set_option option value) ≡ feeds option + feeds value + 1
unfolding set_option feeds_in feeds
set_option_feeds option value = omega (arith, command-feeds (bytes "set-option" ∷ (bytes ":" ++ option) ∷ value ∷ []))

pub assert-feeds : (term : List ℕ) → feeds (assert term) ≡ feeds term + 1
unfolding assert feeds_in feeds
assert-feeds term = omega (arith, command-feeds (bytes "assert" ∷ term ∷ []))

pub declare_const_feeds : (name sort : List ℕ) → feeds (declare_const name sort) ≡ feeds name + feeds sort + 1
unfolding declare_const feeds_in feeds
declare_const_feeds name sort = omega (arith, command-feeds (bytes "declare-const" ∷ name ∷ sort ∷ []))

pub declare_fun_feeds : (name : List ℕ) (arguments : List (List ℕ)) (sort : List ℕ) → feeds (declare_fun name arguments sort) ≡ feeds name + feeds_in arguments + feeds sort + 1
unfolding declare_fun feeds_in feeds
declare_fun_feeds name arguments sort = omega (arith, list-feeds arguments, command-feeds (bytes "declare-fun" ∷ name ∷ list arguments ∷ sort ∷ []))

-- pairs have the feeds of their parts
pairs-feeds : (parts : List (List ℕ)) → feeds_in (paired pair parts) ≡ feeds_in (paired (λ (name sort : List ℕ). name ++ sort) parts)
unfolding paired feeds_in
pairs-feeds [] = refl
pairs-feeds (name ∷ []) = refl
pairs-feeds (name ∷ sort ∷ parts) = omega (arith, pairs-feeds parts, pair-feeds name sort, feeds-append name sort)
  where
    pair-feeds : (name sort : List ℕ) → feeds (pair name sort) ≡ feeds name + feeds sort
    pair-feeds name sort = omega (arith, list-feeds (name ∷ sort ∷ []))

pub define_fun_feeds : (name : List ℕ) (arguments : List (List ℕ)) (sort body : List ℕ)
    → feeds (define_fun name arguments sort body) ≡ feeds name + feeds_in (paired (λ (n s : List ℕ). n ++ s) arguments) + feeds sort + feeds body + 1
unfolding define_fun feeds_in feeds
define_fun_feeds name arguments sort body =
    omega (arith, pairs-feeds arguments, list-feeds (paired pair arguments), command-feeds (bytes "define-fun" ∷ name ∷ list (paired pair arguments) ∷ sort ∷ body ∷ []))

-- a comment stays on its line
pub comment-feeds : (text : List ℕ) → feeds (comment text) ≡ 1
unfolding comment feeds
comment-feeds text = feeds-append (map spaced text) (bytes "\n") ∙ ap (λ (k : ℕ). k + 1) (none text)
  where
    none : (text : List ℕ) → feeds (map spaced text) ≡ 0
    none [] = refl
    none (b ∷ bs) =
        by_test (eqb b 0x0A)
        (λ h. rw h (none bs))
        (λ h. rw h (rw h (none bs)))

-- one before each constructor, and one where there is none
rows-feeds : (constructors : List (List ℕ)) → feeds (constructor_list constructors) ≡ feeds_in constructors + (length constructors - 1) + 1
unfolding constructor_list feeds
rows-feeds constructors =
    let j = feeds-joined indent constructors in
    omega (arith, feeds-append (joined indent constructors) (bytes ")"), j)

pub declare_datatype_feeds : (name : List ℕ) (parameters constructors : List (List ℕ))
    → feeds (declare_datatype name parameters constructors) ≡ feeds name + feeds_in parameters + (feeds_in constructors + (length constructors - 1) + 1) + 1
unfolding declare_datatype with_parameters feeds_in feeds
declare_datatype_feeds name parameters constructors =
    by_test (is_empty (joined (bytes " ") parameters))
    (λ h.
    rw h
    (omega (
      arith,
      rows-feeds constructors,
      command-feeds (bytes "declare-datatype" ∷ name ∷ constructor_list constructors ∷ []),
      ap feeds (empty (joined (bytes " ") parameters) h),
      feeds-joined (bytes " ") parameters,
    )))
    (λ h.
    rw h
    (omega (
      arith,
      rows-feeds constructors,
      list-feeds parameters,
      list-feeds (bytes "par" ∷ list parameters ∷ constructor_list constructors ∷ []),
      command-feeds (bytes "declare-datatype" ∷ name ∷ parametric parameters (constructor_list constructors) ∷ []),
    )))
  where
    empty : (l : List ℕ) → is_empty l ≡ true → l ≡ []
    empty [] e = refl
    empty (b ∷ bs) e = let z : ◌≡◌ {A = ℕ} 0 1 = cc in absurd (omega arith)
