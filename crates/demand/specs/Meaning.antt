-- Document 01, "The model walk", bodies, and document 02, R-2, for demand 3: what SMT-LIB's `ite`, `=`, `or` and R-2's other operators give a body at an argument's value, literals read as in document 01. No table of arms is mentioned.
use Rattle.std.specs.Prelude.{Bool, false, cond, List, [], ◌∷◌, ℕ, None, Option, Some, Err, Ok, Result}
use Rattle.ground.specs.Options.{over}
use Rattle.arena.specs.Tree.{Tree, Trees, bit_vec, numeral, string, symbol, app, nil, cons}
use Rattle.tables.specs.Sort.{Tables}
use Rattle.shapes.specs.Shape.{is, on_symbol}
use Rattle.sorts.specs.Sort.{levels}
use Rattle.values.specs.Normal.{normal}
use Rattle.values.specs.Value.{Value, v_bool}
use Rattle.means.specs.Literal.{Lit, read_with}
use Rattle.values.specs.Operators.{negated, either, equals, chosen, bvnego, bvsaddo, bvsmulo}
use Rattle.demand.specs.Mention.{same_name, mentions}
use Rattle.refusals.specs.declared.Refusal.{Refusal}

-- what a term means, if anything, given the row of the sort that is expected of it, if one is
abbrev pub Meant : Type 0
Meant = Option ℕ → Option Value

-- a literal's value: its sets in order and without repeats, so that equal values are one
abbrev pub value_of : Result Lit Refusal → Option Value
value_of (Ok l) = Some (normal l.value)
value_of (Err r) = None

-- an operator of two, and `ite`: each means something only where each of its parts does
abbrev pub both : (Value → Value → Option Value) → Option Value → Option Value → Option Value
both rule a b = over a (λ v. over b (λ w. rule v w))

abbrev pub choice : Option Value → Option Value → Option Value → Option Value
choice c a b = over c (λ t. both (chosen t) a b)

-- document 01's `(or)` and `(or t)`, of which SMT-LIB says nothing: false, and that test
abbrev pub any_of : List Meant → Option Value
any_of [] = Some (v_bool false)
any_of (m ∷ []) = m None
any_of (m ∷ n ∷ ms) = both either (m None) (any_of (n ∷ ms))

-- an application by its parts' meanings, its head's among them; branches are expected to be what the whole is
abbrev pub ite_of : List Meant → Meant
ite_of [] e = None
ite_of (h ∷ []) e = None
ite_of (h ∷ c ∷ []) e = None
ite_of (h ∷ c ∷ a ∷ []) e = None
ite_of (h ∷ c ∷ a ∷ b ∷ []) e = choice (c None) (a e) (b e)
ite_of (h ∷ c ∷ a ∷ b ∷ d ∷ ms) e = None

-- R-2: of one operand, of two, of which nothing is expected; with another count of them no meaning
abbrev pub one_of : (Value → Option Value) → List Meant → Option Value
one_of rule [] = None
one_of rule (h ∷ []) = None
one_of rule (h ∷ a ∷ []) = over (a None) rule
one_of rule (h ∷ a ∷ b ∷ ms) = None

abbrev pub two_of : (Value → Value → Option Value) → List Meant → Option Value
two_of rule [] = None
two_of rule (h ∷ []) = None
two_of rule (h ∷ a ∷ []) = None
two_of rule (h ∷ a ∷ b ∷ []) = both rule (a None) (b None)
two_of rule (h ∷ a ∷ b ∷ c ∷ ms) = None

abbrev pub or_of : List Meant → Option Value
or_of [] = None
or_of (h ∷ ms) = any_of ms

-- SMT-LIB's operators: document 01's three, and R-2's
abbrev pub operated : List ℕ → List Meant → Option ℕ → Option Value → Option Value
operated word ms e else =
    cond (is word "ite") (ite_of ms e)
    (cond (is word "=") (two_of (λ v w. Some (equals v w)) ms)
    (cond (is word "or") (or_of ms)
    (cond (is word "not") (one_of (λ v. negated v) ms)
    (cond (is word "bvnego") (one_of (λ v. bvnego v) ms)
    (cond (is word "bvsaddo") (two_of (λ v w. bvsaddo v w) ms)
    (cond (is word "bvsmulo") (two_of (λ v w. bvsmulo v w) ms)
    else))))))

-- by its head; what is headed by no operator is a literal
abbrev pub headed : Trees → List Meant → Option ℕ → Option Value → Option Value
headed nil ms e else = else
headed (cons h us) ms e else = on_symbol h else (λ word. operated word ms e else)

-- R-2: operators inside a literal are worked out, or it has no value
module _ (worked : Bool) where
  -- a literal has its value where the argument is not in it
  abbrev pub literal : Tables → List ℕ → Tree → Meant
  literal T x t e = cond (mentions t x) None (value_of (read_with T worked levels e t))

  -- what a term means where x is the argument's name and v its value
  unfoldable mutual
    pub meaning_with : Tree → Tables → List ℕ → Value → Meant
    meaning_with (bit_vec w n) T x v e = literal T x (bit_vec w n) e
    meaning_with (numeral n) T x v e = literal T x (numeral n) e
    meaning_with (string s) T x v e = literal T x (string s) e
    meaning_with (symbol s) T x v e = cond (same_name s x) (Some v) (literal T x (symbol s) e)
    meaning_with (app us) T x v e = headed us (meanings_with us T x v) e (literal T x (app us) e)

    pub meanings_with : Trees → Tables → List ℕ → Value → List Meant
    meanings_with nil T x v = []
    meanings_with (cons u us) T x v = (λ e. meaning_with u T x v e) ∷ meanings_with us T x v

-- as document 01 has it, no operator in a literal
abbrev pub meaning : Tree → Tables → List ℕ → Value → Meant
meaning t T x v e = meaning_with false t T x v e

abbrev pub meanings : Trees → Tables → List ℕ → Value → List Meant
meanings us T x v = meanings_with false us T x v
