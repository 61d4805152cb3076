-- Each line as the pieces that are written one after the other.
-- Assumes nothing.
use mathlib.Core.Path.{◌≡◌, refl, sym, ap, ◌∙◌}
use mathlib.Core.List.{List, ◌++◌, map, append_assoc}
use Prim.Native.Nat.{ℕ}
use Rattle.ground.specs.Bytes.{bytes}
use Rattle.ground.specs.Lists.{joined}
use Rattle.parts.specs.Parts.{paired}
use Rattle.parts.specs.Texts.{list, pair, spaced}
use Rattle.script.specs.Line.{set_logic, set_option, comment, assert, define_fun, declare_const, declare_fun, indent, constructor_list, parametric, datatype_line, check_sat, get_model, reset, exit}

pub check_sat_line : bytes "(check-sat)\n" ≡ check_sat
unfolding check_sat joined
check_sat_line = refl

pub get_model-line : bytes "(get-model)\n" ≡ get_model
unfolding get_model joined
get_model-line = refl

pub reset-line : bytes "(reset)\n" ≡ reset
unfolding reset joined
reset-line = refl

pub exit_line : bytes "(exit)\n" ≡ exit
unfolding exit joined
exit_line = refl

pub comment-line : (text : List ℕ) → bytes "; " ++ (map spaced text ++ bytes "\n") ≡ comment text
unfolding comment
comment-line text = refl

-- the bracket and the line feed behind the last part
close-one : (a : List ℕ) → a ++ bytes ")\n" ≡ a ++ bytes ")" ++ bytes "\n"
close-one a = sym (append_assoc a (bytes ")") (bytes "\n"))

close-two : (a b : List ℕ) → a ++ (bytes " " ++ (b ++ bytes ")\n")) ≡ (a ++ (bytes " " ++ b)) ++ bytes ")" ++ bytes "\n"
close-two a b = sym (append_assoc a (bytes " " ++ b) (bytes ")\n")) ∙ close-one (a ++ (bytes " " ++ b))

pub set_logic_line : (logic : List ℕ) → bytes "(set-logic " ++ (logic ++ bytes ")\n") ≡ set_logic logic
unfolding set_logic joined
set_logic_line logic = ap (λ (l : List ℕ). bytes "(set-logic " ++ l) (close-one logic)

pub assert-line : (term : List ℕ) → bytes "(assert " ++ (term ++ bytes ")\n") ≡ assert term
unfolding assert joined
assert-line term = ap (λ (l : List ℕ). bytes "(assert " ++ l) (close-one term)

pub set_option_line : (option value : List ℕ) → bytes "(set-option :" ++ (option ++ (bytes " " ++ (value ++ bytes ")\n"))) ≡ set_option option value
unfolding set_option joined
set_option_line option value = ap (λ (l : List ℕ). bytes "(set-option :" ++ l) (close-two option value)

pub declare_const_line : (name sort : List ℕ) → bytes "(declare-const " ++ (name ++ (bytes " " ++ (sort ++ bytes ")\n"))) ≡ declare_const name sort
unfolding declare_const joined
declare_const_line name sort = ap (λ (l : List ℕ). bytes "(declare-const " ++ l) (close-two name sort)

-- a list in brackets between a name and what follows
between : (name inner rest : List ℕ) → name ++ (bytes " (" ++ (inner ++ (bytes ") " ++ rest))) ≡ name ++ (bytes " " ++ ((bytes "(" ++ (inner ++ bytes ")")) ++ (bytes " " ++ rest)))
between name inner rest = ap (λ (l : List ℕ). name ++ (bytes " (" ++ l)) (sym (append_assoc inner (bytes ")") (bytes " " ++ rest)))

pub declare_fun_line : (name : List ℕ) (arguments : List (List ℕ)) (sort : List ℕ)
    → bytes "(declare-fun " ++ (name ++ (bytes " (" ++ (joined (bytes " ") arguments ++ (bytes ") " ++ (sort ++ bytes ")\n"))))) ≡ declare_fun name arguments sort
unfolding declare_fun joined
declare_fun_line name arguments sort =
    ap (λ (l : List ℕ). bytes "(declare-fun " ++ l)
    (between name (joined (bytes " ") arguments) (sort ++ bytes ")\n")
    ∙ ap (λ (l : List ℕ). name ++ (bytes " " ++ l)) (sym (append_assoc (list arguments) (bytes " " ++ sort) (bytes ")\n")))
    ∙ sym (append_assoc name (bytes " " ++ (list arguments ++ (bytes " " ++ sort))) (bytes ")\n"))
    ∙ close-one (name ++ (bytes " " ++ (list arguments ++ (bytes " " ++ sort)))))

pub define_fun_line : (name : List ℕ) (arguments : List (List ℕ)) (sort body : List ℕ)
    → bytes "(define-fun " ++ (name ++ (bytes " (" ++ (joined (bytes " ") (paired pair arguments) ++ (bytes ") " ++ (sort ++ (bytes " " ++ (body ++ bytes ")\n"))))))) ≡ define_fun name arguments sort body
unfolding define_fun joined
define_fun_line name arguments sort body =
    ap (λ (l : List ℕ). bytes "(define-fun " ++ l)
    (between name (joined (bytes " ") (paired pair arguments)) (sort ++ (bytes " " ++ (body ++ bytes ")\n")))
    ∙ ap (λ (l : List ℕ). name ++ (bytes " " ++ (list (paired pair arguments) ++ (bytes " " ++ l)))) (sym (append_assoc sort (bytes " " ++ body) (bytes ")\n")))
    ∙ ap (λ (l : List ℕ). name ++ (bytes " " ++ l)) (sym (append_assoc (list (paired pair arguments)) (bytes " " ++ (sort ++ (bytes " " ++ body))) (bytes ")\n")))
    ∙ sym (append_assoc name (bytes " " ++ (list (paired pair arguments) ++ (bytes " " ++ (sort ++ (bytes " " ++ body))))) (bytes ")\n"))
    ∙ close-one (name ++ (bytes " " ++ (list (paired pair arguments) ++ (bytes " " ++ (sort ++ (bytes " " ++ body)))))))

-- a list of constructors, and what closes behind it
rows_then : (constructors : List (List ℕ)) (rest : List ℕ) → bytes "(\n  " ++ (joined indent constructors ++ (bytes ")" ++ rest)) ≡ constructor_list constructors ++ rest
unfolding constructor_list
rows_then constructors rest = ap (λ (l : List ℕ). bytes "(\n  " ++ l) (sym (append_assoc (joined indent constructors) (bytes ")") rest))

close_datatype : (name body : List ℕ) → bytes "(declare-datatype " ++ (name ++ (bytes " " ++ (body ++ bytes ")\n"))) ≡ datatype_line name body
unfolding joined
close_datatype name body = ap (λ (l : List ℕ). bytes "(declare-datatype " ++ l) (close-two name body)

pub bare-line : (name : List ℕ) (constructors : List (List ℕ))
    → bytes "(declare-datatype " ++ (name ++ (bytes " (\n  " ++ (joined indent constructors ++ bytes "))\n"))) ≡ datatype_line name (constructor_list constructors)
bare-line name constructors =
    ap (λ (l : List ℕ). bytes "(declare-datatype " ++ (name ++ (bytes " " ++ l))) (rows_then constructors (bytes ")\n"))
    ∙ close_datatype name (constructor_list constructors)

pub parametric-line : (name : List ℕ) (parameters constructors : List (List ℕ))
    → bytes "(declare-datatype " ++ (name ++ (bytes " (par (" ++ (joined (bytes " ") parameters ++ (bytes ") (\n  " ++ (joined indent constructors ++ bytes ")))\n"))))) ≡ datatype_line name (parametric parameters (constructor_list constructors))
unfolding joined
parametric-line name parameters constructors =
    ap (λ (l : List ℕ). bytes "(declare-datatype " ++ (name ++ (bytes " " ++ l)))
    (ap (λ (l : List ℕ). bytes "(par (" ++ l)
    (ap (λ (l : List ℕ). joined (bytes " ") parameters ++ (bytes ") " ++ l)) (rows_then constructors (bytes "))\n"))
    ∙ sym (append_assoc (joined (bytes " ") parameters) (bytes ")") (bytes " " ++ (constructor_list constructors ++ bytes "))\n"))))
    ∙ ap (λ (l : List ℕ). bytes "(par " ++ l)
    (sym (append_assoc (list parameters) (bytes " " ++ constructor_list constructors) (bytes "))\n"))
    ∙ sym (append_assoc (list parameters ++ (bytes " " ++ constructor_list constructors)) (bytes ")") (bytes ")\n"))))
    ∙ close_datatype name (parametric parameters (constructor_list constructors))
