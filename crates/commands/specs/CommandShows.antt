-- Document 01, "The model walk": what a command found in the arena says of the tree that stands there; any other shape is 13.
use Rattle.std.specs.Prelude.{◌≡◌, List, ℕ, Err, Ok, Result}
use Rattle.refusals.specs.declared.Refusal.TheVariants.{UnexpectedModel}
use Rattle.arena.specs.Node.{after_at}
use Rattle.arena.specs.Tree.{Tree, Trees, nil, cons}
use Rattle.shapes.specs.Shows.{Standing, StandingAll, Reads}
use Rattle.commands.specs.declared.command.CommandFound.{CommandFound}
use Rattle.commands.specs.Command.{Command, variable, function, misshapen, arguments, parts, command}
use Rattle.refusals.specs.declared.Refusal.{Refusal}

abbrev pub CommandShows : List ℕ → List ℕ → Result CommandFound Refusal → Command → Type 0
CommandShows ws ts (Ok (CommandFound.Variable size offset sort value)) s =
    (name : List ℕ) × (t : Tree) × (v : Tree) × (s ≡ variable name t v) × Reads name ts offset size × Standing t ws ts sort × Standing v ws ts value
CommandShows ws ts (Ok (CommandFound.Function size offset arg_size arg_offset arg_sort sort body)) s =
    (name : List ℕ) × (x : List ℕ) × (a : Tree) × (t : Tree) × (b : Tree) × (s ≡ function name x a t b)
    × Reads name ts offset size × Reads x ts arg_offset arg_size × Standing a ws ts arg_sort × Standing t ws ts sort × Standing b ws ts body
CommandShows ws ts (Err why) s = (s ≡ misshapen) × (why ≡ UnexpectedModel)

abbrev pub CommandAt : List ℕ → List ℕ → ℕ → Result CommandFound Refusal → Type 0
CommandAt ws ts i r = (t : Tree) → Standing t ws ts i → CommandShows ws ts r (command t)

-- the command whose five parts stand from the node on
abbrev pub FiveAt : List ℕ → List ℕ → ℕ → Result CommandFound Refusal → Type 0
FiveAt ws ts i r =
    (a b c d e : Tree) → StandingAll (cons a (cons b (cons c (cons d (cons e nil))))) ws ts i 5 → CommandShows ws ts r (parts (cons a (cons b (cons c (cons d (cons e nil))))))

-- the command whose name, sort and body are known, where the list of arguments stands from the node on
abbrev pub ArgumentsAt : List ℕ → ℕ → ℕ → ℕ → ℕ → ℕ → ℕ → Result CommandFound Refusal → Type 0
ArgumentsAt ws size offset first many sort body r =
    (ts name : List ℕ) (us : Trees) (t b : Tree) → Reads name ts offset size → StandingAll us ws ts first many → Standing t ws ts sort → Standing b ws ts body →
    CommandShows ws ts r (arguments name us t b)

-- the node of its last part: a variable's value, a function's body
abbrev pub LastAt : ℕ → Result CommandFound Refusal → Type 0
LastAt i (Ok (CommandFound.Variable size offset sort value)) = value ≡ i
LastAt i (Ok (CommandFound.Function size offset arg_size arg_offset arg_sort sort body)) = body ≡ i
LastAt i (Err why) = Unit {0}

-- the fifth of the trees that stand one after the other from the node on
abbrev pub fifth : List ℕ → ℕ → ℕ
fifth ws i = after_at ws (after_at ws (after_at ws (after_at ws i)))
