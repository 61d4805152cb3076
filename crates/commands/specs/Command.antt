-- Document 01, "The model walk": the shapes of commands, of function bodies and of tests, matched and nothing read.
use Rattle.std.specs.Prelude.{Bool, false, cond, List, [], ◌∷◌, ℕ, get_or, None, Option, Some}
use Rattle.arena.specs.Text.{same_text}
use Rattle.arena.specs.Tree.{Tree, Trees, bit_vec, numeral, string, symbol, app, nil, cons}
use Rattle.shapes.specs.Shape.{is, on_symbol, on_app}
use Rattle.commands.specs.Pair.{Pair, pair}

-- (define-fun NAME () SORT VALUE), (define-fun NAME ((ARG SORT)) SORT BODY), or any other shape
pub data Command : Type 0 where
  variable : List ℕ → Tree → Tree → Command
  function : List ℕ → List ℕ → Tree → Tree → Tree → Command
  misshapen : Command

-- (ARG SORT)
abbrev pub argument : List ℕ → Option Pair → Tree → Tree → Command
argument name None sort body = misshapen
argument name (Some p) sort body = function name p.name p.second sort body

-- () or ((ARG SORT))
abbrev pub arguments : List ℕ → Trees → Tree → Tree → Command
arguments name nil sort body = variable name sort body
arguments name (cons a nil) sort body = argument name (pair a) sort body
arguments name (cons a (cons b us)) sort body = misshapen

abbrev pub parts : Trees → Command
parts nil = misshapen
parts (cons a nil) = misshapen
parts (cons a (cons b nil)) = misshapen
parts (cons a (cons b (cons c nil))) = misshapen
parts (cons a (cons b (cons c (cons d nil)))) = misshapen
parts (cons a (cons b (cons c (cons d (cons e nil))))) =
    on_symbol a misshapen (λ word. on_symbol b misshapen (λ name. on_app c misshapen (λ us. cond (is word "define-fun") (arguments name us d e) misshapen)))
parts (cons a (cons b (cons c (cons d (cons e (cons f us)))))) = misshapen

unfoldable pub command : Tree → Command
command t = on_app t misshapen parts

-- arms (ite TEST VALUE REST), by repetition, up to a default
pub data Chain : Type 0 where
  default : Tree → Chain
  arm : Tree → Tree → Chain → Chain

abbrev pub link : Trees → Chain → Chain → Chain
link nil rest whole = whole
link (cons a nil) rest whole = whole
link (cons a (cons b nil)) rest whole = whole
link (cons a (cons b (cons c nil))) rest whole = whole
link (cons a (cons b (cons c (cons d nil)))) rest whole = on_symbol a whole (λ word. cond (is word "ite") (arm b c rest) whole)
link (cons a (cons b (cons c (cons d (cons e us))))) rest whole = whole

-- the fourth part's chain is what follows an arm
unfoldable mutual
  pub chain : Tree → Chain
  chain (bit_vec w n) = default (bit_vec w n)
  chain (numeral n) = default (numeral n)
  chain (string s) = default (string s)
  chain (symbol s) = default (symbol s)
  chain (app us) = link us (get_or (chains us) 3 (default (app us))) (default (app us))

  pub chains : Trees → List Chain
  chains nil = []
  chains (cons t us) = chain t ∷ chains us

-- a body headed `or` is a list of tests
abbrev pub headed_or : Trees → Option Trees
headed_or nil = None
headed_or (cons h us) = on_symbol h None (λ word. cond (is word "or") (Some us) None)

unfoldable pub tests : Tree → Option Trees
tests t = on_app t None headed_or

-- the tree is the argument's name, bars kept
abbrev pub is_argument : List ℕ → Tree → Bool
is_argument x t = on_symbol t false (λ s. same_text s x)

-- the key of a test: of (= ARG v), or else of (= v ARG)
abbrev pub operand : List ℕ → Trees → Option Tree
operand x nil = None
operand x (cons a nil) = None
operand x (cons a (cons b nil)) = None
operand x (cons a (cons b (cons c nil))) = on_symbol a None (λ word. cond (is word "=") (cond (is_argument x b) (Some c) (cond (is_argument x c) (Some b) None)) None)
operand x (cons a (cons b (cons c (cons d us)))) = None

unfoldable pub key : List ℕ → Tree → Option Tree
key x t = on_app t None (λ us. operand x us)
