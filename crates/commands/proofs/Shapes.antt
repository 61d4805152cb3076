-- What the shapes of a pair, of a command, of a test and of a body say of the trees.
-- Assumes nothing.
use Rattle.std.proofs.Common.{None, Option, Some}
use mathlib.Core.Path.{◌≡◌, sym, ap, ap₂, subst}
use mathlib.Core.Bool.{true, true≢false}
use mathlib.Core.List.{List}
use Prim.Native.Nat.{ℕ}
use lib.ListN.{get_or}
use Rattle.ground.specs.Bytes.{bytes}
use Rattle.ground.proofs.Tests.{by_test}
use Rattle.arena.specs.Tree.{Tree, Trees, bit_vec, numeral, string, symbol, app, nil, cons}
use Rattle.arena.proofs.Texts.{same-equal}
use Rattle.tables.proofs.Places.{none-some, some_one}
use Rattle.shapes.specs.Shape.{is}
use Rattle.commands.specs.Pair.{Pair, pair_of, two, pair}
use Rattle.commands.specs.Command.{Command, variable, function, misshapen, argument, arguments, parts, command, Chain, default, arm, link, chain, chains, headed_or, tests, is_argument, operand, key}

-- (NAME VALUE), (ARG SORT)
pub data PairView : Tree → Option Pair → Type 0 where
  p_pair : {name : List ℕ} {t : Tree} → PairView (app (cons (symbol name) (cons t nil))) (Some (pair_of name t))
  p_none : {t : Tree} → PairView t None

two-view : (us : Trees) → PairView (app us) (two us)
two-view nil = p_none
two-view (cons a nil) = p_none
two-view (cons (bit_vec w n) (cons t nil)) = p_none
two-view (cons (numeral n) (cons t nil)) = p_none
two-view (cons (string s) (cons t nil)) = p_none
two-view (cons (symbol x) (cons t nil)) = p_pair
two-view (cons (app us) (cons t nil)) = p_none
two-view (cons a (cons t (cons u us))) = p_none

pub pair-view : (t : Tree) → PairView t (pair t)
pair-view (bit_vec w n) = p_none
pair-view (numeral n) = p_none
pair-view (string s) = p_none
pair-view (symbol s) = p_none
pair-view (app us) = two-view us

-- (define-fun NAME PARAMETERS SORT BODY)
abbrev pub define : List ℕ → Trees → Tree → Tree → Tree
define name us sort body = app (cons (symbol (bytes "define-fun")) (cons (symbol name) (cons (app us) (cons sort (cons body nil)))))

pub data CommandView : Tree → Command → Type 0 where
  c_variable : {name : List ℕ} {sort t : Tree} → CommandView (define name nil sort t) (variable name sort t)
  c_function : {name x : List ℕ} {arg_sort sort body : Tree} →
      CommandView (define name (cons (app (cons (symbol x) (cons arg_sort nil))) nil) sort body) (function name x arg_sort sort body)
  c_misshapen : {t : Tree} → CommandView t misshapen

module _ (name : List ℕ) (sort body : Tree) where
  argument-view : (a : Tree) (p : Option Pair) → PairView a p → CommandView (define name (cons a nil) sort body) (argument name p sort body)
  argument-view _ _ p_pair = c_function
  argument-view _ _ p_none = c_misshapen

  arguments-view : (us : Trees) → CommandView (define name us sort body) (arguments name us sort body)
  arguments-view nil = c_variable
  arguments-view (cons a nil) = argument-view a (pair a) (pair-view a)
  arguments-view (cons a (cons b us)) = c_misshapen

five-view : (a b c sort body : Tree) → CommandView (app (cons a (cons b (cons c (cons sort (cons body nil)))))) (parts (cons a (cons b (cons c (cons sort (cons body nil))))))
five-view (bit_vec w n) b c sort body = c_misshapen
five-view (numeral n) b c sort body = c_misshapen
five-view (string s) b c sort body = c_misshapen
five-view (symbol word) (bit_vec w n) c sort body = c_misshapen
five-view (symbol word) (numeral n) c sort body = c_misshapen
five-view (symbol word) (string s) c sort body = c_misshapen
five-view (symbol word) (symbol name) (bit_vec w n) sort body = c_misshapen
five-view (symbol word) (symbol name) (numeral n) sort body = c_misshapen
five-view (symbol word) (symbol name) (string s) sort body = c_misshapen
five-view (symbol word) (symbol name) (symbol s) sort body = c_misshapen
five-view (symbol word) (symbol name) (app us) sort body =
    by_test (is word "define-fun") (λ h. rw h (rw (same-equal word _ h) (arguments-view name sort body us))) (λ h. rw h c_misshapen)
five-view (symbol word) (app us) c sort body = c_misshapen
five-view (app us) b c sort body = c_misshapen

parts-view : (us : Trees) → CommandView (app us) (parts us)
parts-view nil = c_misshapen
parts-view (cons a nil) = c_misshapen
parts-view (cons a (cons b nil)) = c_misshapen
parts-view (cons a (cons b (cons c nil))) = c_misshapen
parts-view (cons a (cons b (cons c (cons d nil)))) = c_misshapen
parts-view (cons a (cons b (cons c (cons d (cons e nil))))) = five-view a b c d e
parts-view (cons a (cons b (cons c (cons d (cons e (cons f us)))))) = c_misshapen

pub command-view : (t : Tree) → CommandView t (command t)
unfolding command
command-view (bit_vec w n) = c_misshapen
command-view (numeral n) = c_misshapen
command-view (string s) = c_misshapen
command-view (symbol s) = c_misshapen
command-view (app us) = parts-view us

-- (= a b)
abbrev pub same : Tree → Tree → Tree
same a b = app (cons (symbol (bytes "=")) (cons a (cons b nil)))

-- a test and its key
pub data TestView (x : List ℕ) : Tree → Tree → Type 0 where
  t-left : {k : Tree} → TestView x (same (symbol x) k) k
  t-right : {k : Tree} → TestView x (same k (symbol x)) k

module _ (x : List ℕ) where
  argument_is : (t : Tree) → is_argument x t ≡ true → t ≡ symbol x
  argument_is (bit_vec w n) e = absurd (true≢false (sym e))
  argument_is (numeral n) e = absurd (true≢false (sym e))
  argument_is (string s) e = absurd (true≢false (sym e))
  argument_is (symbol s) e = ap symbol (same-equal s x e)
  argument_is (app us) e = absurd (true≢false (sym e))

  operand-view : (us : Trees) (k : Tree) → operand x us ≡ Some k → TestView x (app us) k
  operand-view nil k e = absurd (none-some e)
  operand-view (cons a nil) k e = absurd (none-some e)
  operand-view (cons a (cons b nil)) k e = absurd (none-some e)
  operand-view (cons (bit_vec w n) (cons b (cons c nil))) k e = absurd (none-some e)
  operand-view (cons (numeral n) (cons b (cons c nil))) k e = absurd (none-some e)
  operand-view (cons (string s) (cons b (cons c nil))) k e = absurd (none-some e)
  operand-view (cons (symbol word) (cons b (cons c nil))) k e =
      by_test (is word "=")
      (λ h. by_test (is_argument x b)
      (λ p. subst (TestView x _) (some_one (rw (h, p) at e)) (rw (same-equal word _ h, argument_is b p) t-left))
      (λ p. by_test (is_argument x c)
      (λ q. subst (TestView x _) (some_one (rw (h, p, q) at e)) (rw (same-equal word _ h, argument_is c q) t-right))
      (λ q. absurd (none-some (rw (h, p, q) at e)))))
      (λ h. absurd (none-some (rw h at e)))
  operand-view (cons (app us) (cons b (cons c nil))) k e = absurd (none-some e)
  operand-view (cons a (cons b (cons c (cons d us)))) k e = absurd (none-some e)

  pub key-view : (t k : Tree) → key x t ≡ Some k → TestView x t k
  unfolding key
  key-view (bit_vec w n) k e = absurd (none-some e)
  key-view (numeral n) k e = absurd (none-some e)
  key-view (string s) k e = absurd (none-some e)
  key-view (symbol s) k e = absurd (none-some e)
  key-view (app us) k e = operand-view us k e

-- a list of tests
headed_or_lem : (vs us : Trees) → headed_or vs ≡ Some us → vs ≡ cons (symbol (bytes "or")) us
headed_or_lem nil us e = absurd (none-some e)
headed_or_lem (cons (bit_vec w n) vs) us e = absurd (none-some e)
headed_or_lem (cons (numeral n) vs) us e = absurd (none-some e)
headed_or_lem (cons (string s) vs) us e = absurd (none-some e)
headed_or_lem (cons (symbol word) vs) us e =
    by_test (is word "or")
    (λ h. ap₂ (λ (s : List ℕ) (ts : Trees). cons (symbol s) ts) (same-equal word (bytes "or") h) (some_one (rw h at e)))
    (λ h. absurd (none-some (rw h at e)))
headed_or_lem (cons (app ts) vs) us e = absurd (none-some e)

pub tests-view : (t : Tree) (us : Trees) → tests t ≡ Some us → t ≡ app (cons (symbol (bytes "or")) us)
unfolding tests
tests-view (bit_vec w n) us e = absurd (none-some e)
tests-view (numeral n) us e = absurd (none-some e)
tests-view (string s) us e = absurd (none-some e)
tests-view (symbol s) us e = absurd (none-some e)
tests-view (app vs) us e = ap app (headed_or_lem vs us e)

-- (ite TEST VALUE REST)
abbrev pub ite : Tree → Tree → Tree → Tree
ite test value rest = app (cons (symbol (bytes "ite")) (cons test (cons value (cons rest nil))))

-- what holds of a body and its chain, by its arms
module _ (P : Tree → Chain → Type 0) (ends : (t : Tree) → P t (default t)) (arms : (test value rest : Tree) → P rest (chain rest) → P (ite test value rest) (arm test value (chain rest))) where
  abbrev Each : Trees → Type 0
  Each nil = Unit {0}
  Each (cons t us) = P t (chain t) × Each us

  four : (a b c d : Tree) → P d (chain d) → P (app (cons a (cons b (cons c (cons d nil))))) (link (cons a (cons b (cons c (cons d nil)))) (chain d) (default (app (cons a (cons b (cons c (cons d nil)))))))
  four (bit_vec w n) b c d p = ends _
  four (numeral n) b c d p = ends _
  four (string s) b c d p = ends _
  four (symbol word) b c d p = by_test (is word "ite") (λ h. rw h (rw (same-equal word _ h) (arms b c d p))) (λ h. rw h (ends _))
  four (app us) b c d p = ends _

  linked : (us : Trees) → Each us → P (app us) (link us (get_or (chains us) 3 (default (app us))) (default (app us)))
  unfolding chain
  linked nil p = ends _
  linked (cons a nil) p = ends _
  linked (cons a (cons b nil)) p = ends _
  linked (cons a (cons b (cons c nil))) p = ends _
  linked (cons a (cons b (cons c (cons d nil)))) p = four a b c d p.1.1.1.0
  linked (cons a (cons b (cons c (cons d (cons e us))))) p = ends _

  mutual
    unfolding chain

    pub chain_by : (t : Tree) → P t (chain t)
    chain_by (bit_vec w n) = ends _
    chain_by (numeral n) = ends _
    chain_by (string s) = ends _
    chain_by (symbol s) = ends _
    chain_by (app us) = linked us (chains-by us)

    chains-by : (us : Trees) → Each us
    chains-by nil = tt
    chains-by (cons t us) = (chain_by t, chains-by us)
