-- The same for the lines of a script: none is as long as 2 ^ 56.
-- Assumes nothing.
use mathlib.Core.Path.{◌≡◌, refl, ap}
use mathlib.Core.Bool.{Bool, true, false, cond, ◌&&◌}
use mathlib.Core.List.{List, [], ◌∷◌, ◌++◌, map}
use Prim.Native.Nat.{ℕ, ◌+◌, ◌%◌, ◌^◌, ◌≤◌, ◌<◌}
use native.Mathlib.Omega.{arith}
use lib.Dec.{leb, eqb}
use lib.ListN.{length}
use Rattle.ground.specs.Bytes.{bytes}
use Rattle.ground.specs.Lists.{joined}
use Rattle.ground.proofs.Tests.{by_test, both-parts}
use Rattle.refusals.specs.declared.Refusal.TheVariants.{OutRoom}
use Rattle.lent.specs.Left.{writing}
use Rattle.refusals.specs.Limit.{input_limit}
use Rattle.parts.specs.Limit.{too_long}
use Rattle.parts.specs.Parts.{parts, paired, ends_right, pairs_right}
use Rattle.parts.specs.Texts.{spaced, pair}
use Rattle.parts.proofs.Limits.{Short, all_short}
use Rattle.parts.proofs.Spaces.{length-spaced}
use Rattle.parts.proofs.Sizes.{long-then, joined-long, pairs-long, last_within, gap_small}
use Rattle.parts.proofs.Rises.{even-of}
use Rattle.script.specs.Script.{scripted}
use Rattle.script.specs.Line.{set_logic, set_option, comment, assert, define_fun, declare_const, declare_fun, indent, declare_datatype, check_sat, get_model, reset, exit}
use Rattle.script.proofs.Lines.{check_sat_line, get_model-line, reset-line, exit_line, set_logic_line, assert-line, set_option_line, declare_const_line}
use Rattle.script.proofs.Lengths.{one-long, two-long, declare_fun_long, define_fun_long, datatype_long}
use Rattle.told.specs.Yields.{written}
use Rattle.stazzumpi.proofs.Needs.{Small}

abbrev Few : List ℕ → Type 0
Few line = length line < 2 ^ 56

writing-small : (line buffer : List ℕ) → Few line → Small (written (writing OutRoom line buffer).answer)
unfolding writing
writing-small line buffer h = by_test (leb (length line) (length buffer)) (λ t. rw t tt) (λ t. rw t h)

scripted-small : (inputs : List (List ℕ)) (right : Bool) (line buffer : List ℕ) → (Short inputs → right ≡ true → Few line) → Small (written (scripted inputs right line buffer).answer)
unfolding scripted
scripted-small inputs right line buffer f =
    by_test (too_long inputs) (λ t. rw t (omega arith))
    (λ t.
    rw t (by_test right (λ u. rw u (writing-small line buffer (f (all_short inputs t) u))) (λ u. rw u (omega arith))))

pub check_sat_small : (d : List ℕ) → Small (written (writing OutRoom check_sat d).answer)
check_sat_small d = writing-small check_sat d (omega (arith, ap length check_sat_line))

pub get_model-small : (d : List ℕ) → Small (written (writing OutRoom get_model d).answer)
get_model-small d = writing-small get_model d (omega (arith, ap length get_model-line))

pub reset-small : (d : List ℕ) → Small (written (writing OutRoom reset d).answer)
reset-small d = writing-small reset d (omega (arith, ap length reset-line))

pub exit_small : (d : List ℕ) → Small (written (writing OutRoom exit d).answer)
exit_small d = writing-small exit d (omega (arith, ap length exit_line))

-- a head, and one part or two
one-few : (head part line : List ℕ) → length head ≤ 32 → length part ≤ input_limit → head ++ (part ++ bytes ")\n") ≡ line → Few line
one-few head part line h p e = omega (arith, one-long head part, ap length e)

two-few : (head a b line : List ℕ) → length head ≤ 32 → length a ≤ input_limit → length b ≤ input_limit → head ++ (a ++ (bytes " " ++ (b ++ bytes ")\n"))) ≡ line → Few line
two-few head a b line h p q e = omega (arith, two-long head a b, ap length e)

pub set_logic_small : (a d : List ℕ) → Small (written (scripted (a ∷ []) true (set_logic a) d).answer)
set_logic_small a d = scripted-small _ _ _ _ (λ s r. one-few (bytes "(set-logic ") a (set_logic a) (omega arith) s.0 (set_logic_line a))

pub assert-small : (a d : List ℕ) → Small (written (scripted (a ∷ []) true (assert a) d).answer)
assert-small a d = scripted-small _ _ _ _ (λ s r. one-few (bytes "(assert ") a (assert a) (omega arith) s.0 (assert-line a))

pub set_option_small : (a b d : List ℕ) → Small (written (scripted (a ∷ b ∷ []) true (set_option a b) d).answer)
set_option_small a b d =
    scripted-small _ _ _ _ (λ s r. two-few (bytes "(set-option :") a b (set_option a b) (omega arith) s.0 s.1.0 (set_option_line a b))

pub declare_const_small : (a b d : List ℕ) → Small (written (scripted (a ∷ b ∷ []) true (declare_const a b) d).answer)
declare_const_small a b d =
    scripted-small _ _ _ _ (λ s r. two-few (bytes "(declare-const ") a b (declare_const a b) (omega arith) s.0 s.1.0 (declare_const_line a b))

comment-few : (a : List ℕ) → length a ≤ input_limit → Few (comment a)
unfolding comment
comment-few a h = omega (arith, length-spaced a, long-then (map spaced a) (bytes "\n") 1 refl)

pub comment-small : (a d : List ℕ) → Small (written (scripted (a ∷ []) true (comment a) d).answer)
comment-small a d = scripted-small _ _ _ _ (λ s r. comment-few a s.0)

-- lists of parts
joined-few : (separator string ends : List ℕ) → length separator ≤ 3 → length string ≤ input_limit → length ends ≤ input_limit → ends_right string ends ≡ true → length (joined separator (parts string ends)) ≤ 67108864
joined-few separator string ends g s e r =
    omega (
      arith,
      joined-long separator string ends r,
      last_within (length string) 0 ends (omega arith) r,
      gap_small (length ends) (length separator) e g,
    )

pairs-few : (string ends : List ℕ) → length string ≤ input_limit → length ends ≤ input_limit → pairs_right string ends ≡ true → length (joined (bytes " ") (paired pair (parts string ends))) ≤ 67108864
pairs-few string ends s e r =
    let p = both-parts (ends_right string ends) (eqb (length ends % 2) 0) r in
    omega (arith, pairs-long string ends p.0 (even-of ends p.1), last_within (length string) 0 ends (omega arith) p.0)

pub declare_fun_small : (name string ends sort d : List ℕ)
    → Small (written (scripted (name ∷ string ∷ ends ∷ sort ∷ []) (ends_right string ends) (declare_fun name (parts string ends) sort) d).answer)
declare_fun_small name string ends sort d =
    scripted-small _ _ _ _
    (λ s r.
    omega (
      arith,
      s.0,
      s.1.1.1.0,
      joined-few (bytes " ") string ends (omega arith) s.1.0 s.1.1.0 r,
      declare_fun_long name (parts string ends) sort _ refl,
    ))

pub define_fun_small : (name string ends sort body d : List ℕ)
    → Small (written (scripted (name ∷ string ∷ ends ∷ sort ∷ body ∷ []) (pairs_right string ends) (define_fun name (parts string ends) sort body) d).answer)
define_fun_small name string ends sort body d =
    scripted-small _ _ _ _
    (λ s r.
    omega (
      arith,
      s.0,
      s.1.1.1.0,
      s.1.1.1.1.0,
      pairs-few string ends s.1.0 s.1.1.0 r,
      define_fun_long name (parts string ends) sort body _ refl,
    ))

datatype_few : (name : List ℕ) (ps cs : List (List ℕ)) → length name ≤ input_limit → length (joined (bytes " ") ps) ≤ 67108864 → length (joined indent cs) ≤ 67108864 → Few (declare_datatype name ps cs)
datatype_few name ps cs n p c =
    let inner = length (joined (bytes " ") ps) in
    let rows = length (joined indent cs) in
    at_most (eqb inner 0) (datatype_long name ps cs inner rows _ refl refl refl)
  where
    at_most : (t : Bool) → cond t (length name + length (joined indent cs) + 26) (length name + length (joined (bytes " ") ps) + length (joined indent cs) + 35) ≡ length (declare_datatype name ps cs)
        → Few (declare_datatype name ps cs)
    at_most true e = omega (arith, n, p, c, e)
    at_most false e = omega (arith, n, p, c, e)

pub declare_datatype_small : (name ps pe cs ce d : List ℕ)
    → Small (written (scripted (name ∷ ps ∷ pe ∷ cs ∷ ce ∷ []) (ends_right ps pe && ends_right cs ce) (declare_datatype name (parts ps pe) (parts cs ce)) d).answer)
declare_datatype_small name ps pe cs ce d =
    scripted-small _ _ _ _
    (λ s r.
    let b = both-parts (ends_right ps pe) (ends_right cs ce) r in
    datatype_few name (parts ps pe) (parts cs ce) s.0
    (joined-few (bytes " ") ps pe (omega arith) s.1.0 s.1.1.0 b.0)
    (joined-few indent cs ce (omega arith) s.1.1.1.0 s.1.1.1.1.0 b.1))
