-- Document 01, "The listing": the bytes of the last definitions, and the need, which is the same text with repeats kept.
use Rattle.std.specs.Prelude.{true, List, [], ◌∷◌, ◌++◌, map, ℕ, suc, ◌+◌, length, None, Option, Some}
use Prim.Native.String.{String}
use Rattle.ground.specs.Bytes.{bytes}
use Rattle.order.specs.Order.{arranged}
use Rattle.decimals.specs.Decimal.{decimal}
use Rattle.tables.specs.Sort.{Variable, Function, Tables}
use Rattle.values.specs.Normal.{normal}
use Rattle.values.specs.Text.{text}
use Rattle.values.specs.Value.{Value}
use Rattle.model.specs.Model.{Arm, Table, arm_of, table_of, Definition, is_variable, is_function, last_variable, last_function}

-- NAME=TEXT and the end of the line
abbrev pub line : String → List ℕ → List ℕ
line name s = bytes name ++ (bytes "=" ++ (s ++ bytes "\n"))

abbrev pub arm_lines : List Arm → List ℕ
arm_lines [] = []
arm_lines (a ∷ as') = line "when" (text a.«when») ++ (line "then" (text a.«then») ++ arm_lines as')

abbrev pub variable_lines : Variable → Option Value → List ℕ
variable_lines v None = []
variable_lines v (Some x) = line "var" v.name ++ (line "sort" (decimal v.sort) ++ line "value" (text x))

abbrev pub function_lines : Function → Option Table → List ℕ
function_lines f None = []
function_lines f (Some t) =
    line "fun" f.name ++ (line "arg" (decimal f.argument) ++ (line "out" (decimal f.result) ++ (arm_lines t.arms ++ line "else" (text t.«else»))))

module _ (ds : List Definition) where
  -- the rows from the first on, in table order
  abbrev pub variables_from : ℕ → List Variable → List ℕ
  variables_from i [] = []
  variables_from i (v ∷ vs) = variable_lines v (last_variable i ds) ++ variables_from (suc i) vs

  abbrev pub functions_from : ℕ → List Function → List ℕ
  functions_from i [] = []
  functions_from i (f ∷ fs) = function_lines f (last_function i ds) ++ functions_from (suc i) fs

  -- how many are defined, each once
  abbrev pub one : {A : Type 0} → Option A → ℕ
  one None = 0
  one (Some a) = 1

  abbrev pub variable_count : ℕ → List Variable → ℕ
  variable_count i [] = 0
  variable_count i (v ∷ vs) = one (last_variable i ds) + variable_count (suc i) vs

  abbrev pub function_count : ℕ → List Function → ℕ
  function_count i [] = 0
  function_count i (f ∷ fs) = one (last_function i ds) + function_count (suc i) fs

  -- the definitions as they stand, repeats kept
  unfoldable pub rendered : Tables → List ℕ
  rendered T =
      line "vars" (decimal (variable_count 0 T.variables))
      ++ (line "funs" (decimal (function_count 0 T.functions))
      ++ (variables_from 0 T.variables
      ++ functions_from 0 T.functions))

abbrev pub normal_arm : Arm → Arm
normal_arm a = arm_of (normal a.«when») (normal a.«then»)

-- arms ascend by the bytes of the key's text; a later arm with an equal key replaces an earlier one
abbrev pub settled_table : Table → Table
settled_table t = table_of (arranged (λ a. text a.«when») true (map normal_arm t.arms)) (normal t.«else»)

abbrev pub settled : Definition → Definition
settled (is_variable i v) = is_variable i (normal v)
settled (is_function i t) = is_function i (settled_table t)

unfoldable pub listing : Tables → List Definition → List ℕ
listing T ds = rendered (map settled ds) T

unfoldable pub need : Tables → List Definition → ℕ
need T ds = length (rendered ds T)
