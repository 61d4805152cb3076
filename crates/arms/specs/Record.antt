-- Document 01, "What changes shape": an arm as a record of a run, its key up to the line end, and its two lines as they are listed.
use Rattle.std.specs.Prelude.{List, [], ◌∷◌, ◌++◌, map, ℕ}
use Rattle.ground.specs.Bytes.{bytes}
use Rattle.runs.specs.Run.{end, run}
use Rattle.values.specs.Text.{text}
use Rattle.values.specs.Value.{Value}
use Rattle.model.specs.Model.{Arm}

-- the key's line, and what stands before the value
abbrev pub when_text : Value → List ℕ
when_text v = bytes "when=" ++ (text v ++ bytes "\nthen=")

unfoldable pub arm_record : Arm → List ℕ
arm_record a = when_text a.«when» ++ text a.«then»

-- one ended record, and those of all arms
abbrev pub ended : Arm → List ℕ
ended a = arm_record a ++ (end ∷ [])

abbrev pub arm_run : List Arm → List ℕ
arm_run arms = run (map arm_record arms)
