-- Demand 3: a table whose keys have the argument's sort, and whose values and default have the result's, sets in any order.
use Rattle.std.specs.Prelude.{ℕ}
use Rattle.order.specs.Every.{Every}
use Rattle.tables.specs.Sort.{Tables}
use Rattle.values.specs.HasSort.{HasSort, Loose}
use Rattle.model.specs.Model.{Arm, Table}

pub record TableFits (T : Tables) (argument result : ℕ) (t : Table) : Type 0 where
  pub keys : Every (λ (a : Arm). HasSort a.«when» Loose T argument) t.arms
  pub values : Every (λ (a : Arm). HasSort a.«then» Loose T result) t.arms
  pub default : HasSort t.«else» Loose T result
