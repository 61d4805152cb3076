-- Of a table's arms some are laid as records: what is left, and that all are laid once the rest is.
-- Assumes nothing.
use mathlib.Core.Path.{◌≡◌, refl, sym, ap, ◌∙◌, subst}
use mathlib.Core.List.{List, []}
use Prim.Native.Nat.{ℕ}
use Rattle.order.proofs.Everies.{every-head, every-tail}
use Rattle.runs.specs.Run.{run}
use Rattle.tables.specs.Sort.{Tables}
use Rattle.values.specs.HasSort.{HasSort, Loose}
use Rattle.values.specs.Value.{Value}
use Rattle.value_text.proofs.Lays.{lays_none}
use Rattle.model.specs.Model.{Arm, Table, table_of, push}
use Rattle.demand.specs.Fits.{TableFits}
use Rattle.arms.specs.Arm.{LaysArm}
use Rattle.arms.specs.Walk.{LaysArms}
use Rattle.arms.proofs.Whens.{lays_more}

pub record Rest (T : Tables) (argument result : ℕ) (table : Table) (entry : List ℕ) (place : ℕ) (out : List ℕ) (to : ℕ) (left : Table) : Type 0 where
  pub fits : TableFits T argument result left
  pub same : left.«else» ≡ table.«else»
  pub onwards : (exit : List ℕ) (r : ℕ) → LaysArms left.arms out exit to r → LaysArms table.arms entry exit place r

module _ (T : Tables) (argument result : ℕ) (table : Table) (entry : List ℕ) (place : ℕ) where
  pub rest-start : TableFits T argument result table → Rest T argument result table entry place entry place table
  rest-start f = record { fits = f; same = refl; onwards = λ exit r h. h }

  module _ (out : List ℕ) (to : ℕ) (left : Table) (w : Rest T argument result table entry place out to left) where
    -- nothing but the default is left
    pub rest_end : (v : Value) → table_of [] v ≡ left → LaysArms table.arms entry out place to
    unfolding run
    rest_end v e = w.onwards out to (subst (λ (y : Table). LaysArms y.arms out out to to) e (lays_none out to))

    pub rest_else : (v : Value) → table_of [] v ≡ left → v ≡ table.«else»
    rest_else v e = ap (λ (y : Table). y.«else») e ∙ w.same

    -- an arm more is laid
    module _ (a : Arm) (below : Table) (e : push a below ≡ left) where
      still-fits : TableFits T argument result (push a below)
      still-fits = subst (TableFits T argument result) (sym e) w.fits

      pub key_fits : HasSort a.«when» Loose T argument
      key_fits = every-head (λ (y : Arm). HasSort y.«when» Loose T argument) a below.arms still-fits.keys

      pub value-fits : HasSort a.«then» Loose T result
      value-fits = every-head (λ (y : Arm). HasSort y.«then» Loose T result) a below.arms still-fits.values

      pub rest_more : (b : List ℕ) (next : ℕ) → LaysArm a out b to next → Rest T argument result table entry place b next below
      rest_more b next put = record {
        fits = record {
          keys = every-tail (λ (y : Arm). HasSort y.«when» Loose T argument) a below.arms still-fits.keys;
          values = every-tail (λ (y : Arm). HasSort y.«then» Loose T result) a below.arms still-fits.values;
          default = still-fits.default;
        };
        same = ap (λ (y : Table). y.«else») e ∙ w.same;
        onwards = λ exit r h. w.onwards exit r (subst (λ (y : Table). LaysArms y.arms out exit to r) e (lays_more a below.arms put h));
      }
