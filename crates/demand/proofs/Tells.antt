-- The bytes tell: two accepted replies with one listing define the same, whatever their forms.
-- Assumes nothing.
use Rattle.std.proofs.Common.{Option, Some, Ok}
use mathlib.Core.Path.{◌≡◌, refl, sym, ◌∙◌, subst}
use mathlib.Core.Bool.{true}
use mathlib.Core.List.{List, map}
use Prim.Native.Nat.{ℕ}
use Rattle.ground.specs.Lists.{at}
use Rattle.arena.specs.Tree.{Tree, bit_vec, numeral, string, symbol, app}
use Rattle.tables.specs.Rules.{lawful}
use Rattle.tables.specs.Sort.{Variable, Function, Tables}
use Rattle.tables.proofs.Places.{none-some, some_one}
use Rattle.values.specs.HasSort.{Loose}
use Rattle.values.specs.Value.{Value}
use Rattle.values.proofs.Normals.{normal-fits}
use Rattle.well_sorted.specs.Octets.{Octets}
use Rattle.well_sorted.proofs.Results.{refuses}
use Rattle.commands.specs.declared.form.Form.{Form}
use Rattle.model.specs.Model.{Table, Definition, read_reply, read_model, last_variable, last_function}
use Rattle.model.specs.Listing.{settled_table, settled, listing}
use Rattle.model.proofs.Settled.{settled-function}
use Rattle.model.proofs.Choices.{mapped}
use Rattle.demand.specs.Last.{Body, last_body_in, last_term}
use Rattle.demand.specs.Demand.{Sorted, OfVariable}
use Rattle.demand.specs.Alike.{Alike}
use Rattle.demand.specs.Fits.{TableFits}
use Rattle.demand.proofs.Tables.{body-fits}
use Rattle.demand.proofs.Commands.{Matches, no_body, of-body, commands_match}
use Rattle.demand.proofs.Settled.{arranged-settled}
use Rattle.demand.proofs.Theorem.{first-demand, values-demand}
use Rattle.demand.proofs.Listings.{FunctionFits, Fit, rendered-tell}

module _ (T : Tables) (rules : lawful T ≡ true) where
  settled-fits : (f : Function) (t : Table) → TableFits T f.argument f.result t → FunctionFits T f (settled_table t)
  settled-fits f t h =
      record {
        keys = arranged-settled T f.argument (λ a. a.«when») (λ a. refl) t h.keys;
        values = arranged-settled T f.result (λ a. a.«then») (λ a. refl) t h.values;
        default = normal-fits Loose T t.«else» f.result h.default;
      }

  module _ (i : ℕ) (f : Function) (there : at T.functions i ≡ Some f) where
    table_fits : (o : Option Table) (c : Option Body) (table : Table) → Matches T i f there o c → mapped settled_table o ≡ Some table → FunctionFits T f table
    table_fits _ _ table no_body e = absurd (none-some e)
    table_fits _ _ table (of-body {t = t} {b = b} o m) e =
        subst (FunctionFits T f) (some_one e) (settled-fits f t (body-fits T rules b.argument f.argument f.result b.term t o m))

    function-fits : (t : Tree) (ds : List Definition) → Octets t → read_model T t ≡ Ok ds → (table : Table) → last_function i (map settled ds) ≡ Some table → FunctionFits T f table
    unfolding read_reply
    function-fits (bit_vec w n) ds o a table e = refuses a
    function-fits (numeral n) ds o a table e = refuses a
    function-fits (string s) ds o a table e = refuses a
    function-fits (symbol s) ds o a table e = refuses a
    function-fits (app us) ds o a table e =
        table_fits (last_function i ds) (last_body_in T i us) table (commands_match T i f there us ds o a) (sym (settled-function i ds) ∙ e)

  value-sorted : (x : Variable) (c : Option Tree) (o : Option Value) (v : Value) → OfVariable T x c o → o ≡ Some v → Sorted T x.sort v
  value-sorted x _ _ v OfVariable.undefined e = absurd (none-some e)
  value-sorted x _ _ v (OfVariable.defined h k) e = subst (Sorted T x.sort) (some_one e) h

  reply_fits : (form : Form) (t : Tree) (ds : List Definition) → Octets t → read_reply T form t ≡ Ok ds → Fit T (map settled ds)
  reply_fits form t ds o a =
      record {
        variables = λ i x v there e. value-sorted x (last_term T i form t) (last_variable i (map settled ds)) v (first-demand T rules form t ds o a i x there) e;
        functions = λ i f table there e. of-form form a i f table there e;
      }
    where
      of-form : (form : Form) → read_reply T form t ≡ Ok ds → (i : ℕ) (f : Function) (table : Table) → at T.functions i ≡ Some f → last_function i (map settled ds) ≡ Some table → FunctionFits T f table
      of-form Form.Model a i f table there e = function-fits i f there t ds o a table e
      of-form Form.Values a i f table there e = absurd (none-some (sym ((values-demand T rules t ds o a).functions i) ∙ e))

  pub bytes-tell : (form other : Form) (t u : Tree) (ds es : List Definition) → Octets t → Octets u → read_reply T form t ≡ Ok ds → read_reply T other u ≡ Ok es →
      listing T ds ≡ listing T es → Alike T (map settled ds) (map settled es)
  unfolding listing
  bytes-tell form other t u ds es o p a b e = rendered-tell T rules (map settled ds) (map settled es) (reply_fits form t ds o a) (reply_fits other u es p b) e
