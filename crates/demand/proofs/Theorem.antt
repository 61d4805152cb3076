-- Demand 3, of every accepted model, and its first sentence, of every accepted reply to get-value.
-- Assumes nothing.
use Rattle.std.proofs.Common.{None, Option, Some, Ok}
use mathlib.Core.Path.{◌≡◌, refl, ap, sym, ◌∙◌, subst}
use mathlib.Core.Bool.{true}
use mathlib.Core.List.{List, map}
use Prim.Native.Nat.{ℕ}
use Rattle.ground.specs.Lists.{at, distinct}
use Rattle.refusals.specs.declared.Refusal.TheVariants.{UnmatchedType}
use Rattle.arena.specs.Tree.{Tree, Trees, Sound, bit_vec, numeral, string, symbol, app}
use Rattle.tables.specs.Rules.{lawful}
use Rattle.tables.specs.Sort.{Variable, Function, Tables}
use Rattle.values.specs.HasSort.{Ascending, Loose}
use Rattle.values.specs.Normal.{normal}
use Rattle.values.specs.Value.{Value, v_bool}
use Rattle.values.proofs.Normals.{normal-fits}
use Rattle.values.proofs.Tells.{tells}
use Rattle.well_sorted.specs.Octets.{Octets, OctetsAll}
use Rattle.well_sorted.proofs.Results.{refuses, passed}
use Rattle.well_sorted.proofs.Sound.{sound-octets}
use Rattle.commands.specs.declared.form.Form.{Form}
use Rattle.commands.specs.Command.{tests}
use Rattle.model.specs.Model.{Table, Definition, body_by, read_body, read_parts, read_reply, read_model, read_values, last_variable, last_function}
use Rattle.model.specs.Listing.{settled_table, settled}
use Rattle.model.proofs.Settled.{settled-variable, settled-function}
use Rattle.model.proofs.Choices.{mapped}
use Rattle.demand.specs.Meaning.{value_of, meaning}
use Rattle.demand.specs.Lookup.{lookup}
use Rattle.demand.specs.Last.{Body, last_term_in, last_body_in, last_body}
use Rattle.demand.specs.Premise.{apart, same_key, no_two}
use Rattle.demand.specs.Demand.{Sorted, OfVariable, OfFunction, First, Demand, Valued, Demanded}
use Rattle.demand.proofs.Looks.{last_hit, first_hit, lookup-arranged, last-first, last-first-one}
use Rattle.demand.proofs.Literals.{literal-means}
use Rattle.demand.proofs.Bodies.{body-first, tests_give}
use Rattle.demand.specs.Fits.{TableFits}
use Rattle.demand.proofs.Tables.{read_at, body-fits}
use Rattle.demand.proofs.Commands.{Reads, no-term, of-term, parts-read, Matches, no_body, of-body, commands_match, pairs_tableless}
use Rattle.demand.proofs.Settled.{every-settled, one_value}

module _ (T : Tables) (rules : lawful T ≡ true) where
  module _ (f : Function) (b : Body) (t : Table) (v : Value) (accepted : read_body T b.argument f.argument f.result b.term ≡ Ok t) where
    fits : Octets b.term → TableFits T f.argument f.result t
    fits o = body-fits T rules b.argument f.argument f.result b.term t o accepted

    keys-distinct : tests b.term ≡ None → no_two T f b ≡ true → distinct same_key t.arms ≡ true
    unfolding no_two
    keys-distinct h two = rw (accepted, h) at two

    -- the last arm that tests a value is the first, or gives the same
    last-is-first : no_two T f b ≡ true → last_hit t.arms (normal t.«else») v ≡ first_hit t.arms (normal t.«else») v
    last-is-first two = go (tests b.term) refl accepted
      where
        go : (o : Option Trees) → tests b.term ≡ o → body_by T b.argument f.argument f.result b.term o ≡ Ok t →
            last_hit t.arms (normal t.«else») v ≡ first_hit t.arms (normal t.«else») v
        go None h m = last-first t.arms (normal t.«else») v (keys-distinct h two)
        go (Some us) h m =
            last-first-one t.arms (v_bool true) (normal t.«else») v
            (tests_give T b.argument f.argument f.result us t (passed _ UnmatchedType _ t m).1)

    table-means : Octets b.term → apart T b.argument ≡ true → no_two T f b ≡ true → meaning b.term T b.argument v (Some f.result) ≡ Some (lookup (settled_table t) v)
    table-means o name two =
        body-first T b.argument v (literal-means T rules b.argument name v _) f.argument f.result b.term t accepted
        ∙ ap Some (sym (
        lookup-arranged (λ u. Sorted T f.argument u) (λ u w h k e. tells Ascending Ascending T u w f.argument h k e) t.arms (normal t.«else») v
        (every-settled T f.argument (λ a. a.«when») (λ a. refl) t.arms (fits o).keys)
        ∙ last-is-first two))

  of-variable : (i : ℕ) (x : Variable) (there : at T.variables i ≡ Some x) (o : Option Value) (c : Option Tree) → Reads T i x there o c → OfVariable T x c (mapped normal o)
  of-variable i x there _ _ no-term = OfVariable.undefined
  of-variable i x there _ _ (of-term {t = t} l o e k) =
      OfVariable.defined (normal-fits Loose T l.value x.sort (read_at T rules (Some x.sort) t l x.sort o e k)) (ap value_of e)

  of_function : (i : ℕ) (f : Function) (there : at T.functions i ≡ Some f) (o : Option Table) (c : Option Body) → Matches T i f there o c → OfFunction T f c (mapped settled_table o)
  of_function i f there _ _ no_body = OfFunction.undefined
  of_function i f there _ _ (of-body {t = t} {b = b} o m) =
      OfFunction.defined (record {
        one = λ v. one_value T f.result f.argument t v (fits f b t v m o);
        means = λ name two v. table-means f b t v m o name two;
      })

  of_parts : (form : Form) (us : Trees) (ds : List Definition) → OctetsAll us → read_parts T form us ≡ Ok ds → First T form (app us) (map settled ds)
  of_parts form us ds o e i x there =
      subst (OfVariable T x (last_term_in T i form us)) (sym (settled-variable i ds)) (of-variable i x there (last_variable i ds) (last_term_in T i form us) (parts-read T i x there form us ds o e))

  -- its first sentence, of either form
  pub first-demand : (form : Form) (t : Tree) (ds : List Definition) → Octets t → read_reply T form t ≡ Ok ds → First T form t (map settled ds)
  unfolding read_reply
  first-demand form (bit_vec w n) ds o e = refuses e
  first-demand form (numeral n) ds o e = refuses e
  first-demand form (string s) ds o e = refuses e
  first-demand form (symbol s) ds o e = refuses e
  first-demand form (app us) ds o e = of_parts form us ds o e

  of-functions : (i : ℕ) (f : Function) → at T.functions i ≡ Some f → (t : Tree) (ds : List Definition) → Octets t → read_model T t ≡ Ok ds → OfFunction T f (last_body T i t) (last_function i (map settled ds))
  unfolding read_reply
  of-functions i f there (bit_vec w n) ds o e = refuses e
  of-functions i f there (numeral n) ds o e = refuses e
  of-functions i f there (string s) ds o e = refuses e
  of-functions i f there (symbol s) ds o e = refuses e
  of-functions i f there (app us) ds o e =
      subst (OfFunction T f (last_body_in T i us)) (sym (settled-function i ds)) (of_function i f there (last_function i ds) (last_body_in T i us) (commands_match T i f there us ds o e))

  pub third-demand : (t : Tree) (ds : List Definition) → Octets t → read_model T t ≡ Ok ds → Demand T t (map settled ds)
  third-demand t ds o e = record { variables = first-demand Form.Model t ds o e; functions = λ i f there. of-functions i f there t ds o e }

  -- R-1
  no-functions : (i : ℕ) (t : Tree) (ds : List Definition) → read_values T t ≡ Ok ds → last_function i (map settled ds) ≡ None
  unfolding read_reply
  no-functions i (bit_vec w n) ds e = refuses e
  no-functions i (numeral n) ds e = refuses e
  no-functions i (string s) ds e = refuses e
  no-functions i (symbol s) ds e = refuses e
  no-functions i (app us) ds e = settled-function i ds ∙ ap (mapped settled_table) (pairs_tableless T i us ds e)

  pub values-demand : (t : Tree) (ds : List Definition) → Octets t → read_values T t ≡ Ok ds → Valued T t (map settled ds)
  values-demand t ds o e = record { variables = first-demand Form.Values t ds o e; functions = λ i. no-functions i t ds e }

  -- of a tree that stands in an arena
  pub demanded : (form : Form) (t : Tree) (ds : List Definition) → Sound t → read_reply T form t ≡ Ok ds → Demanded form T t (map settled ds)
  demanded Form.Model t ds s e = third-demand t ds (sound-octets t s) e
  demanded Form.Values t ds s e = values-demand t ds (sound-octets t s) e
