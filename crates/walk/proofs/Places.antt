-- What parts define with their nodes is what they define, and is refused where they are.
-- Assumes nothing.
use Rattle.std.proofs.Common.{Err, Ok, Result}
use mathlib.Core.Path.{◌≡◌, refl, ap, subst}
use mathlib.Core.List.{List, [], ◌∷◌, ◌++◌, map}
use Prim.Native.Nat.{ℕ, ◌+◌}
use Rattle.arena.specs.Tree.{Trees, nil, cons, nodes}
use Rattle.tables.specs.Sort.{Tables}
use Rattle.sorts.specs.Result.{◌>>=◌}
use Rattle.commands.specs.declared.form.Form.{Form}
use Rattle.model.specs.Model.{Definition, read_part, read_parts}
use Rattle.walk.specs.Placed.{Placed, its, value_at, placed_at, placed}
use Rattle.refusals.specs.declared.Refusal.{Refusal}

placed-its : (i value : ℕ) (ds : List Definition) (ps : List Placed) → its (map (placed_at i value) ds ++ ps) ≡ ds ++ its ps
placed-its i value [] ps = refl
placed-its i value (d ∷ ds) ps = ap (λ (es : List Definition). d ∷ es) (placed-its i value ds ps)

placed-more : (i value : ℕ) (m : Result (List Definition) Refusal) (p : Result (List Placed) Refusal) (q : Result (List Definition) Refusal) → (p >>= λ ps. Ok (its ps)) ≡ q →
    ((m >>= λ ds. p >>= λ ps. Ok (map (placed_at i value) ds ++ ps)) >>= λ ps. Ok (its ps)) ≡ (m >>= λ ds. q >>= λ es. Ok (ds ++ es))
unfolding ◌>>=◌
placed-more i value (Err r) p q e = refl
placed-more i value (Ok ds) (Err r) q e = ap (λ (x : Result (List Definition) Refusal). x >>= λ es. Ok (ds ++ es)) e
placed-more i value (Ok ds) (Ok ps) q e =
    subst (λ (x : Result (List Definition) Refusal). Ok (its (map (placed_at i value) ds ++ ps)) ≡ (x >>= λ es. Ok (ds ++ es))) e (ap Ok (placed-its i value ds ps))

pub placed-read : (T : Tables) (form : Form) (i : ℕ) (us : Trees) → (placed T form i us >>= λ ps. Ok (its ps)) ≡ read_parts T form us
unfolding ◌>>=◌ placed read_parts
placed-read T form i nil = refl
placed-read T form i (cons t us) =
    placed-more i (value_at form t i) (read_part T form t) (placed T form (i + nodes t) us) (read_parts T form us) (placed-read T form (i + nodes t) us)
