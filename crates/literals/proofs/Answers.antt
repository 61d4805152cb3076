-- What an answer tells of the literal that was read, and the answers of a value and of one whose row is asked for.
-- Assumes nothing.
use Rattle.std.proofs.Common.{Err, Ok, Result}
use mathlib.Core.Path.{◌≡◌, refl, sym, ap, ◌∙◌, subst}
use mathlib.Core.Bool.{Bool, true, false}
use mathlib.Core.List.{List}
use Prim.Native.Nat.{ℕ}
use native.Mathlib.Omega.{arith}
use lib.Dec.{eqb}
use borrow.Author.Tests.{eq-eqb, ne_eqb}
use Rattle.refusals.specs.declared.Refusal.{Refusal}
use Rattle.refusals.specs.declared.Refusal.TheVariants.{UnmatchedType}
use Rattle.tables.specs.declared.sort.Wanted.{Wanted}
use Rattle.tables.specs.Layout.{tables_of}
use Rattle.tables.specs.View.{sort_wanted}
use Rattle.sorts.specs.Reads.{RowOf}
use Rattle.sorts.specs.Result.{◌>>=◌, unless}
use Rattle.sorts.specs.Sort.{row_of}
use Rattle.sorts.proofs.Read.{read-row, read-refused}
use Rattle.values.specs.Holds.{held}
use Rattle.means.specs.Literal.{Lit, lit}
use Rattle.literals.specs.Answer.{answer, need, some?, ValueOf}
use Rattle.literals.specs.Parts.{Matches}
use Rattle.literals.specs.declared.answer.Literal.{Literal}
use Rattle.ground.proofs.Options.{ok-same}

pub same-value : (row a b : ℕ) (s t : Bool) → a ≡ b → s ≡ t → ◌≡◌ {A = Result Literal Refusal} (Ok (record { row = row; need = a; is_set = s })) (Ok (record { row = row; need = b; is_set = t }))
same-value row a b s t e g = rw (e, g)

-- an answer tells what was read
pub record Told (m : Result Lit Refusal) (row long : ℕ) (is_set : Bool) : Type 0 where
  pub one : Lit
  pub read : m ≡ Ok one
  pub sort : row ≡ one.row
  pub size : long ≡ need one.value
  pub holds : is_set ≡ some? (held one.value)

pub value-told : (m : Result Lit Refusal) (a : Result Literal Refusal) (row long : ℕ) (is_set : Bool) → a ≡ Ok (record { row = row; need = long; is_set = is_set }) → a ≡ answer m → Told m row long is_set
value-told (Ok k) a row long is_set g h =
    let z : ◌≡◌ {A = (Result Literal Refusal)} (Ok (record { row = row; need = long; is_set = is_set })) (Ok (record { row = k.row; need = need k.value; is_set = some? (held k.value) })) = sym g ∙ h in
    let e = ok-same z in
    record { one = k; read = refl; sort = ap (λ (l : Literal). l.row) e; size = ap (λ (l : Literal). l.need) e; holds = ap (λ (l : Literal). l.is_set) e }
value-told (Err e) a row long is_set g h =
    let z : ◌≡◌ {A = (Result Literal Refusal)} (Ok (record { row = row; need = long; is_set = is_set })) (Err e) = sym g ∙ h in
    let y : ◌≡◌ {A = ℕ} 0 1 = cc in
    absurd (omega arith)

pub refused-told : (m : Result Lit Refusal) (a : Result Literal Refusal) (e : Refusal) → a ≡ Err e → a ≡ answer m → m ≡ Err e
refused-told (Ok k) a e g h =
    let z : ◌≡◌ {A = (Result Literal Refusal)} (Err e) (Ok (record { row = k.row; need = need k.value; is_set = some? (held k.value) })) = sym g ∙ h in
    let y : ◌≡◌ {A = ℕ} 0 1 = cc in
    absurd (omega arith)
refused-told (Err f) a e g h =
    let z : ◌≡◌ {A = (Result Literal Refusal)} (Err e) (Err f) = sym g ∙ h in
    let y : f ≡ e = cc in
    ap Err y

-- a value of a sort without a name
module _ (sorts : List ℕ) (wanted : Wanted) (long : ℕ) (is_set : Bool) (q : Result ℕ Refusal) (h : RowOf sorts wanted q) where
  pub value_row : (row : ℕ) → q ≡ Ok row → ValueOf sorts wanted long is_set (Ok (record { row = row; need = long; is_set = is_set }))
  unfolding ◌>>=◌
  value_row row e l s v n k =
      let w : row_of (tables_of l) (sort_wanted wanted) ≡ Ok row = read-row (row_of (tables_of l) (sort_wanted wanted)) q row (h l s) e in
      same-value row long (need v) is_set (some? (held v)) n k ∙ sym (ap (λ (m : Result ℕ Refusal). answer (m >>= λ i. Ok (lit i v))) w)

  pub value-refused : (z : Refusal) → q ≡ Err z → ValueOf sorts wanted long is_set (Err z)
  unfolding ◌>>=◌
  value-refused z e l s v n k =
      let w : row_of (tables_of l) (sort_wanted wanted) ≡ Err z = read-refused (row_of (tables_of l) (sort_wanted wanted)) q z (h l s) e in
      sym (ap (λ (m : Result ℕ Refusal). answer (m >>= λ i. Ok (lit i v))) w)

-- a literal of the row that was asked for
abbrev asked : ℕ → Lit → Result Lit Refusal
asked row k = unless (eqb k.row row) UnmatchedType (Ok k)

module _ (a : Result Literal Refusal) (wanted : ℕ) where
  module _ (row long : ℕ) (is_set : Bool) (e : a ≡ Ok (record { row = row; need = long; is_set = is_set })) where
    pub match_other : (row ≡ wanted → ⊥) → Matches a wanted (Err UnmatchedType)
    unfolding ◌>>=◌ unless
    match_other d m h =
        let w = value-told m a row long is_set e h in
        let g : eqb w.one.row wanted ≡ false = ne_eqb w.one.row wanted (λ z. d (w.sort ∙ z)) in
        sym (ap (λ (x : Result Lit Refusal). answer (x >>= λ k. asked wanted k)) w.read
        ∙ ap (λ (b : Bool). answer (unless b UnmatchedType (Ok w.one))) g)

    pub match_same : row ≡ wanted → Matches a wanted (Ok (record { row = row; need = long; is_set = is_set }))
    unfolding ◌>>=◌ unless
    match_same d m h =
        let w = value-told m a row long is_set e h in
        let g : eqb w.one.row wanted ≡ true = eq-eqb w.one.row wanted (sym w.sort ∙ d) in
        sym e ∙ h ∙ ap answer w.read
        ∙ sym (ap (λ (x : Result Lit Refusal). answer (x >>= λ k. asked wanted k)) w.read
        ∙ ap (λ (b : Bool). answer (unless b UnmatchedType (Ok w.one))) g)

  pub match_refused : (z : Refusal) → a ≡ Err z → Matches a wanted (Err z)
  unfolding ◌>>=◌
  match_refused z e m h = sym (ap (λ (x : Result Lit Refusal). answer (x >>= λ k. asked wanted k)) (refused-told m a z e h))

pub matches_of : (a : Result Literal Refusal) (it : Literal) (wanted : ℕ) (r : Result Literal Refusal) → a ≡ Ok it → Matches (Ok it) wanted r → Matches a wanted r
matches_of a it wanted r e h = subst (λ (x : Result Literal Refusal). Matches x wanted r) (sym e) h
