-- What an exported call leaves, by the call that it exports; and that it can leave nothing else.
-- Assumes nothing.
use Rattle.std.proofs.Common.{Option, Result}
use mathlib.Core.Path.{◌≡◌, refl, ap, ap₂, subst}
use mathlib.Core.List.{List, [], ◌∷◌}
use Prim.Native.Nat.{ℕ, ◌≤◌, ◌<◌}
use native.Mathlib.Omega.{arith}
use lib.ListN.{length}
use borrow.Author.Tests.{le-leb, lt-leb}
use Rattle.ground.proofs.Tests.{one-result, by_order}
use Rattle.refusals.specs.declared.Refusal.TheVariants.{OutRoom}
use Rattle.lent.specs.Left as lent
use Rattle.reader.specs.Read as reader
use Rattle.arena_check.proofs.Answers.{one-check}
use Rattle.tables.specs.Layout.{Lent}
use Rattle.tables.specs.Lookup.{FindsVariable, FindsFunction, FindsMember, FindsNamed}
use Rattle.tables.proofs.One.{one-variable, one_function, one-member, one-named}
use Rattle.tables_text.specs.Read.{Buffers}
use Rattle.tables_text.proofs.Readings.{one-reading}
use Rattle.commands.specs.declared.form.Form.{Form}
use Rattle.listing.proofs.One.{one-listing}
use Rattle.told.specs.Code.{code_of}
use Rattle.told.specs.Tells.{Yield, Tells}
use Rattle.told.specs.Yields.{written, read}
use Rattle.stazzumpi.specs.Exports.{Left, exported, Exports, Promises}
use Rattle.stazzumpi.specs.Kind.{FindsKind}
use Rattle.stazzumpi.specs.Outs.{writes, reads, ChecksOut, ReadsOut, LooksUp, ListsOut}
use Rattle.stazzumpi.proofs.ByKind.{one-kind}
use Rattle.reader.specs.declared.read.Reading.{Reading}
use Rattle.refusals.specs.declared.Refusal.{Refusal}

module _ (need : ℕ) (told : List ℕ) (buffers : List (List ℕ)) (left : Left) where
  pub exports_short : (r : ℕ) → length told < need → r ≡ code_of (OutRoom need) → Exports told (exported need told buffers left) r told buffers
  unfolding exported
  exports_short r h e = rw (lt-leb need (length told) h) (record { tells = record { word = e; tells = refl }; lent = refl })

  pub exports_call : {r : ℕ} {exit : List ℕ} {after : List (List ℕ)} → need ≤ length told → Tells left.yield told r exit → after ≡ left.lent
      → Exports told (exported need told buffers left) r exit after
  unfolding exported
  exports_call h t l = rw (le-leb need (length told) h) (record { tells = t; lent = l })

-- every call that writes a text
pub exports_written : (told : List ℕ) (buffers : List (List ℕ)) (left : lent.Left) {answer : Result ℕ Refusal} {r : ℕ} {exit out : List ℕ}
    → 1 ≤ length told → lent.Leaves left answer out → Tells (written answer) told r exit → Exports told (exported 1 told buffers (writes left)) r exit (out ∷ [])
exports_written told buffers left {answer} {r} {exit} {out} h l t =
    exports_call 1 told buffers (writes left) h (subst (λ (a : Result ℕ Refusal). Tells (written a) told r exit) l.answers t) (ap (λ (d : List ℕ). d ∷ []) l.holds)

pub exports_read : (told : List ℕ) (buffers : List (List ℕ)) (left : reader.Left) {answer : Result Reading Refusal} {r : ℕ} {exit N T S : List ℕ}
    → 3 ≤ length told → reader.Leaves left answer N T S → Tells (read answer) told r exit → Exports told (exported 3 told buffers (reads left)) r exit (N ∷ T ∷ S ∷ [])
exports_read told buffers left {answer} {r} {exit} {N} {T} {S} h l t =
    exports_call 3 told buffers (reads left) h (subst (λ (a : Result Reading Refusal). Tells (read a) told r exit) l.answers t)
    (ap₂ (λ (x : List ℕ) (y : List (List ℕ)). x ∷ y) l.nodes (ap₂ (λ (x y : List ℕ). x ∷ y ∷ []) l.text l.stack))

-- every call whose promise is a relation
module _ {A B : Type 0} (need : ℕ) (yield : A → Yield) (promise : A → B → Type 0) (told : List ℕ) (entry : B) where
  pub promises_short : (r : ℕ) → length told < need → r ≡ code_of (OutRoom need) → Promises need yield promise told entry r told entry
  promises_short r h e = record { short = λ k. (record { word = e; tells = refl }, refl); room = λ k. absurd (omega arith) }

  pub promises_call : {answer : A} {r : ℕ} {exit : List ℕ} {buffers : B} → need ≤ length told → promise answer buffers → Tells (yield answer) told r exit
      → Promises need yield promise told entry r exit buffers
  promises_call {answer} h p t = record { short = λ k. absurd (omega arith); room = λ k. record { answer = answer; promised = p; tells = t } }

one_telling : {yield : Yield} {told : List ℕ} {r q : ℕ} {d e : List ℕ} → Tells yield told r d → Tells yield told q e → (r ≡ q) × (d ≡ e)
one_telling x y = (one-result x.word y.word, one-result x.tells y.tells)

-- any two results that a contract by `Exports` allows are equal: the word, the slice for numbers, and the buffers
pub one_export : {told : List ℕ} {left : Left} {r q : ℕ} {d e : List ℕ} {b c : List (List ℕ)} → Exports told left r d b → Exports told left q e c → (r ≡ q) × (d ≡ e) × (b ≡ c)
one_export x y =
    let z = one_telling x.tells y.tells in
    (z.0, z.1, one-result x.lent y.lent)

-- the same by `Promises`, where the promise itself allows one answer and one content of the buffers
pub one_promise : {A B : Type 0} {need : ℕ} {yield : A → Yield} {promise : A → B → Type 0} {told : List ℕ} {entry : B} {r q : ℕ} {d e : List ℕ} {x y : B}
    → ((a b : A) → promise a x → promise b y → (a ≡ b) × (x ≡ y))
    → Promises need yield promise told entry r d x → Promises need yield promise told entry q e y → (r ≡ q) × (d ≡ e) × (x ≡ y)
one_promise {A} {B} {need} {yield} {promise} {told} {entry} {r} {q} {d} {e} {x} {y} one p s =
    by_order (length told) need
    (λ h.
    let z = one_telling (p.short h).0 (s.short h).0 in
    (z.0, z.1, one-result (p.short h).1 (s.short h).1))
    (λ h.
    let a = p.room h in
    let b = s.room h in
    let same = one a.answer b.answer a.promised b.promised in
    let z = one_telling (subst (λ (k : A). Tells (yield k) told r d) same.0 a.tells) b.tells in
    (z.0, z.1, same.1))

pub one-check-out : {ws ts told : List ℕ} {r q : ℕ} {d e : List ℕ} → ChecksOut ws ts told r d → ChecksOut ws ts told q e → (r ≡ q) × (d ≡ e)
one-check-out {ws} {ts} x y =
    let z = one_promise (λ a b p q. (one-check ws ts a b p q, refl)) x y in
    (z.0, z.1)

pub one-tables-read : {text told : List ℕ} {entry x y : Buffers} {r q : ℕ} {d e : List ℕ} → ReadsOut text entry told r d x → ReadsOut text entry told q e y → (r ≡ q) × (d ≡ e) × (x ≡ y)
one-tables-read {text} {told} {entry} p q = one_promise (λ a b s t. one-reading text entry s t) p q

pub one-listing-out : {form : Form} {l : Lent} {ws ts out told x y : List ℕ} {r q : ℕ} {d e : List ℕ} → ListsOut form l ws ts out told r d x → ListsOut form l ws ts out told q e y → (r ≡ q) × (d ≡ e) × (x ≡ y)
one-listing-out {form} {l} {ws} {ts} {out} {told} {x} {y} p q = one_promise (λ a b s t. one-listing form l ws ts out a b x y s t) p q

-- every lookup, by the law of the call that is exported
pub one-lookup : {finds : Option ℕ → Type 0} {told : List ℕ} {r q : ℕ} {d e : List ℕ} → ((a b : Option ℕ) → finds a → finds b → a ≡ b)
    → LooksUp finds told r d → LooksUp finds told q e → (r ≡ q) × (d ≡ e)
one-lookup one x y =
    let z = one_promise (λ a b p q. (one a b p q, refl)) x y in
    (z.0, z.1)

module _ {told : List ℕ} {r q : ℕ} {d e : List ℕ} where
  module _ (ws names name : List ℕ) where
    pub one-variable-out : LooksUp (FindsVariable ws names name) told r d → LooksUp (FindsVariable ws names name) told q e → (r ≡ q) × (d ≡ e)
    one-variable-out x y = one-lookup (one-variable ws names name) x y

    pub one-function-out : LooksUp (FindsFunction ws names name) told r d → LooksUp (FindsFunction ws names name) told q e → (r ≡ q) × (d ≡ e)
    one-function-out x y = one-lookup (one_function ws names name) x y

    pub one-member-out : LooksUp (FindsMember ws names name) told r d → LooksUp (FindsMember ws names name) told q e → (r ≡ q) × (d ≡ e)
    one-member-out x y = one-lookup (one-member ws names name) x y

    pub one-named-out : LooksUp (FindsNamed ws names name) told r d → LooksUp (FindsNamed ws names name) told q e → (r ≡ q) × (d ≡ e)
    one-named-out x y = one-lookup (one-named ws names name) x y

  pub one-sort-out : (sorts : List ℕ) (kind number : ℕ) → LooksUp (FindsKind sorts kind number) told r d → LooksUp (FindsKind sorts kind number) told q e → (r ≡ q) × (d ≡ e)
  one-sort-out sorts kind number x y = one-lookup (one-kind sorts kind number) x y
