use Prim.Native.Nat.{◌^◌}
use mathlib.Core.Path.{refl, sym, ◌∙◌}
use native.Mathlib.Omega.{arith}
use Rattle.arena.proofs.Views.{node-within, numeral-below}
use Rattle.arena_check.proofs.Passes.{passes, passes-vector, passes-numeral, passes-app}
use borrow.Author.Rules.{rules}
use Rattle.std.proofs.Common.{inl, inr}
use Rattle.arena_check.proofs.node.check_node.Goals as goal

pub overflow_add-at : goal.overflow_add-at
overflow_add-at c = record { fits = omega (arith, node-within _ _ (sym c.node_at.ensures ∙ c.in-App.is) refl) }

pub returns-in-BitVec : goal.returns-in-BitVec
returns-in-BitVec c = let a = c.args in passes-vector a.words.now a.text.now a.at a.from _ _ (sym c.node_at.ensures ∙ c.in-BitVec.is) (record { low_fits = search rules; high_fits = search rules }) c.is_bit_vector.ensures c.then_some.ensures

pub returns-in-Numeral : goal.returns-in-Numeral
returns-in-Numeral c =
    let a = c.args in
    let q = sym c.node_at.ensures ∙ c.in-Numeral.is in
    let f = numeral-below a.words.now a.at _ _ (2 ^ 64) (λ k. (c.type_inv.words k).fits) q in
    passes-numeral a.words.now a.text.now a.at a.from q (record { low_fits = f.0; high_fits = f.1 })

pub returns-in-String : goal.returns-in-String
returns-in-String c =
    let a = c.args in
    elim c.in-String.is [
      | inl q ↦ passes a.words.now a.text.now a.at a.from _ (sym c.node_at.ensures ∙ q) c.check_text.ensures
      | inr q ↦ passes a.words.now a.text.now a.at a.from _ (sym c.node_at.ensures ∙ q) c.check_text.ensures
    ]

pub returns-in-App : goal.returns-in-App
returns-in-App c = let a = c.args in passes-app a.words.now a.text.now a.at a.from _ _ (sym c.node_at.ensures ∙ c.in-App.is) c.is_chain.ensures c.then_some-in-App.ensures
