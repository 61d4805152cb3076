use Rattle.std.proofs.lemmas.Result.{err_from_is_err_and}
use mathlib.Core.Path.{refl}
use Rattle.std.proofs.Common.{Ok}
use Rattle.literals.proofs.Answers.{match_refused, matches_of}
use Rattle.literals.proofs.Forms.{finish-some, finish_as, finish-single}
use Rattle.literals.proofs.form.finish.Goals as goal

pub returns-in-Some : goal.returns-in-Some
returns-in-Some c = let a = c.args in finish-some a.sorts.now (Ok a.inner) a.then a.inner.row a.inner.need a.inner.is_set refl c.plus.result c.value_of.result c.plus.ensures c.in-Some.is c.value_of.ensures

pub returns-in_ok-some-in-SomeAs : goal.returns-in_ok-some-in-SomeAs
returns-in_ok-some-in-SomeAs c = let a = c.args in finish_as a.sorts.now (Ok a.inner) a.then a.inner.row a.inner.need a.inner.is_set refl c.plus-in-SomeAs.result c.value_of-in-SomeAs.result c.plus-in-SomeAs.ensures _ c.in-SomeAs.is c.value_of-in-SomeAs.ensures c.matched.result (matches_of _ _ _ _ c.in_ok-some-in-SomeAs.was c.matched.ensures)

pub returns-in_err-some-in-SomeAs : goal.returns-in_err-some-in-SomeAs
returns-in_err-some-in-SomeAs c = let a = c.args in let p = err_from_is_err_and c.from_residual.result c.from_residual.ensures.1 in rw (p.1, p.2) (finish_as a.sorts.now (Ok a.inner) a.then a.inner.row a.inner.need a.inner.is_set refl c.plus-in-SomeAs.result c.value_of-in-SomeAs.result c.plus-in-SomeAs.ensures _ c.in-SomeAs.is c.value_of-in-SomeAs.ensures _ (match_refused c.value_of-in-SomeAs.result _ _ c.in_err-some-in-SomeAs.was))

pub returns-in-Singleton : goal.returns-in-Singleton
returns-in-Singleton c = let a = c.args in finish-single a.sorts.now (Ok a.inner) a.then a.inner.row a.inner.need a.inner.is_set refl c.plus-in-Singleton.result c.value_of-in-Singleton.result c.plus-in-Singleton.ensures c.in-Singleton.is c.value_of-in-Singleton.ensures
