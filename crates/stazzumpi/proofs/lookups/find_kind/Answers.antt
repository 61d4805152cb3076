use native.Mathlib.Omega.{arith}
use Rattle.stazzumpi.proofs.ByKind.{kind-found, kind-none}
use Rattle.stazzumpi.proofs.lookups.find_kind.Goals as goal

pub returns-in-1 : goal.returns-in-1
returns-in-1 c = let a = c.args in kind-found _ a.kind a.number 1 c.in-1.is (omega arith) (omega arith) _ c.find_sort.ensures

pub returns-in-2 : goal.returns-in-2
returns-in-2 c = let a = c.args in kind-found _ a.kind a.number 2 c.in-2.is (omega arith) (omega arith) _ c.find_sort-in-2.ensures

pub returns-in-3 : goal.returns-in-3
returns-in-3 c = let a = c.args in kind-found _ a.kind a.number 3 c.in-3.is (omega arith) (omega arith) _ c.find_sort-in-3.ensures

pub returns-in-4 : goal.returns-in-4
returns-in-4 c = let a = c.args in kind-found _ a.kind a.number 4 c.in-4.is (omega arith) (omega arith) _ c.find_sort-in-4.ensures

pub returns-in-5 : goal.returns-in-5
returns-in-5 c = let a = c.args in kind-found _ a.kind a.number 5 c.in-5.is (omega arith) (omega arith) _ c.find_sort-in-5.ensures

pub returns-in-6 : goal.returns-in-6
returns-in-6 c = let a = c.args in kind-found _ a.kind a.number 6 c.in-6.is (omega arith) (omega arith) _ c.find_sort-in-6.ensures

pub returns-in-7 : goal.returns-in-7
returns-in-7 c = let a = c.args in kind-found _ a.kind a.number 7 c.in-7.is (omega arith) (omega arith) _ c.find_sort-in-7.ensures

pub returns-in-8 : goal.returns-in-8
returns-in-8 c = let a = c.args in kind-found _ a.kind a.number 8 c.in-8.is (omega arith) (omega arith) _ c.find_sort-in-8.ensures

pub returns-in_default : goal.returns-in_default
returns-in_default c = let a = c.args in let r = c.in_default.in_default-own.rest in kind-none _ a.kind a.number r.0.0.0.0.0.0.0.1 r.0.0.0.0.0.0.1 r.0.0.0.0.0.1 r.0.0.0.0.1 r.0.0.0.1 r.0.0.1 r.0.1 r.1
