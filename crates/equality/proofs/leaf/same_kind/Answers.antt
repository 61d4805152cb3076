use mathlib.Core.Path.{refl}
use Rattle.shapes.specs.declared.shape.Kind.{Kind}
use Rattle.equality.proofs.Leaves.{kinds-are}
use Rattle.equality.proofs.leaf.same_kind.Goals as goal

pub returns-in-Decimal-b : goal.returns-in-Decimal-b
returns-in-Decimal-b c = let a = c.args in kinds-are a.a a.b Kind.Decimal Kind.Decimal _ c.in-Decimal.is c.in-Decimal-b.is refl

pub returns-in-Datetime-b : goal.returns-in-Datetime-b
returns-in-Datetime-b c = let a = c.args in kinds-are a.a a.b Kind.Decimal Kind.Datetime _ c.in-Decimal.is c.in-Datetime-b.is refl

pub returns-in-Duration-b : goal.returns-in-Duration-b
returns-in-Duration-b c = let a = c.args in kinds-are a.a a.b Kind.Decimal Kind.Duration _ c.in-Decimal.is c.in-Duration-b.is refl

pub returns-in-Decimal-b-2 : goal.returns-in-Decimal-b-2
returns-in-Decimal-b-2 c = let a = c.args in kinds-are a.a a.b Kind.Datetime Kind.Decimal _ c.in-Datetime.is c.in-Decimal-b-2.is refl

pub returns-in-Datetime-b-2 : goal.returns-in-Datetime-b-2
returns-in-Datetime-b-2 c = let a = c.args in kinds-are a.a a.b Kind.Datetime Kind.Datetime _ c.in-Datetime.is c.in-Datetime-b-2.is refl

pub returns-in-Duration-b-2 : goal.returns-in-Duration-b-2
returns-in-Duration-b-2 c = let a = c.args in kinds-are a.a a.b Kind.Datetime Kind.Duration _ c.in-Datetime.is c.in-Duration-b-2.is refl

pub returns-in-Decimal-b-3 : goal.returns-in-Decimal-b-3
returns-in-Decimal-b-3 c = let a = c.args in kinds-are a.a a.b Kind.Duration Kind.Decimal _ c.in-Duration.is c.in-Decimal-b-3.is refl

pub returns-in-Datetime-b-3 : goal.returns-in-Datetime-b-3
returns-in-Datetime-b-3 c = let a = c.args in kinds-are a.a a.b Kind.Duration Kind.Datetime _ c.in-Duration.is c.in-Datetime-b-3.is refl

pub returns-in-Duration-b-3 : goal.returns-in-Duration-b-3
returns-in-Duration-b-3 c = let a = c.args in kinds-are a.a a.b Kind.Duration Kind.Duration _ c.in-Duration.is c.in-Duration-b-3.is refl
