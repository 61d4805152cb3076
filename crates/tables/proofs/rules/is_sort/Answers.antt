use Rattle.std.proofs.Common.{ap, not}
use Rattle.tables.proofs.ByKind.{sort-zero, sort-plain, sort-width, sort-refers, sort-unknown, sort-unnamed, sort-entity, sort_record}
use Rattle.tables.proofs.rules.is_sort.Goals as goal

pub returns-then-kind-eq0 : goal.returns-then-kind-eq0
returns-then-kind-eq0 c = let a = c.args in sort-zero a.sorts.now a.fields.now a.names.now a.row _ c.word-kind.ensures c.if-kind-eq0.true

pub returns-then-kind-lt-BIT_VEC : goal.returns-then-kind-lt-BIT_VEC
returns-then-kind-lt-BIT_VEC c = let a = c.args in sort-plain a.sorts.now a.fields.now a.names.now a.row _ c.word-kind.ensures c.if-kind-eq0.false c.if-kind-lt-BIT_VEC.true

pub returns-then-kind-eq-BIT_VEC : goal.returns-then-kind-eq-BIT_VEC
returns-then-kind-eq-BIT_VEC c = let a = c.args in sort-width a.sorts.now a.fields.now a.names.now a.row _ c.word-kind.ensures _ c.word-number.ensures c.if-kind-eq-BIT_VEC.true _ c.is_width.ensures

pub returns-then-kind-lt-ENTITY : goal.returns-then-kind-lt-ENTITY
returns-then-kind-lt-ENTITY c = let a = c.args in sort-refers a.sorts.now a.fields.now a.names.now a.row _ c.word-kind.ensures _ c.word-number.ensures c.if-kind-lt-BIT_VEC.false c.if-kind-eq-BIT_VEC.false c.if-kind-lt-ENTITY.true

pub returns-then-kind-gt-LAST_KIND : goal.returns-then-kind-gt-LAST_KIND
returns-then-kind-gt-LAST_KIND c = let a = c.args in sort-unknown a.sorts.now a.fields.now a.names.now a.row _ c.word-kind.ensures c.if-kind-gt-LAST_KIND.true

pub returns-then-not-is_own : goal.returns-then-not-is_own
returns-then-not-is_own c = let a = c.args in sort-unnamed a.sorts.now a.fields.now a.names.now a.row _ c.word-kind.ensures _ c.word-number.ensures _ c.is_own.ensures (ap not c.if-not-is_own.true) c.if-kind-lt-ENTITY.false c.if-kind-gt-LAST_KIND.false

pub returns-then-kind-eq-ENTITY : goal.returns-then-kind-eq-ENTITY
returns-then-kind-eq-ENTITY c = let a = c.args in sort-entity a.sorts.now a.fields.now a.names.now a.row _ c.word-kind.ensures _ c.word-number.ensures _ c.is_own.ensures (ap not c.if-not-is_own.false) c.if-kind-eq-ENTITY.true

pub returns : goal.returns
returns c = let a = c.args in sort_record a.sorts.now a.fields.now a.names.now a.row _ c.word-kind.ensures _ c.word-number.ensures _ c.is_own.ensures (ap not c.if-not-is_own.false) c.if-kind-lt-ENTITY.false c.if-kind-gt-LAST_KIND.false c.if-kind-eq-ENTITY.false _ c.word.ensures _ c.are_fields.ensures
