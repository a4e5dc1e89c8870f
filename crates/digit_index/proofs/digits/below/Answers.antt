use Rattle.std.proofs.Common.{◌<◌, ◌-◌, take, drop, refl, ap, arith}
use Rattle.digit_index.specs.Digits.{columns_of}
use Rattle.digit_index.proofs.DigitLemmas.{column_is, below_equality, below_none, below_all, below_some}
use Rattle.digit_index.proofs.digits.below.Goals as goal

pub returns-in-Equality-clause-keys : goal.returns-in-Equality-clause-keys
returns-in-Equality-clause-keys g c =
    let a = c.args in
    below_equality g.B.Bits.bits (g.B.Bits.bits a.present.now) (drop a.from a.table.now.columns) a.coding a.base a.value c.any_of.result c.in-Equality.is c.any_of.ensures.keys

pub returns-then-value-eq0-clause-keys : goal.returns-then-value-eq0-clause-keys
returns-then-value-eq0-clause-keys g c =
    let a = c.args in
    below_none g.B.Bits.bits (g.B.Bits.bits a.present.now) (take (columns_of a.coding a.base) (drop a.from a.table.now.columns)) a.coding a.base a.value c.all_or_none.result c.if-value-eq0.true c.all_or_none.ensures.keys

pub returns-then-value-base-clause-keys : goal.returns-then-value-base-clause-keys
returns-then-value-base-clause-keys g c =
    let a = c.args in
    below_all g.B.Bits.bits (g.B.Bits.bits a.present.now) (take (columns_of a.coding a.base) (drop a.from a.table.now.columns)) a.coding a.base a.value c.all_or_none-then-value-base.result c.if-value-base.true c.all_or_none-then-value-base.ensures.keys

pub returns-else-value-base-clause-keys : goal.returns-else-value-base-clause-keys
returns-else-value-base-clause-keys g c =
    let a = c.args in
    let size = ap (λ coding. columns_of coding a.base) c.in-Range.is in
    let under : a.value - 1 < columns_of a.coding a.base = omega (arith, size, c.requires.within, c.if-value-eq0.false, c.if-value-base.false) in
    let is = column_is a.table.now.columns a.from (columns_of a.coding a.base) (a.value - 1) _ under refl in
    below_some g.B.Bits.bits (g.B.Bits.bits a.present.now) (take (columns_of a.coding a.base) (drop a.from a.table.now.columns)) a.coding a.base a.value _ c.column.result c.in-Range.is (omega (arith, c.if-value-eq0.false)) (omega (arith, c.requires.within, c.if-value-base.false)) is c.column.ensures.value
