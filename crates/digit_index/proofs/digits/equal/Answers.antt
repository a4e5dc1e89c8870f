use Rattle.std.proofs.Common.{◌<◌, take, drop, refl, ap, arith}
use Rattle.digit_index.specs.Digits.{columns_of}
use Rattle.digit_index.proofs.DigitLemmas.{column_is, equal_column, equal_between, even_joined}
use Rattle.digit_index.proofs.digits.equal.Goals as goal

pub returns-in_ok-less-in-Range-clause-rows : goal.returns-in_ok-less-in-Range-clause-rows
returns-in_ok-less-in-Range-clause-rows g c = even_joined g.B.Bits.bits _ _ _ _ c.and_not.result c.in_ok-most-in-Range.ensures.rows c.in_ok-less-in-Range.ensures.rows c.and_not.ensures

pub returns-in_ok-less-in-Range-clause-keys : goal.returns-in_ok-less-in-Range-clause-keys
returns-in_ok-less-in-Range-clause-keys g c = equal_between g.B.Bits.bits _ _ c.args.coding c.args.base c.args.value _ _ c.and_not.result c.in_ok-most-in-Range.ensures.keys c.in_ok-less-in-Range.ensures.keys c.and_not.ensures

pub returns-in-Equality-clause-keys : goal.returns-in-Equality-clause-keys
returns-in-Equality-clause-keys g c =
    let a = c.args in
    let size = ap (λ coding. columns_of coding a.base) c.in-Equality.is in
    let under : a.value < columns_of a.coding a.base = omega (arith, size, c.requires.within) in
    let is = column_is a.table.now.columns a.from (columns_of a.coding a.base) a.value _ under refl in
    equal_column g.B.Bits.bits (g.B.Bits.bits a.present.now) (take (columns_of a.coding a.base) (drop a.from a.table.now.columns)) a.coding a.base a.value _ c.column.result c.in-Equality.is c.requires.within is c.column.ensures.value
