use Rattle.std.proofs.Common.{arith, sym, ◌∙◌, ap}
use Rattle.vast_value.specs.declared.column.Column.{Column}
use Rattle.vast_value.specs.declared.kind.Elem.TheVariants as elem
use Rattle.query_meaning.specs.Meaning.{is_of}
use Rattle.partition.proofs.BuildLemmas.{time_first, time_nowhere}
use Rattle.partition.proofs.building.time_column.Goals as goal

pub returns-then-is_of : goal.returns-then-is_of
returns-then-is_of c = λ path.
    time_first path c.args.columns.now c.loop-at.at c.index-columns-at.result c.loop-at.invariant c.loop-at-test.true c.index-columns-at.is
    (ap (λ (x : Column). is_of elem.Time x.kind) c.index-columns-at.is ∙ sym c.if-is_of.ensures)

pub returns : goal.returns
returns c = λ path. time_nowhere path c.args.columns.now (λ j d h e. c.loop-at.invariant j d (omega (arith, h, c.loop-at-test.false)) e)
