use Rattle.value_reading.specs.Reading.{cell_read}
use Rattle.value_reading.proofs.AnswerLemmas.{gives_value, gives_bad}
use Rattle.value_reading.proofs.KindLemmas.{result_kind}
use Rattle.value_reading.proofs.reading.read_cell.Goals as goal

pub returns-clause-cell : goal.returns-clause-cell
returns-clause-cell c = gives_value c.cell_read.result (cell_read c.args.marks.now c.args.kind c.args.raw.now) c.cell_read.ensures.value

pub returns-clause-bad : goal.returns-clause-bad
returns-clause-bad c = gives_bad c.cell_read.result (cell_read c.args.marks.now c.args.kind c.args.raw.now) c.cell_read.ensures.value

pub returns-clause-kind : goal.returns-clause-kind
returns-clause-kind c = result_kind c.args.marks.now c.args.kind c.args.raw.now c.cell_read.result c.cell_read.ensures.value
