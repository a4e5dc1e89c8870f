use Rattle.zeek_log.proofs.PlainLemmas.{dash_read}
use Rattle.zeek_log.proofs.plain.is_plain.Goals as goal

pub returns-then-is_dash_cell : goal.returns-then-is_dash_cell
returns-then-is_dash_cell c =
    λ yes kind is. dash_read c.args.marks.now kind _ (c.requires.dash c.if-dash.true)
    (c.is_dash_cell.ensures c.if-is_dash_cell.true)
