use Rattle.std.proofs.Common.{◌≡◌, true, take}
use Rattle.std.specs.List.{list_all}
use Rattle.vast_value.specs.Fit.{is_ranged_cell}
use Rattle.pcap_flow.proofs.rows.ranged_row.Given as goal

abbrev pub invariant-loop-cell : goal.invariant-loop-cell
invariant-loop-cell l = list_all is_ranged_cell (take l.cell-index l.cell-items) ≡ true
