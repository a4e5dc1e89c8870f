use Rattle.std.proofs.Common.{◌≡◌, true, take}
use Rattle.std.specs.List.{list_all}
use Rattle.vast_value.specs.Fit.{is_ranged_cell}
use Rattle.pcap_flow.proofs.rows.ranged_rows.Given as goal

abbrev pub invariant-loop-row : goal.invariant-loop-row
invariant-loop-row l = list_all (list_all is_ranged_cell) (take l.row-index l.rows) ≡ true
