use Rattle.std.proofs.Common.{◌≡◌, drop, slice_get}
use Rattle.std.specs.List.{list_any}
use Rattle.query_meaning.specs.Resolving.{is_met_by}
use Rattle.query_meaning.proofs.resolved.some_meets.Given as goal

abbrev pub invariant-loop-column : goal.invariant-loop-column
invariant-loop-column g l =
    list_any (λ n. is_met_by l.rel l.literal (slice_get (g.R.RowView.cells l.row) n)) (drop l.column-index l.columns)
    ≡ list_any (λ n. is_met_by l.rel l.literal (slice_get (g.R.RowView.cells l.row) n)) l.columns
