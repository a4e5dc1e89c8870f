use Rattle.std.proofs.Common.{◌≡◌, ◌+◌, ◌-◌, ◌<◌, ◌≤◌, ◌++◌, true, filter, length, Some}
use Rattle.std.specs.List.{slice_get}
use Rattle.event_batch.specs.Contents.{content_of}
use Rattle.event_history.specs.Events.{events_of, matches}
use Rattle.exporter.specs.Pages.{is_unsure}
use Rattle.exporter.specs.Rows.{rows_between}
use Rattle.exporter.proofs.rows.push_candidates.Given as goal

abbrev pub invariant-loop-place : goal.invariant-loop-place
invariant-loop-place l = record {
  order : l.place ≤ l.high;
  candidate : l.place < l.high → slice_get l.pair.maybe (l.offset + l.place) ≡ Some true;
  found : l.founds ++ filter (λ x. matches l.expr x.1) (rows_between l.first l.place l.high (events_of (content_of l.batch)))
      ≡ l.fn.founds ++ filter (λ x. matches l.expr x.1) (rows_between l.first l.low l.high (events_of (content_of l.batch)));
  checked : l.checked + length (filter (λ x. is_unsure l.expr x.1) (rows_between l.first l.place l.high (events_of (content_of l.batch))))
      ≡ length (filter (λ x. is_unsure l.expr x.1) (rows_between l.first l.low l.high (events_of (content_of l.batch))));
}

abbrev pub decreases-loop-place : goal.decreases-loop-place
decreases-loop-place l = l.high - l.place
