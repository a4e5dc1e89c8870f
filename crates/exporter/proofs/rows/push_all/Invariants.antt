use Rattle.std.proofs.Common.{◌≡◌, ◌≤◌, ◌++◌, filter}
use Rattle.event_batch.specs.Contents.{content_of}
use Rattle.event_history.specs.Events.{events_of, matches}
use Rattle.exporter.specs.Rows.{rows_between}
use Rattle.exporter.proofs.rows.push_all.Given as goal

abbrev pub invariant-loop-place : goal.invariant-loop-place
invariant-loop-place l =
    (l.place ≤ l.high)
    × (l.founds ++ filter (λ x. matches l.expr x.1) (rows_between l.first l.place l.high (events_of (content_of l.batch)))
    ≡ l.fn.founds ++ filter (λ x. matches l.expr x.1) (rows_between l.first l.low l.high (events_of (content_of l.batch))))
