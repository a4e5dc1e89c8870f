-- Laws of pages.
use Rattle.std.specs.Prelude.{◌≡◌, ℕ, List, ◌++◌}
use Rattle.event_history.specs.declared.entry.Entry.{Entry}
use Rattle.event_history.specs.declared.entry.Limits.{Limits}
use Rattle.event_history.specs.Events.{answer}
use Rattle.event_history.specs.Histories.{events}
use Rattle.event_history.specs.Legal.{Legal}
use Rattle.event_history.specs.Queries.{registration}
use Rattle.history_core.specs.Snapshots.{IsSnapshot, Snapshot}
use Rattle.exporter.specs.Pages.{found_in}

-- What is found in the snapshot of a take at a legal history are the answers over the past range and then the live one.
abbrev pub FindsTheAnswers : Limits → List Entry → ℕ → Snapshot → Type 0
FindsTheAnswers limits before q x =
    Legal limits before → IsSnapshot limits.group before q x (registration q before)
    → found_in x
    ≡ answer x.taking.expr (events before) x.taking.past_from x.taking.past_to
    ++ answer x.taking.expr (events before) x.taking.live_from x.taking.live_to
