-- What a found event says.
use Rattle.std.specs.Prelude.{ℕ}
use Rattle.vast_value.specs.Headings.{heading_of}
use Rattle.event_history.specs.Events.{Event, event_of}
use Rattle.exporter.specs.declared.founds.Found.{Found}

-- its id and the event
abbrev pub found_of : Found → ℕ × Event
found_of f = (f.id, event_of (heading_of f.layout) f.row)
