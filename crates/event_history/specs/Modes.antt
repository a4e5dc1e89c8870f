-- Where the parts of a query begin and end, by its mode.
use Rattle.std.specs.Prelude.{ℕ}
use Rattle.event_history.specs.declared.entry.Mode.{Mode}
use Rattle.event_history.specs.declared.entry.Mode.TheVariants.{Past, Coming, Both, Since}

-- Where the past part begins of a query with this registration number. It ends there, and the live part begins there.
abbrev pub past_begin : Mode → ℕ → ℕ
past_begin Past from = 0
past_begin Coming from = from
past_begin Both from = 0
past_begin (Since id) from = id

-- where the live part ends when there are n events
abbrev pub live_end : Mode → ℕ → ℕ → ℕ
live_end Past from n = from
live_end _ from n = n
