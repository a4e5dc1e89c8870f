-- What is known of an expression and each event of a part.
use Rattle.std.specs.Prelude.{Bool, List, map}
use Rattle.event_history.specs.Events.{Event}
use Rattle.query_meaning.specs.declared.expr.Expr.{Expr}
use Rattle.query_meaning.specs.Sure.{maybe, sure}

-- whether each event surely matches
abbrev pub sure_bits : Expr → List Event → List Bool
sure_bits expr events = map (λ e. sure e.heading e.row expr) events

-- whether it may
abbrev pub maybe_bits : Expr → List Event → List Bool
maybe_bits expr events = map (λ e. maybe e.heading e.row expr) events
