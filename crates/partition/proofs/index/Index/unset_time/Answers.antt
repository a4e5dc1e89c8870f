use Rattle.std.proofs.Common.{Bool, ap, map, ◌∙◌}
use Rattle.event_history.specs.Events.{Event}
use Rattle.partition.proofs.AskLemmas.{constant_map}
use Rattle.partition.proofs.index.Index.unset_time.Goals as goal

pub returns-clause-sure : goal.returns-clause-sure
returns-clause-sure g c =
    c.in_ok-sure.ensures ∙ constant_map c.sure_cell.result g.events c.args.self.now.rows c.requires.rows
    ∙ ap (λ (b : Bool). map (λ (e : Event). b) g.events) c.sure_cell.ensures

pub returns-clause-maybe : goal.returns-clause-maybe
returns-clause-maybe g c =
    c.in_ok-maybe.ensures ∙ constant_map c.maybe_cell.result g.events c.args.self.now.rows c.requires.rows
    ∙ ap (λ (b : Bool). map (λ (e : Event). b) g.events) c.maybe_cell.ensures
