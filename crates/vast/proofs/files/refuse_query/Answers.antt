use Rattle.std.proofs.Common.{ℕ, List, subst, ◌∙◌}
use Rattle.vast.specs.Causes.{Says}
use Rattle.vast.proofs.files.refuse_query.Goals as goal

pub returns-in-Ok : goal.returns-in-Ok
returns-in-Ok g c =
    subst (λ (t : List ℕ). Says (g.K.Sink.faults c.args.sink.now) (g.K.Sink.faults c.say.new.sink) (g.K.Sink.written c.args.sink.now) (g.K.Sink.written c.say.new.sink) t)
    (c.as_slice.ensures ∙ c.in-Ok.ensures) c.say.ensures.says
