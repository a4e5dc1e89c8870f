use Rattle.std.proofs.Common.{refl, sym, ◌∙◌}
use Rattle.worker_pool.proofs.RegisterLemmas.{refuses, registers}
use Rattle.worker_pool.proofs.registering.register_one.Goals as goal

pub returns-in-Ok-clause-registers : goal.returns-in-Ok-clause-registers
returns-in-Ok-clause-registers g c = registers _ _ _ _ c.in-Some.expr (sym c.take.ensures.value ∙ c.in-Some.is) c.in-Ok.session c.in-Ok.ensures.turn c.in-Ok.ensures.known c.take.ensures.after refl

pub returns-in-TooMany-clause-registers : goal.returns-in-TooMany-clause-registers
returns-in-TooMany-clause-registers g c =
    let turn = rw (c.in-Err.is, c.in-TooMany.is) at c.register.ensures.turn in
    refuses _ _ _ _ c.in-Some.expr (sym c.take.ensures.value ∙ c.in-Some.is) c.in-TooMany.limit turn c.take.ensures.after refl
