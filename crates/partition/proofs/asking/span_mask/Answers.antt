use Rattle.std.proofs.Common.{◌++◌, ◌-◌, List, Bool, replicate, true, false, ap, ◌∙◌}
use Rattle.partition.proofs.AskLemmas.{window_runs}
use Rattle.partition.proofs.asking.span_mask.Goals as goal

pub returns-in-Ok-clause-value : goal.returns-in-Ok-clause-value
returns-in-Ok-clause-value c =
    c.in-Ok.ensures
    ∙ ap (λ (bs : List Bool). ((bs ++ replicate c.args.from false) ++ replicate c.args.rows true) ++ replicate (c.args.all - c.args.from - c.args.rows) false) c.empty-mask.ensures
    ∙ window_runs c.args.from c.args.rows c.args.all c.requires
