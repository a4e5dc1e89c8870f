use Rattle.std.proofs.Common.{ap, refl, ◌∙◌}
use Rattle.vast_value.specs.declared.layout.Layout.{Layout}
use Rattle.zeek_log.proofs.HeadLemmas.{row_fits}
use Rattle.zeek_log.proofs.data.data_line.Goals as goal

pub returns-in_ok-row-in-Some-clause-fits : goal.returns-in_ok-row-in-Some-clause-fits
returns-in_ok-row-in-Some-clause-fits c =
    (row_fits c.args.known.now.layout c.in-Some.layout c.columns-columns.result.now c.in_ok-row-in-Some.row c.in-Some.is (c.columns-columns.ensures ∙ ap (λ (l : Layout). l.columns) c.layout.ensures) c.in_ok-row-in-Some.ensures.fits, refl)
