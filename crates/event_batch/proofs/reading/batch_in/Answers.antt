use Rattle.std.proofs.Common.{ap, ◌∙◌}
use Rattle.vast_value.specs.declared.layout.Layout.{Layout}
use Rattle.event_batch.specs.Sizes.{rows_fit}
use Rattle.event_batch.proofs.PackingLemmas.{rows_read}
use Rattle.event_batch.proofs.reading.batch_in.Goals as goal

pub of_fitting-requires : goal.of_fitting-requires
of_fitting-requires c =
    let parts = rows_read c.args.bytes.now c.in-Ok.parts.format c.in-Ok.parts.source c.in-Ok.parts.layout c.in-Ok.parts.rows c.requires c.in-Ok.ensures in
    let shared = ap (λ (l : Layout). rows_fit l c.in-Ok.parts.rows) c.in_ok-layout-in-Ok.ensures in
    record { sized = parts.0; fitting = shared ∙ parts.1 }
