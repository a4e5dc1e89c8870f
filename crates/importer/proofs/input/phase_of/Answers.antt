use Rattle.std.proofs.Common.{ap, ◌∙◌}
use Rattle.importer.specs.Forms.{form_of}
use Rattle.importer.proofs.BeginLemmas.{opens_log}
use Rattle.importer.proofs.input.phase_of.Goals as goal

pub returns-in-Ok-clause-opens : goal.returns-in-Ok-clause-opens
returns-in-Ok-clause-opens c =
    let opens = opens_log c.args.block.bytes c.args.block.taken c.args.block.kept c.in-Ok.log c.requires.told (c.in-Log.ensures ∙ ap form_of c.as_slice.ensures) c.requires.all c.in-Ok.ensures in
    (opens.0, opens.1, tt)
