use Rattle.zeek_log.proofs.HeadLemmas.{columns_sound}
use Rattle.zeek_log.proofs.head.read_layout.Goals as goal

pub layout_of-requires-clause-sound : goal.layout_of-requires-clause-sound
layout_of-requires-clause-sound c =
    columns_sound c.args.known.now.separator c.args.known.now.path c.as_slice.result.now c.args.types.now c.args.known.now.names.items c.in_ok-columns.columns
    c.as_slice.ensures c.requires.path c.args.known.now.names.named c.in_ok-columns.ensures
