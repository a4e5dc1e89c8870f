use Rattle.std.proofs.Common.{rules}
use Rattle.turn_book.proofs.Keeps.{tally_keeps}
use Rattle.turn_book.proofs.lock.tally.Goals as goal

pub fetch_add-requires : goal.fetch_add-requires
fetch_add-requires g c = (search rules, search rules, tally_keeps _ _ _ _ _ _ _ _ _ _ _ _ _ c.requires.2.2 c.requires.2.3 c.requires.2.4)
