use Rattle.std.proofs.Common.{rules}
use Rattle.turn_book.proofs.Keeps.{look_keeps}
use Rattle.turn_book.proofs.lock.look.Goals as goal

pub load-requires : goal.load-requires
load-requires g c = (search rules, search rules, look_keeps _ _ _ _ _ _ _ _ _ _ _ c.requires.2 c.requires.3)
