use Rattle.std.proofs.Common.{rules}
use Rattle.turn_book.proofs.Keeps.{draw_keeps}
use Rattle.turn_book.proofs.lock.draw.Goals as goal

pub fetch_add-requires : goal.fetch_add-requires
fetch_add-requires g c = (search rules, search rules, draw_keeps _ _ _ _ _ _ _ _ _ _ c.requires.2)
