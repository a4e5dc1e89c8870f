use Rattle.std.proofs.Common.{rules}
use Rattle.turn_book.proofs.Keeps.{pass_keeps}
use Rattle.turn_book.proofs.lock.pass_on.Goals as goal

pub fetch_add-served-requires : goal.fetch_add-served-requires
fetch_add-served-requires g c = (search rules, search rules, pass_keeps _ _ _ _ _ _ _ _ _ _ _ c.requires.2.1)
