use Rattle.std.proofs.Common.{◌∷◌, Some, sym, ap, ◌∙◌}
use Rattle.atomic_table.specs.Table.{rest}
use Rattle.turn_book.proofs.lock.take.Goals as goal

pub exchange-requires : goal.exchange-requires
exchange-requires g c = let x = c.requires.1.0 in let e = c.requires.1.1 in (c.requires.0, (Some x, e ∙ ap (λ l. (0, Some x) ∷ rest l) (sym e)))
