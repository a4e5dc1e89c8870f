use Rattle.std.proofs.Common.{rules, ◌<◌, arith}
use Rattle.turn_book.specs.Turns.{ring}
use Rattle.turn_book.proofs.Turning as turning
use Rattle.turn_book.proofs.lock.turn_at.Goals as goal

pub act-answer-requires : goal.act-answer-requires
act-answer-requires g c = turning.needed _ _ _ g.S.History.history g.S.History.frame g.S.History.maker _ g.row.M-Answer.Denot g.M.Move.needs g.M.Move.does _ _ _ _ _ _ c.requires.rests g.met.M.Move.kept c.requires.needs
    (turning.opened _ _ _ g.S.History.history g.S.History.frame g.S.History.maker _ _ _ _ _ _ c.draw-ticket.ensures.told c.wait.ensures.told c.take-state.ensures.taken.0 c.take-state.ensures.taken.1)

pub tally-requires : goal.tally-requires
tally-requires g c = let fits : c.told-after.result < ring = omega arith in (
  search rules,
  c.requires.hall.1,
  turning.gives_back _ _ _ g.S.History.history g.S.History.frame g.S.History.maker _ g.row.M-Answer.Denot g.M.Move.needs g.M.Move.does _ _ _ _ _ _ _ _ _ _ _ c.requires.rests
      (turning.opened _ _ _ g.S.History.history g.S.History.frame g.S.History.maker _ _ _ _ _ _ c.draw-ticket.ensures.told c.wait.ensures.told c.take-state.ensures.taken.0 c.take-state.ensures.taken.1)
      c.act-answer.ensures c.put.ensures.laid c.told-before.ensures c.told-after.ensures fits,
)

pub pass_on-requires : goal.pass_on-requires
pass_on-requires g c = (
  search rules,
  c.requires.hall.1,
  (c.draw-ticket.result, turning.leaves_it _ _ _ g.S.History.history g.S.History.frame g.S.History.maker _ c.args.place.now.me _ _ _ _ _ (turning.opened _ _ _ g.S.History.history g.S.History.frame g.S.History.maker _ _ _ _ _ _ c.draw-ticket.ensures.told c.wait.ensures.told c.take-state.ensures.taken.0 c.take-state.ensures.taken.1) c.put.ensures.laid c.tally.ensures.told),
)

pub returns-clause-rests : goal.returns-clause-rests
returns-clause-rests g c = (turning.turned _ _ _ g.S.History.history g.S.History.frame g.S.History.maker _ g.row.M-Answer.Denot g.M.Move.needs g.M.Move.does _ _ _ _ _ _ _ _ _ _ _ c.requires.rests g.met.M.Move.kept c.requires.needs
    (turning.opened _ _ _ g.S.History.history g.S.History.frame g.S.History.maker _ _ _ _ _ _ c.draw-ticket.ensures.told c.wait.ensures.told c.take-state.ensures.taken.0 c.take-state.ensures.taken.1)
    c.act-answer.ensures c.put.ensures.laid c.tally.ensures.told c.pass_on.ensures.told).0

pub returns-clause-turned : goal.returns-clause-turned
returns-clause-turned g c = (turning.turned _ _ _ g.S.History.history g.S.History.frame g.S.History.maker _ g.row.M-Answer.Denot g.M.Move.needs g.M.Move.does _ _ _ _ _ _ _ _ _ _ _ c.requires.rests g.met.M.Move.kept c.requires.needs
    (turning.opened _ _ _ g.S.History.history g.S.History.frame g.S.History.maker _ _ _ _ _ _ c.draw-ticket.ensures.told c.wait.ensures.told c.take-state.ensures.taken.0 c.take-state.ensures.taken.1)
    c.act-answer.ensures c.put.ensures.laid c.tally.ensures.told c.pass_on.ensures.told).1
