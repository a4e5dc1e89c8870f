use Rattle.std.proofs.Common.{ap, sym, ◌∙◌, drop, arith}
use Rattle.query_parse.specs.Tokens.{quote_step}
use Rattle.query_parse.proofs.TokenLemmas.{four_front}
use Rattle.query_parse.proofs.texts.take_byte.Goals as goal

pub returns-in-len4-up-clause-step : goal.returns-in-len4-up-clause-step
returns-in-len4-up-clause-step c =
    c.take_of_four.ensures.step (drop 4 c.args.rest.now) ∙ ap quote_step (sym (four_front c.args.rest.now c.in-len4-up.len_at_least))

pub returns-in-len4-up-clause-some : goal.returns-in-len4-up-clause-some
returns-in-len4-up-clause-some c = c.take_of_four.ensures.some

pub returns-in-len4-up-clause-within : goal.returns-in-len4-up-clause-within
returns-in-len4-up-clause-within c = omega (arith, c.take_of_four.ensures.within, c.in-len4-up.len_at_least)
