use Rattle.std.proofs.Common.{rules}
use Rattle.query_parse.proofs.PieceLemmas.{reading_on, reading_refused}
use Rattle.query_parse.proofs.query.read.Goals as goal

pub loop-at-preserved : goal.loop-at-preserved
loop-at-preserved c =
    reading_on c.args.text.now c.split_at.result.1.now c.loop-at.parser c.read_token.new.parser c.loop-at.at c.in_ok-count.count
    c.loop-at-test.true c.split_at.ensures.back c.loop-at.invariant c.in_ok-count.ensures

pub returns-in_err-count : goal.returns-in_err-count
returns-in_err-count c =
    let refused =
    reading_refused c.args.text.now c.split_at.result.1.now c.loop-at.parser c.read_token.new.parser c.loop-at.at c.in_err-count.field-0.0
    c.loop-at-test.true c.split_at.ensures.back c.loop-at.invariant c.in_err-count.ensures in
    search rules
