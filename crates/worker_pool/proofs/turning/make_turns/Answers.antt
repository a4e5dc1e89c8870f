use Rattle.step_script.specs.Feeds.{Outward}
use Rattle.turn_book.specs.Seats.{pass_standing}
use Rattle.worker_pool.specs.Running.{Point}
use Rattle.worker_pool.proofs.RunLemmas.{between_then, rests}
use Rattle.worker_pool.proofs.turning.make_turns.Goals as goal

pub returns-then-all_ended-clause-runs : goal.returns-then-all_ended-clause-runs
returns-then-all_ended-clause-runs g c =
    let out : Outward g.row.S.Denot = record { left = g.S.Source.left; faults = g.S.Source.faults } in
    let start : Point g.row.S.Denot = record { feeds = c.args.feeds.now; queries = c.args.queries.now; stands = pass_standing c.args.pass.now } in
    let here : Point g.row.S.Denot = record { feeds = c.loop-turn.feeds; queries = c.loop-turn.queries; stands = pass_standing c.loop-turn.pass } in
    let there : Point g.row.S.Denot = record { feeds = c.make_turn.new.feeds; queries = c.make_turn.new.queries; stands = pass_standing c.make_turn.new.pass } in
    rests out start here c.loop-turn.cache c.make_turn.new.cache c.loop-turn.invariant.1 there c.in_ok-claimed.claimed c.if-not-claimed.true c.in_ok-claimed.ensures.turns c.if-all_ended.ensures

pub loop-turn-preserved : goal.loop-turn-preserved
loop-turn-preserved g c =
    let out : Outward g.row.S.Denot = record { left = g.S.Source.left; faults = g.S.Source.faults } in
    let start : Point g.row.S.Denot = record { feeds = c.args.feeds.now; queries = c.args.queries.now; stands = pass_standing c.args.pass.now } in
    let here : Point g.row.S.Denot = record { feeds = c.loop-turn.feeds; queries = c.loop-turn.queries; stands = pass_standing c.loop-turn.pass } in
    let there : Point g.row.S.Denot = record { feeds = c.make_turn.new.feeds; queries = c.make_turn.new.queries; stands = pass_standing c.make_turn.new.pass } in
    (c.in_ok-claimed.ensures.book, between_then out start here c.loop-turn.cache c.make_turn.new.cache c.loop-turn.invariant.1 there c.in_ok-claimed.claimed c.in_ok-claimed.ensures.turns)
