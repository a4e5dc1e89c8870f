use Rattle.std.proofs.Common.{◌≡◌}
use Rattle.step_script.specs.Feeds.{Outward}
use Rattle.turn_book.specs.Seats.{book_id, pass_book, pass_standing}
use Rattle.worker_pool.specs.Running.{Point}
use Rattle.worker_pool.proofs.RunLemmas.{Between}
use Rattle.worker_pool.proofs.turning.make_turns.Given as goal

abbrev pub invariant-loop-turn : goal.invariant-loop-turn
invariant-loop-turn g l =
    let out : Outward g.row.S.Denot = record { left = g.S.Source.left; faults = g.S.Source.faults } in
    let start : Point g.row.S.Denot = record { feeds = l.fn.feeds; queries = l.fn.queries; stands = pass_standing l.fn.pass } in
    let now : Point g.row.S.Denot = record { feeds = l.feeds; queries = l.queries; stands = pass_standing l.pass } in
    (pass_book l.pass ≡ book_id l.fn.vast.book) × Between out start now l.cache
