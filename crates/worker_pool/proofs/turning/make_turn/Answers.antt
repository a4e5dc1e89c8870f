use Rattle.std.proofs.lemmas.Result.{err_from_is_err_and}
use Rattle.step_script.specs.Feeds.{Outward}
use Rattle.worker_pool.proofs.TurnLemmas.{askable_then, goes_on, kept_registered, sound_registered, stops_reading, stops_registering}
use Rattle.worker_pool.proofs.turning.make_turn.Goals as goal

pub returns-in_err-read_one-clause-turns : goal.returns-in_err-read_one-clause-turns
returns-in_err-read_one-clause-turns g c =
    let out : Outward g.row.S.Denot = record { left = g.S.Source.left; faults = g.S.Source.faults } in
    let h = err_from_is_err_and c.from_residual.result c.from_residual.ensures.1 in
    rw h.1 (stops_reading out c.a_cache_serves_a_store.ensures _ c.requires.sound c.args.feeds.now c.read_one.new.feeds c.args.queries.now c.requires.askable c.requires.unasked c.args.cache.now c.requires.cache h.0 _
    (rw c.in_err-read_one.was at c.read_one.ensures.reads))

pub returns-in_err-register_all-clause-turns : goal.returns-in_err-register_all-clause-turns
returns-in_err-register_all-clause-turns g c =
    let out : Outward g.row.S.Denot = record { left = g.S.Source.left; faults = g.S.Source.faults } in
    let h = err_from_is_err_and c.from_residual-in_err-register_all.result c.from_residual-in_err-register_all.ensures.1 in
    rw h.1 (stops_registering out c.a_cache_serves_a_store.ensures _ c.requires.sound c.args.feeds.now c.read_one.new.feeds c.args.queries.now c.requires.askable c.requires.unasked c.args.cache.now c.requires.cache _
    (rw c.in_ok-read_one.was at c.read_one.ensures.reads) h.0 c.register_all.new.queries _ (rw c.in_err-register_all.was at c.register_all.ensures.registers))

pub finish_turn-requires-clause-sound : goal.finish_turn-requires-clause-sound
finish_turn-requires-clause-sound g c =
    let out : Outward g.row.S.Denot = record { left = g.S.Source.left; faults = g.S.Source.faults } in
    sound_registered out c.a_cache_serves_a_store.ensures _ c.requires.sound c.args.feeds.now c.read_one.new.feeds c.args.queries.now c.requires.askable c.requires.unasked c.args.cache.now c.requires.cache _
    (rw c.in_ok-read_one.was at c.read_one.ensures.reads) _ c.register_all.new.queries _ c.register_all.ensures.registers

pub finish_turn-requires-clause-askable : goal.finish_turn-requires-clause-askable
finish_turn-requires-clause-askable g c =
    let out : Outward g.row.S.Denot = record { left = g.S.Source.left; faults = g.S.Source.faults } in
    askable_then out c.a_cache_serves_a_store.ensures _ c.requires.sound c.args.feeds.now c.read_one.new.feeds c.args.queries.now c.requires.askable c.requires.unasked c.args.cache.now c.requires.cache _
    (rw c.in_ok-read_one.was at c.read_one.ensures.reads) _ c.register_all.new.queries _ c.register_all.ensures.registers

pub finish_turn-requires-clause-cache : goal.finish_turn-requires-clause-cache
finish_turn-requires-clause-cache g c =
    let out : Outward g.row.S.Denot = record { left = g.S.Source.left; faults = g.S.Source.faults } in
    kept_registered out c.a_cache_serves_a_store.ensures _ c.requires.sound c.args.feeds.now c.read_one.new.feeds c.args.queries.now c.requires.askable c.requires.unasked c.args.cache.now c.requires.cache _
    (rw c.in_ok-read_one.was at c.read_one.ensures.reads) _ c.register_all.new.queries _ c.register_all.ensures.registers

pub returns-clause-turns : goal.returns-clause-turns
returns-clause-turns g c =
    let out : Outward g.row.S.Denot = record { left = g.S.Source.left; faults = g.S.Source.faults } in
    goes_on out c.a_cache_serves_a_store.ensures _ c.requires.sound c.args.feeds.now c.read_one.new.feeds c.args.queries.now c.requires.askable c.requires.unasked c.args.cache.now c.requires.cache _
    (rw c.in_ok-read_one.was at c.read_one.ensures.reads) c.finish_turn.result c.register_all.new.queries c.finish_turn.new.queries _ _ c.finish_turn.new.cache
    (rw c.in_ok-register_all.was at c.register_all.ensures.registers) c.finish_turn.ensures.exprs c.finish_turn.ensures.finishes
