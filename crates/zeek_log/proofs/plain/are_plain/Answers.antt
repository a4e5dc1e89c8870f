use Rattle.std.proofs.Common.{arith}
use Rattle.zeek_log.proofs.LookLemmas.{all_seen, look_stands, no_look}
use Rattle.zeek_log.proofs.plain.are_plain.Goals as goal

pub end_of-to-requires : goal.end_of-to-requires
end_of-to-requires c =
    let stands =
    look_stands c.args.layout.now.columns c.looks-look-items.result.now c.args.places.now c.args.count c.loop-look.look-index no_look c.looks-look-items.ensures c.loop-look-test.true c.requires.places c.requires.order in
    stands.0

pub start_of-from-requires : goal.start_of-from-requires
start_of-from-requires c =
    let stands =
    look_stands c.args.layout.now.columns c.looks-look-items.result.now c.args.places.now c.args.count c.loop-look.look-index no_look c.looks-look-items.ensures c.loop-look-test.true c.requires.places c.requires.order in
    omega (arith, stands.0)

pub split_at-requires : goal.split_at-requires
split_at-requires c =
    let stands =
    look_stands c.args.layout.now.columns c.looks-look-items.result.now c.args.places.now c.args.count c.loop-look.look-index no_look c.looks-look-items.ensures c.loop-look-test.true c.requires.places c.requires.order in
    omega (arith, stands.1, stands.2, c.start_of-from.ensures, c.requires.spare)

pub overflow_sub-to : goal.overflow_sub-to
overflow_sub-to c =
    let stands =
    look_stands c.args.layout.now.columns c.looks-look-items.result.now c.args.places.now c.args.count c.loop-look.look-index no_look c.looks-look-items.ensures c.loop-look-test.true c.requires.places c.requires.order in
    omega (arith, stands.1, c.start_of-from.ensures, c.end_of-to.ensures)

pub is_plain-requires-clause-spare : goal.is_plain-requires-clause-spare
is_plain-requires-clause-spare c =
    let stands =
    look_stands c.args.layout.now.columns c.looks-look-items.result.now c.args.places.now c.args.count c.loop-look.look-index no_look c.looks-look-items.ensures c.loop-look-test.true c.requires.places c.requires.order in
    omega
    (arith, stands.1, stands.2, c.start_of-from.ensures, c.end_of-to.ensures, c.requires.spare, c.split_at.ensures.back_len)

pub returns : goal.returns
returns c = λ yes.
    all_seen c.args.marks.now c.args.text.now c.args.places.now c.args.count c.loop-look.look-index c.args.layout.now.columns c.looks-look-items.result.now
    c.looks-look-items.ensures
    (omega (arith, c.loop-look-test.false)) c.requires.places c.requires.order c.loop-look.invariant
