use Rattle.std.proofs.Common.{◌+◌, arith}
use Rattle.std.proofs.lemmas.Bool.{leb-true}
use Rattle.plain_cells.specs.Own.{stands_bare}
use Rattle.plain_cells.proofs.LaneLemmas.{all_fewer, all_more}
use Rattle.plain_cells.proofs.texts.are_bare.Goals as goal

pub returns-then-bare-lt-LANES : goal.returns-then-bare-lt-LANES
returns-then-bare-lt-LANES c is =
    let bare = c.leading_bare-bare in
    let more = all_more stands_bare c.loop-at.at bare.result c.args.text.now c.split_at.result.1.now c.split_at.ensures.back c.loop-at.invariant.bare (omega (arith, bare.ensures.value)) in
    all_fewer stands_bare c.args.count (c.loop-at.at + bare.result) c.args.text.now (leb-true _ _ is) more

pub loop-at-preserved : goal.loop-at-preserved
loop-at-preserved c =
    let bare = c.leading_bare-bare in
    record {
      low = omega (arith, c.loop-at-test.true);
      bare = all_more stands_bare c.loop-at.at 16 c.args.text.now c.split_at.result.1.now c.split_at.ensures.back c.loop-at.invariant.bare (omega (arith, bare.ensures.value, c.if-bare-lt-LANES.false));
    }

pub returns : goal.returns
returns c is = all_fewer stands_bare c.args.count c.loop-at.at c.args.text.now c.loop-at-test.false c.loop-at.invariant.bare
