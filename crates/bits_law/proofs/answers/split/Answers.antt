use Rattle.std.proofs.Common.{◌≡◌, [], get_or, refl, arith}
use Rattle.bits_law.proofs.AskLemmas.{halves_more, halves_all, halves_settled}
use Rattle.bits_law.proofs.SameLemmas.{passed_over}
use Rattle.bits_law.proofs.answers.split.Goals as goal

pub loop-j-preserved : goal.loop-j-preserved
loop-j-preserved c = record {
  within = omega (arith, c.min-j.ensures);
  halves = passed_over c.args.blocks.now c.args.block c.args.first c.args.count c.args.key c.args.among c.loop-j.halves.below c.loop-j.halves.equal c.loop-j.j c.same-same.result c.min-j.result
      c.ranges.key.fits c.requires.few c.requires.inside c.loop-j-test.true c.min-j.ensures c.same-same.ensures.same c.loop-j.invariant.halves;
}

pub loop-j-preserved-then-j-count : goal.loop-j-preserved-then-j-count
loop-j-preserved-then-j-count c =
    let a = c.args in
    let h = c.loop-j.halves in
    let next = c.narrow-halves.result in
    let to = c.min-j.result in
    record {
      within = omega (arith, c.if-j-count.true);
      halves = halves_more (get_or a.blocks.now.blocks a.block []) a.first a.count a.key a.among h.below h.equal next.below next.equal _ to c.has_bit-bit.result c.if-j-count.true c.has_bit-bit.ensures c.word.ensures c.narrow-halves.ensures.below c.narrow-halves.ensures.equal
          (passed_over a.blocks.now a.block a.first a.count a.key a.among h.below h.equal c.loop-j.j c.same-same.result to c.ranges.key.fits c.requires.few c.requires.inside c.loop-j-test.true c.min-j.ensures c.same-same.ensures.same c.loop-j.invariant.halves);
    }

pub returns-else-halves-ne0-clause-below : goal.returns-else-halves-ne0-clause-below
returns-else-halves-ne0-clause-below c =
    let a = c.args in
    let h = c.loop-j.halves in
    (halves_all (get_or a.blocks.now.blocks a.block []) a.first a.count a.key a.among h.below h.equal a.count refl
    (halves_settled (get_or a.blocks.now.blocks a.block []) a.first a.count a.key a.among h.below h.equal c.loop-j.j c.loop-j.invariant.within c.if-halves-ne0.false c.loop-j.invariant.halves)).0

pub returns-else-halves-ne0-clause-equal : goal.returns-else-halves-ne0-clause-equal
returns-else-halves-ne0-clause-equal c =
    let a = c.args in
    let h = c.loop-j.halves in
    (halves_all (get_or a.blocks.now.blocks a.block []) a.first a.count a.key a.among h.below h.equal a.count refl
    (halves_settled (get_or a.blocks.now.blocks a.block []) a.first a.count a.key a.among h.below h.equal c.loop-j.j c.loop-j.invariant.within c.if-halves-ne0.false c.loop-j.invariant.halves)).1

pub returns-after-loop-j-clause-below : goal.returns-after-loop-j-clause-below
returns-after-loop-j-clause-below c =
    let a = c.args in
    let h = c.loop-j.halves in
    let end : c.loop-j.j ≡ a.count = omega (arith, c.loop-j.invariant.within) in
    (halves_all (get_or a.blocks.now.blocks a.block []) a.first a.count a.key a.among h.below h.equal c.loop-j.j end c.loop-j.invariant.halves).0

pub returns-after-loop-j-clause-equal : goal.returns-after-loop-j-clause-equal
returns-after-loop-j-clause-equal c =
    let a = c.args in
    let h = c.loop-j.halves in
    let end : c.loop-j.j ≡ a.count = omega (arith, c.loop-j.invariant.within) in
    (halves_all (get_or a.blocks.now.blocks a.block []) a.first a.count a.key a.among h.below h.equal c.loop-j.j end c.loop-j.invariant.halves).1

pub overflow_add-first : goal.overflow_add-first
overflow_add-first c = omega (arith, c.requires.narrow, c.requires.few, c.loop-j-test.true)
