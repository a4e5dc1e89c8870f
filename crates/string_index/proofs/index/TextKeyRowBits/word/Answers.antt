use Rattle.std.proofs.Common.{arith}
use Rattle.string_index.proofs.TextLemmas.{unit_more_small, unit_more, unit_all}
use Rattle.string_index.proofs.index.TextKeyRowBits.word.Goals as goal

pub overflow_mul-word : goal.overflow_mul-word
overflow_mul-word c =
    let s = unit_more_small c.loop-k.word 0 c.loop-k.k c.loop-k.invariant.small (omega arith) c.loop-k-test.true in
    omega (arith, s.1)

pub overflow_add-word : goal.overflow_add-word
overflow_add-word c =
    let s = unit_more_small c.loop-k.word c.unit.result c.loop-k.k c.loop-k.invariant.small (omega arith) c.loop-k-test.true in
    omega (arith, s.1)

pub loop-k-preserved : goal.loop-k-preserved
loop-k-preserved c = record {
  small = (unit_more_small c.loop-k.word c.unit.result c.loop-k.k c.loop-k.invariant.small (omega arith) c.loop-k-test.true).0;
  bits = λ j l. unit_more c.args.self.now.text.now c.args.part c.loop-k.word c.unit.result c.loop-k.k j (omega arith) c.unit.ensures c.loop-k.invariant.bits l;
}

pub returns : goal.returns
returns c = λ j l. unit_all c.args.self.now.text.now c.args.part c.loop-k.word c.loop-k.k j (omega arith) l c.loop-k.invariant.bits
