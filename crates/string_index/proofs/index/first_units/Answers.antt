use Rattle.std.proofs.Common.{◌≡◌, ◌+◌, ◌*◌, suc, ap, ap₂, ◌∙◌, arith}
use Rattle.string_index.specs.Texts.{units}
use Rattle.string_index.proofs.TextLemmas.{unit_more_small}
use Rattle.string_index.proofs.index.first_units.Goals as goal

pub overflow_mul-word : goal.overflow_mul-word
overflow_mul-word c =
    let s = unit_more_small c.loop-at.word 0 c.loop-at.at c.loop-at.invariant.small (omega arith) c.loop-at-test.true in
    omega (arith, s.1)

pub overflow_add-word : goal.overflow_add-word
overflow_add-word c =
    let s = unit_more_small c.loop-at.word c.unit.result c.loop-at.at c.loop-at.invariant.small (omega arith) c.loop-at-test.true in
    omega (arith, s.1)

pub loop-at-preserved : goal.loop-at-preserved
loop-at-preserved c =
    let one : suc c.loop-at.at ≡ c.loop-at.at + 1 = omega arith in
    record {
      word = ap₂ (λ w u. w * 256 + u) c.loop-at.invariant.word c.unit.ensures ∙ ap (λ n. units n c.args.text.now) one;
      small = (unit_more_small c.loop-at.word c.unit.result c.loop-at.at c.loop-at.invariant.small (omega arith) c.loop-at-test.true).0;
    }
