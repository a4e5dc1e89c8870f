use Rattle.std.proofs.Common.{sym, ◌∙◌}
use Rattle.bits_law.proofs.PackLemmas.{any_more, each_more, apart_more, any_kept, each_kept, apart_kept}
use Rattle.bits_law.proofs.head.shared_bits.Goals as goal
use Rattle.bits_law.proofs.head.shared_bits.Goals.{then-has_bit, else-has_bit}

pub loop-i-preserved : goal.loop-i-preserved
loop-i-preserved c =
    let a = c.args in
    let i = c.loop-i.i in
    elim c.if-has_bit.branch [
      | then-has_bit w ↦ record {
        any = any_more a.keys.now a.taken i c.loop-i.any _ w.any-is c.loop-i.invariant.any;
        each = each_more a.keys.now a.taken i c.loop-i.each _ w.each-is c.loop-i.invariant.each;
        apart = apart_more a.keys.now a.taken i c.loop-i.apart _ w.apart-is c.loop-i.invariant.apart;
      }
      | else-has_bit w ↦ record {
        any = any_kept a.keys.now a.taken i c.loop-i.any _ w.any-is (sym c.has_bit.ensures ∙ w.if-has_bit.false) c.loop-i.invariant.any;
        each = each_kept a.keys.now a.taken i c.loop-i.each _ w.each-is (sym c.has_bit.ensures ∙ w.if-has_bit.false) c.loop-i.invariant.each;
        apart = apart_kept a.keys.now a.taken i c.loop-i.apart _ w.apart-is (sym c.has_bit.ensures ∙ w.if-has_bit.false) c.loop-i.invariant.apart;
      }
    ]
