use Rattle.std.proofs.Common.{refl}
use Rattle.bits_law.proofs.PackLemmas.{any_more, each_more, apart_more}
use Rattle.bits_law.proofs.head.shared_by_all.Goals as goal

pub loop-i-preserved : goal.loop-i-preserved
loop-i-preserved c =
    let keys = c.args.keys.now in
    let l = c.loop-i in
    record {
      any = λ taken. any_more keys taken l.i l.any _ refl (l.invariant.any taken);
      each = λ taken. each_more keys taken l.i l.each _ refl (l.invariant.each taken);
      apart = λ taken. apart_more keys taken l.i l.apart _ refl (l.invariant.apart taken);
    }
