use Rattle.std.proofs.Common.{length, ap, sym, ◌∙◌, arith}
use Rattle.runs_bitmap.proofs.RunLemmas.{length_bits}
use Rattle.std.proofs.lemmas.Result.{err_from_is_err_and}
use Rattle.bits_law.proofs.RefusalLemmas.{refusal_room, refusal_full}
use Rattle.runs_bitmap.proofs.bitmap.RunsBitmapBits.push_run.Goals as goal

pub returns-then-n-self-clause-end : goal.returns-then-n-self-clause-end
returns-then-n-self-clause-end c =
    let e = ap length (sym c.self.view_is) ∙ length_bits c.self.inside.runs.items c.self.inside.len c.self.invariant.1 in
    rw e (sym (refusal_full c.self.inside.len c.args.n (omega (arith, c.if-n-self.true, c.self.invariant.0))))

pub returns-in_err-extend-clause-end : goal.returns-in_err-extend-clause-end
returns-in_err-extend-clause-end c =
    let e = ap length (sym c.self.view_is) ∙ length_bits c.self.inside.runs.items c.self.inside.len c.self.invariant.1 in
    let p = err_from_is_err_and c.from_residual.result c.from_residual.ensures.1 in
    rw (p.1, p.2, e) (sym (refusal_room c.self.inside.len c.args.n (omega (arith, c.if-n-self.false, c.self.invariant.0))))

pub returns-clause-fits : goal.returns-clause-fits
returns-clause-fits c =
    let e = ap length (sym c.self.view_is) ∙ length_bits c.self.inside.runs.items c.self.inside.len c.self.invariant.1 in
    omega (arith, e, c.if-n-self.false, c.self.invariant.0)
