use Rattle.std.proofs.Common.{length, ap, sym, ◌∙◌, arith}
use Rattle.runs_bitmap.proofs.RunLemmas.{length_bits}
use Rattle.runs_bitmap.proofs.bitmap.RunsBitmapBits.len.Goals as goal

pub returns-clause-value : goal.returns-clause-value
returns-clause-value c = sym (ap length (sym c.self.view_is) ∙ length_bits c.self.inside.runs.items c.self.inside.len c.self.invariant.1)

pub returns-clause-bounded : goal.returns-clause-bounded
returns-clause-bounded c =
    let e = ap length (sym c.self.view_is) ∙ length_bits c.self.inside.runs.items c.self.inside.len c.self.invariant.1 in
    omega (arith, e, c.self.invariant.0)
