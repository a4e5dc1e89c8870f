use Rattle.std.proofs.Common.{◌≡◌, IfOk, ap, ◌∙◌, subst, arith}
use Rattle.bits_law.proofs.ViewLemmas.{line_is}
use Rattle.bits_law.proofs.table.Table.present.Goals as goal

pub returns : goal.returns
returns g c =
    let t = c.self.inside in
    let s = t.store in
    let e = c.in_ok-last.ensures in
    let is = line_is s.blocks c.in_ok-last.last s.keys.items s.taken t.rows c.self.invariant.0.near e.bits 0 (omega arith) ∙ ap (λ v. v.present) c.self.view_is in
    subst (λ xs. IfOk c.line.result (λ b. g.B.Bits.bits b ≡ xs)) is c.line.ensures
