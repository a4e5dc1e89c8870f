use Rattle.std.proofs.Common.{◌+◌, length, sym, ap, ◌∙◌, subst, arith}
use Rattle.bits_law.specs.Contents.{IsPlaced}
use Rattle.bits_law.specs.Blocks.{bit_at, held, IsLaid}
use Rattle.bits_law.proofs.HeldLemmas.{held_same, length_line, placed_is}
use Rattle.bits_law.proofs.StoreLemmas.{laid_set, laid_same}
use Rattle.bits_law.proofs.ViewLemmas.{rows_are, on_err}
use Rattle.bits_law.proofs.table.Table.put.Goals as goal

pub put-requires : goal.put-requires
put-requires g c =
    let t = c.self.inside in
    let s = t.store in
    let have = rows_are (bit_at s.blocks s.keys.items s.taken) s.blocks.width t.rows c.args.self.now c.self.view_is in
    omega (arith, have, c.requires, c.self.invariant.0.behind)

pub invariant_of-self : goal.invariant_of-self
invariant_of-self g c =
    let t = c.self.inside in
    let s = t.store in
    let new = c.put.new.self in
    let laid = c.self.invariant.0 in
    let e = c.in_err-put.ensures in (
      subst (λ w. IsLaid (bit_at new.blocks new.keys.items new.taken) w t.rows (length new.blocks.blocks)) (sym e.width)
          (laid_same (bit_at s.blocks s.keys.items s.taken) (bit_at new.blocks new.keys.items new.taken) s.blocks.width t.rows t.rows (length new.blocks.blocks) (length s.blocks.blocks) (omega arith) laid.short (omega (arith, e.kept, laid.behind)) (omega (arith, e.kept, laid.near)) e.err laid),
      omega (arith, e.width, c.self.invariant.1),
    )

pub returns-in_err-put-clause-err : goal.returns-in_err-put-clause-err
returns-in_err-put-clause-err g c =
    let t = c.self.inside in
    let s = t.store in
    let new = c.put.new.self in
    let e = c.in_err-put.ensures in
    on_err c.from_residual.result _
    (ap (λ w. held (bit_at new.blocks new.keys.items new.taken) w t.rows) e.width
    ∙ held_same (bit_at s.blocks s.keys.items s.taken) (bit_at new.blocks new.keys.items new.taken) s.blocks.width t.rows e.err
    ∙ c.self.view_is)

pub invariant_of-self-2 : goal.invariant_of-self-2
invariant_of-self-2 g c =
    let t = c.self.inside in
    let s = t.store in
    let new = c.put.new.self in
    let laid = c.self.invariant.0 in
    let o = c.in_ok-put.ensures in
    let have = rows_are (bit_at s.blocks s.keys.items s.taken) s.blocks.width t.rows c.args.self.now c.self.view_is in (
      subst (λ w. IsLaid (bit_at new.blocks new.keys.items new.taken) w (c.args.row + 1) (length new.blocks.blocks)) (sym o.width)
          (laid_set (bit_at s.blocks s.keys.items s.taken) (bit_at new.blocks new.keys.items new.taken) s.blocks.width t.rows c.args.row (length new.blocks.blocks) (length s.blocks.blocks) (g.R.RowBits.bit c.args.key.now) (omega (arith, have, c.requires)) (omega (arith, c.if-row-ge-LONGEST.false)) o.behind o.near o.ok laid),
      omega (arith, o.width, c.self.invariant.1),
    )

pub returns-clause-ok : goal.returns-clause-ok
returns-clause-ok g c =
    let t = c.self.inside in
    let s = t.store in
    let new = c.put.new.self in
    let bit = g.R.RowBits.bit c.args.key.now in
    let have = rows_are (bit_at s.blocks s.keys.items s.taken) s.blocks.width t.rows c.args.self.now c.self.view_is in
    subst (λ w. IsPlaced c.args.self.now (held (bit_at new.blocks new.keys.items new.taken) w (c.args.row + 1)) c.args.row bit) (sym c.in_ok-put.ensures.width)
    (subst (λ v. IsPlaced v (held (bit_at new.blocks new.keys.items new.taken) s.blocks.width (c.args.row + 1)) c.args.row bit) c.self.view_is
    (placed_is (bit_at s.blocks s.keys.items s.taken) (bit_at new.blocks new.keys.items new.taken) s.blocks.width t.rows c.args.row bit (omega (arith, have, c.requires)) c.in_ok-put.ensures.ok c.self.invariant.0.clear))

pub returns-clause-rows : goal.returns-clause-rows
returns-clause-rows g c =
    let new = c.put.new.self in
    length_line (bit_at new.blocks new.keys.items new.taken) (c.args.row + 1) 0
