use Rattle.std.proofs.Common.{length, sym, subst, arith}
use Rattle.bits_law.specs.Contents.{IsPadded}
use Rattle.bits_law.specs.Blocks.{bit_at, held, IsLaid}
use Rattle.bits_law.proofs.HeldLemmas.{padded_is, length_line}
use Rattle.bits_law.proofs.StoreLemmas.{laid_same}
use Rattle.bits_law.proofs.ViewLemmas.{rows_are}
use Rattle.bits_law.proofs.table.Table.pad.Goals as goal

pub reach-requires : goal.reach-requires
reach-requires g c =
    let t = c.table.inside in
    let s = t.store in
    let have = rows_are (bit_at s.blocks s.keys.items s.taken) s.blocks.width t.rows c.args.self c.table.view_is in
    omega (arith, have, c.requires, c.table.invariant.0.behind)

pub invariant_of-table : goal.invariant_of-table
invariant_of-table g c =
    let t = c.table.inside in
    let s = t.store in
    let new = c.reach.new.self in
    let o = c.in_ok-reach.ensures in
    let have = rows_are (bit_at s.blocks s.keys.items s.taken) s.blocks.width t.rows c.args.self c.table.view_is in (
      subst (λ w. IsLaid (bit_at new.blocks new.keys.items new.taken) w c.args.rows (length new.blocks.blocks)) (sym o.width)
          (laid_same (bit_at s.blocks s.keys.items s.taken) (bit_at new.blocks new.keys.items new.taken) s.blocks.width t.rows c.args.rows (length new.blocks.blocks) (length s.blocks.blocks) (omega (arith, have, c.requires)) (omega (arith, c.if-rows-gt-LONGEST.false)) (omega (arith, o.ok)) (omega (arith, o.ok)) o.same c.table.invariant.0),
      omega (arith, o.width, c.table.invariant.1),
    )

pub returns-clause-ok : goal.returns-clause-ok
returns-clause-ok g c =
    let t = c.table.inside in
    let s = t.store in
    let new = c.reach.new.self in
    let have = rows_are (bit_at s.blocks s.keys.items s.taken) s.blocks.width t.rows c.args.self c.table.view_is in
    subst (λ w. IsPadded c.args.self (held (bit_at new.blocks new.keys.items new.taken) w c.args.rows) c.args.rows) (sym c.in_ok-reach.ensures.width)
    (subst (λ v. IsPadded v (held (bit_at new.blocks new.keys.items new.taken) s.blocks.width c.args.rows) c.args.rows) c.table.view_is
    (padded_is (bit_at s.blocks s.keys.items s.taken) (bit_at new.blocks new.keys.items new.taken) s.blocks.width t.rows c.args.rows (omega (arith, have, c.requires)) c.in_ok-reach.ensures.same c.table.invariant.0.clear))

pub returns-clause-rows : goal.returns-clause-rows
returns-clause-rows g c =
    let new = c.reach.new.self in
    length_line (bit_at new.blocks new.keys.items new.taken) c.args.rows 0
