use Rattle.std.proofs.Common.{◌≡◌, Bool, ltb, ◌+◌, ◌&&◌, ℕ, sym, ap, ◌∙◌, subst, arith}
use Rattle.std.proofs.lemmas.Bool.{lt-ltb}
use Rattle.bits_law.specs.Blocks.{bit_at, IsSet, AreJoinedFor}
use Rattle.bits_law.proofs.StoreLemmas.{rows_put, rows_gap}
use Rattle.bits_law.proofs.store.Store.append_rows.Goals as goal

pub loop-row-preserved : goal.loop-row-preserved
loop-row-preserved c =
    let s = c.args.self in
    let o = c.args.other.now in
    let mid = c.loop-row.store in
    let new = c.put.new.self in
    let k = c.loop-row.row in
    let i = c.loop-row.invariant in
    let other = bit_at o.blocks o.keys.items o.taken in
    let key : ℕ → Bool = λ j. ltb j o.blocks.width && other (j + 1) k in
    let set = subst (λ w. IsSet (bit_at mid.blocks mid.keys.items mid.taken) (bit_at new.blocks new.keys.items new.taken) w (c.args.rows + k) key) i.width c.in_ok-put.ensures.ok in
    record {
      width = c.in_ok-put.ensures.width ∙ i.width;
      behind = omega (arith, c.in_ok-put.ensures.behind);
      joined = rows_put (bit_at s.blocks s.keys.items s.taken) other (bit_at mid.blocks mid.keys.items mid.taken) (bit_at new.blocks new.keys.items new.taken) s.blocks.width c.args.rows k i.joined key set (sym c.if-not-bit.ensures)
          (λ j l. ap (λ b. b && other (j + 1) k) (lt-ltb j o.blocks.width (omega (arith, c.requires.width))));
    }

pub loop-row-preserved-then-not-bit : goal.loop-row-preserved-then-not-bit
loop-row-preserved-then-not-bit c =
    let s = c.args.self in
    let o = c.args.other.now in
    let mid = c.loop-row.store in
    let i = c.loop-row.invariant in
    record {
      width = i.width;
      behind = omega (arith, i.behind);
      joined = rows_gap (bit_at s.blocks s.keys.items s.taken) (bit_at o.blocks o.keys.items o.taken) (bit_at mid.blocks mid.keys.items mid.taken) (bit_at mid.blocks mid.keys.items mid.taken) s.blocks.width c.args.rows c.loop-row.row i.joined
          (λ line l. c.requires.keys line c.loop-row.row l (sym c.if-not-bit.ensures));
    }

pub returns-clause-joined : goal.returns-clause-joined
returns-clause-joined c =
    let s = c.args.self in
    let o = c.args.other.now in
    let new = c.loop-row.store in
    let all : c.loop-row.row ≡ c.args.more = omega arith in
    subst (λ n. AreJoinedFor (bit_at s.blocks s.keys.items s.taken) (bit_at o.blocks o.keys.items o.taken) (bit_at new.blocks new.keys.items new.taken) s.blocks.width c.args.rows n) all c.loop-row.invariant.joined
