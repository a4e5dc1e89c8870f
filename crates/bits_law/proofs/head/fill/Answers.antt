use Rattle.std.proofs.Common.{◌+◌, ◌-◌, ℕ, ◌&&◌, get_or, refl, sym, subst, arith}
use Rattle.std.specs.Int.{leading_zeros, w64}
use Rattle.bits_law.specs.Numbers.{has_bit}
use Rattle.bits_law.specs.Packed.{AreFilled}
use Rattle.bits_law.proofs.WordBits.{highest}
use Rattle.bits_law.proofs.PackLemmas.{filled_none, filled_nothing, filled_more, filled_above, filled_end, left_less, left_more, left_all, own_set}
use Rattle.bits_law.proofs.PlaneLemmas.{marked_column}
use Rattle.bits_law.proofs.head.fill.Goals as goal

pub loop-left-init : goal.loop-left-init
loop-left-init c = record {
  within = omega arith;
  left = left_all c.args.own;
  size = refl;
  plane = λ l. absurd (omega arith);
  filled = filled_none c.args.words.now.items c.args.own _ c.ranges.own.fits;
}

pub loop-left-preserved : goal.loop-left-preserved
loop-left-preserved c =
    let a = c.args in
    let i = c.loop-left.invariant in
    let left = c.loop-left.left in
    let at = 63 - leading_zeros w64 c.loop-left.left in
    let top = highest left at (omega (arith, c.loop-left-test.true)) c.loop-left.auto.left-fits.fits refl in
    let word : ℕ → ℕ → _ = λ c i. has_bit a.taken i && has_bit (get_or a.keys.now i 0) c in
    record {
      within = omega arith;
      left = left_more left a.own c.loop-left.at at c.ranges.own.fits i.left top;
      size = c.turn.ensures.size;
      plane = λ l. c.turn.ensures.plane;
      filled = subst (λ ws. AreFilled a.words.now.items ws a.own at word) (sym c.in_ok-push.ensures.items)
          (filled_more a.words.now.items c.loop-left.words.items a.own (at + 1) at _ word refl (own_set left a.own c.loop-left.at at i.left top) (λ i l. marked_column c.marks.result a.taken at i c.turn.new.plane a.keys.now c.marks.ensures c.turn.ensures.size c.turn.ensures.plane l)
          (filled_above a.words.now.items c.loop-left.words.items left a.own c.loop-left.at at word i.within i.left top i.filled));
    }

pub loop-left-smaller : goal.loop-left-smaller
loop-left-smaller c =
    left_less c.loop-left.left c.args.own c.loop-left.at (63 - leading_zeros w64 c.loop-left.left) c.loop-left.invariant.left
    (highest c.loop-left.left (63 - leading_zeros w64 c.loop-left.left) (omega (arith, c.loop-left-test.true)) c.loop-left.auto.left-fits.fits refl)

pub returns-clause-ok : goal.returns-clause-ok
returns-clause-ok c =
    let i = c.loop-left.invariant in
    filled_end c.args.words.now.items c.loop-left.words.items c.loop-left.left c.args.own c.loop-left.at _ i.within c.loop-left-test.false i.left i.filled

pub returns-then-own-eq0-clause-ok : goal.returns-then-own-eq0-clause-ok
returns-then-own-eq0-clause-ok c = filled_nothing c.args.words.now.items c.args.own _ c.if-own-eq0.true
