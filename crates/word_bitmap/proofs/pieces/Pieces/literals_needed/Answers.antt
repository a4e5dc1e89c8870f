use Rattle.std.proofs.Common.{ap, ◌∙◌, arith}
use Rattle.word_bitmap.specs.Words.{needs, all_of}
use Rattle.word_bitmap.proofs.PieceLemmas.{after_at, at_piece, index_within, all_read, all_laid, all_reach, reach_le}
use Rattle.word_bitmap.proofs.pieces.Pieces.literals_needed.Goals as goal

pub loop-i-init : goal.loop-i-init
loop-i-init c = record {
  laid = all_laid c.args.self.now c.requires.laid;
  end = all_reach c.args.self.now;
  fits = omega arith;
  all = omega arith;
}

pub overflow_sub-piece : goal.overflow_sub-piece
overflow_sub-piece c =
    let p = c.args.self.now in
    let s = after_at p c.loop-i.at c.loop-i.i c.piece-piece.result (index_within p c.loop-i.i (omega (arith, c.loop-i-test.true, c.len-i-end.ensures))) c.piece-piece.ensures c.loop-i.invariant.laid in
    s.order

pub overflow_add-needed : goal.overflow_add-needed
overflow_add-needed c =
    let p = c.args.self.now in
    let s = after_at p c.loop-i.at c.loop-i.i c.piece-piece.result (index_within p c.loop-i.i (omega (arith, c.loop-i-test.true, c.len-i-end.ensures))) c.piece-piece.ensures c.loop-i.invariant.laid in
    let r = reach_le _ _ _ s.laid in
    omega (arith, s.order, r, s.reach, c.loop-i.invariant.end, c.loop-i.invariant.fits, c.literals_needed-needed.ensures.bounded, c.requires.short, c.loop-i-test.true, c.len-i-end.ensures, c.len.ensures)

pub loop-i-preserved : goal.loop-i-preserved
loop-i-preserved c =
    let p = c.args.self.now in
    let s = after_at p c.loop-i.at c.loop-i.i c.piece-piece.result (index_within p c.loop-i.i (omega (arith, c.loop-i-test.true, c.len-i-end.ensures))) c.piece-piece.ensures c.loop-i.invariant.laid in
    record {
      laid = s.laid;
      end = s.reach ∙ c.loop-i.invariant.end;
      fits = omega (arith, s.order, c.literals_needed-needed.ensures.bounded, c.loop-i.invariant.fits);
      all = let w = ap (λ qs. needs c.loop-i.at qs) (at_piece (all_of p) c.loop-i.i c.piece-piece.result (index_within p c.loop-i.i (omega (arith, c.loop-i-test.true, c.len-i-end.ensures))) (c.piece-piece.ensures c.piece-piece.result)) in omega (arith, w, c.literals_needed-needed.ensures.value, c.loop-i.invariant.all);
    }

pub returns-clause-bounded : goal.returns-clause-bounded
returns-clause-bounded c =
    let p = c.args.self.now in
    let r = reach_le _ _ _ c.loop-i.invariant.laid in
    omega (arith, r, c.loop-i.invariant.end, c.loop-i.invariant.fits, c.requires.short, c.len-i-end.ensures, c.len.ensures)

pub returns-clause-value : goal.returns-clause-value
returns-clause-value c =
    let p = c.args.self.now in
    let none = all_read p c.loop-i.at c.loop-i.i p.literals.items (omega (arith, c.loop-i-test.false, c.len-i-end.ensures)) in
    let h = ap (needs c.loop-i.at) none.0 in
    omega (arith, h, c.loop-i.invariant.all)
