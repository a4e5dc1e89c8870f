use Rattle.std.proofs.Common.{ap, ◌∙◌, arith}
use Rattle.std.specs.List.{count_by}
use Rattle.word_bitmap.specs.Words.{spelled}
use Rattle.word_bitmap.proofs.WordLemmas.{count_more}
use Rattle.word_bitmap.proofs.PieceLemmas.{after_at, index_within, all_read, all_laid, all_reach, reach_le}
use Rattle.word_bitmap.proofs.pieces.Pieces.count.Goals as goal

pub loop-i-init : goal.loop-i-init
loop-i-init c = record {
  laid = all_laid c.args.self.now c.requires.laid;
  end = all_reach c.args.self.now;
  fits = omega arith;
  all = omega arith;
}

pub count_part-ones-requires : goal.count_part-ones-requires
count_part-ones-requires c =
    let p = c.args.self.now in
    let s = after_at p c.loop-i.at c.loop-i.i c.piece-piece.result (index_within p c.loop-i.i (omega (arith, c.loop-i-test.true, c.len-i-end.ensures))) c.piece-piece.ensures c.loop-i.invariant.laid in
    let r = reach_le _ _ _ s.laid in
    record {
      order = s.order;
      within = s.within;
      short = omega (arith, r, s.reach, c.loop-i.invariant.end, c.requires.short);
    }

pub overflow_add-ones : goal.overflow_add-ones
overflow_add-ones c =
    let p = c.args.self.now in
    let s = after_at p c.loop-i.at c.loop-i.i c.piece-piece.result (index_within p c.loop-i.i (omega (arith, c.loop-i-test.true, c.len-i-end.ensures))) c.piece-piece.ensures c.loop-i.invariant.laid in
    let r = reach_le _ _ _ s.laid in
    omega (arith, r, s.order, s.reach, c.count_part-ones.ensures.bounded, c.loop-i.invariant.fits, c.loop-i.invariant.end, c.requires.short)

pub loop-i-preserved : goal.loop-i-preserved
loop-i-preserved c =
    let p = c.args.self.now in
    let s = after_at p c.loop-i.at c.loop-i.i c.piece-piece.result (index_within p c.loop-i.i (omega (arith, c.loop-i-test.true, c.len-i-end.ensures))) c.piece-piece.ensures c.loop-i.invariant.laid in
    record {
      laid = s.laid;
      end = s.reach ∙ c.loop-i.invariant.end;
      fits = omega (arith, s.order, c.count_part-ones.ensures.bounded, c.loop-i.invariant.fits);
      all = count_more _ _ _ _ _ _ s.words c.count_part-ones.ensures.value c.loop-i.invariant.all;
    }

pub returns-clause-value : goal.returns-clause-value
returns-clause-value c =
    let p = c.args.self.now in
    let none = all_read p c.loop-i.at c.loop-i.i p.literals.items (omega (arith, c.loop-i-test.false, c.len-i-end.ensures)) in
    let h = ap (λ ws. count_by (λ bit. bit) (spelled ws)) none.1 in
    omega (arith, h, c.loop-i.invariant.all)

pub returns-clause-bounded : goal.returns-clause-bounded
returns-clause-bounded c =
    let r = reach_le _ _ _ c.loop-i.invariant.laid in
    omega (arith, r, c.loop-i.invariant.end, c.loop-i.invariant.fits)
