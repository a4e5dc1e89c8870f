use Rattle.std.proofs.Common.{◌++◌, ap, ◌∙◌, arith}
use Rattle.bits_law.specs.Bitwise.{bits_below}
use Rattle.word_bitmap.specs.Words.{words_of, all_of, needs, spelled, shown}
use Rattle.word_bitmap.proofs.WordLemmas.{join_more}
use Rattle.word_bitmap.proofs.PieceLemmas.{at_piece, after_at, index_within, all_laid, all_reach, reach_le}
use Rattle.word_bitmap.proofs.words.Words.join.Goals as goal

pub loop-i-init : goal.loop-i-init
loop-i-init c =
    let w = c.args.self.now in
    let o = c.args.other.now in
    record {
      sound = record {
        pieces = c.reserve.ensures.laid c.requires.one.pieces;
        held = c.requires.one.held;
        last = c.requires.one.last;
        short = omega (arith, c.reserve.ensures.end, c.requires.one.short);
      };
      laid = all_laid o.pieces c.requires.two.pieces;
      end = all_reach o.pieces;
      bits = ap (λ ws. (spelled ws ++ bits_below w.last w.held) ++ spelled (words_of o.pieces)) c.reserve.ensures.words;
      len = omega (arith, c.reserve.ensures.end);
      list = omega (arith, c.in_ok-reserve.ensures.list, c.len-count.ensures);
      literals = omega (arith, c.in_ok-reserve.ensures.literals, c.in_ok-needed.ensures.value);
    }

pub join_part-requires-clause-order : goal.join_part-requires-clause-order
join_part-requires-clause-order c =
    let p = c.args.other.now.pieces in
    (after_at p c.loop-i.at c.loop-i.i c.piece-piece.result (index_within p c.loop-i.i (omega (arith, c.loop-i-test.true, c.len-count.ensures))) c.piece-piece.ensures c.loop-i.invariant.laid).order

pub join_part-requires-clause-within : goal.join_part-requires-clause-within
join_part-requires-clause-within c =
    let p = c.args.other.now.pieces in
    (after_at p c.loop-i.at c.loop-i.i c.piece-piece.result (index_within p c.loop-i.i (omega (arith, c.loop-i-test.true, c.len-count.ensures))) c.piece-piece.ensures c.loop-i.invariant.laid).within

pub join_part-requires-clause-short : goal.join_part-requires-clause-short
join_part-requires-clause-short c =
    let p = c.args.other.now.pieces in
    let i = c.loop-i.invariant in
    let s = after_at p c.loop-i.at c.loop-i.i c.piece-piece.result (index_within p c.loop-i.i (omega (arith, c.loop-i-test.true, c.len-count.ensures))) c.piece-piece.ensures i.laid in
    let r = reach_le _ _ _ s.laid in
    omega (arith, i.len, s.order, r, s.reach, i.end, c.requires.short)

pub join_part-requires-clause-literals : goal.join_part-requires-clause-literals
join_part-requires-clause-literals c =
    let p = c.args.other.now.pieces in
    let left = ap (λ qs. needs c.loop-i.at qs) (at_piece (all_of p) c.loop-i.i c.piece-piece.result (index_within p c.loop-i.i (omega (arith, c.loop-i-test.true, c.len-count.ensures))) (c.piece-piece.ensures c.piece-piece.result)) in
    omega (arith, left, c.loop-i.invariant.literals)

pub loop-i-preserved : goal.loop-i-preserved
loop-i-preserved c =
    let p = c.args.other.now.pieces in
    let i = c.loop-i.invariant in
    let u = index_within p c.loop-i.i (omega (arith, c.loop-i-test.true, c.len-count.ensures)) in
    let s = after_at p c.loop-i.at c.loop-i.i c.piece-piece.result u c.piece-piece.ensures i.laid in
    let r = reach_le _ _ _ s.laid in
    let left = ap (λ qs. needs c.loop-i.at qs) (at_piece (all_of p) c.loop-i.i c.piece-piece.result u (c.piece-piece.ensures c.piece-piece.result)) in
    record {
      sound = c.join_part.ensures.sound;
      laid = s.laid;
      end = s.reach ∙ i.end;
      bits = join_more (shown c.loop-i.self) (shown c.join_part.new.self) _ _ _ _ s.words c.join_part.ensures.bits i.bits;
      len = omega (arith, c.join_part.ensures.len, i.len, s.order, r, s.reach, i.end);
      list = omega (arith, c.join_part.ensures.list, c.join_part.ensures.list_capacity, i.list, c.loop-i-test.true, c.len-count.ensures);
      literals = omega (arith, left, c.join_part.ensures.literals, c.join_part.ensures.literals_capacity, i.literals);
    }
