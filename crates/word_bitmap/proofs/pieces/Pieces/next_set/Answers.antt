use Rattle.std.proofs.Common.{◌≡◌, length, ap, ◌∙◌, arith}
use Rattle.word_bitmap.specs.Words.{words_of, all_of, part}
use Rattle.word_bitmap.proofs.PieceLemmas.{partitioned, found, after_at, some_left, length_part, zeros_more, zeros_until, in_part, reach_le}
use Rattle.word_bitmap.proofs.pieces.Pieces.next_set.Goals as goal

pub ended_by-i-requires : goal.ended_by-i-requires
ended_by-i-requires c = rw c.deref.ensures.value (partitioned _ 0 c.args.self.now.list.items c.args.from c.requires.laid.laid)

pub loop-at-init : goal.loop-at-init
loop-at-init c =
    let f = found c.args.self.now c.args.from c.ended_by-i.result c.requires.laid c.requires.within (omega (arith, c.ended_by-i.ensures.within, ap length c.deref.ensures.value)) (rw c.deref.ensures.value at c.ended_by-i.ensures.place) in
    record {
      laid = f.0;
      left = f.1;
      end = f.2;
      after = omega arith;
      clear = λ j l u. absurd (omega arith);
    }

pub set_in-at-requires : goal.set_in-at-requires
set_in-at-requires c =
    let i = c.loop-at.invariant in
    let s = after_at c.args.self.now c.loop-at.at c.loop-at.i c.piece-piece.result (some_left c.loop-at.at (all_of c.args.self.now) c.loop-at.i (omega (arith, i.end, c.loop-at-test.true))) c.piece-piece.ensures i.laid in
    record { order = s.order; within = s.within }

pub returns-then-at-piece : goal.returns-then-at-piece
returns-then-at-piece c =
    let p = c.args.self.now in
    let i = c.loop-at.invariant in
    let s = after_at p c.loop-at.at c.loop-at.i c.piece-piece.result (some_left c.loop-at.at (all_of c.args.self.now) c.loop-at.i (omega (arith, i.end, c.loop-at-test.true))) c.piece-piece.ensures i.laid in
    let r = reach_le _ _ _ s.laid in
    let long = length_part p.literals.items c.piece-piece.result.kind c.loop-at.at c.piece-piece.result.end s.order s.within in
    let set = c.set_in-at.ensures.set c.if-at-piece.true in
    let word = in_part (words_of p) (part p.literals.items c.piece-piece.result.kind c.loop-at.at c.piece-piece.result.end) _ c.loop-at.at c.set_in-at.result (i.left ∙ s.words) c.set_in-at.ensures.after (omega (arith, long, c.if-at-piece.true, c.set_in-at.ensures.after)) in
    record {
      after = omega (arith, i.after, c.set_in-at.ensures.after);
      within = omega (arith, c.set_in-at.ensures.within, r, s.reach, i.end);
      clear = zeros_until (words_of p) (part p.literals.items c.piece-piece.result.kind c.loop-at.at c.piece-piece.result.end) _ c.args.from c.loop-at.at c.set_in-at.result c.piece-piece.result.end (i.left ∙ s.words) c.set_in-at.ensures.after c.set_in-at.ensures.within long c.set_in-at.ensures.clear i.clear;
      set = λ l. omega (arith, word, set);
    }

pub loop-at-preserved : goal.loop-at-preserved
loop-at-preserved c =
    let p = c.args.self.now in
    let i = c.loop-at.invariant in
    let s = after_at p c.loop-at.at c.loop-at.i c.piece-piece.result (some_left c.loop-at.at (all_of c.args.self.now) c.loop-at.i (omega (arith, i.end, c.loop-at-test.true))) c.piece-piece.ensures i.laid in
    let long = length_part p.literals.items c.piece-piece.result.kind c.loop-at.at c.piece-piece.result.end s.order s.within in
    let to : c.set_in-at.result ≡ c.piece-piece.result.end = omega (arith, c.set_in-at.ensures.within, c.if-at-piece.false) in
    let clear = rw to at c.set_in-at.ensures.clear in
    let z = zeros_more (words_of p) (part p.literals.items c.piece-piece.result.kind c.loop-at.at c.piece-piece.result.end) _ c.args.from c.loop-at.at c.piece-piece.result.end (i.left ∙ s.words) s.order long clear i.clear in
    rw to (record {
      laid = s.laid;
      left = z.0;
      end = s.reach ∙ i.end;
      after = omega (arith, i.after, s.order);
      clear = z.1;
    })

pub loop-at-smaller : goal.loop-at-smaller
loop-at-smaller c =
    let i = c.loop-at.invariant in
    let u = some_left c.loop-at.at (all_of c.args.self.now) c.loop-at.i (omega (arith, i.end, c.loop-at-test.true)) in
    omega (arith, u)

pub returns-clause-within : goal.returns-clause-within
returns-clause-within c =
    let r = reach_le _ _ _ c.loop-at.invariant.laid in
    omega (arith, r, c.loop-at.invariant.end)
