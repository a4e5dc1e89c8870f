use Rattle.std.proofs.Common.{◌≡◌, ◌≤◌, ◌++◌, length, drop, subst, ap, sym, ◌∙◌, arith}
use Rattle.bits_law.specs.Bitwise.{bitwise}
use Rattle.word_bitmap.specs.Words.{words_of, all_of, spelled, joins, part, Within}
use Rattle.word_bitmap.proofs.WordLemmas.{combine_more, combine_end}
use Rattle.word_bitmap.proofs.PieceLemmas.{some_left, after_at, after_words, all_laid, all_reach, empty_left, within_first, length_part, none_left, reach_le, step_past}
use Rattle.word_bitmap.proofs.combine.combined.Goals as goal

pub loop-at-init : goal.loop-at-init
loop-at-init c = record {
  bits = ap (λ ws. spelled ws ++ bitwise (joins c.args.ones) (spelled (words_of c.args.first.now)) (spelled (words_of c.args.second.now))) c.new-pieces.ensures.words;
  laid = c.new-pieces.ensures.laid;
  so_far = c.new-pieces.ensures.end;
  left = all_laid c.args.first.now c.requires.one;
  left_end = all_reach c.args.first.now;
  right = all_laid c.args.second.now c.requires.two;
  right_end = all_reach c.args.second.now ∙ sym c.requires.even;
}

pub add_parts-requires : goal.add_parts-requires
add_parts-requires c =
    let i = c.loop-at.invariant in
    let p = c.args.first.now in
    let q = c.args.second.now in
    let one = some_left c.loop-at.at (all_of p) c.loop-at.i (omega (arith, i.left_end, c.loop-at-test.true)) in
    let two = some_left c.loop-at.at (all_of q) c.loop-at.j (omega (arith, i.right_end, c.loop-at-test.true)) in
    let a = after_at p c.loop-at.at c.loop-at.i c.piece-left.result one c.piece-left.ensures i.left in
    let b = after_at q c.loop-at.at c.loop-at.j c.piece-right.result two c.piece-right.ensures i.right in
    let r = reach_le _ _ _ a.laid in
    record {
      laid = i.laid;
      order = omega (arith, i.so_far, a.order, b.order, c.min-to.ensures);
      one = subst (λ x. Within (length p.literals.items) c.piece-left.result.kind x c.min-to.result) (sym i.so_far) (within_first (length p.literals.items) c.piece-left.result.kind c.loop-at.at c.min-to.result c.piece-left.result.end (omega (arith, c.min-to.ensures)) a.within);
      two = subst (λ x. Within (length q.literals.items) c.piece-right.result.kind x c.min-to.result) (sym i.so_far) (within_first (length q.literals.items) c.piece-right.result.kind c.loop-at.at c.min-to.result c.piece-right.result.end (omega (arith, c.min-to.ensures)) b.within);
      short = omega (arith, c.min-to.ensures, r, a.reach, i.left_end, c.requires.short);
    }

pub loop-at-preserved : goal.loop-at-preserved
loop-at-preserved c =
    let i = c.loop-at.invariant in
    let p = c.args.first.now in
    let q = c.args.second.now in
    let at = c.loop-at.at in
    let to = c.min-to.result in
    let one = some_left at (all_of p) c.loop-at.i (omega (arith, i.left_end, c.loop-at-test.true)) in
    let two = some_left at (all_of q) c.loop-at.j (omega (arith, i.right_end, c.loop-at-test.true)) in
    let a = after_at p at c.loop-at.i c.piece-left.result one c.piece-left.ensures i.left in
    let b = after_at q at c.loop-at.j c.piece-right.result two c.piece-right.ensures i.right in
    let order : at ≤ to = omega (arith, a.order, b.order, c.min-to.ensures) in
    let left_most : to ≤ c.piece-left.result.end = omega (arith, c.min-to.ensures) in
    let right_most : to ≤ c.piece-right.result.end = omega (arith, c.min-to.ensures) in
    let left = after_words p.literals.items (length p.literals.items) at to (all_of p) c.loop-at.i c.piece-left.result one (c.piece-left.ensures c.piece-left.result) i.left order left_most in
    let right = after_words q.literals.items (length q.literals.items) at to (all_of q) c.loop-at.j c.piece-right.result two (c.piece-right.ensures c.piece-right.result) i.right order right_most in
    let even : length (part p.literals.items c.piece-left.result.kind at to) ≡ length (part q.literals.items c.piece-right.result.kind at to) =
    length_part p.literals.items c.piece-left.result.kind at to order (within_first (length p.literals.items) c.piece-left.result.kind at to c.piece-left.result.end left_most a.within)
    ∙ sym (length_part q.literals.items c.piece-right.result.kind at to order (within_first (length q.literals.items) c.piece-right.result.kind at to c.piece-right.result.end right_most b.within)) in
    let made = c.in_ok-add_parts.ensures in
    let bits = subst (λ x. spelled (words_of c.add_parts.new.self) ≡ spelled (words_of c.loop-at.pieces) ++ bitwise (joins c.args.ones) (spelled (part p.literals.items c.piece-left.result.kind x to)) (spelled (part q.literals.items c.piece-right.result.kind x to))) i.so_far made.bits in
    rw (c.passed-i.ensures, c.passed-j.ensures) (record {
      bits = combine_more c.args.ones (words_of c.loop-at.pieces) (words_of c.add_parts.new.self) _ _ _ _ _ _ _ left.2 right.2 even bits i.bits;
      laid = made.laid;
      so_far = made.end;
      left = left.0;
      left_end = left.1 ∙ i.left_end;
      right = right.0;
      right_end = right.1 ∙ i.right_end;
    })

pub loop-at-smaller : goal.loop-at-smaller
loop-at-smaller c =
    let i = c.loop-at.invariant in
    let p = c.args.first.now in
    let q = c.args.second.now in
    let one = some_left c.loop-at.at (all_of p) c.loop-at.i (omega (arith, i.left_end, c.loop-at-test.true)) in
    let two = some_left c.loop-at.at (all_of q) c.loop-at.j (omega (arith, i.right_end, c.loop-at-test.true)) in
    step_past c.loop-at.i c.loop-at.j _ _ (length (all_of p)) (length (all_of q)) c.piece-left.result.end c.piece-right.result.end c.min-to.result one two c.min-to.ensures c.passed-i.ensures c.passed-j.ensures

pub returns-clause-bits : goal.returns-clause-bits
returns-clause-bits c =
    let i = c.loop-at.invariant in
    combine_end c.args.ones (words_of c.loop-at.pieces) _ _ _ (empty_left c.args.first.now.literals.items c.loop-at.at c.args.first.now.end (drop c.loop-at.i (all_of c.args.first.now)) i.left i.left_end c.loop-at-test.false) i.bits

pub returns-clause-end : goal.returns-clause-end
returns-clause-end c =
    let i = c.loop-at.invariant in
    i.so_far ∙ none_left c.args.first.now.literals.items _ c.loop-at.at (drop c.loop-at.i (all_of c.args.first.now)) c.args.first.now.end i.left_end i.left c.loop-at-test.false
