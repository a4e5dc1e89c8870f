use Rattle.std.proofs.Common.{◌+◌, ◌*◌, ◌/◌, ◌%◌, ◌^◌, ◌++◌, get_or, take, drop, vec_len, ap, ◌∙◌, arith}
use Rattle.std.proofs.lemmas.List.{drop_more, drop_all, drop-append-le, take-append-le, take_all}
use Rattle.bits_law.specs.Bitwise.{bits_below}
use Rattle.word_bitmap.specs.Words.{spelled}
use Rattle.word_bitmap.proofs.WordLemmas.{shift_more, high_again, nothing_left}
use Rattle.word_bitmap.proofs.kernels.shift_in.Goals as goal

pub loop-word-init : goal.loop-word-init
loop-word-init c =
    let old = c.args.literals.now in
    record {
      rest = c.requires.last;
      len = omega arith;
      capacity = omega arith;
      kept = take_all (vec_len old) old.items (omega arith);
      bits = ap (λ ws. (spelled ws ++ bits_below c.args.last c.args.held) ++ spelled c.args.words.now) (drop_all (vec_len old) old.items (omega arith));
    }

pub loop-word-preserved : goal.loop-word-preserved
loop-word-preserved c =
    let i = c.loop-word.invariant in
    let n = vec_len c.args.literals.now in
    let w = get_or c.args.words.now c.loop-word.word-index 0 in
    let items = rw c.unwrap.ensures at c.push.ensures.items in
    let len = rw c.unwrap.ensures at c.push.ensures.len in
    let small = c.type_inv.words c.loop-word.word-index in
    record {
      rest = high_again c.loop-word.rest w c.args.held i.rest small.fits c.requires.held;
      len = omega (arith, len, i.len);
      capacity = omega (arith, c.push.ensures.capacity, i.capacity);
      kept = ap (take n) items ∙ take-append-le n c.loop-word.literals.items _ (omega (arith, i.len)) ∙ i.kept;
      bits = ap (λ ws. (spelled ws ++ bits_below ((c.loop-word.rest + w * 2 ^ c.args.held % 2 ^ 128) / 2 ^ 64) c.args.held) ++ spelled (drop (c.loop-word.word-index + 1) c.args.words.now)) (ap (drop n) items ∙ drop-append-le n c.loop-word.literals.items _ (omega (arith, i.len)))
          ∙ shift_more (drop n c.loop-word.literals.items) c.loop-word.rest w c.args.held (drop (c.loop-word.word-index + 1) c.args.words.now) _ _ (drop_more c.args.words.now c.loop-word.word-index 0 c.loop-word-test.true) i.rest small.fits c.requires.held i.bits;
    }

pub returns-clause-bits : goal.returns-clause-bits
returns-clause-bits c =
    nothing_left _ _ _ (drop_all c.loop-word.word-index c.args.words.now c.loop-word-test.false) c.loop-word.invariant.bits
