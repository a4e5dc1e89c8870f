use Rattle.std.proofs.Common.{ap, get_or, arith}
use Rattle.std.specs.List.{count_by}
use Rattle.std.proofs.lemmas.List.{drop_more, drop_all}
use Rattle.word_bitmap.specs.Words.{spelled}
use Rattle.word_bitmap.proofs.WordLemmas.{count_one_more}
use Rattle.word_bitmap.proofs.kernels.count_all.Goals as goal

pub overflow_add-ones : goal.overflow_add-ones
overflow_add-ones c =
    let i = c.loop-word.invariant in
    let s = count_one_more c.args.words.now _ _ (get_or c.args.words.now c.loop-word.word-index 0) c.loop-word.ones (drop_more c.args.words.now c.loop-word.word-index 0 c.loop-word-test.true) (c.type_inv.words c.loop-word.word-index).fits i.all in
    omega (arith, s.1, i.fits, c.loop-word-test.true, c.requires)

pub loop-word-preserved : goal.loop-word-preserved
loop-word-preserved c =
    let i = c.loop-word.invariant in
    let s = count_one_more c.args.words.now _ _ (get_or c.args.words.now c.loop-word.word-index 0) c.loop-word.ones (drop_more c.args.words.now c.loop-word.word-index 0 c.loop-word-test.true) (c.type_inv.words c.loop-word.word-index).fits i.all in
    record { fits = omega (arith, s.1, i.fits); all = s.0 }

pub returns-clause-value : goal.returns-clause-value
returns-clause-value c =
    let none = ap (λ ws. count_by (λ b. b) (spelled ws)) (drop_all c.loop-word.word-index c.args.words.now c.loop-word-test.false) in
    omega (arith, none, c.loop-word.invariant.all)
