use Rattle.std.proofs.Common.{sym, arith, []}
use Rattle.word_bitmap.proofs.WordLemmas.{count_words, count_first}
use Rattle.word_bitmap.proofs.reads.ones_in.Goals as goal

pub overflow_mul-result : goal.overflow_mul-result
overflow_mul-result c = omega (arith, (count_first c.args.n c.args.word [] c.ranges.word.fits).1, c.requires)

pub returns-clause-value : goal.returns-clause-value
returns-clause-value c = sym (count_words c.args.n c.args.word c.ranges.word.fits)

pub returns-clause-bounded : goal.returns-clause-bounded
returns-clause-bounded c = (count_first c.args.n c.args.word [] c.ranges.word.fits).1
