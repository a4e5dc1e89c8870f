use Rattle.word_bitmap.specs.Words.{shown}
use Rattle.word_bitmap.proofs.WordLemmas.{extend_bits}
use Rattle.word_bitmap.proofs.words.Words.extend.Goals as goal

pub returns-clause-bits : goal.returns-clause-bits
returns-clause-bits c =
    extend_bits (shown c.args.self.now) (shown c.repeat.new.self) _ c.args.bit c.filled-word.result c.low.result c.args.n c.filled-word.ensures c.low.ensures.value c.repeat.ensures.bits c.put.ensures.bits
