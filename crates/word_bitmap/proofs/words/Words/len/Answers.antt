use Rattle.std.proofs.Common.{sym}
use Rattle.word_bitmap.proofs.ShownLemmas.{length_shown}
use Rattle.word_bitmap.proofs.words.Words.len.Goals as goal

pub returns-clause-value : goal.returns-clause-value
returns-clause-value c = sym (length_shown c.args.self.now c.requires)
