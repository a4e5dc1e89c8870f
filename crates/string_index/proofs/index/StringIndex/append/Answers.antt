use Rattle.bits_law.proofs.TableLemmas.{holds_joined}
use Rattle.string_index.specs.Texts.{text_bit, IsText}
use Rattle.string_index.proofs.index.StringIndex.append.Goals as goal

pub returns-clause-keys : goal.returns-clause-keys
returns-clause-keys g c = λ keys more h o. holds_joined 72 text_bit IsText keys more c.args.self.table c.args.other.now.table _ h o c.in_ok-append.ensures.ok
