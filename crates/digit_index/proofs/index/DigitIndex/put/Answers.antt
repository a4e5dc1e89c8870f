use Rattle.std.proofs.Common.{refl}
use Rattle.bits_law.proofs.TableLemmas.{holds_put}
use Rattle.digit_index.specs.Digits.{width, digit_bit, IsBelow}
use Rattle.digit_index.proofs.index.DigitIndex.put.Goals as goal

pub returns-clause-keys : goal.returns-clause-keys
returns-clause-keys g c =
    let a = c.args in
    let i = a.self.now in
    holds_put (width i.coding i.bases) (digit_bit i.coding i.bases) (IsBelow i.bases) c.put.result i.table c.put.new.self a.row a.key _ (λ j l. refl) c.requires.small c.put.ensures.ok
