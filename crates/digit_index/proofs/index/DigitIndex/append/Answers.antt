use Rattle.bits_law.proofs.TableLemmas.{holds_joined}
use Rattle.digit_index.specs.Digits.{width, digit_bit, IsBelow}
use Rattle.digit_index.proofs.index.DigitIndex.append.Goals as goal

pub returns-clause-keys : goal.returns-clause-keys
returns-clause-keys g c =
    let i = c.args.self in
    λ keys more h o. holds_joined (width i.coding i.bases) (digit_bit i.coding i.bases) (IsBelow i.bases) keys more i.table c.args.other.now.table _ h o c.in_ok-table.ensures.ok
