use Rattle.bits_law.proofs.TableLemmas.{holds_gap}
use Rattle.digit_index.specs.Digits.{width, digit_bit, IsBelow}
use Rattle.digit_index.proofs.index.DigitIndex.pad.Goals as goal

pub returns-clause-keys : goal.returns-clause-keys
returns-clause-keys g c =
    let i = c.args.self in
    λ keys h. holds_gap (width i.coding i.bases) (digit_bit i.coding i.bases) (IsBelow i.bases) keys i.table _ c.args.rows h c.in_ok-table.ensures.ok
