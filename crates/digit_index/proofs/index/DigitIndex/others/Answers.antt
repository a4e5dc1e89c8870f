use Rattle.std.proofs.Common.{ap, length, sym, ◌∙◌}
use Rattle.std.proofs.lemmas.Result.{IfOk-weaker}
use Rattle.bits_law.specs.Bitwise.{and_not}
use Rattle.bits_law.proofs.BitwiseLemmas.{length-bitwise}
use Rattle.digit_index.proofs.index.DigitIndex.others.Goals as goal

pub returns-clause-rows : goal.returns-clause-rows
returns-clause-rows g c =
    let bits = g.B.Bits.bits in
    let rows = ap length c.in_ok-present.ensures in
    IfOk-weaker c.and_not.result _ _ (λ b e. ap length e ∙ length-bitwise and_not _ (bits c.args.rows.now) (rows ∙ sym c.requires) ∙ rows) c.and_not.ensures
