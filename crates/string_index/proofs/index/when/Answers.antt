use Rattle.std.proofs.Common.{ap, length, refl, ◌∙◌}
use Rattle.std.proofs.lemmas.Result.{IfOk-weaker}
use Rattle.bits_law.specs.Bitwise.{and_not}
use Rattle.bits_law.proofs.BitwiseLemmas.{length-bitwise}
use Rattle.string_index.proofs.index.when.Goals as goal

pub returns-else-holds-clause-rows : goal.returns-else-holds-clause-rows
returns-else-holds-clause-rows g c =
    let bits = g.B.Bits.bits in
    IfOk-weaker c.and_not.result _ _ (λ b e. ap length e ∙ length-bitwise and_not (bits c.args.rows.now) (bits c.args.rows.now) refl) c.and_not.ensures
