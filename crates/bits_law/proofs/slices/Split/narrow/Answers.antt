use Rattle.std.proofs.Common.{sym, ◌∙◌, ap, length}
use Rattle.bits_law.specs.Bitwise.{and_not}
use Rattle.bits_law.proofs.BitwiseLemmas.{length-bitwise}
use Rattle.bits_law.proofs.slices.Split.narrow.Goals as goal

pub or-requires : goal.or-requires
or-requires g c =
    c.requires.below ∙ sym c.requires.equal
    ∙ sym (ap length c.in_ok-lacking.ensures ∙ length-bitwise and_not _ _ c.requires.equal)
