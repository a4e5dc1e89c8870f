use Rattle.std.proofs.Common.{length, ap, sym, ◌∙◌}
use Rattle.bits_law.proofs.BitwiseLemmas.{length-bitwise}
use Rattle.digit_index.proofs.DigitLemmas.{ordered_rows, even_joined}
use Rattle.digit_index.proofs.digits.ordered.Goals as goal

pub or-requires : goal.or-requires
or-requires g c =
    let even = c.in_ok-most.ensures.rows ∙ sym c.requires.rows in
    c.in_ok-less.ensures.rows ∙ sym (ap length c.in_ok-and.ensures ∙ length-bitwise _ _ _ even ∙ c.in_ok-most.ensures.rows)

pub returns-clause-rows : goal.returns-clause-rows
returns-clause-rows g c =
    let even = c.in_ok-most.ensures.rows ∙ sym c.requires.rows in
    even_joined g.B.Bits.bits _ _ _ _ c.or.result c.in_ok-less.ensures.rows (ap length c.in_ok-and.ensures ∙ length-bitwise _ _ _ even ∙ c.in_ok-most.ensures.rows) c.or.ensures

pub returns-clause-keys : goal.returns-clause-keys
returns-clause-keys g c = ordered_rows g.B.Bits.bits _ _ c.args.coding c.args.base c.args.value _ _ _ _ c.or.result c.in_ok-most.ensures.keys c.in_ok-less.ensures.keys c.in_ok-and.ensures c.or.ensures
