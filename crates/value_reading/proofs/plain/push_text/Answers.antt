use Rattle.vast_value.proofs.ByteLemmas.{short_text}
use Rattle.vast_value.specs.declared.cell.Cell.TheVariants.{One}
use Rattle.vast_value.specs.declared.value.Value.TheVariants.{Text}
use Rattle.value_reading.proofs.PlainLemmas.{one_more, short_picked}
use Rattle.value_reading.proofs.plain.push_text.Goals as goal

pub returns-clause-small : goal.returns-clause-small
returns-clause-small c = λ few all.
    let raw = c.args.raw.now in
    one_more c.args.row.now c.push.new.self (One (Text c.in_ok-text.text)) c.in_ok-push.ensures.ok all
    (short_picked raw c.args.marks.now.empty c.in_ok-text.text c.in_ok-text.ensures (short_text raw few c.type_inv.raw))
