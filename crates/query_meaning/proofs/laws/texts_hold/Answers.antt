use Rattle.query_meaning.proofs.TextLemmas.{has_occurs, occurs_has}
use Rattle.query_meaning.proofs.laws.texts_hold.Goals as goal

pub returns : goal.returns
returns c = (has_occurs c.args.needle.now c.args.text.now, occurs_has c.args.needle.now c.args.text.now)
