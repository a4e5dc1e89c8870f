use Rattle.query_meaning.proofs.TextLemmas.{has_found}
use Rattle.query_meaning.proofs.relations.has_text.Goals as goal

pub returns-in-Some : goal.returns-in-Some
returns-in-Some c = has_found c.args.needle.now c.args.text.now c.in-Some.field-0 c.in-Some.ensures
