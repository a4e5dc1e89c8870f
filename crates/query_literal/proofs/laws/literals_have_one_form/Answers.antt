use Rattle.query_literal.proofs.OneForm.{one_form}
use Rattle.query_literal.proofs.laws.literals_have_one_form.Goals as goal

pub returns : goal.returns
returns c = λ word. one_form word
