use Rattle.query_parse.proofs.PieceLemmas.{blank_skipped}
use Rattle.query_parse.proofs.laws.blanks_are_skipped.Goals as goal

pub returns : goal.returns
returns c = blank_skipped
