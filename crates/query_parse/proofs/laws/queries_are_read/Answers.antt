use Rattle.query_parse.proofs.TokenTexts.{queries_are_read, queries_parse}
use Rattle.query_parse.proofs.laws.queries_are_read.Goals as goal

pub returns-clause-tokens : goal.returns-clause-tokens
returns-clause-tokens c = queries_are_read

pub returns-clause-parsed : goal.returns-clause-parsed
returns-clause-parsed c = queries_parse
