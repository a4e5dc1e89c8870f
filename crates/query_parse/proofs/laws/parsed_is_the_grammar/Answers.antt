use Rattle.query_parse.proofs.OneFault.{parsed_reads, parsed_faults}
use Rattle.query_parse.proofs.laws.parsed_is_the_grammar.Goals as goal

pub returns-clause-reads : goal.returns-clause-reads
returns-clause-reads c = parsed_reads

pub returns-clause-faults : goal.returns-clause-faults
returns-clause-faults c = parsed_faults
