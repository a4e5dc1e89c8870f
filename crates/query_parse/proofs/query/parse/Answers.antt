use Rattle.std.proofs.Common.{ℕ, List, subst, ap, arith, length}
use Rattle.query_parse.specs.Parsing.{run, start, Reached}
use Rattle.query_parse.specs.Tokens.{tokens_of}
use Rattle.query_parse.proofs.Judging.{text_reads, text_refused, text_in_grammar}
use Rattle.query_parse.proofs.query.parse.Goals as goal

pub returns-clause-reads : goal.returns-clause-reads
returns-clause-reads c =
    text_reads c.args.text.now c.read.result
    (subst (λ (t : List ℕ). Reached (run start (tokens_of t)) c.read.result) c.as_bytes-bytes.ensures.value c.read.ensures)

pub returns-clause-fault : goal.returns-clause-fault
returns-clause-fault c =
    text_refused c.args.text.now c.read.result (omega (arith, c.if-bytes.false, ap length c.as_bytes-bytes.ensures.value))
    (subst (λ (t : List ℕ). Reached (run start (tokens_of t)) c.read.result) c.as_bytes-bytes.ensures.value c.read.ensures)

pub returns-clause-read : goal.returns-clause-read
returns-clause-read c = λ expr short reads.
    text_in_grammar c.args.text.now expr c.read.result reads
    (subst (λ (t : List ℕ). Reached (run start (tokens_of t)) c.read.result) c.as_bytes-bytes.ensures.value c.read.ensures)

pub returns-then-bytes-clause-read : goal.returns-then-bytes-clause-read
returns-then-bytes-clause-read c = λ expr short reads.
    absurd (omega (arith, short, c.if-bytes.true, ap length c.as_bytes-bytes.ensures.value))
