use Rattle.std.proofs.Common.{◌+◌, ◌<◌, ℕ, List, take, get_or, sym, subst, arith}
use Rattle.query_parse.proofs.TokenLemmas.{front_ascii, run_ascii}
use Rattle.query_parse.proofs.tokens.word_length.Goals as goal

pub returns-then-first-eq38-clause-ascii : goal.returns-then-first-eq38-clause-ascii
returns-then-first-eq38-clause-ascii c = λ i.
    subst (λ (t : List ℕ). get_or (take (1 + c.run_length.result) t) i 0 < 128) (sym c.requires)
    (front_ascii c.args.first c.run_length.result c.args.behind.now (omega (arith, c.if-first-eq38.true))
    (λ j. subst (λ (k : ℕ). get_or (take k c.args.behind.now) j 0 < 128) (sym c.run_length.ensures.value) (run_ascii c.args.behind.now j)) i)

pub returns-clause-ascii : goal.returns-clause-ascii
returns-clause-ascii c = λ i.
    subst (λ (k : ℕ). get_or (take k c.args.text.now) i 0 < 128) (sym c.run_length-2.ensures.value) (run_ascii c.args.text.now i)
