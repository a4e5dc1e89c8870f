use Rattle.std.proofs.Common.{ℕ, ◌+◌, ◌%◌, ap, ◌∙◌}
use Rattle.vast_value.specs.ValueBytes.{number}
use Rattle.query_meaning.proofs.SureLemmas.{net_sum}
use Rattle.query_meaning.proofs.sure.net_bucket.Goals as goal

pub returns-clause-value : goal.returns-clause-value
returns-clause-value c =
    ap (λ (b : ℕ). (b + c.args.net.now.bits % 64) % 64) c.address_bucket.ensures.value ∙ net_sum (number 16 c.args.net.now.base) c.args.net.now.bits
