use Rattle.std.proofs.Common.{ℕ, ◌%◌, List, sum, ap, ◌∙◌}
use Rattle.vast_value.specs.ValueBytes.{number}
use Rattle.query_meaning.proofs.sure.address_bucket.Goals as goal

pub returns-clause-value : goal.returns-clause-value
unfolding number
returns-clause-value c = c.bucket_of.ensures.value ∙ ap (λ (xs : List ℕ). sum xs % 64) c.to_le_bytes.ensures
