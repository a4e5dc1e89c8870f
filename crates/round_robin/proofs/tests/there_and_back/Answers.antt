use Rattle.std.proofs.Common.{◌≡◌, ◌<◌, length, ap, ap₂, sym, ◌∙◌, arith}
use Rattle.round_robin.specs.Dealing.{share}
use Rattle.round_robin.proofs.DealLemmas.{length_dealt}
use Rattle.round_robin.proofs.tests.there_and_back.Goals as goal

pub collect-back-requires-clause-shares : goal.collect-back-requires-clause-shares
collect-back-requires-clause-shares c = λ w d l.
    let n = length c.as_mut_slice-hands.result.now in
    let items = c.in_ok-items.items in
    let within : w < n = omega (arith, c.deal.ensures.len) in
    let count : length items.items ≡ c.len-count.result = omega (arith, items.ok.0) in
    ap length (c.deal.ensures.dealt w d within) ∙ length_dealt n w items.items ∙ ap₂ (λ m k. share m w k) (sym c.deal.ensures.len) count
