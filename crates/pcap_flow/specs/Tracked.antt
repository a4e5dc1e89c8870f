-- What contracts see of `Flows`.
use Rattle.std.specs.Prelude.{ℕ, suc, Bool, true, false, List, [], ◌∷◌, Option, Some, None}
use Rattle.pcap_flow.specs.Keys.{same_key}
use Rattle.pcap_flow.specs.Steps.{flow_key}
use Rattle.pcap_flow.specs.declared.key.FlowKey.{FlowKey}
use Rattle.pcap_flow.specs.declared.flow.Flow.{Flow}

-- the flows in the order of their first packets, and how many packets were added
pub record Tracked : Type 0 where
  pub flows : List Flow
  pub added : ℕ

-- one place further, or the place at hand
abbrev pub place_from : Option ℕ → Bool → Option ℕ
place_from (Some i) here = Some (suc i)
place_from None true = Some 0
place_from None false = None

-- where the last flow of the key stands
unfoldable pub latest_place : FlowKey → List Flow → Option ℕ
latest_place k [] = None
latest_place k (f ∷ fs) = place_from (latest_place k fs) (same_key (flow_key f) k)
