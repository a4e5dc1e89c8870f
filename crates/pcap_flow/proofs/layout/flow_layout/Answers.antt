use Rattle.std.proofs.Common.{◌≡◌, ℕ, List, None, codes, refl, subst, sym}
use Rattle.pcap_flow.specs.Rows.{flow_heading}
use Rattle.vast_value.specs.Layouts.{layout_fault}
use Rattle.pcap_flow.proofs.LayoutLemmas.{layout_good}
use Rattle.pcap_flow.proofs.layout.flow_layout.Goals as goal

pub layout-requires-clause-good : goal.layout-requires-clause-good
layout-requires-clause-good c =
    subst (λ (p : List ℕ). layout_fault p c.in_ok-columns.columns ≡ None) (sym c.in_ok-path.ensures)
    (layout_good (codes "flow") c.in_ok-columns.columns flow_heading.fields c.in_ok-columns.ensures refl)
