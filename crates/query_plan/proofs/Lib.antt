pub mod PlanLemmas
