pub mod BitwiseLemmas
pub mod NumberLemmas
pub mod RefusalLemmas
pub mod SameLemmas
pub mod AnswerLemmas
pub mod WordBits
pub mod PackLemmas
pub mod BlockLemmas
pub mod StoreLemmas
pub mod HeldLemmas
pub mod AskLemmas
pub mod TableLemmas
pub mod ViewLemmas
pub mod PlaneLemmas
mod Vectors
