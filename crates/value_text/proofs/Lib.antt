pub use Rattle.value_reading.proofs.KindLemmas
pub mod LiteralLemmas
