pub mod RunLemmas
pub mod SeekLemmas
