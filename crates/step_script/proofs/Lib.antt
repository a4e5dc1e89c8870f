pub mod CompleteLemmas
pub mod EndLemmas
pub mod FeedLemmas
pub mod PlayerLemmas
pub mod RunLemmas
pub mod ScriptLemmas
mod Vectors
