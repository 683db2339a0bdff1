pub mod CommandLemmas
pub mod CursorLemmas
pub mod RunLemmas
pub mod ViewLemmas
