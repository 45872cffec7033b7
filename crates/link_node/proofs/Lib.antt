pub mod DelayLaws
pub mod PackingLemmas
