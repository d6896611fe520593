pub mod LinkLemmas
pub mod OrderLemmas
pub mod QueueLemmas
pub mod ReadyLemmas
pub mod AgreementLemmas
pub mod TransitionLemmas
pub mod ViewLemmas
pub mod CallLemmas
