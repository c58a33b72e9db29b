pub mod LedgerLaws
pub mod FedLaws
pub mod PlainLaws
pub mod Refinement
pub mod ReceivingSteps
pub mod Demand3
pub mod Receiving
pub mod FirstFlush
