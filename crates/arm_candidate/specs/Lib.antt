pub mod CandidateParts
pub mod CandidateSaid
pub mod CandidateOperand
pub mod CandidateSimple
pub mod CandidateTransfer
pub mod CandidateDataProcessing
pub mod Candidate
