pub mod Ends
pub mod JudgeSteps
pub mod FetchSteps
pub mod Chain
pub mod Start
pub mod Step
pub mod Machine
