pub mod Steps
pub mod TextSteps
