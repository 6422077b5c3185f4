pub mod LentAgain
pub mod BatchStates
