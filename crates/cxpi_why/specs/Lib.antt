pub mod ReasonCalls
