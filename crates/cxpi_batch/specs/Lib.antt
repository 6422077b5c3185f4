pub mod BatchCalls
