pub mod NoEvent
