pub mod Awake
mod Causes
mod EachNode
mod ExamplePlans
pub mod ClaimsHold
pub mod JudgedOnce
pub mod Masters
pub mod Nodes
mod Phases
pub mod Reasons
pub mod MasterShown
mod ExamplesAwake
mod ExampleClocks
mod ExamplesDark
mod ExamplesReasons
mod ExamplesStops
mod ExamplesUp
pub mod Ticks
