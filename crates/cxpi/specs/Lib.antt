pub mod Chains
pub mod ConfigurationCalls
pub mod MasterCalls
pub mod NodeCalls
pub mod PowerOn
pub mod Version
