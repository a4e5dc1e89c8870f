pub mod AddressLemmas
pub mod SubnetLemmas
