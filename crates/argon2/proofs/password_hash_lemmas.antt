pub mod MadeValues
pub mod TagBytes
pub mod Verified
