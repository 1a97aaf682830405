-- What the demands speak of, for a reader to believe.
pub mod Promises
pub mod Replies
pub mod LeastTable
pub mod Wrong
pub mod Bytes
pub mod Sample
pub mod SamplePrograms
pub mod Starred
