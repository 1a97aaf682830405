-- What a reader looks at first: each demand with its theorems.
pub mod Demand1
pub mod Demand2
pub mod Demand3
pub mod Starred
pub mod ShutOut
pub mod ReadReplies
pub mod TableReplies
pub mod LeastTables
pub mod RoundTrips
pub mod StarredSamples
pub mod WrongTables
pub mod ListingRoom
