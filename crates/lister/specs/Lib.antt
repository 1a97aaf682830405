-- The listing of a program's table, and the promise of the lister.
pub mod Listing
pub mod ListingPromise
pub mod Asked
pub mod Joined
pub mod Left
