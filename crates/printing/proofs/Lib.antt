-- Laws of what is printed for a text.
pub mod RefusedLines
pub mod Listings
pub mod ReadRooms
pub mod PrintedOnce
