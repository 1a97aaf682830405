-- The laws of the finished table and of the replies.
pub mod Unpacking
pub mod LastRows
pub mod Replies
