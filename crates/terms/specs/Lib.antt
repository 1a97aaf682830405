-- Terms, their runs of cells, and unifiers: what the code of this crate is about.
pub mod Term
pub mod Cells
pub mod Unifier
pub mod Cursor
pub mod Mask
pub mod Store
pub mod Walk
pub mod Unifying
pub mod Unified
pub mod Bytes
pub mod Noted
