-- The row store: what the words of a table say, and what the code of this crate does to them.
pub mod Rows
pub mod Chains
pub mod Store
pub mod Linked
pub mod MaskSet
pub mod KeptSets
