-- What the contracts of the readers cite.
pub mod Count
