-- The mode rules, the rounds, the least set of rows, and the promise of the analysis.
pub mod Rules
pub mod Rounds
pub mod Analysis
pub mod Promise
pub mod Table
pub mod Keys
pub mod Added
pub mod Steps
pub mod NewRows
pub mod RoundKeys
