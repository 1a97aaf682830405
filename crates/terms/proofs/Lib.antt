-- The laws that other crates cite are `pub`, each module named by its subject; how unification works stays inside.
pub mod Substs
pub mod Masks
pub mod Without
pub mod Variables
pub mod Parts
pub mod Runs
pub mod Steps
pub mod RunVariables
mod Solutions
mod Space
mod Unify
pub mod Pairs
mod Renaming
mod Samples
mod Walks
mod Places
mod Replacing
mod Standings
mod Binding
mod Joining
mod Bound
mod Weight
mod Comparing
mod GoingOn
mod Atoms
mod Standing
mod Stores
mod Refilled
pub mod BytesPut
mod CodedPlaces
pub mod NotedBindings
