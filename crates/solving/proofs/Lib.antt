-- The laws of rule 3: marks on a head, passed to every call row of a shape that unifies with it.
pub mod SolveLaws
pub mod SolveCalls
pub mod SolveShape
pub mod ClearedSets
pub mod SolveSets
