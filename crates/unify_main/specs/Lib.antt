-- What the functions of this program say of the runs that they are given.
pub mod AtomRun
