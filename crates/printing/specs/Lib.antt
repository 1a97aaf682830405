-- What is printed for a text.
pub mod Printed
