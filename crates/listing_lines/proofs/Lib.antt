-- The laws of letters, of rows by their words, and of a shape's cells.
pub mod LetterLaws
pub mod RowLaws
pub mod ShapeCells
