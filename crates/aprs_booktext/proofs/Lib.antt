-- Lemmas of reading and writing a book.
pub mod Common
