pub mod Lent
pub mod table
pub mod table_words
