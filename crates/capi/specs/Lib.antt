pub mod table_words
pub mod precedence
pub mod determinise
pub mod merge
