-- What ask and next reply to a word. Assumes nothing.
pub mod Words
