-- 01, "Letters and names": letters, words and their order, names, lists for load, and sets of letters as 64-bit numbers.
-- Assumes nothing.
pub mod Each
pub mod Below
pub mod Letters
pub mod Words
pub mod Orders
pub mod Names
pub mod Parts
pub mod Lists
pub mod LetterSet
