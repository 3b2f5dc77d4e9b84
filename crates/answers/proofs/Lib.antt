-- That an answer's number and values tell the answer. Assumes nothing.
pub mod Again
