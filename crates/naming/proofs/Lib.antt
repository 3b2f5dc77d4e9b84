-- What the proof of `path` goes by. Assumes nothing.
mod Naming
