-- What ask and next share. Assumes nothing.
mod Walking
