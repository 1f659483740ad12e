mod Fewer
mod Alone
mod Keeping
mod Offering
mod Expanded
mod Going
mod Taken
