pub mod Callers
mod Turns
mod SharedTurns
mod Going
mod Opened
mod Marked
mod Returned
mod Renewing
mod GoingOn
mod Held
mod Searching
mod Closed
mod Ended
mod Watches
mod Sharing
mod Teaming
