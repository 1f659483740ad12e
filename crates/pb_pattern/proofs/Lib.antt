pub mod Callers
mod Counting
mod Enough
mod Rounds
mod Walks
mod Projections
mod Looking
mod Settling
mod Boards
mod Atoms
mod Placings
mod Rules
mod Slots
mod Beginning
mod Proper
mod Values
mod Imaged
