pub mod Callers
mod Boards
mod Sliding
mod Exchanges
mod Slides
mod AtomSets
mod NextAtoms
mod FlatWords
mod FlatActions
mod Acting
mod Marked
mod Grids
mod Widths
mod Successors
mod Degrees
mod Walks
mod Validation
