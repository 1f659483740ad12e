pub mod Callers
mod MadeBoards
mod SpelledBoards
mod Words
mod MapCells
mod SpelledMaps
mod SpelledDomain
mod SpacedTokens
mod BlocksTree
mod BlocksAtoms
mod BlocksProblems
mod BlocksRead
mod BlocksTyped
mod BlocksFew
mod BlocksTasks
