pub mod Counting
pub mod Lowering
pub mod NewGraph
pub mod FallingWeights
