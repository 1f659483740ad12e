mod CountingKeeps
mod LoweringKeeps
mod FallingKeeps
