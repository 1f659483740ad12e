pub mod Callers
mod Parting
mod Sizes
mod Rows
mod Chosen
mod Steps
mod SpelledMaps
mod SpelledScenarios
mod ReadableMaps
mod ReadableScenarios
mod Swamps
mod Grids
mod Refusals
mod Examples
mod CaseOf
mod CaseTold
