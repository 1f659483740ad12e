pub mod Callers
mod Looking
mod Budgets
mod Allowed
mod Releases
mod Splits
mod Loops
mod Numbered
mod Chains
mod EventLines
mod HeaderLines
mod WholeTexts
mod Finished
mod Answered
mod Faulty
mod Cuts
mod Searched
mod Lengths
