pub mod Callers
mod Parting
mod Filling
mod Spelled
mod Places
mod MayBegin
mod Faults
mod CaseOf
mod CaseTold
mod Examples
