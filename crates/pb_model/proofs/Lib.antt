pub mod Callers
mod Tests
mod Successors
mod Incumbents
mod Offers
mod Effects
mod Soundness
mod Locality
mod Backing
mod Tracing
mod Optimality
mod Certificates
mod OnePart
mod Keys
mod Shown
mod Growth
mod Example
