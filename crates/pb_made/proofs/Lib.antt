mod Answered
mod Clauses
mod Spelled
