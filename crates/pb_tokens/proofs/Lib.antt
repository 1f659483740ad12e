mod Runs
mod Lex
mod SpansLaw
mod Place
