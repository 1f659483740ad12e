mod Drawn
mod Rows
mod Nine
mod Examples
