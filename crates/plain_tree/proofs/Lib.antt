mod Moves
mod PutRules
mod Puts
mod Walks
