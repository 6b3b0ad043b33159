mod OneTree
mod SomeTree
mod Written
