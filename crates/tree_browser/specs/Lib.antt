pub mod Trees
pub mod Pages
