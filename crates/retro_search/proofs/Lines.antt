-- First open lines.
pub mod OpenLines
pub mod OpenEnds
pub mod LineEnds
pub mod OneLine
