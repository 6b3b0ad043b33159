pub mod Trees
pub use Rattle.sketch_list.specs.Listed
pub use Rattle.sketch_list.specs.declared.steps.Victim
pub use Rattle.sketch_list.specs.Places
