-- Views by content.
pub use Rattle.wjs_alone.specs.Views.{held_in, KnowsView}
