-- What the nodes of a body stand for.
pub use Rattle.wjs_tree.specs.Forms.{AreElements}
