-- The names that the machine itself uses.
pub use Rattle.wjs_texts.specs.Known.{text_of}
