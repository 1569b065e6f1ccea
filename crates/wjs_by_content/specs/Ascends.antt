-- Lists in strictly ascending order.
pub use Rattle.wjs_store.specs.Ascends.{tagged, Ascends}
