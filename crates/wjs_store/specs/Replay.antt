-- Plain replay: actions on one finite map.
use Rattle.std.specs.Prelude.{Option, None, Some, filter}
use Rattle.std.specs.FinMap as map
use Rattle.std.specs.FinMap.{FinMap}
use Rattle.wjs_store.specs.Naming.{Naming}
use Rattle.wjs_store.specs.State.{Act, Reply, read, write, list, sprout, commit, found, wrote, listed, put, same_object}

module _ {K V : Type 0} (n : Naming K V) where
  -- a read answers the content, a listing the present slots of the object in order; the others are not replayed
  abbrev pub plain_reply : FinMap n.cmp V → Act K V → Option (Reply K V)
  plain_reply m (read w s) = Some (found (map.get m s))
  plain_reply m (write w s c) = Some wrote
  plain_reply m (list w o) = Some (listed (filter (λ s. same_object (n.object s) o) (map.keys m)))
  plain_reply m (sprout w owner strict) = None
  plain_reply m (commit w) = None

  -- a write sets the content
  abbrev pub plain_after : FinMap n.cmp V → Act K V → FinMap n.cmp V
  plain_after m (read w s) = m
  plain_after m (write w s c) = put m s c
  plain_after m (list w o) = m
  plain_after m (sprout w owner strict) = m
  plain_after m (commit w) = m
