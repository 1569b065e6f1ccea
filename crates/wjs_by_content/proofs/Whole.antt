-- The machine under other names does the same: one law for all actions.
use Rattle.std.proofs.Common.{◌≡◌}
use Rattle.wjs_store.specs.Naming.{Naming}
use Rattle.wjs_store.specs.State.{State, Act, read, write, list, sprout, commit, after}
use Rattle.wjs_by_content.proofs.Steps.{read_alike, write_alike}
use Rattle.wjs_by_content.proofs.Actions.{sprout_alike, list_alike, commit_alike}
use Rattle.wjs_by_content.proofs.Renaming.{Renaming, renamed_act, renamed_state}

module _ {K V J W : Type 0} {n : Naming K V} {m : Naming J W} (r : Renaming n m) where
  pub after_alike : (F : State n) (a : Act K V) → renamed_state r (after F a) ≡ after (renamed_state r F) (renamed_act r a)
  after_alike F (read w s) = read_alike r F w s
  after_alike F (write w s c) = write_alike r F w s c
  after_alike F (list w o) = list_alike r F w o
  after_alike F (sprout w owner strict) = sprout_alike r F w owner strict
  after_alike F (commit w) = commit_alike r F w
