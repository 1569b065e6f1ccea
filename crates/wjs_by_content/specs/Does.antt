-- A store's action, in the names of contents.
use Rattle.std.specs.Prelude.{◌≡◌}
use Rattle.wjs_store.specs.Naming.{Naming, plain}
use Rattle.wjs_store.specs.State.{after, answer_to}
use Rattle.wjs_store.specs.Meaning.{Meaning, View, PlainAct, PlainReply}
use Rattle.wjs_by_content.specs.Renamed.{Names, named_state, Known, named_act, NamedReply}

module _ {J W : Type 0} {m : Naming J W} (r : Names plain m) where
  -- an action was answered, in the names of contents
  pub record DoesNamed (old : Meaning) (action : PlainAct) (answer : PlainReply) (new : Meaning) (v : View) : Type 0 where
    pub answers : NamedReply r answer (answer_to (named_state r (old.full v)) (named_act r action))
    pub worlds : named_state r (new.full v) ≡ after (named_state r (old.full v)) (named_act r action)
    pub known : Known r (new.full v)
