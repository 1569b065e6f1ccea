-- What a turn leaves under later texts.
use Rattle.std.specs.Prelude.{◌≡◌, IsTrue}
use Rattle.wjs_base.specs.Text.{Table, Grows}
use Rattle.wjs_store.specs.Meaning.{Meaning, View}
use Rattle.wjs_by_content.specs.Worlds.{KnowsWorlds}
use Rattle.wjs_model.specs.declared.config.Config.{Config}
use Rattle.wjs_model.specs.Outside.{alone}
use Rattle.wjs_model.specs.Configurations.{rest}
use Rattle.wjs_model.specs.Soundness.{Sound}

module _ {S : Type 0} (meaning : S → Meaning) where
  -- a view that is admitted, and a table that has grown from the configuration's texts, by texts of others too: it knows what the worlds of a store hold under the view
  pub record Meets (old new : Config S) (u : Table) (v : View) : Type 0 where
    pub later : Grows new.heap.texts u
    pub admitted : IsTrue ((meaning new.heap.store).admits v)
    pub knows : KnowsWorlds u ((meaning old.heap.store).full v)

  -- under each such view and table what was left to do with the steps that were left is what is left with those that are, and what the worlds hold is known still
  pub record Leaves (old new : Config S) : Type 0 where
    pub sound : Sound meaning new
    pub texts : Grows old.heap.texts new.heap.texts
    pub narrows : (v : View) → IsTrue ((meaning new.heap.store).admits v) → IsTrue ((meaning old.heap.store).admits v)
    pub kept : (u : Table) (v : View) → Meets old new u v → rest meaning new.heap.texts (alone v u) old old.left ≡ rest meaning new.heap.texts (alone v u) new new.left
    pub knows : (u : Table) (v : View) → Meets old new u v → KnowsWorlds u ((meaning new.heap.store).full v)
