-- A session that begins.
use Rattle.std.specs.Prelude.{◌≡◌, ℕ, false, [], ◌∷◌, Some, IsTrue}
use Rattle.std.specs.FinMap as map
use Rattle.wjs_base.specs.declared.ids.WorldId.{WorldId}
use Rattle.wjs_store.specs.State.{next_id}
use Rattle.wjs_store.specs.Shown.{first_of}
use Rattle.wjs_store.specs.Meaning.{Meaning, View, Worlds}
use Rattle.wjs_session.specs.Session.{holding, first_copy}

-- over the shared worlds F, for this owner; i is the number of its first world
pub record Begins (F : Worlds) (owner : ℕ) (i : WorldId) (m : Meaning) : Type 0 where
  pub number : i ≡ next_id F owner
  -- it has one world, which holds the view; every view is admitted, and its own is what the first world holds
  pub full : (v : View) → m.full v ≡ holding i v ∷ []
  pub admits : (v : View) → IsTrue (m.admits v)
  pub own : m.own ≡ first_copy F
  pub told : m.told ≡ Some []
  pub around : m.around ≡ record (holding i map.empty) { parent = first_of F } ∷ F
  pub works : m.spent ≡ false
