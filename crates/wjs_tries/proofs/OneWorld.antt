-- A world that holds a view and has no marks, by content.
use Rattle.std.proofs.Common.{◌≡◌, false, [], ◌∷◌, None}
use Rattle.std.specs.Option.{option_map}
use Rattle.std.specs.FinMap as map
use Rattle.wjs_base.specs.declared.ids.WorldId.{WorldId}
use Rattle.wjs_base.specs.Text.{Table}
use Rattle.wjs_store.specs.Meaning.{View}
use Rattle.wjs_by_content.specs.Tables.{value_in}
use Rattle.wjs_by_content.specs.Worlds.{worlds_in, KnowsWorlds}
use Rattle.wjs_session.specs.Session as session
use Rattle.wjs_alone.specs.Alone as part
use Rattle.wjs_start.proofs.Beginning.{empty_in, none_there}
use Rattle.wjs_tries.specs.Views.{held_in, KnowsView}

pub one_in : (t : Table) (i : WorldId) (v : View) → worlds_in t (session.holding i v ∷ []) ≡ part.holding i (held_in t v) ∷ []
one_in t i v = λ k. record {
  id = i;
  parent = None;
  strict = false;
  copy = held_in t v;
  first = empty_in t (option_map (value_in t)) k;
  written = empty_in t (λ u. u) k;
  closed = map.empty;
} ∷ []

pub one_known : (t : Table) (i : WorldId) (v : View) → KnowsView t v → KnowsWorlds t (session.holding i v ∷ [])
one_known t i v k = (record { copy = k; first = λ s c e. absurd (none_there s c e); written = λ s u e. absurd (none_there s u e) }, tt)
