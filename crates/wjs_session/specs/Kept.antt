-- What a session keeps.
use Rattle.std.specs.Prelude.{◌≡◌, Bool, true, false, [], ◌∷◌, Option, None, Some}
use Rattle.std.specs.Coded.{Coded-set, coded_option}
use Rattle.std.specs.List.{AllByRecursion, AllByRecursion-prop}
use Rattle.std.specs.FinMap as map
use Rattle.std.proofs.Props.{props}
use Rattle.wjs_base.specs.contracts.ids.WorldId as number
use Rattle.wjs_base.specs.contracts.values.Value as value
use Rattle.wjs_base.specs.declared.ids.WorldId.{WorldId}
use Rattle.wjs_base.specs.declared.values.Slot.{Slot}
use Rattle.wjs_base.specs.declared.values.Value.{Value}
use Rattle.wjs_store.specs.Naming.{plain}
use Rattle.wjs_store.specs.State.{World, has_world, parent_of, is_touched}
use Rattle.wjs_store.specs.Shown.{first_of}
use Rattle.wjs_store.specs.Reached.{IsReached}
use Rattle.wjs_store.specs.Kept.{IsReached-prop}
use Rattle.wjs_store.specs.Marked.{is_strict}
use Rattle.wjs_store.specs.Meaning.{Worlds}
use Rattle.wjs_session.specs.Session.{world_at, has_child, settled}

-- the world i is a child of the first world, not strict, and has no child
pub record IsChild (F : Worlds) (i : WorldId) : Type 0 where
  pub there : has_world F i ≡ true
  pub up : parent_of F i ≡ first_of F
  pub plain : is_strict F i ≡ false
  pub leaf : has_child F i ≡ false

-- the world y holds nothing in a slot that doesn't pass, and has not touched it
pub record IsShut (passing : Slot → Bool) (y : World plain) : Type 0 where
  pub absent : (s : Slot) → passing s ≡ false → map.get y.copy s ≡ None
  pub untouched : (s : Slot) → passing s ≡ false → is_touched y s ≡ false

-- a session on the world i of the shared worlds F, with the inner worlds G
pub record IsSession (F : Worlds) (i : WorldId) (G : Worlds) : Type 0 where
  pub shared : IsReached F
  pub child : IsChild F i
  pub inner : IsReached G
  pub first : first_of G ≡ Some i
  -- what isn't settled is in no inner world
  pub shut : AllByRecursion (IsShut (settled (world_at F i) G)) G

-- one inner world, which holds nothing
abbrev pub IsAlone : Worlds → Type 0
IsAlone [] = ⊥
IsAlone (y ∷ []) = map.len y.copy ≡ 0
IsAlone (y ∷ z ∷ older) = ⊥

-- ---- each of these is one fact

content_set : IsSet (Option Value)
content_set = Coded-set (coded_option (value.the_row).coded)

number_set : IsSet (Option WorldId)
number_set = Coded-set (coded_option (number.the_row).coded)

IsChild-prop : (F : Worlds) (i : WorldId) → IsProp (IsChild F i)
IsChild-prop F i = hlevel (props, number_set)

IsShut-prop : (passing : Slot → Bool) (y : World plain) → IsProp (IsShut passing y)
IsShut-prop passing y = hlevel (props, content_set)

AllShut-prop : (passing : Slot → Bool) (G : Worlds) → IsProp (AllByRecursion (IsShut passing) G)
AllShut-prop passing G = AllByRecursion-prop (IsShut passing) (IsShut-prop passing) G

pub IsSession-prop : (F : Worlds) (i : WorldId) (G : Worlds) → IsProp (IsSession F i G)
IsSession-prop F i G = hlevel (props, IsReached-prop, IsChild-prop, AllShut-prop, number_set)

pub session_prop : (spent : Bool) (F : Worlds) (i : WorldId) (G : Worlds) → IsProp (spent ≡ false → IsSession F i G)
session_prop spent F i G = hlevel (props, IsSession-prop)

IsAlone-prop : (G : Worlds) → IsProp (IsAlone G)
IsAlone-prop [] = λ a b. absurd a
IsAlone-prop (y ∷ []) = hlevel props
IsAlone-prop (y ∷ z ∷ older) = λ a b. absurd a

pub alone_prop : (spent nested : Bool) (G : Worlds) → IsProp (spent ≡ false → nested ≡ false → IsAlone G)
alone_prop spent nested G = hlevel (props, IsAlone-prop)
