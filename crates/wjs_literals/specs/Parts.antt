-- The parts of literals of arrays and objects (ECMA-262, 3rd edition, sections 11.1.4 and 11.1.5).
use Rattle.std.specs.Prelude.{◌≡◌, ℕ, ◌+◌, List, [], Option, map as each, drop, length, slice_get, Some}
use Rattle.wjs_base.specs.declared.ids.ObjId.{ObjId}
use Rattle.wjs_base.specs.declared.ids.NodeId.{NodeId}
use Rattle.wjs_base.specs.Text.{Table}
use Rattle.wjs_store.specs.Meaning.{Meaning}
use Rattle.wjs_tree.specs.declared.node.Property.{Property}
use Rattle.wjs_tree.specs.declared.node.Node.{Node}
use Rattle.wjs_tree.specs.declared.node.Node.TheVariants as nodes
use Rattle.wjs_meaning.specs.Reading.{number, node_in}
use Rattle.wjs_meaning.specs.Deeds.{Env, Act}
use Rattle.wjs_meaning.specs.Expressions.{array_from, object_from}
use Rattle.wjs_model.specs.declared.config.Config.{Config}
use Rattle.wjs_model.specs.declared.frame.Activation.{Activation as Frame}
use Rattle.wjs_model.specs.Lists.{items_of, pairs_of}
use Rattle.wjs_frames.specs.Parts.{env_in, node_now}
use Rattle.wjs_literals.specs.declared.arrays.Next.{Next}
use Rattle.wjs_literals.specs.declared.arrays.Next.TheVariants as next

-- the items of an array, of which one may be left out
abbrev pub items_in : Node → List (Option NodeId)
items_in (nodes.ArrayLit items comma) = items
items_in _ = []

abbrev pub properties_in : Node → List Property
properties_in (nodes.ObjectLit properties comma) = properties
properties_in _ = []

-- the items from a number on, with the holes before the first that is there left out; the last is the last of all
abbrev pub Skips : List (Option NodeId) → ℕ → Next → Type 0
Skips items from (next.Item at node) = (slice_get items at ≡ Some (Some node)) × ((o : ObjId) (env : Env) → array_from (drop from (each number items)) from o env ≡ array_from (drop at (each number items)) at o env)
Skips items from (next.Last at node) = (slice_get items at ≡ Some (Some node)) × (length items ≡ at + 1) × ((o : ObjId) (env : Env) → array_from (drop from (each number items)) from o env ≡ array_from (drop at (each number items)) at o env)
Skips items from (next.End count) = (o : ObjId) (env : Env) → array_from (drop from (each number items)) from o env ≡ array_from [] count o env

module _ {S : Type 0} (meaning : S → Meaning) where
  -- what is left of the array that a frame makes, from the item of a number on
  abbrev pub items_left : Config S → Frame → ObjId → ℕ → Table → Act
  items_left c f array at t = array_from (drop at (items_of (node_in t (node_now meaning c f)))) at array (env_in meaning c t f)

  -- and of an object, from the property of a number on
  abbrev pub properties_left : Config S → Frame → ObjId → ℕ → Table → Act
  properties_left c f object at t = object_from (drop at (pairs_of (node_in t (node_now meaning c f)))) object (env_in meaning c t f)
