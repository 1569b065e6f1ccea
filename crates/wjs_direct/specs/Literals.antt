-- Literals of objects and arrays: what is left of them from a part on (ECMA-262, 3rd edition, sections 11.1.4 and 11.1.5).
use Rattle.std.specs.Prelude.{ℕ, List, Bool, Option, drop}
use Rattle.wjs_base.specs.declared.ids.NodeId.{NodeId}
use Rattle.wjs_base.specs.declared.ids.ObjId.{ObjId}
use Rattle.wjs_base.specs.Text.{Table}
use Rattle.wjs_store.specs.Meaning.{Meaning}
use Rattle.wjs_tree.specs.declared.node.Node.TheVariants as nodes
use Rattle.wjs_tree.specs.declared.node.Property.{Property}
use Rattle.wjs_meaning.specs.Deeds.{Act, Env}
use Rattle.wjs_meaning.specs.Expressions.{array_from, object_from}
use Rattle.wjs_meaning.specs.Reading.{node_in}
use Rattle.wjs_model.specs.declared.config.Config.{Config}
use Rattle.wjs_model.specs.declared.frame.Activation.{Activation as Frame}
use Rattle.wjs_model.specs.Lists.{items_of, pairs_of}
use Rattle.wjs_frames.specs.Parts.{node_among}
use Rattle.wjs_direct_lines.specs.Deeds.{IsNode}

module _ {S : Type 0} (c : Config S) (f : Frame) (node : NodeId) (o : ObjId) where
  -- the items from one of a number on, and then the length
  abbrev pub items_left : ℕ → Table → Env → Act
  items_left at t env = array_from (drop at (items_of (node_in t (node_among c.units.items f.tree node)))) at o env

  -- the properties from one of a number on
  abbrev pub pairs_left : ℕ → Table → Env → Act
  pairs_left at t env = object_from (drop at (pairs_of (node_in t (node_among c.units.items f.tree node)))) o env

module _ {S : Type 0} (meaning : S → Meaning) where
  -- it is a literal of an object
  abbrev pub IsObjectLiteral : Config S → Frame → NodeId → Type 0
  IsObjectLiteral c f node = (properties : List Property) × ((comma : Bool) × IsNode meaning c f node (nodes.ObjectLit properties comma))

  -- it is a literal of an array
  abbrev pub IsArrayLiteral : Config S → Frame → NodeId → Type 0
  IsArrayLiteral c f node = (items : List (Option NodeId)) × ((comma : Bool) × IsNode meaning c f node (nodes.ArrayLit items comma))
