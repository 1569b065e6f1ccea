-- How the code keeps the links of an object and its depth.
use Rattle.std.specs.Prelude.{◌≡◌, ℕ, Option, None, Some}
use Rattle.wjs_base.specs.declared.ids.ObjId.{ObjId}
use Rattle.wjs_arena.specs.declared.link.Linked.{Linked}
use Rattle.wjs_arena.specs.declared.link.Linked.TheVariants as linked
use Rattle.wjs_arena.specs.declared.link.ShortLinks.{ShortLinks}
use Rattle.wjs_arena.specs.declared.object.Object.{Object}

-- a number put together, if there is one; a wide one is kept elsewhere
abbrev pub link : Linked → ℕ → ℕ → Option ObjId → Option ObjId
link linked.None owner serial wide = None
link linked.Short owner serial wide = Some (record { owner = owner; serial = serial })
link linked.Wide owner serial wide = wide

-- a depth, which is kept as the link to the prototype is
abbrev pub depth_in : Linked → ℕ → ℕ → ℕ
depth_in linked.None depth wide = depth
depth_in linked.Short depth wide = depth
depth_in linked.Wide depth wide = wide

-- an object's links are kept in short
pub record AreLinks (l : ShortLinks) (x : Object) : Type 0 where
  pub prototype : (wide : Option ObjId) → link l.prototype.linked l.prototype.owner l.prototype.serial wide ≡ x.prototype
  pub scope : (wide : Option ObjId) → link l.scope.linked l.scope.owner l.scope.serial wide ≡ x.scope
