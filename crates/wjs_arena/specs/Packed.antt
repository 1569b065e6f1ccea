-- An object as the arena keeps it: its links apart, and what few objects have in one place.
use Rattle.std.specs.Prelude.{ℕ, Bool, List, [], Option, None, Some}
use Rattle.wjs_base.specs.declared.ids.ObjId.{ObjId}
use Rattle.wjs_base.specs.declared.ids.WorldId.{WorldId}
use Rattle.wjs_base.specs.declared.values.Name.{Name}
use Rattle.wjs_base.specs.declared.values.Value.{Value}
use Rattle.wjs_base.specs.declared.values.Value.TheVariants as values
use Rattle.wjs_arena.specs.declared.class.Class.{Class}
use Rattle.wjs_arena.specs.declared.object.Code.{Code}
use Rattle.wjs_arena.specs.declared.object.Code.TheVariants as codes
use Rattle.wjs_arena.specs.declared.object.Flags.{Flags}
use Rattle.wjs_arena.specs.declared.object.Object.{Object}
use Rattle.wjs_arena.specs.declared.rare.Beside.{Beside}
use Rattle.wjs_arena.specs.declared.rare.Beside.TheVariants as beside
use Rattle.wjs_arena.specs.declared.rare.Rare.{Rare}
use Rattle.wjs_arena.specs.declared.rare.Wide.{Wide}
use Rattle.wjs_arena.specs.declared.rest.Rest.{Rest}
use Rattle.wjs_arena.specs.declared.rest.Rest.TheVariants as rests
use Rattle.wjs_arena.specs.Hidden.{hidden_list}
use Rattle.wjs_arena.specs.Entries.{Entry}

-- what few objects have
pub record Few : Type 0 where
  pub code : Code
  pub primitive : Value
  pub world : Option WorldId
  pub fixed : List (Name × Value)
  pub flags : List (Name × Flags)

-- what most objects have of it: nothing
abbrev pub plain : Few
plain = record { code = codes.None; primitive = values.Undefined; world = None; fixed = []; flags = [] }

-- what an object has of it
abbrev pub few_of : Object → Few
few_of x = record { code = x.code; primitive = x.primitive; world = x.world; fixed = x.fixed; flags = x.flags }

-- the world that an object stands for
abbrev pub world_in : Beside → Option WorldId
world_in beside.Nothing = None
world_in (beside.World w) = Some w
world_in (beside.Wide b) = b.value.world

-- links and a depth that have no place in short, where there are some
abbrev pub no_links : Wide
no_links = record { depth = 0; prototype = None; scope = None; world = None }

abbrev pub wide_of : Beside → Wide
wide_of beside.Nothing = no_links
wide_of (beside.World w) = no_links
wide_of (beside.Wide b) = b.value

abbrev pub wide_in : Rest → Wide
wide_in rests.Plain = no_links
wide_in (rests.Hidden h) = no_links
wide_in (rests.Listed b) = no_links
wide_in (rests.Rare b) = wide_of b.value.beside

-- what few objects have, as it is kept
abbrev pub few_from : Rare → Few
few_from r = record { code = r.code; primitive = r.primitive; world = world_in r.beside; fixed = r.fixed; flags = r.flags }

abbrev pub few_in : Rest → Few
few_in rests.Plain = plain
few_in (rests.Hidden h) = record plain { flags = hidden_list h }
few_in (rests.Listed b) = record plain { flags = b.value }
few_in (rests.Rare b) = few_from b.value

-- the entry with these parts
abbrev pub unpacked : ℕ → Class → Option ObjId → Option ObjId → Few → Bool → Entry
unpacked depth class prototype scope few all_kept = record {
  object = record {
    class = class;
    prototype = prototype;
    scope = scope;
    code = few.code;
    primitive = few.primitive;
    world = few.world;
    fixed = few.fixed;
    flags = few.flags;
    all_kept = all_kept;
  };
  depth = depth;
}
