-- The world that a World object stands for ("Worlds: Controlling the Scope of Side Effects", ECOOP 2011).
use Rattle.std.specs.Prelude.{true, false, Option, None, Some}
use Rattle.wjs_base.specs.declared.ids.WorldId.{WorldId}
use Rattle.wjs_arena.specs.declared.class.Class.TheVariants as class
use Rattle.wjs_by_content.specs.Values.{Value, Object}
use Rattle.wjs_by_content.specs.Objects.{Internals, object_of, object_at}
use Rattle.wjs_meaning.specs.declared.trouble.Trouble.TheVariants.{NotAWorld}
use Rattle.wjs_meaning.specs.Builtins.{world_prototype}
use Rattle.wjs_meaning.specs.Deeds.{Env, Act, Do, Look, HasWorld}
use Rattle.wjs_meaning.specs.Errors.{throw}

-- the World object of a world
abbrev pub world_object_of : WorldId → Internals
world_object_of w = record (object_of class.World (Some world_prototype)) { world = Some w }

-- a world that is there
abbrev pub world_found : Option WorldId → Env → (WorldId → Act) → Act
world_found None env go = throw NotAWorld env
world_found (Some w) env go = Do (HasWorld w) (λ has. elim has [ true ↦ go w | false ↦ throw NotAWorld env ])

-- the world of a value
abbrev pub world_of : Value → Env → (WorldId → Act) → Act
world_of (Object o) env go = Do Look (λ arena. world_found (object_at arena o).world env go)
world_of v env go = throw NotAWorld env
