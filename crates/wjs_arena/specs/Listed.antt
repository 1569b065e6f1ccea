-- How the code keeps the attributes that an object lists.
use Rattle.std.specs.Prelude.{List}
use Rattle.wjs_base.specs.declared.values.Name.{Name}
use Rattle.wjs_arena.specs.declared.object.Flags.{Flags}
use Rattle.wjs_arena.specs.declared.listed.Form.{Form}
use Rattle.wjs_arena.specs.declared.listed.Form.TheVariants.{Names, Hidden}
use Rattle.wjs_arena.specs.Hidden.{hidden_list}

abbrev pub names_in : Form → List (Name × Flags)
names_in (Names names) = names
names_in (Hidden h) = hidden_list h
