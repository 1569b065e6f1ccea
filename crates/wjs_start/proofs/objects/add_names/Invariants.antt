use Rattle.std.proofs.Common.{◌++◌, List, map, take}
use Rattle.wjs_base.specs.Text.{Table}
use Rattle.wjs_arena.specs.declared.object.Flags.{Flags}
use Rattle.wjs_by_content.specs.Values.{Text}
use Rattle.wjs_start.specs.Names.{AreNamesOf}
use Rattle.wjs_start.specs.Flags.{IsFlagged}
use Rattle.wjs_start.proofs.objects.add_names.Given as goal

abbrev pub invariant-loop-name : goal.invariant-loop-name
invariant-loop-name l = (t : Table) (before : List (Text × Flags)) (texts : List Text) → AreNamesOf t l.names texts → IsFlagged t l.initial.flags.items before → IsFlagged t l.flags.items (before ++ map (λ (name : Text). (name, l.attributes)) (take l.name-index texts))
