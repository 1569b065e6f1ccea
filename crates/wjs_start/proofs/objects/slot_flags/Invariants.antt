use Rattle.std.proofs.Common.{map, take}
use Rattle.wjs_base.specs.Text.{Table}
use Rattle.wjs_by_content.specs.Renamed.{Holds}
use Rattle.wjs_by_content.specs.Tables.{name_in}
use Rattle.wjs_start.specs.Flags.{IsFlagged, flags_among}
use Rattle.wjs_start.specs.Known.{IsThere, TellsNames, TellsPlaces, place_in}
use Rattle.wjs_start.proofs.objects.slot_flags.Given as goal

abbrev pub invariant-loop-place : goal.invariant-loop-place
invariant-loop-place l = (t : Table) → Holds (IsThere t) l.places → TellsPlaces t l.places → TellsNames t l.keeping → IsFlagged t l.flags.items (flags_among (map (place_in t) (take l.place-index l.places)) l.object (map (name_in t) l.keeping))
