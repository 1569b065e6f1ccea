use Rattle.std.proofs.Common.{take}
use Rattle.std.specs.List.{flat_map}
use Rattle.std.specs.String.{string_bytes}
use Rattle.wjs_audit.specs.Tables.{name_ids, Puts}
use Rattle.wjs_audit.proofs.needed.push_names_texts.Given as goal

abbrev pub invariant-loop-place : goal.invariant-loop-place
invariant-loop-place l = Puts l.texts (flat_map name_ids (take l.place l.names)) (string_bytes l.fn.out) (string_bytes l.out) l.fn.marks.items l.marks.items
