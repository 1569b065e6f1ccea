use Rattle.std.proofs.Common.{◌≡◌, ◌++◌, map as each, take, All}
use Rattle.std.specs.String.{string_bytes}
use Rattle.wjs_audit.specs.Spelling.{name_text, spaced}
use Rattle.wjs_audit.specs.Logs.{FitsName}
use Rattle.wjs_audit.proofs.spelling.push_names.Given as goal

abbrev pub invariant-loop-place : goal.invariant-loop-place
invariant-loop-place l = (string_bytes l.out ≡ string_bytes l.fn.out ++ spaced (each name_text (take l.place l.names))) × All FitsName (take l.place l.names)
