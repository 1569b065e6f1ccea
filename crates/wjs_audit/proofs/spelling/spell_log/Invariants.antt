use Rattle.std.proofs.Common.{take, All}
use Rattle.std.specs.String.{string_bytes}
use Rattle.wjs_audit.specs.declared.deed.Entry.{Entry}
use Rattle.wjs_audit.specs.Logs.{FitsDeed}
use Rattle.wjs_audit.proofs.Pushes.{Written}
use Rattle.wjs_audit.proofs.spelling.spell_log.Given as goal

abbrev pub invariant-loop-entry : goal.invariant-loop-entry
invariant-loop-entry l = record {
  written : Written l.texts (take l.entry-index l.entries) (string_bytes l.out) l.marks.items;
  fits : All (λ (e : Entry). FitsDeed e.deed) (take l.entry-index l.entries);
}
