use Rattle.std.proofs.Common.{take}
use Rattle.wjs_base.specs.Text.{Table, Grows, IsTable}
use Rattle.wjs_start.specs.Names.{AreNamesOf, words_in}
use Rattle.wjs_start.proofs.names.name_numbers.Given as goal

abbrev pub invariant-loop-word : goal.invariant-loop-word
invariant-loop-word l = record {
  grows : Grows l.initial.texts l.texts;
  table : IsTable l.texts;
  are : (t : Table) → Grows l.texts t → AreNamesOf t l.names.items (words_in (take l.word-index l.words));
}
