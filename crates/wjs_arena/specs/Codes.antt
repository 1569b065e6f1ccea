-- How entries are told apart.
use Rattle.std.specs.Coded.{Coded}
use Rattle.wjs_arena.specs.contracts.entry.Entry as entry
use Rattle.wjs_arena.specs.declared.entry.Entry.{Entry}

abbrev pub coded_entry : Coded Entry
coded_entry = (entry.the_row).coded
