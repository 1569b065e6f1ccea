-- The table of the native functions, as the code has it.
use Rattle.wjs_meaning.specs.declared.natives.Row.{Row as CodeRow}
use Rattle.wjs_meaning.specs.Table.{Row}

abbrev pub row_in : CodeRow → Row
row_in r = record { holder = r.holder; name = r.name.now; formals = r.formals; prototype = r.prototype; this = r.this; arguments = r.arguments }
