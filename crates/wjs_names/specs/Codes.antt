-- How names are told apart.
use Rattle.std.specs.Coded.{Coded}
use Rattle.wjs_base.specs.contracts.values.Name as name
use Rattle.wjs_base.specs.declared.values.Name.{Name}

abbrev pub coded_name : Coded Name
coded_name = (name.the_row).coded
