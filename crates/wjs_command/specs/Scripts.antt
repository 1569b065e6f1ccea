-- The library that runs before a script.
use Rattle.std.specs.Prelude.{Option}
use Rattle.wjs_meaning.specs.Trees.{Tree}
use Rattle.wjs_meaning.specs.declared.library.TheConstants.{LIBRARY}
use Rattle.wjs_load.specs.Loading.{IsProgramOrNot}

-- the tree of the library's text, or none where it is no script
abbrev pub IsLibrary : Option Tree → Type 0
IsLibrary library = IsProgramOrNot LIBRARY.now library
