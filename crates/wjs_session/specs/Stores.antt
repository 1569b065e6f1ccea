-- The worlds of a store of sparse worlds.
use Rattle.wjs_store.specs.Meaning.{Worlds}
use Rattle.wjs_overlay.specs.declared.overlay.Overlay.{Overlay}
use Rattle.wjs_overlay.specs.Store.{worlds_of}

abbrev pub worlds_in : Overlay → Worlds
worlds_in store = worlds_of store.spent store.layers.items
