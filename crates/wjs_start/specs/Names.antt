-- Texts and names of the machine's own, under a table that has them.
use Rattle.std.specs.Prelude.{◌≡◌, List, map as each}
use Rattle.wjs_base.specs.declared.ids.TextId.{TextId}
use Rattle.wjs_base.specs.declared.values.Name.{Name}
use Rattle.wjs_base.specs.Spelling.{IsName}
use Rattle.wjs_base.specs.Text.{Table, Has}
use Rattle.wjs_by_content.specs.Renamed.{Holds}
use Rattle.wjs_by_content.specs.Values.{Text}
use Rattle.wjs_by_content.specs.Tables.{text_in, name_in}
use Rattle.wjs_start.specs.declared.names.Word.{Word}

-- the number is there, of this text
pub record IsTextOf (t : Table) (id : TextId) (text : Text) : Type 0 where
  pub there : Has t id
  pub is : text_in t id ≡ text

-- the name is there, and spells this text
pub record IsNameOf (t : Table) (name : Name) (text : Text) : Type 0 where
  pub there : IsName t name
  pub spells : name_in t name ≡ text

-- the names are there, and spell these texts
pub record AreNamesOf (t : Table) (names : List Name) (texts : List Text) : Type 0 where
  pub there : Holds (IsName t) names
  pub spell : each (name_in t) names ≡ texts

abbrev pub words_in : List Word → List Text
words_in words = each (λ (w : Word). w.ascii.now) words
