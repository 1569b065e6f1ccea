-- What the table of texts has before the first object is made.
use Rattle.std.specs.Prelude.{◌≡◌, true, List, [], map as each}
use Rattle.wjs_base.specs.declared.values.Name.{Name}
use Rattle.wjs_base.specs.declared.values.Value.{Value as NumberedValue}
use Rattle.wjs_base.specs.declared.values.Value.TheVariants as values
use Rattle.wjs_base.specs.Spelling.{IsName}
use Rattle.wjs_base.specs.Text.{Table, Has}
use Rattle.wjs_by_content.specs.Renamed.{Holds}
use Rattle.wjs_by_content.specs.Values.{Text, Value}
use Rattle.wjs_by_content.specs.Names.{length_name, prototype_name}
use Rattle.wjs_by_content.specs.Tables.{name_in, value_in, slot_in, knows_name}
use Rattle.wjs_meaning.specs.Start.{Property, properties, library_names}
use Rattle.wjs_start.specs.Names.{IsTextOf, IsNameOf, AreNamesOf}
use Rattle.wjs_start.specs.declared.known.Place.{Place}
use Rattle.wjs_start.specs.declared.known.Known.{Known}

-- the text that a value is, if it is one, is there
abbrev pub HasText : Table → NumberedValue → Type 0
HasText t (values.Text id) = Has t id
HasText t v = Unit {0}

pub record ValueIs (t : Table) (v : NumberedValue) (w : Value) : Type 0 where
  pub there : HasText t v
  pub is : value_in t v ≡ w

abbrev pub place_in : Table → Place → Property
place_in t p = record { at = slot_in t p.slot; value = value_in t p.value; kept = p.kept }

-- the texts of a slot and its value are there
pub record IsThere (t : Table) (p : Place) : Type 0 where
  pub name : IsName t p.slot.name
  pub value : HasText t p.value

pub record IsPlace (t : Table) (p : Place) (q : Property) : Type 0 where
  pub there : IsThere t p
  pub is : place_in t p ≡ q

pub record ArePlaces (t : Table) (ps : List Place) (qs : List Property) : Type 0 where
  pub there : Holds (IsThere t) ps
  pub are : each (place_in t) ps ≡ qs

-- the names that the script declares, as texts
abbrev pub declared_in : Table → Known → List Text
declared_in t k = each (name_in t) k.declared.items

-- the table tells the names of slots and declared names from all others
abbrev pub TellsNames : Table → List Name → Type 0
TellsNames t names = Holds (λ n. knows_name t n ≡ true) names

abbrev pub TellsPlaces : Table → List Place → Type 0
TellsPlaces t ps = Holds (λ p. knows_name t (p.slot).name ≡ true) ps

-- the table has what the first objects need
pub record Knows (t : Table) (k : Known) : Type 0 where
  pub length : IsNameOf t k.length length_name
  pub prototype : IsNameOf t k.prototype prototype_name
  pub empty : IsTextOf t k.empty []
  pub library : AreNamesOf t k.library.items library_names
  pub declared : Holds (IsName t) k.declared.items
  pub places : ArePlaces t k.places.items properties
  pub tells_declared : TellsNames t k.declared.items
  pub tells_places : TellsPlaces t k.places.items
