-- Slots whose texts are put into the table one by one.
use Rattle.std.proofs.Common.{◌≡◌, ℕ, ◌+◌, ◌<◌, ◌≤◌, List, [], ◌∷◌, ◌++◌, length, get_or, take, sym, ap, ◌∙◌, subst}
use Rattle.std.specs.Prelude.{map}
use Rattle.std.proofs.lemmas.List.{map-append, map_more, take_all}
use Rattle.wjs_base.specs.Text.{Table, Grows, IsTable}
use Rattle.wjs_by_content.specs.Renamed.{Holds}
use Rattle.wjs_by_content.proofs.Growth.{name_grows}
use Rattle.wjs_by_content.proofs.Known.{name_known}
use Rattle.wjs_meaning.specs.Start.{Property}
use Rattle.wjs_props.proofs.SpelledNames.{holds_more}
use Rattle.wjs_start.specs.Known.{IsThere, IsPlace, ArePlaces, TellsPlaces, place_in}
use Rattle.wjs_start.specs.declared.known.Place.{Place}

pub places_on : {X : Type 0} (f : X → Property) (t : Table) (xs : List X) (i : ℕ) (d : X) (places new : List Place) (place : Place) → i < length xs → new ≡ places ++ place ∷ [] → ArePlaces t places (map f (take i xs)) → IsPlace t place (f (get_or xs i d)) → ArePlaces t new (map f (take (i + 1) xs))
places_on f t xs i d places new place lt e a b = record {
  there = subst (λ (l : List Place). Holds (IsThere t) l) (sym e) (holds_more (IsThere t) places place a.there b.there);
  are =
      ap (map (place_in t)) e
      ∙ map-append (place_in t) places (place ∷ [])
      ∙ ap (λ l. l ++ place_in t place ∷ []) a.are
      ∙ ap (λ x. map f (take i xs) ++ x ∷ []) b.is
      ∙ sym (map_more f xs i d lt);
}

pub places_all : {X : Type 0} (f : X → Property) (t : Table) (xs : List X) (i : ℕ) (places : List Place) → length xs ≤ i → ArePlaces t places (map f (take i xs)) → ArePlaces t places (map f xs)
places_all f t xs i places le a = record { there = a.there; are = a.are ∙ ap (map f) (take_all i xs le) }

-- names that are there are told from others, now and later
pub places_tell : (texts t : Table) → IsTable texts → Grows texts t → (ps : List Place) → Holds (IsThere texts) ps → TellsPlaces t ps
places_tell texts t table g [] h = tt
places_tell texts t table g (p ∷ ps) h = ((name_grows texts t g p.slot.name (name_known texts table p.slot.name h.0.name)).0, places_tell texts t table g ps h.1)
