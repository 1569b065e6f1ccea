-- Names that are put into lists one by one.
use Rattle.std.proofs.Common.{◌≡◌, ℕ, ◌+◌, ◌<◌, ◌≤◌, List, [], ◌∷◌, ◌++◌, length, get_or, take, refl, sym, ap, ◌∙◌, subst}
use Rattle.std.specs.Prelude.{map}
use Rattle.std.proofs.lemmas.List.{map-append, map_more, take_all}
use Rattle.wjs_base.specs.declared.ids.TextId.{TextId}
use Rattle.wjs_base.specs.declared.values.Name.{Name}
use Rattle.wjs_base.specs.Spelling.{IsNameOf as NameOfText, IsName}
use Rattle.wjs_base.specs.Text.{Table, Grows, Has}
use Rattle.wjs_base.proofs.TextLaws.{Grows-IsName, IsNameOf-IsName}
use Rattle.wjs_by_content.specs.Renamed.{Holds}
use Rattle.wjs_by_content.specs.Values.{Text}
use Rattle.wjs_by_content.specs.Tables.{name_in, text_in}
use Rattle.wjs_props.proofs.SpelledNames.{holds_more}
use Rattle.wjs_heap_steps.proofs.Spelling.{named_in}
use Rattle.wjs_start.specs.Names.{IsNameOf, AreNamesOf}

pub no_names : (t : Table) → AreNamesOf t [] []
no_names t = record { there = tt; spell = refl }

-- one name more
names_more : (t : Table) (names : List Name) (texts : List Text) (name : Name) (text : Text) → AreNamesOf t names texts → IsNameOf t name text → AreNamesOf t (names ++ name ∷ []) (texts ++ text ∷ [])
names_more t names texts name text a b = record {
  there = holds_more (IsName t) names name a.there b.there;
  spell = map-append (name_in t) names (name ∷ []) ∙ ap (λ l. l ++ name_in t name ∷ []) a.spell ∙ ap (λ x. texts ++ x ∷ []) b.spells;
}

-- the next of a list of what names spell
pub names_on : {X : Type 0} (f : X → Text) (t : Table) (xs : List X) (i : ℕ) (d : X) (names new : List Name) (name : Name) → i < length xs → new ≡ names ++ name ∷ [] → AreNamesOf t names (map f (take i xs)) → IsNameOf t name (f (get_or xs i d)) → AreNamesOf t new (map f (take (i + 1) xs))
names_on f t xs i d names new name lt e a b =
    let m = names_more t names (map f (take i xs)) name (f (get_or xs i d)) a b in
    record {
      there = subst (λ (l : List Name). Holds (IsName t) l) (sym e) m.there;
      spell = ap (map (name_in t)) e ∙ m.spell ∙ sym (map_more f xs i d lt);
    }

pub names_all : {X : Type 0} (f : X → Text) (t : Table) (xs : List X) (i : ℕ) (names : List Name) → length xs ≤ i → AreNamesOf t names (map f (take i xs)) → AreNamesOf t names (map f xs)
names_all f t xs i names le a = record { there = a.there; spell = a.spell ∙ ap (map f) (take_all i xs le) }

-- the name of a text of the table
pub text_named : (texts t : Table) (id : TextId) (name : Name) → Has texts id → NameOfText texts id name → Grows texts t → IsNameOf t name (text_in t id)
text_named texts t id name has is g = record {
  there = Grows-IsName texts t name g (IsNameOf-IsName texts id name has is);
  spells = named_in texts t id name is g;
}
