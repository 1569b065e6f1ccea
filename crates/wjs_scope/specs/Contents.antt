-- Places by content: which numbers names have does not matter.
use Rattle.std.specs.Prelude.{◌≡◌, ◌↔◌, ℕ, suc, Bool, if◌then◌else◌, IsTrue, List, [], ◌∷◌, map, All, slice_get, unwrap_or}
use Rattle.std.specs.List.{list_any}
use Rattle.wjs_base.specs.declared.ids.TextId.{TextId}
use Rattle.wjs_base.specs.Text.{Units, Table, Has, IsTable}
use Rattle.wjs_scope.specs.declared.place.Place.{Place}
use Rattle.wjs_scope.specs.declared.place.Place.TheVariants.{Local, Global}
use Rattle.wjs_scope.specs.Scopes.{Scope, resolve}

-- the text of a name
abbrev pub text_of : Table → TextId → Units
text_of texts x = unwrap_or (slice_get texts x.0) []

-- the place of a text among scopes of texts, the nearest first, some having been passed, where `same` tests whether two texts are one
abbrev pub text_place_past : (Units → Units → Bool) → ℕ → List (List Units) → Units → Place
text_place_past same hops [] u = Global
text_place_past same hops (names ∷ outer) u = if list_any (same u) names then Local hops else text_place_past same (suc hops) outer u

abbrev pub resolve_text : (Units → Units → Bool) → List (List Units) → Units → Place
resolve_text same scopes u = text_place_past same 0 scopes u

-- a name among scopes has the place that its text has among the texts of their names
abbrev pub PlacesAreOfTexts : Type 0
PlacesAreOfTexts =
    (texts : Table) (same : Units → Units → Bool) (scopes : List Scope) (x : TextId) → IsTable texts → ((u v : Units) → IsTrue (same u v) ↔ (u ≡ v)) → All (λ (names : Scope). All (Has texts) names) scopes → Has texts x
    → resolve scopes x ≡ resolve_text same (map (λ (names : Scope). map (text_of texts) names) scopes) (text_of texts x)
