-- The nodes of a unit by number, with the places of their names.
use Rattle.std.specs.Prelude.{◌≡◌, ℕ, zero, suc, ◌+◌, List, [], ◌∷◌, map as each, Option, Some, slice_get}
use Rattle.std.specs.Option.{option_map}
use Rattle.std.proofs.Common.{refl, ap, ◌∙◌, arith}
use Rattle.std.proofs.lemmas.Option.{none-some, same_Some, slice_get-map}
use Rattle.wjs_base.specs.declared.ids.TextId.{TextId}
use Rattle.wjs_base.specs.Text.{Table, IsTable, Finds}
use Rattle.wjs_base.specs.declared.ids.NodeId.{NodeId}
use Rattle.wjs_tree.specs.declared.node.Node.{Node}
use Rattle.wjs_tree.specs.Shows.{Has}
use Rattle.wjs_scope.specs.declared.place.Place.{Place as Found}
use Rattle.wjs_scope.specs.Places.{ArePlaces, arguments_text, placed_names}
use Rattle.wjs_scope.specs.Contents.{resolve_text}
use Rattle.wjs_by_content.specs.Values.{same_text}
use Rattle.wjs_by_content.specs.Tables.{text_in}
use Rattle.wjs_meaning.specs.Trees.{Place}
use Rattle.wjs_meaning.specs.Reading.{node_in}
use Rattle.wjs_model.specs.Texts.{KnowsUnit}
use Rattle.wjs_model.specs.Units.{place_in, place_or_global, var_place_of, places_from, rows_from}
use Rattle.wjs_model.specs.declared.loaded.LoadedProgram.{LoadedProgram as Program}
use Rattle.wjs_model.proofs.Placed.{placed_known}
use Rattle.wjs_programs.specs.Numbered.{Scopes, Entry, places_of}
use Rattle.wjs_programs.proofs.Scopes.{same_place}
use Rattle.wjs_programs.proofs.Steps.{Steps}
use Rattle.wjs_programs.proofs.Among.{IsAround, part_around, caught_around, inside_around, declared_around}

row_of : (u : Program) (from : ℕ) (ns : List Node) (k : ℕ) (n : Node) → slice_get ns k ≡ Some n → slice_get (rows_from u from ns) k ≡ Some (places_from u (from + k) 0 (placed_names n))
row_of u from [] k n h = absurd (none-some n h)
row_of u from (m ∷ ns) zero n h = ap (λ (z : Node). Some (places_from u from 0 (placed_names z))) (same_Some m n h) ∙ ap (λ (z : ℕ). Some (places_from u z 0 (placed_names n))) (let e : from ≡ from + 0 = omega arith in e)
row_of u from (m ∷ ns) (suc k) n h = row_of u (suc from) ns k n h ∙ ap (λ (z : ℕ). Some (places_from u z 0 (placed_names n))) (let e : suc from + k ≡ from + suc k = omega arith in e)

-- where each name from one on is found where F says, so are all
places_found : (u : Program) (i : ℕ) (F : TextId → Found) (at : ℕ) (names : List TextId) → ((k : ℕ) (x : TextId) → slice_get names k ≡ Some x → var_place_of u i (at + k) ≡ F x) → places_from u i at names ≡ each (λ (x : TextId). place_in (F x)) names
places_found u i F at [] found = refl
places_found u i F at (x ∷ names) found =
    let here : var_place_of u i at ≡ F x = ap (var_place_of u i) (let e : at ≡ at + 0 = omega arith in e) ∙ found 0 x refl in
    ap (λ (z : Found). place_in z ∷ places_from u i (suc at) names) here
    ∙ ap (λ (z : List Place). place_in (F x) ∷ z) (places_found u i F (suc at) names (λ k y e. ap (var_place_of u i) (let e : suc at + k ≡ at + suc k = omega arith in e) ∙ found (suc k) y e))

-- the node of the number, and its row of places
abbrev pub HasEntry : Table → Program → ℕ → Entry → Type 0
HasEntry texts u k e = (slice_get (each (node_in texts) u.program.nodes) k ≡ Some e.node) × (slice_get (rows_from u 0 u.program.nodes) k ≡ Some e.places)

module _ (texts : Table) (table : IsTable texts) (u : Program) (knows : KnowsUnit texts u) (arguments : Option TextId) (finds : Finds texts arguments_text arguments) (right : ArePlaces u.program.nodes arguments u.program.body u.places) where
  abbrev Among : NodeId → Scopes → Type 0
  Among = IsAround texts u.program.nodes arguments u.program.body

  entry_of : (i : NodeId) (around : Scopes) (n : Node) → Has u.program.nodes i n → Among i around → HasEntry texts u i.0 (record { node = node_in texts n; places = places_of texts around (placed_names n) })
  entry_of i around n has a = (
    slice_get-map (node_in texts) u.program.nodes i.0 ∙ ap (option_map (node_in texts)) has,
    row_of u 0 u.program.nodes i.0 n has ∙ ap (λ (z : ℕ). Some (places_from u z 0 (placed_names n))) (let e : 0 + i.0 ≡ i.0 = omega arith in e)
        ∙ ap (λ (z : List Place). Some z) (places_found u i.0 (λ (x : TextId). resolve_text same_text around (text_in texts x)) 0 (placed_names n) found),
  )
    where
      found : (k : ℕ) (x : TextId) → slice_get (placed_names n) k ≡ Some x → var_place_of u i.0 (0 + k) ≡ resolve_text same_text around (text_in texts x)
      found k x e =
          ap (var_place_of u i.0) (let e : 0 + k ≡ k = omega arith in e) ∙ ap place_or_global (right.right i a.0 n k x a.1 has e)
          ∙ same_place texts 0 a.0 around x (placed_known texts u knows i n k x has e) a.2

  pub unit_steps : Steps texts u.program.nodes (HasEntry texts u) Among
  unit_steps = record {
    entry = entry_of;
    part = part_around texts table u.program.nodes knows arguments finds u.program.body;
    caught = caught_around texts table u.program.nodes knows arguments finds u.program.body;
    inside = inside_around texts table u.program.nodes knows arguments finds u.program.body;
    declared = declared_around texts table u.program.nodes knows arguments finds u.program.body;
  }
