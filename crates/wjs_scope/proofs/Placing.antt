-- The places that are kept are those that the scopes around each node give.
use Rattle.std.specs.Prelude.{ℕ, List, Option, IsSome}
use Rattle.std.proofs.Common.{refl, sym, subst}
use Rattle.std.proofs.lemmas.Option.{slice_get-get_or}
use Rattle.wjs_base.specs.declared.ids.TextId.{TextId}
use Rattle.wjs_base.specs.declared.ids.NodeId.{NodeId}
use Rattle.wjs_tree.specs.declared.node.Node.{Node}
use Rattle.wjs_scope.specs.declared.place.Place.{Place}
use Rattle.wjs_scope.specs.declared.levels.Level.{Level}
use Rattle.wjs_scope.specs.Visits.{AreNested}
use Rattle.wjs_scope.specs.Places.{Rows, placed_names, KeepsPlaces, ArePlaces}

pub are_places : (ns : List Node) (arguments : Option TextId) (body : NodeId) (marks : List (Option ℕ)) (levels : List Level) (rows : Rows) → AreNested ns arguments body marks levels → KeepsPlaces ns marks levels rows → ArePlaces ns arguments body rows
are_places ns arguments body marks levels rows nested kept = record {
  right = λ i scopes node k x stands has named. (let m = nested.right i scopes stands in kept i m.0 scopes node k x m.1 m.2 has named);
  each = λ i node k stands has lt.
      (let m = nested.each i stands in
      let n = nested.nests i m.0 m.1 in
      subst (λ (o : Option Place). IsSome o) (sym (kept i m.0 n.0 node k _ m.1 n.1 has (slice_get-get_or (placed_names node) k (record { 0 = 0 }) lt))) refl);
}
