use Rattle.std.proofs.Common.{◌≡◌, ◌∷◌, ◌++◌, [], ◌∙◌, ap, sym, subst, length, Vec, Global}
use Rattle.wjs_scope.specs.declared.place.Place.{Place}
use Rattle.wjs_scope.specs.Places.{placed_names, AddsPlaces}
use Rattle.wjs_scope.proofs.Keeping.{marked_row, bare_row}
use Rattle.wjs_scope.proofs.rows.rows.Goals as goal
use Rattle.wjs_scope.proofs.rows.rows.Goals.{in-Some+in_ok-add_places, in_default}

pub add_places-requires : goal.add_places-requires
add_places-requires c = c.requires.nests (record { 0 = c.loop-number.number }) c.in-Some.at c.in-Some.is

pub loop-number-preserved : goal.loop-number-preserved
loop-number-preserved c =
    let ns = c.args.nodes.now in
    let marks = c.args.marks.now in
    let levels = c.args.levels.now in
    let starts = c.loop-number.starts.items in
    let list = c.loop-number.list.items in
    let next : c.push.new.self.items ≡ starts ++ length list ∷ [] = c.in_ok-push.ensures.items ∙ ap (λ n. starts ++ n ∷ []) (c.len.ensures ∙ c.loop-number.list.ok.0) in
    elim c.match-mark.branch [
      | in-Some+in_ok-add_places w ↦ marked_row ns marks levels starts c.push.new.self.items list c.match-mark.list.items c.loop-number.number w.in-Some.at w.node-node.result.now next w.in-Some.is (c.requires.nests (record { 0 = c.loop-number.number }) w.in-Some.at w.in-Some.is) w.node-node.ensures.there
          (subst (λ (z : Vec Place Global). AddsPlaces levels w.in-Some.at (placed_names w.node-node.result.now) list z.items) (sym w.list-is) w.in_ok-add_places.ensures) c.loop-number.invariant
      | in_default w ↦ bare_row ns marks levels starts c.push.new.self.items list c.match-mark.list.items c.loop-number.number next w.in_default.is (ap (λ (z : Vec Place Global). z.items) w.list-is) c.loop-number.invariant
    ]
