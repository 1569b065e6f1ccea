use Rattle.std.proofs.Common.{◌≡◌, ◌+◌, ◌++◌, ◌∷◌, [], ◌<◌, length, take, fold, sym, ap, ◌∙◌, subst, is_some, arith}
use Rattle.std.specs.FinMap as map
use Rattle.std.proofs.lemmas.List.{take_more}
use Rattle.std.proofs.lemmas.List.Sums.{fold_push}
use Rattle.wjs_layers.specs.Moves.{handed}
use Rattle.wjs_layers.specs.Sparse.{Keeps}
use Rattle.wjs_layers.proofs.Places.{slice_read}
use Rattle.wjs_layers.proofs.HandLaws.{all_parent, all_copy}
use Rattle.wjs_layers.proofs.layer.hand_reads.Goals as goal

pub loop-slot-preserved : goal.loop-slot-preserved
loop-slot-preserved g c = record {
  above = c.in_ok-hand_read.ensures.kept.0 ∙ c.loop-slot.invariant.above;
  cost = omega (arith, c.loop-slot.invariant.cost, c.hand_read.ensures.steps);
  kept = λ y k p a.
      let rows = c.args.rows.now in
      let i = c.loop-slot.slot-index in
      let e = c.loop-slot-item.result in
      let l : c.loop-slot.slot-index < length c.args.rows.now = omega arith in
      let z = fold handed y (take i rows) in
      let more : fold handed y (take (i + 1) rows) ≡ handed z e = ap (fold handed y) (take_more rows i e l ∙ ap (λ d. take i rows ++ d ∷ []) (sym c.loop-slot-item.is)) ∙ fold_push handed y (take i rows) e in
      subst (Keeps c.hand_read.new.layer) (sym more)
      (c.in_ok-hand_read.ensures.kept.1 z (c.loop-slot.invariant.kept y k p a) (ap is_some (all_parent (take i rows) y) ∙ p)
      (λ v h. ap (λ m. map.get m e.0) (all_copy (take i rows) y) ∙ a i e v (slice_read rows i e c.loop-slot-item.is l) h));
}
