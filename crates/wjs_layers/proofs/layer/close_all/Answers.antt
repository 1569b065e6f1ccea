use Rattle.std.proofs.Common.{◌<◌, ◌≤◌, length, ◌∙◌, subst, arith}
use Rattle.std.proofs.lemmas.List.{take_all}
use Rattle.wjs_layers.specs.Moves.{closed_all}
use Rattle.wjs_layers.specs.Sparse.{Keeps}
use Rattle.wjs_layers.proofs.HandLaws.{closes_more, above_more}
use Rattle.wjs_layers.proofs.layer.close_all.Goals as goal

pub loop-object-preserved : goal.loop-object-preserved
loop-object-preserved g c =
    let l : c.loop-object.object-index < length c.args.objects.now = omega arith in
    record {
      above = above_more _ c.loop-object.layer c.close_layer.new.layer c.in_ok-close_layer.ensures.ok ∙ c.loop-object.invariant.above;
      cost = omega (arith, c.loop-object.invariant.cost, c.close_layer.ensures.step);
      kept = λ y k. closes_more c.args.objects.now c.loop-object.object-index _ c.loop-object.layer c.close_layer.new.layer y l c.in_ok-close_layer.ensures.ok (c.loop-object.invariant.kept y k);
    }

pub returns : goal.returns
returns g c =
    let l : length c.args.objects.now ≤ c.loop-object.object-index = omega arith in
    record { kept = (c.loop-object.invariant.above, λ y k. subst (λ xs. Keeps c.loop-object.layer (closed_all xs y)) (take_all c.loop-object.object-index c.args.objects.now l) (c.loop-object.invariant.kept y k)); steps = omega (arith, c.loop-object.invariant.cost) }
