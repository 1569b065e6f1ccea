use Rattle.std.proofs.Common.{◌∙◌, ap, Vec, Global}
use Rattle.wjs_base.specs.declared.ids.TextId.{TextId}
use Rattle.wjs_scope.proofs.OtherNames.{put, left_out}
use Rattle.wjs_scope.proofs.names.NameSet.absent.Goals as goal
use Rattle.wjs_scope.proofs.names.NameSet.absent.Goals.{then-lacks+in_ok-push, else-lacks}

pub loop-name-preserved : goal.loop-name-preserved
loop-name-preserved c = elim c.if-lacks.branch [
  | then-lacks+in_ok-push w ↦
      put c.args.self.now c.args.list.now c.loop-name.name-index (record { 0 = 0 }) c.loop-name.names.items c.if-lacks.names.items c.lacks.result c.loop-name-test.true c.lacks.ensures w.if-lacks.true
      (ap (λ (v : Vec TextId Global). v.items) w.names-is ∙ w.in_ok-push.ensures.items) c.loop-name.invariant
  | else-lacks w ↦
      left_out c.args.self.now c.args.list.now c.loop-name.name-index (record { 0 = 0 }) c.loop-name.names.items c.if-lacks.names.items c.lacks.result c.loop-name-test.true c.lacks.ensures w.if-lacks.false
      (ap (λ (v : Vec TextId Global). v.items) w.names-is) c.loop-name.invariant
]
