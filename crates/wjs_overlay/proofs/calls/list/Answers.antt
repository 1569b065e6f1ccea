use Rattle.std.proofs.Common.{ap, ◌∙◌, map as each}
use Rattle.std.proofs.lemmas.Result.{IfOk-weaker}
use Rattle.wjs_base.specs.declared.values.Slot.{Slot}
use Rattle.wjs_store.specs.Shown.{slots_of}
use Rattle.wjs_layers.specs.Sparse.{full_of}
use Rattle.wjs_overlay.proofs.CommitLaws.{named_at}
use Rattle.wjs_overlay.proofs.calls.list.Goals as goal

pub returns-clause-names : goal.returns-clause-names
returns-clause-names g c = IfOk-weaker c.names_of.result _ _ (λ names e. ap (slots_of c.args.object) (e ∙ ap (each (λ (s : Slot). s.name)) (c.as_slice.ensures.value ∙ c.in_ok-slots.ensures.slots)) ∙ named_at (full_of c.args.layers.now.items) c.args.world.world c.args.object) c.names_of.ensures
