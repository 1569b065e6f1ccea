use Rattle.std.proofs.Common.{ap, ◌∙◌, map, refl}
use Rattle.std.specs.FinMap as finmap
use Rattle.std.proofs.lemmas.Result.{IfOk-weaker}
use Rattle.wjs_base.specs.declared.values.Slot.{Slot}
use Rattle.wjs_store.specs.Shown.{slots_of}
use Rattle.wjs_store.proofs.Named.{named}
use Rattle.wjs_full.proofs.rows.Row.names.Goals as goal

pub returns : goal.returns
returns c =
    IfOk-weaker c.names_of.result _ _ (λ names h.
    ap (slots_of c.args.object) (h ∙ ap (map (λ (s : Slot). s.name)) (c.as_slice.ensures.value ∙ c.in_ok-slots.ensures))
    ∙ (named c.args.object (finmap.keys c.args.self.now.copy) ∙ refl)) c.names_of.ensures
