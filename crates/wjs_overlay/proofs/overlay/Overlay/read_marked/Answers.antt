use Rattle.std.proofs.Common.{sym, ap, ◌∙◌, subst}
use Rattle.wjs_overlay.specs.Covers.{covers, IsRising}
use Rattle.wjs_overlay.proofs.overlay.Overlay.read_marked.Goals as goal

pub covers-requires : goal.covers-requires
covers-requires g c = subst IsRising (sym c.as_slice.ensures.value) (c.args.self.now.covered c.requires.live).rising

pub read_touched-requires-clause-within : goal.read_touched-requires-clause-within
read_touched-requires-clause-within g c = ap (λ bs. covers bs c.args.at.place c.args.slot.object.serial) (sym c.as_slice.ensures.value) ∙ sym c.covers.ensures ∙ c.if-covers.true

pub read_past-requires-clause-past : goal.read_past-requires-clause-past
read_past-requires-clause-past g c = ap (λ bs. covers bs c.args.at.place c.args.slot.object.serial) (sym c.as_slice.ensures.value) ∙ sym c.covers.ensures ∙ c.if-covers.false
