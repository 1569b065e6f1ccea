use Rattle.std.proofs.Common.{refl, sym, ap, ◌∙◌, subst}
use Rattle.std.specs.Option.{option_map}
use Rattle.std.proofs.lemmas.Result.{on_ok_weaker}
use Rattle.wjs_store.specs.Shown.{content_of}
use Rattle.wjs_layers.specs.declared.layer.Layer.{Layer}
use Rattle.wjs_layers.specs.Moves.{handed}
use Rattle.wjs_layers.specs.Sparse.{Keeps}
use Rattle.wjs_layers.proofs.HandLaws.{hand_touched, hand_new}
use Rattle.wjs_layers.proofs.layer.hand_read.Goals as goal

pub returns-then-is_marked-clause-kept : goal.returns-then-is_marked-clause-kept
returns-then-is_marked-clause-kept g c = (refl, λ y k p a. hand_touched c.args.layer.now y k c.args.slot c.args.row c.in-Some.read p c.in-Some.is (sym c.is_marked.ensures.marked ∙ c.if-is_marked.true))

pub returns-else-is_marked-clause-kept : goal.returns-else-is_marked-clause-kept
returns-else-is_marked-clause-kept g c = on_ok_weaker c.set_read.result (λ e. (ap (λ (l : Layer). l.above) e, λ y k p a. subst (λ l. Keeps l (handed y (c.args.slot, c.args.row))) (sym e) (hand_new c.args.layer.now y k c.args.slot c.args.row c.in-Some.read p c.in-Some.is (sym c.is_marked.ensures.marked ∙ c.if-is_marked.false) (a (content_of c.in-Some.read) (ap (option_map content_of) c.in-Some.is))))) c.set_read.ensures.ok
