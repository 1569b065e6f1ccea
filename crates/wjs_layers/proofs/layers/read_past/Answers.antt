use Rattle.std.proofs.Common.{◌≡◌, sym, ◌∙◌, subst, arith, true, is_some, IfSome, set, Some, false}
use Rattle.std.specs.FinMap as map
use Rattle.wjs_base.proofs.Lists.{get_there}
use Rattle.wjs_store.specs.State.{after_read}
use Rattle.wjs_layers.specs.declared.layer.Layer.{Layer}
use Rattle.wjs_layers.specs.Look.{IsUntouched}
use Rattle.wjs_layers.specs.Sparse.{StandFor, full_of}
use Rattle.wjs_layers.proofs.Looks.{below_at}
use Rattle.wjs_layers.proofs.ReadLaws.{read_unseen}
use Rattle.wjs_layers.proofs.layers.read_past.Goals as goal

pub put_read-requires-clause-there : goal.put_read-requires-clause-there
put_read-requires-clause-there g c = below_at c.args.layers.now c.args.world c.requires.sparse c.requires.there

pub put_read-requires-clause-parent : goal.put_read-requires-clause-parent
put_read-requires-clause-parent g c =
    let s = get_there c.args.layers.now c.args.world.place (below_at c.args.layers.now c.args.world c.requires.sparse c.requires.there) in
    let e = subst (λ o. IfSome o (λ (r : Layer). IsUntouched r c.args.slot)) s.1 c.requires.untouched in
    subst (λ o. IfSome o (λ (r : Layer). is_some r.above ≡ true)) (sym s.1) e.2

pub returns-in_err-put_read-clause-steps : goal.returns-in_err-put_read-clause-steps
returns-in_err-put_read-clause-steps g c = omega (arith, c.requires.top, c.content-held.ensures.steps, c.put_read.ensures.step)

pub returns-clause-steps : goal.returns-clause-steps
returns-clause-steps g c = omega (arith, c.requires.top, c.content-held.ensures.steps, c.put_read.ensures.step)

pub returns-clause-found : goal.returns-clause-found
returns-clause-found g c = c.content-held.ensures.content ∙ c.requires.same

pub returns-clause-after : goal.returns-clause-after
returns-clause-after g c =
    let s = get_there c.args.layers.now c.args.world.place (below_at c.args.layers.now c.args.world c.requires.sparse c.requires.there) in
    let e = subst (λ o. IfSome o (λ (r : Layer). IsUntouched r c.args.slot)) s.1 c.requires.untouched in
    let p = subst (λ o. IfSome o (λ (r : Layer). c.put_read.new.layers ≡ set c.args.layers.now c.args.world.place (record r { rows = map.insert r.rows c.args.slot (record { read = Some c.content-held.result; now = c.content-held.result; written = false }) }))) s.1 c.in_ok-put_read.ensures.ok in
    subst (λ ls. StandFor ls (after_read (full_of c.args.layers.now) c.args.world.world c.args.slot)) (sym p)
    (read_unseen c.args.layers.now c.requires.sparse c.args.world c.requires.there s.0 s.1 c.args.slot c.content-held.result e (c.content-held.ensures.content ∙ c.requires.same))
