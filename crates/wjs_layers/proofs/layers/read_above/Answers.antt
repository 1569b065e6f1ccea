use Rattle.std.proofs.Common.{◌≡◌, sym, ap, ◌∙◌, subst, arith, true, is_some, IfSome, set, Some, false}
use Rattle.std.specs.FinMap as map
use Rattle.wjs_base.proofs.Lists.{get_there}
use Rattle.wjs_store.specs.State.{after_read}
use Rattle.wjs_layers.specs.declared.layer.Layer.{Layer}
use Rattle.wjs_layers.specs.declared.layer.Look.TheVariants.{Untouched}
use Rattle.wjs_layers.specs.Look.{Looked}
use Rattle.wjs_layers.specs.Sparse.{StandFor, full_of}
use Rattle.wjs_layers.proofs.Looks.{content_above, above_at, depth_above, below_at}
use Rattle.wjs_layers.proofs.ReadLaws.{read_recorded}
use Rattle.wjs_layers.proofs.layers.read_above.Goals as goal

pub content-found-requires-clause-there : goal.content-found-requires-clause-there
content-found-requires-clause-there g c =
    let s = get_there c.args.layers.now c.args.world.place (below_at c.args.layers.now c.args.world c.requires.sparse c.requires.there) in
    let e = subst (λ o. IfSome o (λ (r : Layer). Looked r c.args.slot (Untouched c.args.above))) s.1 c.requires.untouched in
    (above_at c.args.layers.now c.requires.sparse c.args.world c.requires.there s.0 s.1 c.args.above e.2).0

pub put_read-requires-clause-there : goal.put_read-requires-clause-there
put_read-requires-clause-there g c = below_at c.args.layers.now c.args.world c.requires.sparse c.requires.there

pub put_read-requires-clause-parent : goal.put_read-requires-clause-parent
put_read-requires-clause-parent g c =
    let s = get_there c.args.layers.now c.args.world.place (below_at c.args.layers.now c.args.world c.requires.sparse c.requires.there) in
    let e = subst (λ o. IfSome o (λ (r : Layer). Looked r c.args.slot (Untouched c.args.above))) s.1 c.requires.untouched in
    subst (λ o. IfSome o (λ (r : Layer). is_some r.above ≡ true)) (sym s.1) (ap is_some e.2)

pub returns-in_err-put_read-clause-steps : goal.returns-in_err-put_read-clause-steps
returns-in_err-put_read-clause-steps g c =
    let s = get_there c.args.layers.now c.args.world.place (below_at c.args.layers.now c.args.world c.requires.sparse c.requires.there) in
    let e = subst (λ o. IfSome o (λ (r : Layer). Looked r c.args.slot (Untouched c.args.above))) s.1 c.requires.untouched in
    let d = depth_above c.args.layers.now c.requires.sparse c.args.world c.requires.there s.0 s.1 c.args.above e.2 in
    omega (arith, d, c.content-found.ensures.steps, c.put_read.ensures.step)

pub returns-clause-steps : goal.returns-clause-steps
returns-clause-steps g c =
    let s = get_there c.args.layers.now c.args.world.place (below_at c.args.layers.now c.args.world c.requires.sparse c.requires.there) in
    let e = subst (λ o. IfSome o (λ (r : Layer). Looked r c.args.slot (Untouched c.args.above))) s.1 c.requires.untouched in
    let d = depth_above c.args.layers.now c.requires.sparse c.args.world c.requires.there s.0 s.1 c.args.above e.2 in
    omega (arith, d, c.content-found.ensures.steps, c.put_read.ensures.step)

pub returns-clause-found : goal.returns-clause-found
returns-clause-found g c =
    let s = get_there c.args.layers.now c.args.world.place (below_at c.args.layers.now c.args.world c.requires.sparse c.requires.there) in
    let e = subst (λ o. IfSome o (λ (r : Layer). Looked r c.args.slot (Untouched c.args.above))) s.1 c.requires.untouched in
    c.content-found.ensures.content ∙ sym (content_above c.args.layers.now c.requires.sparse c.args.world c.requires.there s.0 s.1 c.args.slot c.args.above e.0 e.1 e.2)

pub returns-clause-after : goal.returns-clause-after
returns-clause-after g c =
    let s = get_there c.args.layers.now c.args.world.place (below_at c.args.layers.now c.args.world c.requires.sparse c.requires.there) in
    let e = subst (λ o. IfSome o (λ (r : Layer). Looked r c.args.slot (Untouched c.args.above))) s.1 c.requires.untouched in
    let p = subst (λ o. IfSome o (λ (r : Layer). c.put_read.new.layers ≡ set c.args.layers.now c.args.world.place (record r { rows = map.insert r.rows c.args.slot (record { read = Some c.content-found.result; now = c.content-found.result; written = false }) }))) s.1 c.in_ok-put_read.ensures.ok in
    subst (λ ls. StandFor ls (after_read (full_of c.args.layers.now) c.args.world.world c.args.slot)) (sym p) (read_recorded c.args.layers.now c.requires.sparse c.args.world c.requires.there s.0 s.1 c.args.slot c.args.above c.content-found.result e c.content-found.ensures.content)
