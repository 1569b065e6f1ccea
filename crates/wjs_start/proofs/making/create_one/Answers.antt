use Rattle.wjs_base.proofs.TextLaws.{Grows-refl}
use Rattle.wjs_heap.specs.Means.{parts}
use Rattle.wjs_start.proofs.Creation.{before_there, constructs_before, made_one}
use Rattle.wjs_start.proofs.making.create_one.Goals as goal

pub create-requires-clause-named : goal.create-requires-clause-named
create-requires-clause-named g c =
    let h = parts g.S.WorldStore.meaning c.args.heap.now in
    (c.in_ok-object.ensures.built h.texts h.arena (c.requires.knows h.texts (Grows-refl h.texts)) (before_there h c.args.number c.requires.building c.args.blueprint.constructs (constructs_before c.args.number c.args.blueprint c.requires.buildable))).named

pub returns : goal.returns
returns g c =
    let m = g.S.WorldStore.meaning in
    made_one c.args.known.now c.args.blueprint c.in_ok-object.object c.in_ok-_id._id (parts m c.args.heap.now) (parts m c.create.new.heap) c.args.number c.requires.building c.requires.buildable c.in_ok-object.ensures.world c.in_ok-object.ensures.code c.in_ok-object.ensures.built c.in_ok-_id.ensures.creates
