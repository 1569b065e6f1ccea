use Rattle.std.proofs.Common.{◌≡◌, ◌<◌, length, get_or, refl, sym, ◌∙◌, arith}
use Rattle.std.proofs.lemmas.Option.{get_or_from_slice_get}
use Rattle.wjs_session.specs.Stores.{worlds_in}
use Rattle.wjs_session.proofs.Bringing.{begun_none, begun_more}
use Rattle.wjs_session.proofs.MarkLaws.{stays_brought}
use Rattle.wjs_session.proofs.calls.bring_all.Goals as goal

pub loop-place-init : goal.loop-place-init
loop-place-init c = (begun_none (worlds_in c.args.shared.now) c.args.world (worlds_in c.args.inner.now) c.args.object c.requires.kept, refl, refl, λ t. refl)

pub loop-place-preserved : goal.loop-place-preserved
loop-place-preserved c =
    let v = c.loop-place.invariant in
    let names = c.args.names.now in
    let name = c.at-name.result in
    let l : c.loop-place.place < length names = omega (arith, c.len-place-end.ensures, c.loop-place-test.true) in
    let w = c.in_ok-bring.ensures.works in (
      begun_more (worlds_in c.args.shared.now) c.args.world (worlds_in c.args.inner.now) c.args.object names c.loop-place.place name (worlds_in c.loop-place.shared) (worlds_in c.loop-place.inner) (worlds_in c.bring.new.shared) (worlds_in c.bring.new.inner) l (get_or_from_slice_get names c.loop-place.place name name c.at-name.ensures) v.0 c.in_ok-bring.ensures.brought c.in_ok-bring.ensures.settled,
      w.0 ∙ v.1,
      w.1 ∙ v.2,
      λ t. stays_brought (worlds_in c.args.shared.now) c.args.world (worlds_in c.args.inner.now) c.requires.kept c.args.object t (worlds_in c.loop-place.shared) (worlds_in c.bring.new.shared) (record { object = c.args.object; name = name }) refl (v.3 t) c.in_ok-bring.ensures.reads,
    )
