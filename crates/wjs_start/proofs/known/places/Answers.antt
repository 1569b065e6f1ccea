use Rattle.wjs_base.proofs.TextLaws.{Grows-trans}
use Rattle.wjs_start.specs.Properties.{property_in}
use Rattle.wjs_start.proofs.Placing.{places_on, places_all}
use Rattle.wjs_start.proofs.known.places.Goals as goal

pub loop-property-preserved : goal.loop-property-preserved
loop-property-preserved c = record {
  grows = Grows-trans c.args.texts.now c.loop-property.texts c.place_of.new.texts c.loop-property.invariant.grows c.in_ok-place.ensures.grows;
  table = c.in_ok-place.ensures.table;
  are = λ t g. places_on property_in t c.args.list.now c.loop-property.property-index _ c.loop-property.places.items c.push.new.self.items c.in_ok-place.place c.loop-property-test.true c.in_ok-push.ensures.items (c.loop-property.invariant.are t (Grows-trans c.loop-property.texts c.place_of.new.texts t c.in_ok-place.ensures.grows g)) (c.in_ok-place.ensures.is t g);
}

pub returns-clause-are : goal.returns-clause-are
returns-clause-are c = λ t g. places_all property_in t c.args.list.now c.loop-property.property-index c.loop-property.places.items c.loop-property-test.false (c.loop-property.invariant.are t g)
