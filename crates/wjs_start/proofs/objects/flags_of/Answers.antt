use Rattle.std.proofs.Common.{sym, ap, ◌∙◌, subst, map}
use Rattle.wjs_by_content.specs.Renamed.{Holds}
use Rattle.wjs_by_content.specs.Tables.{name_in}
use Rattle.wjs_meaning.specs.Start.{properties, flags_on}
use Rattle.wjs_start.specs.Blueprints.{keeping}
use Rattle.wjs_start.specs.Known.{IsThere, TellsPlaces, place_in, declared_in}
use Rattle.wjs_start.proofs.Underneath.{flags_same}
use Rattle.wjs_start.proofs.objects.flags_of.Goals as goal

pub returns : goal.returns
returns c = λ t knows.
    let k = c.args.known.now in
    let there = subst (Holds (IsThere t)) (sym c.as_slice.ensures.value) knows.places.there in
    let tells = subst (TellsPlaces t) (sym c.as_slice.ensures.value) knows.tells_places in
    let slots = c.in_ok-flags.ensures t there tells (c.keeping.ensures.tell t knows) in
    let same = flags_same t c.in_ok-flags.flags.items (map (place_in t) c.as_slice.result.now) properties c.args.object (map (name_in t) c.keeping.result.now) (keeping c.args.further (declared_in t k)) (ap (map (place_in t)) c.as_slice.ensures.value ∙ knows.places.are) (c.keeping.ensures.are t) slots in
    c.in_ok-add_further.ensures t (flags_on c.args.object (keeping c.args.further (declared_in t k))) knows same
