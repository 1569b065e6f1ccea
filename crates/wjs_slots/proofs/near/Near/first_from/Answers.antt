use Rattle.std.proofs.Common.{◌<◌, ◌∙◌, Some, ap, sym, length, arith}
use Rattle.std.proofs.lemmas.Option.{slice_get-get_or}
use Rattle.wjs_slots.proofs.Nexts.{bare_more}
use Rattle.wjs_slots.proofs.near.Near.first_from.Goals as goal

pub places-init : goal.places-init
places-init g c = record {
  from = omega arith;
  bare = λ j names name from below is. absurd (omega arith);
}

pub places-preserved : goal.places-preserved
places-preserved g c =
    let ms = c.args.self.now.objects.items in
    let l : c.places.place < length ms = omega (arith, c.places-test.true, c.len.ensures, c.args.self.now.objects.ok.0) in
    let is = slice_get-get_or ms c.places.place c.index.result.now l ∙ ap Some (sym c.index.ensures) in
    record {
      from = omega (arith, c.places.invariant.from);
      bare = bare_more ms c.args.start c.places.place c.index.result.now c.places.invariant.bare is c.in-None.ensures;
    }

pub returns-in-Some : goal.returns-in-Some
returns-in-Some g c =
    let ms = c.args.self.now.objects.items in
    let l : c.places.place < length ms = omega (arith, c.places-test.true, c.len.ensures, c.args.self.now.objects.ok.0) in
    (c.places.invariant.from, c.places.invariant.bare, (c.index.result.now, slice_get-get_or ms c.places.place c.index.result.now l ∙ ap Some (sym c.index.ensures), c.in-Some.ensures))

pub returns : goal.returns
returns g c = λ j names name from below is. c.places.invariant.bare j names name from (omega (arith, below, c.places-test.false, c.len.ensures, c.args.self.now.objects.ok.0)) is
