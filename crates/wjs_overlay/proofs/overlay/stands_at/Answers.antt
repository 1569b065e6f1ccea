use Rattle.std.proofs.Common.{◌≡◌, ap, sym, ◌∙◌}
use Rattle.std.specs.Option.{option_map}
use Rattle.wjs_names.proofs.Seeks.{got_at}
use Rattle.wjs_overlay.proofs.overlay.stands_at.Goals as goal

pub returns-then-world-found-2 : goal.returns-then-world-found-2
returns-then-world-found-2 c = λ _.
    let owner : c.id-found.result.owner ≡ c.args.world.owner = sym c.if-world-found.true in
    let serial : c.id-found.result.serial ≡ c.args.world.serial = sym c.if-world-found-2.true in
    let same : c.id-found.result ≡ c.args.world = λ i. record { owner = owner i; serial = serial i } in (
      c.in-Some.layer.now,
      sym (got_at c.args.layers.now c.args.place c.get.result c.get.ensures.lookup) ∙ ap (option_map (λ x. x.now)) c.in-Some.is,
      sym c.id-found.ensures ∙ same,
    )
