use Rattle.std.proofs.Common.{rules, ◌<◌, length, sym, ◌∙◌, subst, IfSome, get_or}
use Rattle.wjs_layers.specs.declared.layer.Layer.{Layer}
use Rattle.wjs_layers.specs.declared.layer.Look.TheVariants.{Untouched}
use Rattle.wjs_layers.specs.Look.{Looked}
use Rattle.wjs_store.proofs.Parents.{slice_get_at}
use Rattle.wjs_layers.proofs.Looks.{content_now, content_closed, content_first, now_none, below_at}
use Rattle.wjs_layers.proofs.ReadLaws.{read_now, read_closed, read_first}
use Rattle.wjs_layers.proofs.layers.read.Goals as goal

pub offset_bounds-layers-world : goal.offset_bounds-layers-world
offset_bounds-layers-world g c = let l : c.args.world.place < length c.args.layers.now = below_at c.args.layers.now c.args.world c.requires.sparse c.requires.there in search rules

pub bounds-layers-world : goal.bounds-layers-world
bounds-layers-world g c = below_at c.args.layers.now c.args.world c.requires.sparse c.requires.there

pub look_past-requires : goal.look_past-requires
look_past-requires g c = now_none _ (sym c.in_default.is ∙ c.now.ensures.now)

pub read_above-requires-clause-untouched : goal.read_above-requires-clause-untouched
read_above-requires-clause-untouched g c = subst (λ o. IfSome o (λ (r : Layer). Looked r c.args.slot (Untouched c.in-Untouched.above))) (sym (slice_get_at c.args.layers.now c.args.world.place c.index-layers-world.result (below_at c.args.layers.now c.args.world c.requires.sparse c.requires.there))) c.in-Untouched.ensures.seen

pub returns-in-Some-clause-found : goal.returns-in-Some-clause-found
returns-in-Some-clause-found g c = content_now c.args.layers.now c.requires.sparse c.args.world c.requires.there (get_or c.args.layers.now c.args.world.place c.index-layers-world.result) (slice_get_at c.args.layers.now c.args.world.place c.index-layers-world.result (below_at c.args.layers.now c.args.world c.requires.sparse c.requires.there)) c.args.slot c.in-Some.now c.in-Some.ensures.now

pub returns-in-Some-clause-after : goal.returns-in-Some-clause-after
returns-in-Some-clause-after g c = read_now c.args.layers.now c.requires.sparse c.args.world c.requires.there (get_or c.args.layers.now c.args.world.place c.index-layers-world.result) (slice_get_at c.args.layers.now c.args.world.place c.index-layers-world.result (below_at c.args.layers.now c.args.world c.requires.sparse c.requires.there)) c.args.slot c.in-Some.now c.in-Some.ensures.now

pub returns-in-Closed-clause-found : goal.returns-in-Closed-clause-found
returns-in-Closed-clause-found g c = sym (content_closed c.args.layers.now c.requires.sparse c.args.world c.requires.there (get_or c.args.layers.now c.args.world.place c.index-layers-world.result) (slice_get_at c.args.layers.now c.args.world.place c.index-layers-world.result (below_at c.args.layers.now c.args.world c.requires.sparse c.requires.there)) c.args.slot c.in-Closed.ensures.seen.0 c.in-Closed.ensures.seen.1)

pub returns-in-Closed-clause-after : goal.returns-in-Closed-clause-after
returns-in-Closed-clause-after g c = read_closed c.args.layers.now c.requires.sparse c.args.world c.requires.there (get_or c.args.layers.now c.args.world.place c.index-layers-world.result) (slice_get_at c.args.layers.now c.args.world.place c.index-layers-world.result (below_at c.args.layers.now c.args.world c.requires.sparse c.requires.there)) c.args.slot c.in-Closed.ensures.seen

pub returns-in-Nowhere-clause-found : goal.returns-in-Nowhere-clause-found
returns-in-Nowhere-clause-found g c = sym (content_first c.args.layers.now c.requires.sparse c.args.world c.requires.there (get_or c.args.layers.now c.args.world.place c.index-layers-world.result) (slice_get_at c.args.layers.now c.args.world.place c.index-layers-world.result (below_at c.args.layers.now c.args.world c.requires.sparse c.requires.there)) c.args.slot c.in-Nowhere.ensures.seen.0 c.in-Nowhere.ensures.seen.1)

pub returns-in-Nowhere-clause-after : goal.returns-in-Nowhere-clause-after
returns-in-Nowhere-clause-after g c = read_first c.args.layers.now c.requires.sparse c.args.world c.requires.there (get_or c.args.layers.now c.args.world.place c.index-layers-world.result) (slice_get_at c.args.layers.now c.args.world.place c.index-layers-world.result (below_at c.args.layers.now c.args.world c.requires.sparse c.requires.there)) c.args.slot c.in-Nowhere.ensures.seen.1
