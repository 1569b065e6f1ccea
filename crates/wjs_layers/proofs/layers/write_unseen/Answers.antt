use Rattle.std.proofs.Common.{◌≡◌, true, sym, subst, is_some, Some, IfSome, set}
use Rattle.std.specs.FinMap as map
use Rattle.std.proofs.lemmas.Result.{on_ok_weaker}
use Rattle.wjs_base.proofs.Lists.{get_there}
use Rattle.wjs_store.specs.State.{after_write}
use Rattle.wjs_store.specs.Shown.{content_of}
use Rattle.wjs_layers.specs.declared.layer.Layer.{Layer}
use Rattle.wjs_layers.specs.declared.maps.Row.{Row}
use Rattle.wjs_layers.specs.Shorts.{row_written}
use Rattle.wjs_layers.specs.Sparse.{StandFor, full_of}
use Rattle.wjs_layers.proofs.Looks.{below_at}
use Rattle.wjs_layers.proofs.WriteLaws.{write_by, puts_marked}
use Rattle.wjs_layers.proofs.layers.write_unseen.Goals as goal

pub put_written-requires-clause-there : goal.put_written-requires-clause-there
put_written-requires-clause-there g c = below_at c.args.layers.now c.args.world c.requires.sparse c.requires.there

pub returns-clause-after : goal.returns-clause-after
returns-clause-after g c =
    let row : Row = row_written c.read_before-read.result c.args.content in
    let s = get_there c.args.layers.now c.args.world.place (below_at c.args.layers.now c.args.world c.requires.sparse c.requires.there) in
    let up = subst (λ o. IfSome o (λ (r : Layer). is_some r.above ≡ true)) s.1 c.requires.parent in
    on_ok_weaker c.put_written.result (λ p.
    let e = subst (λ o. IfSome o (λ (r : Layer). c.put_written.new.layers ≡ set c.args.layers.now c.args.world.place (record r { rows = map.insert r.rows c.args.slot row }))) s.1 p in
    subst (λ ls. StandFor ls (after_write (full_of c.args.layers.now) c.args.world.world c.args.slot (content_of c.args.content))) (sym e)
    (write_by c.args.layers.now c.requires.sparse c.args.world c.requires.there s.0 s.1 c.args.slot (content_of c.args.content) (Some row)
    (λ x f. puts_marked s.0 x c.args.slot c.read_before-read.result c.args.content (c.requires.sparse.kept.at c.args.world.world c.args.world.place x s.0 c.requires.there f s.1) up (c.read_before-read.ensures.read x f)))) c.put_written.ensures.ok
