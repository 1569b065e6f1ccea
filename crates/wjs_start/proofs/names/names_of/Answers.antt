use Rattle.std.proofs.Common.{get_or}
use Rattle.wjs_base.specs.declared.ids.TextId.{TextId}
use Rattle.wjs_base.specs.Text.{Has}
use Rattle.std.proofs.lemmas.List.Elements.{All-get_or}
use Rattle.wjs_by_content.specs.Tables.{text_in}
use Rattle.wjs_start.proofs.Naming.{names_on, names_all, text_named}
use Rattle.wjs_start.proofs.names.names_of.Goals as goal

pub loop-id-preserved : goal.loop-id-preserved
loop-id-preserved c = λ t g.
    let none : TextId = record { 0 = 0 } in
    let id = get_or c.args.ids.now c.loop-id.id-index none in
    names_on (text_in t) t c.args.ids.now c.loop-id.id-index none c.loop-id.names.items c.push.new.self.items c.name_of-name.result c.loop-id-test.true c.in_ok-push.ensures.items (c.loop-id.invariant t g)
    (text_named c.args.texts.now t id c.name_of-name.result (All-get_or (Has c.args.texts.now) c.args.ids.now c.loop-id.id-index none c.loop-id-test.true c.requires) c.name_of-name.ensures g)

pub returns : goal.returns
returns c = λ t g. names_all (text_in t) t c.args.ids.now c.loop-id.id-index c.loop-id.names.items c.loop-id-test.false (c.loop-id.invariant t g)
