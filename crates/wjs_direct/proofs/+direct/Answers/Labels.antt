-- What holds of the functions of `labels`.
use Rattle.std.proofs.Common.{rules, [], inl, refl}
use Rattle.std.specs.Prelude.{Ok}
use Rattle.wjs_base.specs.Text.{Table, Has}
use Rattle.wjs_base.proofs.TextLaws.{Grows-Has}
use Rattle.wjs_by_content.specs.Tables.{text_in}
use Rattle.wjs_tree.specs.declared.node.Node.TheVariants as nodes
use Rattle.wjs_meaning.specs.Deeds.{AtStmt, Act, Env, Completion as Meant}
use Rattle.wjs_meaning.specs.Statements.{label_done}
use Rattle.wjs_model.specs.declared.frame.Completion.{Completion}
use Rattle.wjs_model.specs.Contents.{completion_in}
use Rattle.wjs_model.specs.Soundness.{Base, HasCompletion, StandsHere}
use Rattle.wjs_model.specs.declared.point.Point.TheVariants as points
use Rattle.wjs_model.specs.declared.point.StmtPoint.TheVariants as stmt
use Rattle.wjs_frames.proofs.Parting.{stands_here}
use Rattle.wjs_effects.proofs.Leaving.{shorten_as}
use Rattle.wjs_stopping.specs.Waiting.{at_node}
use Rattle.wjs_direct_lines.proofs.Forming.{form_goes_on, line_ended, node_there}
use Rattle.wjs_direct_lines.proofs.Parts.{broke_does, broke_found, broke_later}
use Rattle.wjs_direct.proofs.Labelling.{label_known, label_then}
use Rattle.wjs_direct.proofs.+direct.Goals as goal

pub labelled-statement-requires : goal.labels::labelled-statement-requires
labelled-statement-requires g t c =
    let m = g.S.WorldStore.meaning in
    let old = c.args.config.now in
    let f = c.args.frame.now in
    let part : StandsHere old f c.args.part = stands_here m old (at_node f c.args.node []) (nodes.Label c.args.name c.args.part) c.args.part (node_there m old f c.args.node [] c.requires.there c.requires.node tt) c.requires.is (inl refl) in
    search (rules, part)

pub labelled-behind_label-requires : goal.labels::labelled-behind_label-requires
labelled-behind_label-requires g t c =
    let m = g.S.WorldStore.meaning in
    let old = c.args.config.now in
    let mid = c.statement.new.config in
    let l = c.in-Ok.ensures.later in
    let base : Base m mid = l.base in
    let name : Has mid.heap.texts c.args.name = Grows-Has old.heap.texts mid.heap.texts c.args.name l.texts (label_known m old c.args.frame.now c.args.node c.args.name c.args.part c.requires.is c.requires.base) in
    let end : HasCompletion mid c.in-Ok.end = c.in-Ok.ensures.found.0 in
    search (rules, base, name, end)

pub labelled-returns-in-Ok-clause-found : goal.labels::labelled-returns-in-Ok-clause-found
labelled-returns-in-Ok-clause-found g t c = (c.behind_label.ensures.found, c.in-Ok.ensures.found.1)

pub labelled-returns-in-Ok-clause-does : goal.labels::labelled-returns-in-Ok-clause-does
labelled-returns-in-Ok-clause-does g t c =
    let m = g.S.WorldStore.meaning in
    let mid = c.statement.new.config in
    let f = c.args.frame.now in
    let s = c.statement.new.stops in
    let e = c.in-Ok.end in
    let next : Table → Env → Meant → Act = λ t env. label_done (text_in t c.args.name) in
    form_goes_on m completion_in completion_in c.args.config.now mid mid f (AtStmt c.args.part.0) next e (Ok c.behind_label.result) s.waits s.top s.waits s.top c.in-Ok.ensures.later c.in-Ok.ensures.does
    (line_ended m completion_in mid f (λ t env. next t env (completion_in t e)) c.behind_label.result s.waits s.top (λ t more env. shorten_as _ _ (c.behind_label.ensures.is t more)))

pub labelled-returns-in-Err-clause-later : goal.labels::labelled-returns-in-Err-clause-later
labelled-returns-in-Err-clause-later g t c =
    let s = c.statement.new.stops in
    let k = c.waits.new.stops in
    broke_later g.S.WorldStore.meaning Completion Completion c.args.config.now c.statement.new.config c.waits.new.config c.args.frame.now c.args.node [] (points.Stmt stmt.LabelBody) c.in-Err.end s.waits s.top c.waits.result k.waits k.top
    c.waits.ensures.same c.waits.ensures.waits c.in-Err.ensures.later

pub labelled-returns-in-Err-clause-found : goal.labels::labelled-returns-in-Err-clause-found
labelled-returns-in-Err-clause-found g t c =
    let s = c.statement.new.stops in
    let k = c.waits.new.stops in
    broke_found g.S.WorldStore.meaning Completion Completion c.args.config.now c.statement.new.config c.waits.new.config c.args.frame.now c.args.node [] (points.Stmt stmt.LabelBody) c.in-Err.end s.waits s.top c.waits.result k.waits k.top
    c.waits.ensures.same c.waits.ensures.waits c.in-Err.ensures.later c.requires.there c.requires.node tt tt c.in-Err.ensures.found

pub labelled-returns-in-Err-clause-does : goal.labels::labelled-returns-in-Err-clause-does
labelled-returns-in-Err-clause-does g t c =
    let m = g.S.WorldStore.meaning in
    let old = c.args.config.now in
    let f = c.args.frame.now in
    let mid = c.statement.new.config in
    let s = c.statement.new.stops in
    let k = c.waits.new.stops in
    broke_does m Completion Completion old mid c.waits.new.config f c.args.node [] (points.Stmt stmt.LabelBody) c.in-Err.end s.waits s.top c.waits.result k.waits k.top
    c.waits.ensures.same c.waits.ensures.waits completion_in completion_in (AtStmt c.args.part.0) (λ t env. label_done (text_in t c.args.name))
    (label_then m old f c.args.node c.args.name c.args.part c.requires.is mid) (λ t env e. refl) c.in-Err.ensures.later c.in-Err.ensures.does
