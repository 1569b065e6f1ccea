use Rattle.std.proofs.Common.{subst}
use Rattle.std.specs.Prelude.{OnOk}
use Rattle.wjs_meaning.specs.Deeds.{Act}
use Rattle.wjs_meaning.specs.Reading.{node_in}
use Rattle.wjs_model.specs.declared.frame.Phase.TheVariants as phases
use Rattle.wjs_model.specs.Contents.{completion_in, holding_in}
use Rattle.wjs_model.specs.Waiting.{after}
use Rattle.wjs_frames.specs.Following.{Follows}
use Rattle.wjs_frames.specs.Parts.{env_in, node_among, then_at}
use Rattle.wjs_frames.proofs.Handling.{env_later, runs_later}
use Rattle.wjs_frames.proofs.Parting.{point_later}
use Rattle.wjs_frames.proofs.Taking.{takes_with}
use Rattle.wjs_machine.proofs.steps.step.Goals as goal

-- ---- a frame begins

pub begin-requires-clause-runs : goal.begin-requires-clause-runs
begin-requires-clause-runs g c =
    let took = takes_with g.S.WorldStore.meaning c.args.config.now c.take_top.new.config c.in-Some.frame (phases.Due c.in-Due.start) c.in-Some.phase c.in-Due.is c.in-Some.ensures in
    took.0.runs

pub begin-requires-clause-start : goal.begin-requires-clause-start
begin-requires-clause-start g c =
    let took = takes_with g.S.WorldStore.meaning c.args.config.now c.take_top.new.config c.in-Some.frame (phases.Due c.in-Due.start) c.in-Some.phase c.in-Due.is c.in-Some.ensures in
    took.1

pub returns-in-Due : goal.returns-in-Due
returns-in-Due g c =
    let took = takes_with g.S.WorldStore.meaning c.args.config.now c.take_top.new.config c.in-Some.frame (phases.Due c.in-Due.start) c.in-Some.phase c.in-Due.is c.in-Some.ensures in
    took.0.by c.begin.new.config c.begin.result c.begin.ensures

pub begin-requires-in-Ready-clause-runs : goal.begin-requires-in-Ready-clause-runs
begin-requires-in-Ready-clause-runs g c =
    let took = takes_with g.S.WorldStore.meaning c.args.config.now c.take_top.new.config c.in-Some.frame (phases.Ready c.in-Ready.start) c.in-Some.phase c.in-Ready.is c.in-Some.ensures in
    took.0.runs

pub begin-requires-in-Ready-clause-start : goal.begin-requires-in-Ready-clause-start
begin-requires-in-Ready-clause-start g c =
    let took = takes_with g.S.WorldStore.meaning c.args.config.now c.take_top.new.config c.in-Some.frame (phases.Ready c.in-Ready.start) c.in-Some.phase c.in-Ready.is c.in-Some.ensures in
    took.1

pub returns-in-Ready : goal.returns-in-Ready
returns-in-Ready g c =
    let took = takes_with g.S.WorldStore.meaning c.args.config.now c.take_top.new.config c.in-Some.frame (phases.Ready c.in-Ready.start) c.in-Some.phase c.in-Ready.is c.in-Some.ensures in
    took.0.by c.begin-in-Ready.new.config c.begin-in-Ready.result c.begin-in-Ready.ensures

-- ---- a frame goes on

pub resume-requires-clause-runs : goal.resume-requires-clause-runs
resume-requires-clause-runs g c =
    let took = takes_with g.S.WorldStore.meaning c.args.config.now c.take_top.new.config c.in-Some.frame (phases.Waiting c.in-Waiting.point) c.in-Some.phase c.in-Waiting.is c.in-Some.ensures in
    took.0.runs

pub resume-requires-clause-point : goal.resume-requires-clause-point
resume-requires-clause-point g c =
    let took = takes_with g.S.WorldStore.meaning c.args.config.now c.take_top.new.config c.in-Some.frame (phases.Waiting c.in-Waiting.point) c.in-Some.phase c.in-Waiting.is c.in-Some.ensures in
    took.1

pub returns-in-Waiting : goal.returns-in-Waiting
returns-in-Waiting g c =
    let took = takes_with g.S.WorldStore.meaning c.args.config.now c.take_top.new.config c.in-Some.frame (phases.Waiting c.in-Waiting.point) c.in-Some.phase c.in-Waiting.is c.in-Some.ensures in
    took.0.by c.resume.new.config c.resume.result c.resume.ensures

pub resume-requires-in-Given-clause-runs : goal.resume-requires-in-Given-clause-runs
resume-requires-in-Given-clause-runs g c =
    let took = takes_with g.S.WorldStore.meaning c.args.config.now c.take_top.new.config c.in-Some.frame (phases.Given c.in-Given.point c.in-Given.completion) c.in-Some.phase c.in-Given.is c.in-Some.ensures in
    took.0.runs

pub resume-requires-in-Given-clause-point : goal.resume-requires-in-Given-clause-point
resume-requires-in-Given-clause-point g c =
    let took = takes_with g.S.WorldStore.meaning c.args.config.now c.take_top.new.config c.in-Some.frame (phases.Given c.in-Given.point c.in-Given.completion) c.in-Some.phase c.in-Given.is c.in-Some.ensures in
    took.1.0

pub resume-requires-in-Given-clause-completion : goal.resume-requires-in-Given-clause-completion
resume-requires-in-Given-clause-completion g c =
    let took = takes_with g.S.WorldStore.meaning c.args.config.now c.take_top.new.config c.in-Some.frame (phases.Given c.in-Given.point c.in-Given.completion) c.in-Some.phase c.in-Given.is c.in-Some.ensures in
    took.1.1

pub returns-in-Given : goal.returns-in-Given
returns-in-Given g c =
    let took = takes_with g.S.WorldStore.meaning c.args.config.now c.take_top.new.config c.in-Some.frame (phases.Given c.in-Given.point c.in-Given.completion) c.in-Some.phase c.in-Given.is c.in-Some.ensures in
    took.0.by c.resume-in-Given.new.config c.resume-in-Given.result c.resume-in-Given.ensures

-- ---- a frame goes on with the completion of an operand

pub operand_completion-requires-clause-base : goal.operand_completion-requires-clause-base
operand_completion-requires-clause-base g c =
    let took = takes_with g.S.WorldStore.meaning c.args.config.now c.take_top.new.config c.in-Some.frame (phases.Entering c.in-Entering.point c.in-Entering.operand) c.in-Some.phase c.in-Entering.is c.in-Some.ensures in
    took.0.runs.running.base

pub operand_completion-requires-clause-there : goal.operand_completion-requires-clause-there
operand_completion-requires-clause-there g c =
    let took = takes_with g.S.WorldStore.meaning c.args.config.now c.take_top.new.config c.in-Some.frame (phases.Entering c.in-Entering.point c.in-Entering.operand) c.in-Some.phase c.in-Entering.is c.in-Some.ensures in
    took.0.runs.there

pub operand_completion-requires-clause-operand : goal.operand_completion-requires-clause-operand
operand_completion-requires-clause-operand g c =
    let took = takes_with g.S.WorldStore.meaning c.args.config.now c.take_top.new.config c.in-Some.frame (phases.Entering c.in-Entering.point c.in-Entering.operand) c.in-Some.phase c.in-Entering.is c.in-Some.ensures in
    took.1.1

pub resume-requires-in-Entering-clause-runs : goal.resume-requires-in-Entering-clause-runs
resume-requires-in-Entering-clause-runs g c =
    let took = takes_with g.S.WorldStore.meaning c.args.config.now c.take_top.new.config c.in-Some.frame (phases.Entering c.in-Entering.point c.in-Entering.operand) c.in-Some.phase c.in-Entering.is c.in-Some.ensures in
    runs_later _ _ _ _ took.0.runs c.in_ok-completion-in-Entering.ensures.later

pub resume-requires-in-Entering-clause-point : goal.resume-requires-in-Entering-clause-point
resume-requires-in-Entering-clause-point g c =
    let took = takes_with g.S.WorldStore.meaning c.args.config.now c.take_top.new.config c.in-Some.frame (phases.Entering c.in-Entering.point c.in-Entering.operand) c.in-Some.phase c.in-Entering.is c.in-Some.ensures in
    point_later g.S.WorldStore.meaning c.take_top.new.config c.in-Some.frame c.operand_completion.new.config c.in-Entering.point
    c.in_ok-completion-in-Entering.ensures.later took.1.0

-- what follows the completion of the operand follows the operand
pub returns-in_ok-completion-in-Entering : goal.returns-in_ok-completion-in-Entering
returns-in_ok-completion-in-Entering g c =
    let took = takes_with g.S.WorldStore.meaning c.args.config.now c.take_top.new.config c.in-Some.frame (phases.Entering c.in-Entering.point c.in-Entering.operand) c.in-Some.phase c.in-Entering.is c.in-Some.ensures in
    let m = g.S.WorldStore.meaning in
    let mid = c.take_top.new.config in
    let near = c.operand_completion.new.config in
    let new = c.resume-in-Entering.new.config in
    let f = c.in-Some.frame in
    let p = c.in-Entering.point in
    let r = c.resume-in-Entering.result in
    let t = new.heap.texts in
    let had = c.in_ok-completion-in-Entering in
    let l = had.ensures.later in
    let P : Act → Type 0 = λ act. OnOk r (Follows m act near new) in
    let there = subst P (λ i. after p f.node.0 (node_in t (node_among (l.units i).items f.tree f.node)) (holding_in t f.held) (env_later m mid near t f l i) (completion_in t had.completion)) c.resume-in-Entering.ensures in
    took.0.by new r (had.ensures.does.by (then_at m mid f p t (env_in m mid t f)) new r there)
