use Rattle.std.proofs.Common.{◌≡◌, Option, sym, ap, ◌∙◌, drop, subst}
use Rattle.std.specs.Prelude.{IfNone, IfSome}
use Rattle.wjs_tree.specs.declared.node.Node.{Node}
use Rattle.wjs_meaning.specs.Deeds.{Eval, AtStmt}
use Rattle.wjs_meaning.specs.Reading.{node_in}
use Rattle.wjs_model.specs.declared.frame.Completion.{Completion}
use Rattle.wjs_model.specs.Contents.{completion_in}
use Rattle.wjs_model.specs.Soundness.{HasCompletion}
use Rattle.wjs_frames.specs.Doing.{Does}
use Rattle.wjs_frames.specs.Parts.{env_in, node_now, node_among}
use Rattle.wjs_effects.proofs.Proceeding.{proceeds_as, proceeds_by}
use Rattle.wjs_effects.specs.declared.sequences.Reached.TheVariants as reached
use Rattle.wjs_effects.specs.Sequences.{elements_in, elements_from, element_next, reached_in, sequence_left}
use Rattle.wjs_effects.proofs.Running.{element_goes}
use Rattle.wjs_effects.proofs.sequences.element_done.Goals as goal

pub reached_after-requires : goal.reached_after-requires
reached_after-requires g c =
    let mid = c.statement_at_once.new.config in
    subst (λ (o : Option Completion). IfSome o (λ e. HasCompletion mid e)) c.in-Some.is c.in_ok-done.ensures.found

pub returns-in-Some-clause-proceeds : goal.returns-in-Some-clause-proceeds
returns-in-Some-clause-proceeds g c =
    let m = g.S.WorldStore.meaning in
    let f = c.args.frame.now in
    let k = c.args.kind in
    let old = c.args.config.now in
    let mid = c.statement_at_once.new.config in
    let l = c.in_ok-done.ensures.later in
    let n = node_now m old f in
    let next = c.in_ok-next.next in
    let p = c.reached_after.result in
    let s = c.args.element.0 in
    let D : Option Completion → Type 0 = λ o. IfSome o (λ e. Does m (λ t go. Eval (AtStmt s) (env_in m old t f) go) (λ t. completion_in t e) old mid) in
    let same : node_now m mid f ≡ n = λ i. node_among (l.units i).items f.tree f.node in
    proceeds_as m (λ t. Eval (AtStmt s) (env_in m old t f) (element_next k (elements_from k (drop next (elements_in k (node_in t n))) (env_in m old t f)))) (sequence_left m old f k (reached.Next c.args.at)) (sequence_left m mid f k p) old mid
    (λ t grows. element_goes k (elements_in k (node_in t n)) (env_in m old t f) c.args.at next s c.in_ok-next.ensures (c.requires.element t))
    (proceeds_by m f (λ t go. Eval (AtStmt s) (env_in m old t f) go) (λ t. completion_in t c.in-Some.completion) (λ t env. element_next k (elements_from k (drop next (elements_in k (node_in t n))) env)) (λ t env. reached_in k t (node_in t (node_now m mid f)) env p) old mid
    (subst D c.in-Some.is c.in_ok-done.ensures.does) l
    (λ t grows. c.reached_after.ensures.is t (node_in t n) (env_in m mid t f) ∙ ap (λ (x : Node). reached_in k t (node_in t x) (env_in m mid t f) p) (sym same)))

pub returns-in-None-clause-same : goal.returns-in-None-clause-same
returns-in-None-clause-same g c =
    let old = c.args.config.now in
    let mid = c.statement_at_once.new.config in
    subst (λ (o : Option Completion). IfNone o (mid ≡ old)) c.in-None.is c.in_ok-done.ensures.same
