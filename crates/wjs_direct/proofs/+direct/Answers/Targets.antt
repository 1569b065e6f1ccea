-- What holds of the functions of `targets`.
use Rattle.std.proofs.Common.{◌≡◌, ◌-◌, rules, [], ◌∷◌, inl, inr, refl, ◌∙◌}
use Rattle.std.specs.Prelude.{Err}
use Rattle.wjs_base.specs.declared.values.Value.{Value}
use Rattle.wjs_by_content.specs.Tables.{value_in}
use Rattle.wjs_tree.specs.declared.node.Node.TheVariants as nodes
use Rattle.wjs_meaning.specs.Deeds.{AtExpr, then_value, AtTarget}
use Rattle.wjs_model.specs.Waiting.{refer}
use Rattle.wjs_meaning.specs.Programs.{entry}
use Rattle.wjs_meaning.specs.Reading.{spelt_in}
use Rattle.wjs_meaning.specs.Expressions as line
use Rattle.wjs_model.specs.Soundness.{Base, HasValue, IsThere, StandsHere}
use Rattle.wjs_model.specs.declared.frame.Reference.{Reference}
use Rattle.wjs_model.specs.declared.frame.Held.TheVariants as holds
use Rattle.wjs_model.specs.declared.frame.Phase.TheVariants as phases
use Rattle.wjs_model.specs.declared.point.Start.TheVariants as starts
use Rattle.wjs_model.specs.declared.point.Point.TheVariants as points
use Rattle.wjs_model.specs.declared.point.ExprPoint.TheVariants as expr
use Rattle.wjs_frames.proofs.Parting.{stands_here, stands_later}
use Rattle.wjs_frames.specs.declared.part.Part.TheVariants as part
use Rattle.wjs_direct_lines.proofs.Membering.{dot_later, target_waits}
use Rattle.wjs_model.specs.declared.point.Purpose.TheVariants as purposes
use Rattle.wjs_effects.proofs.Lines.{target_is}
use Rattle.wjs_stopping.specs.Ends.{gives_in}
use Rattle.wjs_stopping.specs.Waiting.{at_node}
use Rattle.wjs_direct_lines.specs.Deeds.{goal_here, refers_in}
use Rattle.wjs_direct_lines.proofs.Forming.{form_goes_on, node_there}
use Rattle.wjs_direct_lines.proofs.Parts.{broke_does, broke_found, broke_later, did, due_does, later_stopped, later_then, line_form, ready_does, step_does, stepped, stop_found}
use Rattle.wjs_direct.proofs.+direct.Goals as goal

-- ---- targets

-- at once

pub target-returns-in-Some-clause-does : goal.targets::target-returns-in-Some-clause-does
target-returns-in-Some-clause-does g t c =
    let m = g.S.WorldStore.meaning in
    let old = c.args.config.now in
    let s = c.args.stops.now in
    did m refers_in (goal_here m old c.args.frame.now (AtTarget c.args.node.0)) c.in-Some.reference s.waits s.top old c.reference_at_once.new.config c.in-Some.ensures.does

-- not entered

pub target-returns-then-not-may_refer-clause-later : goal.targets::target-returns-then-not-may_refer-clause-later
target-returns-then-not-may_refer-clause-later g t c =
    later_stopped g.S.WorldStore.meaning {A = Reference} c.args.config.now c.stop.new.config (Err c.stop.result) c.requires.base (c.stop.ensures.same ∙ c.in_default.ensures.same)

pub target-returns-then-not-may_refer-clause-found : goal.targets::target-returns-then-not-may_refer-clause-found
target-returns-then-not-may_refer-clause-found g t c =
    let s = c.stop.new.stops in
    stop_found g.S.WorldStore.meaning c.args.config.now c.stop.new.config c.args.frame.now c.args.node [] (phases.Due starts.Target) c.stop.result s.waits s.top (c.stop.ensures.same ∙ c.in_default.ensures.same)
    c.requires.there c.requires.node tt tt c.stop.ensures.stops

pub target-returns-then-not-may_refer-clause-does : goal.targets::target-returns-then-not-may_refer-clause-does
target-returns-then-not-may_refer-clause-does g t c =
    let s = c.stop.new.stops in
    due_does g.S.WorldStore.meaning refers_in c.args.config.now c.stop.new.config c.args.frame.now c.stop.result s.waits s.top (c.stop.ensures.same ∙ c.in_default.ensures.same) (part.Target c.args.node) c.stop.ensures.stops

-- entered

pub target-member-requires : goal.targets::target-member-requires
target-member-requires g t c =
    let m = g.S.WorldStore.meaning in
    let old = c.args.config.now in
    let f = c.args.frame.now in
    let mid = c.reference_at_once.new.config in
    let now = record mid { left = mid.left - 1 } in
    let l = stepped m old mid c.in_default.ensures.same c.reference_at_once.ensures.later.base in
    let some = c.may_refer.ensures.room c.if-not-may_refer.false in
    let base : Base m now = l.base in
    let there : IsThere m now f = l.frames f c.requires.there in
    let node : StandsHere now f c.args.node = stands_later m old f now c.args.node l c.requires.node in
    search (rules, some, base, there, node)

pub target-returns-clause-later : goal.targets::target-returns-clause-later
target-returns-clause-later g t c =
    let m = g.S.WorldStore.meaning in
    let old = c.args.config.now in
    let mid = c.reference_at_once.new.config in
    later_then m old (record mid { left = mid.left - 1 }) c.member.new.config c.member.result (stepped m old mid c.in_default.ensures.same c.reference_at_once.ensures.later.base) c.member.ensures.later

pub target-returns-clause-does : goal.targets::target-returns-clause-does
target-returns-clause-does g t c =
    let s = c.member.new.stops in
    step_does g.S.WorldStore.meaning refers_in c.args.config.now c.reference_at_once.new.config c.member.new.config c.args.frame.now (AtTarget c.args.node.0) c.member.result s.waits s.top c.in_default.ensures.same
    (c.may_refer.ensures.left c.if-not-may_refer.false) c.member.ensures.does

-- what follows its step

pub member-returns-in-Some-Dot-clause-does : goal.targets::member-returns-in-Some-Dot-clause-does
member-returns-in-Some-Dot-clause-does g t c =
    let m = g.S.WorldStore.meaning in
    let old = c.args.config.now in
    let f = c.args.frame.now in
    let s = c.in-Some-Dot in
    let k = c.dot.new.stops in
    line_form m refers_in old c.dot.new.config f (λ t env. entry (AtTarget c.args.node.0) env) c.dot.result k.waits k.top (AtExpr s.base.0) (λ t env. then_value (line.dot_base (spelt_in t s.name) env refer))
    (λ t more. target_is m old f c.args.node (nodes.Dot s.base s.name) t (s.ensures ∙ s.field-0-is)) c.dot.ensures.does

pub member-returns-in-Some-At-clause-does : goal.targets::member-returns-in-Some-At-clause-does
member-returns-in-Some-At-clause-does g t c =
    let m = g.S.WorldStore.meaning in
    let old = c.args.config.now in
    let f = c.args.frame.now in
    let s = c.in-Some-At in
    let k = c.at.new.stops in
    line_form m refers_in old c.at.new.config f (λ t env. entry (AtTarget c.args.node.0) env) c.at.result k.waits k.top (AtExpr s.base.0) (λ t env. then_value (line.at_base s.index.0 env refer))
    (λ t more. target_is m old f c.args.node (nodes.At s.base s.index) t (s.ensures ∙ s.field-0-is)) c.at.ensures.does

pub member-returns-in_default-clause-later : goal.targets::member-returns-in_default-clause-later
member-returns-in_default-clause-later g t c = later_stopped g.S.WorldStore.meaning {A = Reference} c.args.config.now c.stop.new.config (Err c.stop.result) c.requires.base c.stop.ensures.same

pub member-returns-in_default-clause-found : goal.targets::member-returns-in_default-clause-found
member-returns-in_default-clause-found g t c =
    let s = c.stop.new.stops in
    stop_found g.S.WorldStore.meaning c.args.config.now c.stop.new.config c.args.frame.now c.args.node [] (phases.Ready starts.Target) c.stop.result s.waits s.top c.stop.ensures.same
    c.requires.there c.requires.node tt tt c.stop.ensures.stops

pub member-returns-in_default-clause-does : goal.targets::member-returns-in_default-clause-does
member-returns-in_default-clause-does g t c =
    let s = c.stop.new.stops in
    ready_does g.S.WorldStore.meaning refers_in c.args.config.now c.stop.new.config c.args.frame.now c.stop.result s.waits s.top c.stop.ensures.same (part.Target c.args.node) c.stop.ensures.stops

pub dot-value-requires : goal.targets::dot-value-requires
dot-value-requires g t c =
    let m = g.S.WorldStore.meaning in
    let old = c.args.config.now in
    let f = c.args.frame.now in
    let part : StandsHere old f c.args.base = stands_here m old (at_node f c.args.node []) (nodes.Dot c.args.base c.args.name) c.args.base (node_there m old f c.args.node [] c.requires.there c.requires.node tt) c.requires.is (inl refl) in
    search (rules, part)

pub dot-referred_by_name-requires : goal.targets::dot-referred_by_name-requires
dot-referred_by_name-requires g t c =
    let m = g.S.WorldStore.meaning in
    let old = c.args.config.now in
    let f = c.args.frame.now in
    let mid = c.value.new.config in
    let l = c.in-Ok.ensures.later in
    record {
      base = l.base;
      there = l.frames f c.requires.there;
      node = stands_later m old f mid c.args.node l c.requires.node;
      empty = c.in-Ok.ensures.found.1;
      is = dot_later m old f c.args.node c.args.name (c.args.base, c.requires.is) mid l;
      object = c.in-Ok.ensures.found.0;
    }

pub dot-returns-in-Ok-clause-later : goal.targets::dot-returns-in-Ok-clause-later
dot-returns-in-Ok-clause-later g t c =
    later_then g.S.WorldStore.meaning c.args.config.now c.value.new.config c.referred_by_name.new.config c.referred_by_name.result c.in-Ok.ensures.later c.referred_by_name.ensures.later

pub dot-returns-in-Ok-clause-does : goal.targets::dot-returns-in-Ok-clause-does
dot-returns-in-Ok-clause-does g t c =
    let s = c.value.new.stops in
    let k = c.referred_by_name.new.stops in
    form_goes_on g.S.WorldStore.meaning gives_in refers_in c.args.config.now c.value.new.config c.referred_by_name.new.config c.args.frame.now (AtExpr c.args.base.0) (λ t env. then_value (line.dot_base (spelt_in t c.args.name) env refer)) c.in-Ok.object
    c.referred_by_name.result s.waits s.top k.waits k.top c.in-Ok.ensures.later c.in-Ok.ensures.does c.referred_by_name.ensures.does

pub dot-returns-in-Err-clause-later : goal.targets::dot-returns-in-Err-clause-later
dot-returns-in-Err-clause-later g t c =
    let m = g.S.WorldStore.meaning in
    let old = c.args.config.now in
    let f = c.args.frame.now in
    let s = c.value.new.stops in
    let k = c.waits.new.stops in
    broke_later m Value Reference old c.value.new.config c.waits.new.config f c.args.node [] (points.Expr (expr.DotBase purposes.Target)) c.in-Err.end s.waits s.top c.waits.result k.waits k.top
    c.waits.ensures.same c.waits.ensures.waits c.in-Err.ensures.later

pub dot-returns-in-Err-clause-found : goal.targets::dot-returns-in-Err-clause-found
dot-returns-in-Err-clause-found g t c =
    let m = g.S.WorldStore.meaning in
    let old = c.args.config.now in
    let f = c.args.frame.now in
    let s = c.value.new.stops in
    let k = c.waits.new.stops in
    broke_found m Value Reference old c.value.new.config c.waits.new.config f c.args.node [] (points.Expr (expr.DotBase purposes.Target)) c.in-Err.end s.waits s.top c.waits.result k.waits k.top
    c.waits.ensures.same c.waits.ensures.waits c.in-Err.ensures.later c.requires.there c.requires.node tt (tt) c.in-Err.ensures.found

pub dot-returns-in-Err-clause-does : goal.targets::dot-returns-in-Err-clause-does
dot-returns-in-Err-clause-does g t c =
    let m = g.S.WorldStore.meaning in
    let old = c.args.config.now in
    let f = c.args.frame.now in
    let s = c.value.new.stops in
    let k = c.waits.new.stops in
    broke_does m Value Reference old c.value.new.config c.waits.new.config f c.args.node [] (points.Expr (expr.DotBase purposes.Target)) c.in-Err.end s.waits s.top c.waits.result k.waits k.top
    c.waits.ensures.same c.waits.ensures.waits gives_in refers_in (AtExpr c.args.base.0) (λ t env. then_value (line.dot_base (spelt_in t c.args.name) env refer)) (λ l t env. target_waits m c.value.new.config f c.args.node c.args.name (dot_later m old f c.args.node c.args.name (c.args.base, c.requires.is) c.value.new.config l) t env) (λ t env e. refl) c.in-Err.ensures.later c.in-Err.ensures.does

pub at-value-requires : goal.targets::at-value-requires
at-value-requires g t c =
    let m = g.S.WorldStore.meaning in
    let old = c.args.config.now in
    let f = c.args.frame.now in
    let part : StandsHere old f c.args.base = stands_here m old (at_node f c.args.node []) (nodes.At c.args.base c.args.index) c.args.base (node_there m old f c.args.node [] c.requires.there c.requires.node tt) c.requires.is (inl refl) in
    search (rules, part)

pub at-index_of_base-requires : goal.targets::at-index_of_base-requires
at-index_of_base-requires g t c =
    let m = g.S.WorldStore.meaning in
    let old = c.args.config.now in
    let f = c.args.frame.now in
    let mid = c.value.new.config in
    let l = c.in-Ok.ensures.later in
    let base : Base m mid = l.base in
    let there : IsThere m mid f = l.frames f c.requires.there in
    let node : StandsHere mid f c.args.node = stands_later m old f mid c.args.node l c.requires.node in
    let empty : c.value.new.stops.waits ≡ [] = c.in-Ok.ensures.found.1 in
    let object : HasValue mid c.in-Ok.object = c.in-Ok.ensures.found.0 in
    let index : StandsHere mid f c.args.index = stands_later m old f mid c.args.index l (stands_here m old (at_node f c.args.node []) (nodes.At c.args.base c.args.index) c.args.index (node_there m old f c.args.node [] c.requires.there c.requires.node tt) c.requires.is (inr (inl refl))) in
    search (rules, base, there, node, empty, object, index)

pub at-returns-in-Ok-clause-later : goal.targets::at-returns-in-Ok-clause-later
at-returns-in-Ok-clause-later g t c =
    later_then g.S.WorldStore.meaning c.args.config.now c.value.new.config c.index_of_base.new.config c.index_of_base.result c.in-Ok.ensures.later c.index_of_base.ensures.later

pub at-returns-in-Ok-clause-does : goal.targets::at-returns-in-Ok-clause-does
at-returns-in-Ok-clause-does g t c =
    let s = c.value.new.stops in
    let k = c.index_of_base.new.stops in
    form_goes_on g.S.WorldStore.meaning gives_in refers_in c.args.config.now c.value.new.config c.index_of_base.new.config c.args.frame.now (AtExpr c.args.base.0) (λ t env. then_value (line.at_base c.args.index.0 env refer)) c.in-Ok.object
    c.index_of_base.result s.waits s.top k.waits k.top c.in-Ok.ensures.later c.in-Ok.ensures.does
    (line_form g.S.WorldStore.meaning refers_in c.value.new.config c.index_of_base.new.config c.args.frame.now (λ t env. line.at_base c.args.index.0 env refer (value_in t c.in-Ok.object)) c.index_of_base.result k.waits k.top (AtExpr c.args.index.0)
    (λ t env. then_value (line.at_index (value_in t c.in-Ok.object) env refer)) (λ t more. refl) c.index_of_base.ensures.does)

pub at-returns-in-Err-clause-later : goal.targets::at-returns-in-Err-clause-later
at-returns-in-Err-clause-later g t c =
    let m = g.S.WorldStore.meaning in
    let old = c.args.config.now in
    let f = c.args.frame.now in
    let s = c.value.new.stops in
    let k = c.waits.new.stops in
    broke_later m Value Reference old c.value.new.config c.waits.new.config f c.args.node [] (points.Expr (expr.IndexBase purposes.Target c.args.index)) c.in-Err.end s.waits s.top c.waits.result k.waits k.top
    c.waits.ensures.same c.waits.ensures.waits c.in-Err.ensures.later

pub at-returns-in-Err-clause-found : goal.targets::at-returns-in-Err-clause-found
at-returns-in-Err-clause-found g t c =
    let m = g.S.WorldStore.meaning in
    let old = c.args.config.now in
    let f = c.args.frame.now in
    let s = c.value.new.stops in
    let k = c.waits.new.stops in
    broke_found m Value Reference old c.value.new.config c.waits.new.config f c.args.node [] (points.Expr (expr.IndexBase purposes.Target c.args.index)) c.in-Err.end s.waits s.top c.waits.result k.waits k.top
    c.waits.ensures.same c.waits.ensures.waits c.in-Err.ensures.later c.requires.there c.requires.node tt (stands_here m old (at_node f c.args.node []) (nodes.At c.args.base c.args.index) c.args.index (node_there m old f c.args.node [] c.requires.there c.requires.node tt) c.requires.is (inr (inl refl))) c.in-Err.ensures.found

pub at-returns-in-Err-clause-does : goal.targets::at-returns-in-Err-clause-does
at-returns-in-Err-clause-does g t c =
    let m = g.S.WorldStore.meaning in
    let old = c.args.config.now in
    let f = c.args.frame.now in
    let s = c.value.new.stops in
    let k = c.waits.new.stops in
    broke_does m Value Reference old c.value.new.config c.waits.new.config f c.args.node [] (points.Expr (expr.IndexBase purposes.Target c.args.index)) c.in-Err.end s.waits s.top c.waits.result k.waits k.top
    c.waits.ensures.same c.waits.ensures.waits gives_in refers_in (AtExpr c.args.base.0) (λ t env. then_value (line.at_base c.args.index.0 env refer)) (λ l t env. refl) (λ t env e. refl) c.in-Err.ensures.later c.in-Err.ensures.does

pub index_of_base-value-requires : goal.targets::index_of_base-value-requires
index_of_base-value-requires g t c =
    let node : StandsHere c.args.config.now c.args.frame.now c.args.index = c.requires.index in
    search (rules, node)

pub index_of_base-referred_by_value-requires : goal.targets::index_of_base-referred_by_value-requires
index_of_base-referred_by_value-requires g t c =
    let m = g.S.WorldStore.meaning in
    let old = c.args.config.now in
    let f = c.args.frame.now in
    let mid = c.value.new.config in
    let l = c.in-Ok.ensures.later in
    record {
      base = l.base;
      there = l.frames f c.requires.there;
      node = stands_later m old f mid c.args.node l c.requires.node;
      empty = c.in-Ok.ensures.found.1;
      object = l.values c.args.object c.requires.object;
      key = c.in-Ok.ensures.found.0;
    }

pub index_of_base-returns-in-Ok-clause-later : goal.targets::index_of_base-returns-in-Ok-clause-later
index_of_base-returns-in-Ok-clause-later g t c =
    later_then g.S.WorldStore.meaning c.args.config.now c.value.new.config c.referred_by_value.new.config c.referred_by_value.result c.in-Ok.ensures.later c.referred_by_value.ensures.later

pub index_of_base-returns-in-Ok-clause-does : goal.targets::index_of_base-returns-in-Ok-clause-does
index_of_base-returns-in-Ok-clause-does g t c =
    let s = c.value.new.stops in
    let k = c.referred_by_value.new.stops in
    form_goes_on g.S.WorldStore.meaning gives_in refers_in c.args.config.now c.value.new.config c.referred_by_value.new.config c.args.frame.now (AtExpr c.args.index.0) (λ t env. then_value (line.at_index (value_in t c.args.object) env refer)) c.in-Ok.key
    c.referred_by_value.result s.waits s.top k.waits k.top c.in-Ok.ensures.later c.in-Ok.ensures.does c.referred_by_value.ensures.does

pub index_of_base-returns-in-Err-clause-later : goal.targets::index_of_base-returns-in-Err-clause-later
index_of_base-returns-in-Err-clause-later g t c =
    let m = g.S.WorldStore.meaning in
    let old = c.args.config.now in
    let f = c.args.frame.now in
    let s = c.value.new.stops in
    let k = c.waits_holding.new.stops in
    broke_later m Value Reference old c.value.new.config c.waits_holding.new.config f c.args.node (holds.Value c.args.object ∷ []) (points.Expr (expr.Index purposes.Target)) c.in-Err.end s.waits s.top c.waits_holding.result k.waits k.top
    c.waits_holding.ensures.same c.waits_holding.ensures.waits c.in-Err.ensures.later

pub index_of_base-returns-in-Err-clause-found : goal.targets::index_of_base-returns-in-Err-clause-found
index_of_base-returns-in-Err-clause-found g t c =
    let m = g.S.WorldStore.meaning in
    let old = c.args.config.now in
    let f = c.args.frame.now in
    let s = c.value.new.stops in
    let k = c.waits_holding.new.stops in
    broke_found m Value Reference old c.value.new.config c.waits_holding.new.config f c.args.node (holds.Value c.args.object ∷ []) (points.Expr (expr.Index purposes.Target)) c.in-Err.end s.waits s.top c.waits_holding.result k.waits k.top
    c.waits_holding.ensures.same c.waits_holding.ensures.waits c.in-Err.ensures.later c.requires.there c.requires.node (c.requires.object, tt) tt c.in-Err.ensures.found

pub index_of_base-returns-in-Err-clause-does : goal.targets::index_of_base-returns-in-Err-clause-does
index_of_base-returns-in-Err-clause-does g t c =
    let m = g.S.WorldStore.meaning in
    let old = c.args.config.now in
    let f = c.args.frame.now in
    let s = c.value.new.stops in
    let k = c.waits_holding.new.stops in
    broke_does m Value Reference old c.value.new.config c.waits_holding.new.config f c.args.node (holds.Value c.args.object ∷ []) (points.Expr (expr.Index purposes.Target)) c.in-Err.end s.waits s.top c.waits_holding.result k.waits k.top
    c.waits_holding.ensures.same c.waits_holding.ensures.waits gives_in refers_in (AtExpr c.args.index.0) (λ t env. then_value (line.at_index (value_in t c.args.object) env refer)) (λ l t env. refl) (λ t env e. refl) c.in-Err.ensures.later c.in-Err.ensures.does
