-- What holds of the functions of `members`.
use Rattle.std.proofs.Common.{◌≡◌, rules, [], ◌∷◌, inl, inr, refl}
use Rattle.wjs_base.specs.declared.values.Value.{Value}
use Rattle.wjs_by_content.specs.Tables.{value_in}
use Rattle.wjs_tree.specs.declared.node.Node.TheVariants as nodes
use Rattle.wjs_meaning.specs.Deeds.{AtExpr, then_value}
use Rattle.wjs_meaning.specs.Reading.{spelt_in}
use Rattle.wjs_meaning.specs.Expressions as line
use Rattle.wjs_model.specs.Soundness.{Base, HasValue, IsThere, StandsHere}
use Rattle.wjs_model.specs.declared.frame.Held.TheVariants as holds
use Rattle.wjs_model.specs.declared.point.Point.TheVariants as points
use Rattle.wjs_model.specs.declared.point.ExprPoint.TheVariants as expr
use Rattle.wjs_frames.proofs.Parting.{stands_here, stands_later}
use Rattle.wjs_direct_lines.proofs.Membering.{dot_later, dot_waits}
use Rattle.wjs_model.specs.declared.point.Purpose.TheVariants as purposes
use Rattle.wjs_stopping.specs.Ends.{gives_in}
use Rattle.wjs_stopping.specs.Waiting.{at_node}
use Rattle.wjs_direct_lines.proofs.Forming.{form_goes_on, node_there}
use Rattle.wjs_direct_lines.proofs.Parts.{broke_does, broke_found, broke_later, later_then, line_form}
use Rattle.wjs_direct.proofs.+direct.Goals as goal

pub dot-value-requires : goal.members::dot-value-requires
dot-value-requires g t c =
    let m = g.S.WorldStore.meaning in
    let old = c.args.config.now in
    let f = c.args.frame.now in
    let part : StandsHere old f c.args.base = stands_here m old (at_node f c.args.node []) (nodes.Dot c.args.base c.args.name) c.args.base (node_there m old f c.args.node [] c.requires.there c.requires.node tt) c.requires.is (inl refl) in
    search (rules, part)

pub dot-member_by_name-requires : goal.members::dot-member_by_name-requires
dot-member_by_name-requires g t c =
    let m = g.S.WorldStore.meaning in
    let old = c.args.config.now in
    let f = c.args.frame.now in
    let mid = c.value.new.config in
    let l = c.in-Ok.ensures.later in
    record {
      base = l.base;
      there = l.frames f c.requires.there;
      node = stands_later m old f mid c.args.node l c.requires.node;
      empty = c.in-Ok.ensures.found.1;
      is = dot_later m old f c.args.node c.args.name (c.args.base, c.requires.is) mid l;
      object = c.in-Ok.ensures.found.0;
    }

pub dot-returns-in-Ok-clause-later : goal.members::dot-returns-in-Ok-clause-later
dot-returns-in-Ok-clause-later g t c =
    later_then g.S.WorldStore.meaning c.args.config.now c.value.new.config c.member_by_name.new.config c.member_by_name.result c.in-Ok.ensures.later c.member_by_name.ensures.later

pub dot-returns-in-Ok-clause-does : goal.members::dot-returns-in-Ok-clause-does
dot-returns-in-Ok-clause-does g t c =
    let s = c.value.new.stops in
    let k = c.member_by_name.new.stops in
    form_goes_on g.S.WorldStore.meaning gives_in gives_in c.args.config.now c.value.new.config c.member_by_name.new.config c.args.frame.now (AtExpr c.args.base.0) (λ t env. then_value (line.dot_base (spelt_in t c.args.name) env (line.give_value_of env))) c.in-Ok.object
    c.member_by_name.result s.waits s.top k.waits k.top c.in-Ok.ensures.later c.in-Ok.ensures.does c.member_by_name.ensures.does

pub dot-returns-in-Err-clause-later : goal.members::dot-returns-in-Err-clause-later
dot-returns-in-Err-clause-later g t c =
    let m = g.S.WorldStore.meaning in
    let old = c.args.config.now in
    let f = c.args.frame.now in
    let s = c.value.new.stops in
    let k = c.waits.new.stops in
    broke_later m Value Value old c.value.new.config c.waits.new.config f c.args.node [] (points.Expr (expr.DotBase purposes.Value)) c.in-Err.end s.waits s.top c.waits.result k.waits k.top
    c.waits.ensures.same c.waits.ensures.waits c.in-Err.ensures.later

pub dot-returns-in-Err-clause-found : goal.members::dot-returns-in-Err-clause-found
dot-returns-in-Err-clause-found g t c =
    let m = g.S.WorldStore.meaning in
    let old = c.args.config.now in
    let f = c.args.frame.now in
    let s = c.value.new.stops in
    let k = c.waits.new.stops in
    broke_found m Value Value old c.value.new.config c.waits.new.config f c.args.node [] (points.Expr (expr.DotBase purposes.Value)) c.in-Err.end s.waits s.top c.waits.result k.waits k.top
    c.waits.ensures.same c.waits.ensures.waits c.in-Err.ensures.later c.requires.there c.requires.node tt (tt) c.in-Err.ensures.found

pub dot-returns-in-Err-clause-does : goal.members::dot-returns-in-Err-clause-does
dot-returns-in-Err-clause-does g t c =
    let m = g.S.WorldStore.meaning in
    let old = c.args.config.now in
    let f = c.args.frame.now in
    let s = c.value.new.stops in
    let k = c.waits.new.stops in
    broke_does m Value Value old c.value.new.config c.waits.new.config f c.args.node [] (points.Expr (expr.DotBase purposes.Value)) c.in-Err.end s.waits s.top c.waits.result k.waits k.top
    c.waits.ensures.same c.waits.ensures.waits gives_in gives_in (AtExpr c.args.base.0) (λ t env. then_value (line.dot_base (spelt_in t c.args.name) env (line.give_value_of env))) (λ l t env. dot_waits m c.value.new.config f c.args.node c.args.name (dot_later m old f c.args.node c.args.name (c.args.base, c.requires.is) c.value.new.config l) t env) (λ t env e. refl) c.in-Err.ensures.later c.in-Err.ensures.does

pub at-value-requires : goal.members::at-value-requires
at-value-requires g t c =
    let m = g.S.WorldStore.meaning in
    let old = c.args.config.now in
    let f = c.args.frame.now in
    let part : StandsHere old f c.args.base = stands_here m old (at_node f c.args.node []) (nodes.At c.args.base c.args.index) c.args.base (node_there m old f c.args.node [] c.requires.there c.requires.node tt) c.requires.is (inl refl) in
    search (rules, part)

pub at-index_of_base-requires : goal.members::at-index_of_base-requires
at-index_of_base-requires g t c =
    let m = g.S.WorldStore.meaning in
    let old = c.args.config.now in
    let f = c.args.frame.now in
    let mid = c.value.new.config in
    let l = c.in-Ok.ensures.later in
    let base : Base m mid = l.base in
    let there : IsThere m mid f = l.frames f c.requires.there in
    let node : StandsHere mid f c.args.node = stands_later m old f mid c.args.node l c.requires.node in
    let empty : c.value.new.stops.waits ≡ [] = c.in-Ok.ensures.found.1 in
    let object : HasValue mid c.in-Ok.object = c.in-Ok.ensures.found.0 in
    let index : StandsHere mid f c.args.index = stands_later m old f mid c.args.index l (stands_here m old (at_node f c.args.node []) (nodes.At c.args.base c.args.index) c.args.index (node_there m old f c.args.node [] c.requires.there c.requires.node tt) c.requires.is (inr (inl refl))) in
    search (rules, base, there, node, empty, object, index)

pub at-returns-in-Ok-clause-later : goal.members::at-returns-in-Ok-clause-later
at-returns-in-Ok-clause-later g t c =
    later_then g.S.WorldStore.meaning c.args.config.now c.value.new.config c.index_of_base.new.config c.index_of_base.result c.in-Ok.ensures.later c.index_of_base.ensures.later

pub at-returns-in-Ok-clause-does : goal.members::at-returns-in-Ok-clause-does
at-returns-in-Ok-clause-does g t c =
    let s = c.value.new.stops in
    let k = c.index_of_base.new.stops in
    form_goes_on g.S.WorldStore.meaning gives_in gives_in c.args.config.now c.value.new.config c.index_of_base.new.config c.args.frame.now (AtExpr c.args.base.0) (λ t env. then_value (line.at_base c.args.index.0 env (line.give_value_of env))) c.in-Ok.object
    c.index_of_base.result s.waits s.top k.waits k.top c.in-Ok.ensures.later c.in-Ok.ensures.does
    (line_form g.S.WorldStore.meaning gives_in c.value.new.config c.index_of_base.new.config c.args.frame.now (λ t env. line.at_base c.args.index.0 env (line.give_value_of env) (value_in t c.in-Ok.object)) c.index_of_base.result k.waits k.top (AtExpr c.args.index.0)
    (λ t env. then_value (line.at_index (value_in t c.in-Ok.object) env (line.give_value_of env))) (λ t more. refl) c.index_of_base.ensures.does)

pub at-returns-in-Err-clause-later : goal.members::at-returns-in-Err-clause-later
at-returns-in-Err-clause-later g t c =
    let m = g.S.WorldStore.meaning in
    let old = c.args.config.now in
    let f = c.args.frame.now in
    let s = c.value.new.stops in
    let k = c.waits.new.stops in
    broke_later m Value Value old c.value.new.config c.waits.new.config f c.args.node [] (points.Expr (expr.IndexBase purposes.Value c.args.index)) c.in-Err.end s.waits s.top c.waits.result k.waits k.top
    c.waits.ensures.same c.waits.ensures.waits c.in-Err.ensures.later

pub at-returns-in-Err-clause-found : goal.members::at-returns-in-Err-clause-found
at-returns-in-Err-clause-found g t c =
    let m = g.S.WorldStore.meaning in
    let old = c.args.config.now in
    let f = c.args.frame.now in
    let s = c.value.new.stops in
    let k = c.waits.new.stops in
    broke_found m Value Value old c.value.new.config c.waits.new.config f c.args.node [] (points.Expr (expr.IndexBase purposes.Value c.args.index)) c.in-Err.end s.waits s.top c.waits.result k.waits k.top
    c.waits.ensures.same c.waits.ensures.waits c.in-Err.ensures.later c.requires.there c.requires.node tt (stands_here m old (at_node f c.args.node []) (nodes.At c.args.base c.args.index) c.args.index (node_there m old f c.args.node [] c.requires.there c.requires.node tt) c.requires.is (inr (inl refl))) c.in-Err.ensures.found

pub at-returns-in-Err-clause-does : goal.members::at-returns-in-Err-clause-does
at-returns-in-Err-clause-does g t c =
    let m = g.S.WorldStore.meaning in
    let old = c.args.config.now in
    let f = c.args.frame.now in
    let s = c.value.new.stops in
    let k = c.waits.new.stops in
    broke_does m Value Value old c.value.new.config c.waits.new.config f c.args.node [] (points.Expr (expr.IndexBase purposes.Value c.args.index)) c.in-Err.end s.waits s.top c.waits.result k.waits k.top
    c.waits.ensures.same c.waits.ensures.waits gives_in gives_in (AtExpr c.args.base.0) (λ t env. then_value (line.at_base c.args.index.0 env (line.give_value_of env))) (λ l t env. refl) (λ t env e. refl) c.in-Err.ensures.later c.in-Err.ensures.does

pub index_of_base-value-requires : goal.members::index_of_base-value-requires
index_of_base-value-requires g t c =
    let node : StandsHere c.args.config.now c.args.frame.now c.args.index = c.requires.index in
    search (rules, node)

pub index_of_base-member_by_value-requires : goal.members::index_of_base-member_by_value-requires
index_of_base-member_by_value-requires g t c =
    let m = g.S.WorldStore.meaning in
    let old = c.args.config.now in
    let f = c.args.frame.now in
    let mid = c.value.new.config in
    let l = c.in-Ok.ensures.later in
    record {
      base = l.base;
      there = l.frames f c.requires.there;
      node = stands_later m old f mid c.args.node l c.requires.node;
      empty = c.in-Ok.ensures.found.1;
      object = l.values c.args.object c.requires.object;
      key = c.in-Ok.ensures.found.0;
    }

pub index_of_base-returns-in-Ok-clause-later : goal.members::index_of_base-returns-in-Ok-clause-later
index_of_base-returns-in-Ok-clause-later g t c =
    later_then g.S.WorldStore.meaning c.args.config.now c.value.new.config c.member_by_value.new.config c.member_by_value.result c.in-Ok.ensures.later c.member_by_value.ensures.later

pub index_of_base-returns-in-Ok-clause-does : goal.members::index_of_base-returns-in-Ok-clause-does
index_of_base-returns-in-Ok-clause-does g t c =
    let s = c.value.new.stops in
    let k = c.member_by_value.new.stops in
    form_goes_on g.S.WorldStore.meaning gives_in gives_in c.args.config.now c.value.new.config c.member_by_value.new.config c.args.frame.now (AtExpr c.args.index.0) (λ t env. then_value (line.at_index (value_in t c.args.object) env (line.give_value_of env))) c.in-Ok.key
    c.member_by_value.result s.waits s.top k.waits k.top c.in-Ok.ensures.later c.in-Ok.ensures.does c.member_by_value.ensures.does

pub index_of_base-returns-in-Err-clause-later : goal.members::index_of_base-returns-in-Err-clause-later
index_of_base-returns-in-Err-clause-later g t c =
    let m = g.S.WorldStore.meaning in
    let old = c.args.config.now in
    let f = c.args.frame.now in
    let s = c.value.new.stops in
    let k = c.waits_holding.new.stops in
    broke_later m Value Value old c.value.new.config c.waits_holding.new.config f c.args.node (holds.Value c.args.object ∷ []) (points.Expr (expr.Index purposes.Value)) c.in-Err.end s.waits s.top c.waits_holding.result k.waits k.top
    c.waits_holding.ensures.same c.waits_holding.ensures.waits c.in-Err.ensures.later

pub index_of_base-returns-in-Err-clause-found : goal.members::index_of_base-returns-in-Err-clause-found
index_of_base-returns-in-Err-clause-found g t c =
    let m = g.S.WorldStore.meaning in
    let old = c.args.config.now in
    let f = c.args.frame.now in
    let s = c.value.new.stops in
    let k = c.waits_holding.new.stops in
    broke_found m Value Value old c.value.new.config c.waits_holding.new.config f c.args.node (holds.Value c.args.object ∷ []) (points.Expr (expr.Index purposes.Value)) c.in-Err.end s.waits s.top c.waits_holding.result k.waits k.top
    c.waits_holding.ensures.same c.waits_holding.ensures.waits c.in-Err.ensures.later c.requires.there c.requires.node (c.requires.object, tt) tt c.in-Err.ensures.found

pub index_of_base-returns-in-Err-clause-does : goal.members::index_of_base-returns-in-Err-clause-does
index_of_base-returns-in-Err-clause-does g t c =
    let m = g.S.WorldStore.meaning in
    let old = c.args.config.now in
    let f = c.args.frame.now in
    let s = c.value.new.stops in
    let k = c.waits_holding.new.stops in
    broke_does m Value Value old c.value.new.config c.waits_holding.new.config f c.args.node (holds.Value c.args.object ∷ []) (points.Expr (expr.Index purposes.Value)) c.in-Err.end s.waits s.top c.waits_holding.result k.waits k.top
    c.waits_holding.ensures.same c.waits_holding.ensures.waits gives_in gives_in (AtExpr c.args.index.0) (λ t env. then_value (line.at_index (value_in t c.args.object) env (line.give_value_of env))) (λ l t env. refl) (λ t env e. refl) c.in-Err.ensures.later c.in-Err.ensures.does
