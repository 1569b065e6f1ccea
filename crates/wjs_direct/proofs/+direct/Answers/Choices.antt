-- What holds of the functions of `choices`.
use Rattle.std.proofs.Common.{◌≡◌, rules, [], inl, inr, refl}
use Rattle.wjs_base.specs.declared.values.Value.{Value}
use Rattle.wjs_by_content.specs.Tables.{value_in}
use Rattle.wjs_tree.specs.declared.node.Node.TheVariants as nodes
use Rattle.wjs_meaning.specs.Deeds.{AtExpr, then_value}
use Rattle.wjs_meaning.specs.Expressions as line
use Rattle.wjs_model.specs.Soundness.{Base, IsThere, StandsHere}
use Rattle.wjs_model.specs.declared.point.Point.TheVariants as points
use Rattle.wjs_model.specs.declared.point.ExprPoint.TheVariants as expr
use Rattle.wjs_frames.specs.Parts.{env_in}
use Rattle.wjs_frames.proofs.Parting.{stands_here, stands_later}
use Rattle.wjs_stopping.specs.Ends.{gives_in}
use Rattle.wjs_stopping.specs.Waiting.{at_node}
use Rattle.wjs_direct_lines.proofs.Forming.{form_goes_on, node_there}
use Rattle.wjs_direct_lines.proofs.Parts.{broke_does, broke_found, broke_later, later_then, line_last}
use Rattle.wjs_direct.proofs.+direct.Goals as goal

pub choice-value-requires : goal.choices::choice-value-requires
choice-value-requires g t c =
    let m = g.S.WorldStore.meaning in
    let old = c.args.config.now in
    let f = c.args.frame.now in
    let test : StandsHere old f c.args.test = stands_here m old (at_node f c.args.node []) (nodes.Cond c.args.test c.args.yes c.args.no) c.args.test (node_there m old f c.args.node [] c.requires.there c.requires.node tt) c.requires.is (inl refl) in
    search (rules, test)

pub choice-picked-next-requires : goal.choices::choice-picked-next-requires
choice-picked-next-requires g t c =
    let m = g.S.WorldStore.meaning in
    let old = c.args.config.now in
    let f = c.args.frame.now in
    let mid = c.value.new.config in
    let l = c.in-Ok.ensures.later in
    record {
      base = l.base;
      yes = stands_later m old f mid c.args.yes l (stands_here m old (at_node f c.args.node []) (nodes.Cond c.args.test c.args.yes c.args.no) c.args.yes (node_there m old f c.args.node [] c.requires.there c.requires.node tt) c.requires.is (inr (inl refl)));
      no = stands_later m old f mid c.args.no l (stands_here m old (at_node f c.args.node []) (nodes.Cond c.args.test c.args.yes c.args.no) c.args.no (node_there m old f c.args.node [] c.requires.there c.requires.node tt) c.requires.is (inr (inr (inl refl))));
      value = c.in-Ok.ensures.found.0;
    }

pub choice-value-requires-in-Ok : goal.choices::choice-value-requires-in-Ok
choice-value-requires-in-Ok g t c =
    let m = g.S.WorldStore.meaning in
    let f = c.args.frame.now in
    let mid = c.value.new.config in
    let l = c.in-Ok.ensures.later in
    let base : Base m mid = l.base in
    let there : IsThere m mid f = l.frames f c.requires.there in
    let empty : c.value.new.stops.waits ≡ [] = c.in-Ok.ensures.found.1 in
    let next : StandsHere mid f c.picked-next.result = c.picked-next.ensures.stands in
    search (rules, base, there, empty, next)

pub choice-returns-in-Ok-clause-later : goal.choices::choice-returns-in-Ok-clause-later
choice-returns-in-Ok-clause-later g t c =
    later_then g.S.WorldStore.meaning c.args.config.now c.value.new.config c.value-in-Ok.new.config c.value-in-Ok.result c.in-Ok.ensures.later c.value-in-Ok.ensures.later

pub choice-returns-in-Ok-clause-does : goal.choices::choice-returns-in-Ok-clause-does
choice-returns-in-Ok-clause-does g t c =
    let m = g.S.WorldStore.meaning in
    let old = c.args.config.now in
    let mid = c.value.new.config in
    let new = c.value-in-Ok.new.config in
    let f = c.args.frame.now in
    let s = c.value.new.stops in
    let k = c.value-in-Ok.new.stops in
    form_goes_on m gives_in gives_in old mid new f (AtExpr c.args.test.0) (λ t env. then_value (line.cond_test c.args.yes.0 c.args.no.0 env)) c.in-Ok.truth
    c.value-in-Ok.result s.waits s.top k.waits k.top c.in-Ok.ensures.later c.in-Ok.ensures.does
    (line_last m gives_in mid new f (λ t env. line.cond_test c.args.yes.0 c.args.no.0 env (value_in t c.in-Ok.truth)) c.value-in-Ok.result k.waits k.top (AtExpr c.picked-next.result.0)
    (λ t more. c.picked-next.ensures.is t more (env_in m mid t f)) c.value-in-Ok.ensures.does)

pub choice-returns-in-Err-clause-later : goal.choices::choice-returns-in-Err-clause-later
choice-returns-in-Err-clause-later g t c =
    let m = g.S.WorldStore.meaning in
    let old = c.args.config.now in
    let f = c.args.frame.now in
    let s = c.value.new.stops in
    let k = c.waits.new.stops in
    broke_later m Value Value old c.value.new.config c.waits.new.config f c.args.node [] (points.Expr (expr.CondTest c.args.yes c.args.no)) c.in-Err.end s.waits s.top c.waits.result k.waits k.top
    c.waits.ensures.same c.waits.ensures.waits c.in-Err.ensures.later

pub choice-returns-in-Err-clause-found : goal.choices::choice-returns-in-Err-clause-found
choice-returns-in-Err-clause-found g t c =
    let m = g.S.WorldStore.meaning in
    let old = c.args.config.now in
    let f = c.args.frame.now in
    let s = c.value.new.stops in
    let k = c.waits.new.stops in
    broke_found m Value Value old c.value.new.config c.waits.new.config f c.args.node [] (points.Expr (expr.CondTest c.args.yes c.args.no)) c.in-Err.end s.waits s.top c.waits.result k.waits k.top
    c.waits.ensures.same c.waits.ensures.waits c.in-Err.ensures.later c.requires.there c.requires.node tt (stands_here m old (at_node f c.args.node []) (nodes.Cond c.args.test c.args.yes c.args.no) c.args.yes (node_there m old f c.args.node [] c.requires.there c.requires.node tt) c.requires.is (inr (inl refl)), stands_here m old (at_node f c.args.node []) (nodes.Cond c.args.test c.args.yes c.args.no) c.args.no (node_there m old f c.args.node [] c.requires.there c.requires.node tt) c.requires.is (inr (inr (inl refl)))) c.in-Err.ensures.found

pub choice-returns-in-Err-clause-does : goal.choices::choice-returns-in-Err-clause-does
choice-returns-in-Err-clause-does g t c =
    let m = g.S.WorldStore.meaning in
    let old = c.args.config.now in
    let f = c.args.frame.now in
    let s = c.value.new.stops in
    let k = c.waits.new.stops in
    broke_does m Value Value old c.value.new.config c.waits.new.config f c.args.node [] (points.Expr (expr.CondTest c.args.yes c.args.no)) c.in-Err.end s.waits s.top c.waits.result k.waits k.top
    c.waits.ensures.same c.waits.ensures.waits gives_in gives_in (AtExpr c.args.test.0) (λ t env. then_value (line.cond_test c.args.yes.0 c.args.no.0 env)) (λ l t env. refl) (λ t env e. refl) c.in-Err.ensures.later c.in-Err.ensures.does

pub comma-value-requires : goal.choices::comma-value-requires
comma-value-requires g t c =
    let m = g.S.WorldStore.meaning in
    let old = c.args.config.now in
    let f = c.args.frame.now in
    let first : StandsHere old f c.args.first = stands_here m old (at_node f c.args.node []) (nodes.Comma c.args.first c.args.second) c.args.first (node_there m old f c.args.node [] c.requires.there c.requires.node tt) c.requires.is (inl refl) in
    search (rules, first)

pub comma-value-requires-in-Ok : goal.choices::comma-value-requires-in-Ok
comma-value-requires-in-Ok g t c =
    let m = g.S.WorldStore.meaning in
    let old = c.args.config.now in
    let f = c.args.frame.now in
    let mid = c.value.new.config in
    let l = c.in-Ok.ensures.later in
    let base : Base m mid = l.base in
    let there : IsThere m mid f = l.frames f c.requires.there in
    let empty : c.value.new.stops.waits ≡ [] = c.in-Ok.ensures.found.1 in
    let second : StandsHere mid f c.args.second = stands_later m old f mid c.args.second l (stands_here m old (at_node f c.args.node []) (nodes.Comma c.args.first c.args.second) c.args.second (node_there m old f c.args.node [] c.requires.there c.requires.node tt) c.requires.is (inr (inl refl))) in
    search (rules, base, there, empty, second)

pub comma-returns-in-Ok-clause-later : goal.choices::comma-returns-in-Ok-clause-later
comma-returns-in-Ok-clause-later g t c =
    later_then g.S.WorldStore.meaning c.args.config.now c.value.new.config c.value-in-Ok.new.config c.value-in-Ok.result c.in-Ok.ensures.later c.value-in-Ok.ensures.later

pub comma-returns-in-Ok-clause-does : goal.choices::comma-returns-in-Ok-clause-does
comma-returns-in-Ok-clause-does g t c =
    let m = g.S.WorldStore.meaning in
    let mid = c.value.new.config in
    let new = c.value-in-Ok.new.config in
    let f = c.args.frame.now in
    let s = c.value.new.stops in
    let k = c.value-in-Ok.new.stops in
    form_goes_on m gives_in gives_in c.args.config.now mid new f (AtExpr c.args.first.0) (λ t env. then_value (line.comma_left c.args.second.0 env)) c.in-Ok.before
    c.value-in-Ok.result s.waits s.top k.waits k.top c.in-Ok.ensures.later c.in-Ok.ensures.does
    (line_last m gives_in mid new f (λ t env. line.comma_left c.args.second.0 env (value_in t c.in-Ok.before)) c.value-in-Ok.result k.waits k.top (AtExpr c.args.second.0) (λ t more. refl) c.value-in-Ok.ensures.does)

pub comma-returns-in-Err-clause-later : goal.choices::comma-returns-in-Err-clause-later
comma-returns-in-Err-clause-later g t c =
    let m = g.S.WorldStore.meaning in
    let old = c.args.config.now in
    let f = c.args.frame.now in
    let s = c.value.new.stops in
    let k = c.waits.new.stops in
    broke_later m Value Value old c.value.new.config c.waits.new.config f c.args.node [] (points.Expr (expr.CommaLeft c.args.second)) c.in-Err.end s.waits s.top c.waits.result k.waits k.top
    c.waits.ensures.same c.waits.ensures.waits c.in-Err.ensures.later

pub comma-returns-in-Err-clause-found : goal.choices::comma-returns-in-Err-clause-found
comma-returns-in-Err-clause-found g t c =
    let m = g.S.WorldStore.meaning in
    let old = c.args.config.now in
    let f = c.args.frame.now in
    let s = c.value.new.stops in
    let k = c.waits.new.stops in
    broke_found m Value Value old c.value.new.config c.waits.new.config f c.args.node [] (points.Expr (expr.CommaLeft c.args.second)) c.in-Err.end s.waits s.top c.waits.result k.waits k.top
    c.waits.ensures.same c.waits.ensures.waits c.in-Err.ensures.later c.requires.there c.requires.node tt (stands_here m old (at_node f c.args.node []) (nodes.Comma c.args.first c.args.second) c.args.second (node_there m old f c.args.node [] c.requires.there c.requires.node tt) c.requires.is (inr (inl refl))) c.in-Err.ensures.found

pub comma-returns-in-Err-clause-does : goal.choices::comma-returns-in-Err-clause-does
comma-returns-in-Err-clause-does g t c =
    let m = g.S.WorldStore.meaning in
    let old = c.args.config.now in
    let f = c.args.frame.now in
    let s = c.value.new.stops in
    let k = c.waits.new.stops in
    broke_does m Value Value old c.value.new.config c.waits.new.config f c.args.node [] (points.Expr (expr.CommaLeft c.args.second)) c.in-Err.end s.waits s.top c.waits.result k.waits k.top
    c.waits.ensures.same c.waits.ensures.waits gives_in gives_in (AtExpr c.args.first.0) (λ t env. then_value (line.comma_left c.args.second.0 env)) (λ l t env. refl) (λ t env e. refl) c.in-Err.ensures.later c.in-Err.ensures.does
