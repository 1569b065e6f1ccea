-- What holds of the functions of `variables`.
use Rattle.std.proofs.Common.{◌≡◌, ◌+◌, rules, [], refl, ap, sym}
use Rattle.std.specs.Prelude.{Err}
use Rattle.wjs_base.specs.Text.{Has, Table}
use Rattle.wjs_base.proofs.TextLaws.{Grows-Has}
use Rattle.wjs_base.specs.declared.values.Value.{Value}
use Rattle.wjs_tree.specs.declared.node.ForInit.TheVariants as inits
use Rattle.wjs_tree.specs.declared.node.Node.TheVariants as nodes
use Rattle.wjs_meaning.specs.Deeds.{AtExpr, then_normal, then_value, Act, Sub, Env, Completion as Meant}
use Rattle.wjs_meaning.specs.Reading.{number}
use Rattle.wjs_meaning.specs.Loops as loops
use Rattle.wjs_model.specs.declared.frame.Completion.{Completion}
use Rattle.wjs_model.specs.Contents.{completion_in}
use Rattle.wjs_model.specs.Soundness.{Base, IsThere, StandsHere, StandsIf}
use Rattle.wjs_model.specs.declared.point.Point.TheVariants as points
use Rattle.wjs_model.specs.declared.point.StmtPoint.TheVariants as stmt
use Rattle.wjs_frames.specs.Parts.{env_in}
use Rattle.wjs_frames.proofs.Parting.{stands_if_later, stands_later}
use Rattle.wjs_heap_steps.proofs.Later.{later_same, later_twice}
use Rattle.wjs_effects.proofs.Leaving.{shorten_as}
use Rattle.wjs_effects.proofs.StandingFors.{for_stands}
use Rattle.wjs_stopping.specs.Ends.{gives_in}
use Rattle.wjs_stopping.specs.Evaluating.{outcome_in}
use Rattle.wjs_stopping.specs.Waiting.{at_node}
use Rattle.wjs_direct_lines.specs.Deeds.{line_here, form_here}
use Rattle.wjs_stopping.proofs.Evaluating.{in_memory, leaves_all}
use Rattle.wjs_direct_lines.proofs.Forming.{line_ended, node_there}
use Rattle.wjs_direct_lines.proofs.Parts.{broke_does, broke_found, broke_later, later_then, line_as}
use Rattle.wjs_direct_lines.proofs.Elements.{not_normal}
use Rattle.wjs_direct_lines.proofs.Declaring.{all_passed, declares_later, for_variables_then, nested_broke, nested_left, next_broke, next_ended, next_passed, value_next, value_waits, variable_begins, variable_passed, variable_stands}
use Rattle.wjs_direct_lines.proofs.Nesting.{comes_behind, if_stands}
use Rattle.wjs_direct.proofs.Looping.{round_is, round_later}
use Rattle.wjs_direct.specs.Rounds.{IsLoop, loop_round}
use Rattle.wjs_direct_lines.specs.Variables.{Declares, variable_valued, variables_left}
use Rattle.wjs_direct.proofs.+direct.Goals as goal

-- ---- variables

-- one after the other

pub run_variables-loop-variable-init : goal.variables::run_variables-loop-variable-init
run_variables-loop-variable-init g t c = record {
  left = record { by = λ go later r h. h };
  later = later_same g.S.WorldStore.meaning c.args.config.now c.requires.base;
  empty = c.requires.empty;
}

pub run_variables-variable_at-requires : goal.variables::run_variables-variable_at-requires
run_variables-variable_at-requires g t c = c.loop-variable.invariant.later.base

pub run_variables-declared-requires : goal.variables::run_variables-declared-requires
run_variables-declared-requires g t c =
    let m = g.S.WorldStore.meaning in
    let old = c.args.config.now in
    let f = c.args.frame.now in
    let mid = c.loop-variable.config in
    let l = c.loop-variable.invariant.later in
    let base : Base m mid = l.base in
    let there : IsThere m mid f = l.frames f c.requires.there in
    let node : StandsHere mid f c.args.node = stands_later m old f mid c.args.node l c.requires.node in
    let empty : c.loop-variable.stops.waits ≡ [] = c.loop-variable.invariant.empty in
    let is : Declares mid f c.args.node c.loop-variable.at c.in-Some.variable = sym c.in-Some.ensures.is in
    let name : Has mid.heap.texts c.in-Some.variable.name = c.in-Some.ensures.known in
    search (rules, base, there, node, empty, is, name)

pub run_variables-loop-variable-preserved : goal.variables::run_variables-loop-variable-preserved
run_variables-loop-variable-preserved g t c =
    let m = g.S.WorldStore.meaning in
    let old = c.args.config.now in
    let mid = c.loop-variable.config in
    let new = c.declared.new.config in
    let inv = c.loop-variable.invariant in
    let e = c.in-Ok in
    record {
      left = next_passed m c.args.frame.now c.args.node old mid c.args.from c.loop-variable.at inv.later inv.left new e.end c.in_ok-next.next c.in_ok-next.ensures c.in-Normal.is e.ensures.does;
      later = later_twice m old mid new inv.later e.ensures.later;
      empty = e.ensures.found.1;
    }

pub run_variables-returns-in_default-end-clause-later : goal.variables::run_variables-returns-in_default-end-clause-later
run_variables-returns-in_default-end-clause-later g t c = later_twice g.S.WorldStore.meaning c.args.config.now c.loop-variable.config c.declared.new.config c.loop-variable.invariant.later c.in-Ok.ensures.later

pub run_variables-returns-in_default-end-clause-does : goal.variables::run_variables-returns-in_default-end-clause-does
run_variables-returns-in_default-end-clause-does g t c =
    let inv = c.loop-variable.invariant in
    next_ended g.S.WorldStore.meaning c.args.frame.now c.args.node c.args.config.now c.loop-variable.config c.args.from c.loop-variable.at inv.later inv.left c.declared.new.config c.in-Ok.end c.in_default-end.not-Normal c.in-Ok.ensures.does

pub run_variables-returns-in-Err-clause-later : goal.variables::run_variables-returns-in-Err-clause-later
run_variables-returns-in-Err-clause-later g t c =
    later_then g.S.WorldStore.meaning {A = Completion} c.args.config.now c.loop-variable.config c.declared.new.config (Err c.in-Err.end) c.loop-variable.invariant.later c.in-Err.ensures.later

pub run_variables-returns-in-Err-clause-does : goal.variables::run_variables-returns-in-Err-clause-does
run_variables-returns-in-Err-clause-does g t c =
    let inv = c.loop-variable.invariant in
    let k = c.declared.new.stops in
    next_broke g.S.WorldStore.meaning c.args.frame.now c.args.node c.args.config.now c.loop-variable.config c.args.from c.loop-variable.at inv.later inv.left c.declared.new.config c.in-Err.end k.waits k.top c.in-Err.ensures.does

pub run_variables-returns-clause-does : goal.variables::run_variables-returns-clause-does
run_variables-returns-clause-does g t c =
    let inv = c.loop-variable.invariant in
    all_passed g.S.WorldStore.meaning c.args.frame.now c.args.node c.args.config.now c.loop-variable.config c.args.from c.loop-variable.at inv.later inv.left c.in_default.ensures.is

-- one of them

pub declared-value-requires : goal.variables::declared-value-requires
declared-value-requires g t c =
    let m = g.S.WorldStore.meaning in
    let old = c.args.config.now in
    let f = c.args.frame.now in
    let node : StandsHere old f c.in-Some.e = variable_stands m f c.args.node old c.args.at c.args.variable c.requires.is c.in-Some.e c.in-Some.is c.requires.there c.requires.node in
    search (rules, node)

pub declared-variable_stored-requires : goal.variables::declared-variable_stored-requires
declared-variable_stored-requires g t c =
    let m = g.S.WorldStore.meaning in
    let old = c.args.config.now in
    let f = c.args.frame.now in
    let mid = c.value.new.config in
    let l = c.in-Ok.ensures.later in
    record {
      base = l.base;
      there = l.frames f c.requires.there;
      empty = c.in-Ok.ensures.found.1;
      is = declares_later m f c.args.node old mid c.args.at c.args.variable l c.requires.is;
      name = Grows-Has old.heap.texts mid.heap.texts c.args.variable.name l.texts c.requires.name;
      value = c.in-Ok.ensures.found.0;
    }

pub declared-returns-in-Ok-clause-later : goal.variables::declared-returns-in-Ok-clause-later
declared-returns-in-Ok-clause-later g t c =
    later_then g.S.WorldStore.meaning c.args.config.now c.value.new.config c.variable_stored.new.config c.variable_stored.result c.in-Ok.ensures.later c.variable_stored.ensures.later

pub declared-returns-in-Ok-clause-does : goal.variables::declared-returns-in-Ok-clause-does
declared-returns-in-Ok-clause-does g t c =
    let m = g.S.WorldStore.meaning in
    let old = c.args.config.now in
    let mid = c.value.new.config in
    let new = c.variable_stored.new.config in
    let f = c.args.frame.now in
    let k = c.variable_stored.new.stops in
    let x = c.args.variable in
    let e = c.in-Some.e in
    let act : Table → Env → Act = variables_left old f c.args.node c.args.at in
    let next : Table → Env → Meant → Act = λ t env. then_value (variable_valued old f c.args.node c.args.at t env) in
    let left : Completion → Table → (Meant → Act) → Act = λ end. line_here m old f (λ t env. then_normal (variables_left old f c.args.node (c.args.at + 1) t env) (completion_in t end)) in
    comes_behind m (line_here m old f act) (form_here m old f (AtExpr e.0) next) left c.variable_stored.result k.waits k.top old old new
    (variable_begins m f c.args.node old c.args.at x c.requires.is e c.in-Some.is)
    (value_next m f c.args.node old mid new c.args.at e c.in-Ok.value c.variable_stored.result k.waits k.top
    c.in-Ok.ensures.later c.in-Ok.ensures.does c.variable_stored.ensures.does)

pub declared-returns-in-Err-clause-later : goal.variables::declared-returns-in-Err-clause-later
declared-returns-in-Err-clause-later g t c =
    let s = c.value.new.stops in
    let k = c.waits.new.stops in
    broke_later g.S.WorldStore.meaning Value Completion c.args.config.now c.value.new.config c.waits.new.config c.args.frame.now c.args.node [] (points.Stmt (stmt.VariableValue c.args.at)) c.in-Err.end s.waits s.top c.waits.result k.waits k.top
    c.waits.ensures.same c.waits.ensures.waits c.in-Err.ensures.later

pub declared-returns-in-Err-clause-found : goal.variables::declared-returns-in-Err-clause-found
declared-returns-in-Err-clause-found g t c =
    let s = c.value.new.stops in
    let k = c.waits.new.stops in
    broke_found g.S.WorldStore.meaning Value Completion c.args.config.now c.value.new.config c.waits.new.config c.args.frame.now c.args.node [] (points.Stmt (stmt.VariableValue c.args.at)) c.in-Err.end s.waits s.top c.waits.result k.waits k.top
    c.waits.ensures.same c.waits.ensures.waits c.in-Err.ensures.later c.requires.there c.requires.node tt tt c.in-Err.ensures.found

pub declared-returns-in-Err-clause-does : goal.variables::declared-returns-in-Err-clause-does
declared-returns-in-Err-clause-does g t c =
    let m = g.S.WorldStore.meaning in
    let old = c.args.config.now in
    let mid = c.value.new.config in
    let new = c.waits.new.config in
    let f = c.args.frame.now in
    let s = c.value.new.stops in
    let k = c.waits.new.stops in
    let x = c.args.variable in
    let e = c.in-Some.e in
    let act : Table → Env → Act = variables_left old f c.args.node c.args.at in
    let next : Table → Env → Meant → Act = λ t env. then_value (variable_valued old f c.args.node c.args.at t env) in
    let left : Completion → Table → (Meant → Act) → Act = λ end. line_here m old f (λ t env. then_normal (variables_left old f c.args.node (c.args.at + 1) t env) (completion_in t end)) in
    comes_behind m (line_here m old f act) (form_here m old f (AtExpr e.0) next) left (Err c.waits.result) k.waits k.top old old new
    (variable_begins m f c.args.node old c.args.at x c.requires.is e c.in-Some.is)
    (broke_does m Value Completion old mid new f c.args.node [] (points.Stmt (stmt.VariableValue c.args.at)) c.in-Err.end s.waits s.top c.waits.result k.waits k.top
    c.waits.ensures.same c.waits.ensures.waits gives_in completion_in (AtExpr e.0) next
    (value_waits m f c.args.node old mid c.args.at) (λ t env e. refl) c.in-Err.ensures.later c.in-Err.ensures.does)

pub declared-returns-in-None-clause-does : goal.variables::declared-returns-in-None-clause-does
declared-returns-in-None-clause-does g t c =
    variable_passed g.S.WorldStore.meaning c.args.frame.now c.args.node c.args.config.now c.args.at c.args.variable c.requires.is c.in-None.is

-- a `for` that begins with them

pub for_variables-run_loop-requires : goal.variables::for_variables-run_loop-requires
for_variables-run_loop-requires g t c =
    let m = g.S.WorldStore.meaning in
    let old = c.args.config.now in
    let f = c.args.frame.now in
    let mid = c.run_variables.new.config in
    let l = c.in-Ok.ensures.later in
    let first = inits.Var c.requires.is.0 in
    let parts = for_stands m old (at_node f c.args.node []) (node_there m old f c.args.node [] c.requires.there c.requires.node tt) first c.args.test c.args.update c.args.body c.requires.is.1 in
    let base : Base m mid = l.base in
    let there : IsThere m mid f = l.frames f c.requires.there in
    let node : StandsHere mid f c.args.node = stands_later m old f mid c.args.node l c.requires.node in
    let empty : c.run_variables.new.stops.waits ≡ [] = c.in-Ok.ensures.found.1 in
    let is : IsLoop m mid f c.args.node c.args.test c.args.update c.args.body = round_later m old mid f c.args.node (loop_round c.args.node c.args.test c.args.update c.args.body) l (round_is m old f c.args.node (nodes.For first c.args.test c.args.update c.args.body) (loop_round c.args.node c.args.test c.args.update c.args.body) (λ t env. refl) c.requires.is.1) in
    let test : StandsIf mid f c.args.test = stands_if_later m old f mid c.args.test l (if_stands m old f c.args.node c.args.test parts.0) in
    let update : StandsIf mid f c.args.update = stands_if_later m old f mid c.args.update l (if_stands m old f c.args.node c.args.update parts.1.0) in
    let body : StandsHere mid f c.args.body = stands_later m old f mid c.args.body l parts.1.1 in
    search (rules, base, there, node, empty, is, test, update, body)

pub for_variables-returns-in-Normal-clause-later : goal.variables::for_variables-returns-in-Normal-clause-later
for_variables-returns-in-Normal-clause-later g t c =
    later_then g.S.WorldStore.meaning c.args.config.now c.run_variables.new.config c.run_loop.new.config c.run_loop.result c.in-Ok.ensures.later c.run_loop.ensures.later

pub for_variables-returns-in-Normal-clause-does : goal.variables::for_variables-returns-in-Normal-clause-does
for_variables-returns-in-Normal-clause-does g t c =
    let m = g.S.WorldStore.meaning in
    let old = c.args.config.now in
    let mid = c.run_variables.new.config in
    let f = c.args.frame.now in
    let new = c.run_loop.new.config in
    let k = c.run_loop.new.stops in
    let loop : Env → Act = λ env. loops.loop_from c.args.node.0 (number c.args.test) (number c.args.update) c.args.body.0 env in
    let next : Table → Env → Meant → Act = λ t env. then_normal (loop env) in
    let from = line_here m old f (λ t env. Sub (variables_left old f c.args.node 0 t env) (next t env)) in
    let behind = line_here m mid f (λ t env. next t env (completion_in t c.in-Ok.end)) in
    in_memory c.run_loop.result (leaves_all m from behind (outcome_in m new completion_in c.run_loop.result k.waits k.top) old mid new
    (nested_left m completion_in old mid f (variables_left old f c.args.node 0) next c.in-Ok.end c.in-Ok.ensures.later c.in-Ok.ensures.does))
    (line_as m completion_in mid new f (λ t env. then_normal (loop env) (completion_in t c.in-Ok.end)) c.run_loop.result k.waits k.top (λ t env. loop env)
    (λ t more. ap (λ (e : Completion). then_normal (loop (env_in m mid t f)) (completion_in t e)) c.in-Normal.is) c.run_loop.ensures.does)

pub for_variables-returns-in_default-clause-later : goal.variables::for_variables-returns-in_default-clause-later
for_variables-returns-in_default-clause-later g t c = c.in-Ok.ensures.later

pub for_variables-returns-in_default-clause-found : goal.variables::for_variables-returns-in_default-clause-found
for_variables-returns-in_default-clause-found g t c = c.in-Ok.ensures.found

pub for_variables-returns-in_default-clause-does : goal.variables::for_variables-returns-in_default-clause-does
for_variables-returns-in_default-clause-does g t c =
    let m = g.S.WorldStore.meaning in
    let old = c.args.config.now in
    let mid = c.run_variables.new.config in
    let f = c.args.frame.now in
    let s = c.run_variables.new.stops in
    let loop : Env → Act = λ env. loops.loop_from c.args.node.0 (number c.args.test) (number c.args.update) c.args.body.0 env in
    let next : Table → Env → Meant → Act = λ t env. then_normal (loop env) in
    let from = line_here m old f (λ t env. Sub (variables_left old f c.args.node 0 t env) (next t env)) in
    let behind = line_here m mid f (λ t env. next t env (completion_in t c.in-Ok.end)) in
    leaves_all m from behind (λ t go. go (completion_in t c.in-Ok.end)) old mid mid
    (nested_left m completion_in old mid f (variables_left old f c.args.node 0) next c.in-Ok.end c.in-Ok.ensures.later c.in-Ok.ensures.does)
    (line_ended m completion_in mid f (λ t env. then_normal (loop env) (completion_in t c.in-Ok.end)) c.in-Ok.end s.waits s.top
    (λ t more env. shorten_as _ _ (not_normal t c.in-Ok.end (loop env) c.in_default.not-Normal)))

pub for_variables-returns-in-Err-clause-later : goal.variables::for_variables-returns-in-Err-clause-later
for_variables-returns-in-Err-clause-later g t c =
    let s = c.run_variables.new.stops in
    let k = c.waits.new.stops in
    broke_later g.S.WorldStore.meaning Completion Completion c.args.config.now c.run_variables.new.config c.waits.new.config c.args.frame.now c.args.node [] (points.Stmt stmt.ForVariables) c.in-Err.end s.waits s.top c.waits.result k.waits k.top
    c.waits.ensures.same c.waits.ensures.waits c.in-Err.ensures.later

pub for_variables-returns-in-Err-clause-found : goal.variables::for_variables-returns-in-Err-clause-found
for_variables-returns-in-Err-clause-found g t c =
    let s = c.run_variables.new.stops in
    let k = c.waits.new.stops in
    broke_found g.S.WorldStore.meaning Completion Completion c.args.config.now c.run_variables.new.config c.waits.new.config c.args.frame.now c.args.node [] (points.Stmt stmt.ForVariables) c.in-Err.end s.waits s.top c.waits.result k.waits k.top
    c.waits.ensures.same c.waits.ensures.waits c.in-Err.ensures.later c.requires.there c.requires.node tt tt c.in-Err.ensures.found

pub for_variables-returns-in-Err-clause-does : goal.variables::for_variables-returns-in-Err-clause-does
for_variables-returns-in-Err-clause-does g t c =
    let m = g.S.WorldStore.meaning in
    let old = c.args.config.now in
    let mid = c.run_variables.new.config in
    let f = c.args.frame.now in
    let s = c.run_variables.new.stops in
    let k = c.waits.new.stops in
    nested_broke m completion_in old mid f (variables_left old f c.args.node 0) (λ t env. then_normal (loops.loop_from c.args.node.0 (number c.args.test) (number c.args.update) c.args.body.0 env)) completion_in c.waits.new.config c.args.node [] (points.Stmt stmt.ForVariables)
    c.in-Err.end s.waits s.top c.waits.result k.waits k.top c.waits.ensures.same c.waits.ensures.waits (for_variables_then m old mid f c.args.node c.requires.is.0 c.args.test c.args.update c.args.body c.requires.is.1) (λ t env e. refl) c.in-Err.ensures.later c.in-Err.ensures.does
