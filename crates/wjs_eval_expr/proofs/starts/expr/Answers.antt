use Rattle.std.proofs.Common.{inl, refl, sym, ap, ◌∙◌}
use Rattle.wjs_by_content.specs.Values.{Undefined}
use Rattle.wjs_meaning.specs.Reading.{node_in}
use Rattle.wjs_meaning.specs.Expressions.{operand, call_reference, call_callee, expr_of}
use Rattle.wjs_model.specs.Lists.{arguments_of}
use Rattle.wjs_frames.specs.Parts.{env_in}
use Rattle.wjs_frames.proofs.Parting.{stands_here}
use Rattle.wjs_step_common.proofs.Following.{follows_as}
use Rattle.wjs_literals.proofs.Standing.{function_stands}
use Rattle.wjs_eval_expr.proofs.NoExpr.{NoExpr, no_expr}
use Rattle.wjs_eval_expr.proofs.starts.expr.Goals as goal

-- ---- the parts stand where the frame is run

pub enter_last-requires-clause-part : goal.enter_last-requires-clause-part
enter_last-requires-clause-part g c =
    stands_here g.S.WorldStore.meaning c.args.config.now c.args.frame _ c.in-Paren.part c.requires.runs.there
    (c.in-Some.ensures ∙ c.in-Paren.is) (inl refl)

pub function_start-requires-clause-stands : goal.function_start-requires-clause-stands
function_start-requires-clause-stands g c =
    function_stands g.S.WorldStore.meaning c.args.config.now c.args.frame c.requires.runs.there c.in-Function.name _ _
    (c.in-Some.ensures ∙ c.in-Function.is)

pub call_start-requires-clause-callee : goal.call_start-requires-clause-callee
call_start-requires-clause-callee g c =
    stands_here g.S.WorldStore.meaning c.args.config.now c.args.frame _ c.in-Call.callee c.requires.runs.there
    (c.in-Some.ensures ∙ c.in-Call.is) (inl refl)

pub new_start-requires-clause-callee : goal.new_start-requires-clause-callee
new_start-requires-clause-callee g c =
    stands_here g.S.WorldStore.meaning c.args.config.now c.args.frame _ c.in-NewWith.callee c.requires.runs.there
    (c.in-Some.ensures ∙ c.in-NewWith.is) (inl refl)

pub new_start-requires-in-NewBare-clause-callee : goal.new_start-requires-in-NewBare-clause-callee
new_start-requires-in-NewBare-clause-callee g c =
    stands_here g.S.WorldStore.meaning c.args.config.now c.args.frame _ c.in-NewBare.callee c.requires.runs.there
    (c.in-Some.ensures ∙ c.in-NewBare.is) (inl refl)

pub update_start-requires-clause-target : goal.update_start-requires-clause-target
update_start-requires-clause-target g c =
    stands_here g.S.WorldStore.meaning c.args.config.now c.args.frame _ c.in-Postfix.part c.requires.runs.there
    (c.in-Some.ensures ∙ c.in-Postfix.is) (inl refl)

pub prefix_start-requires-clause-operand : goal.prefix_start-requires-clause-operand
prefix_start-requires-clause-operand g c =
    stands_here g.S.WorldStore.meaning c.args.config.now c.args.frame _ c.in-Prefix.operand c.requires.runs.there
    (c.in-Some.ensures ∙ c.in-Prefix.is) (inl refl)

-- ---- what is followed is the line of the form

pub returns-in-At : goal.returns-in-At
returns-in-At g c = follows_as _ _ _ _ _ _ (λ grows. rw (c.in-Some.ensures ∙ c.in-At.is) refl) c.at_start.ensures

pub returns-in-Call : goal.returns-in-Call
returns-in-Call g c =
    let t = c.call_start.new.config.heap.texts in
    let env = env_in g.S.WorldStore.meaning c.args.config.now t c.args.frame in
    let is = c.in-Some.ensures ∙ c.in-Call.is in
    follows_as _ _ _ _ _ _ (λ grows.
    ap (λ n. operand c.in-Call.callee.0 env (call_reference (arguments_of (node_in t n)) env) (call_callee (arguments_of (node_in t n)) Undefined env)) is
    ∙ sym (ap (λ n. expr_of c.args.frame.node.0 (node_in t n) env) is)) c.call_start.ensures

-- what is no expression
pub returns-in_default-node : goal.returns-in_default-node
returns-in_default-node g c =
    let t = c.finish-in_default-node.new.config.heap.texts in
    let here = c.args.frame.node.0 in
    let env = env_in g.S.WorldStore.meaning c.args.config.now t c.args.frame in
    let none : NoExpr c.in-Some.node.now = record {
      name = c.in_default-node.not-Name;
      number = c.in_default-node.not-Number;
      text = c.in_default-node.not-Text;
      this = c.in_default-node.not-This;
      this_world = c.in_default-node.not-ThisWorld;
      null = c.in_default-node.not-Null;
      bool = c.in_default-node.not-Bool;
      paren = c.in_default-node.not-Paren;
      array = c.in_default-node.not-ArrayLit;
      object = c.in_default-node.not-ObjectLit;
      function = c.in_default-node.not-Function;
      dot = c.in_default-node.not-Dot;
      at = c.in_default-node.not-At;
      call = c.in_default-node.not-Call;
      new_with = c.in_default-node.not-NewWith;
      new_bare = c.in_default-node.not-NewBare;
      postfix = c.in_default-node.not-Postfix;
      prefix = c.in_default-node.not-Prefix;
      binary = c.in_default-node.not-Binary;
      cond = c.in_default-node.not-Cond;
      assign = c.in_default-node.not-Assign;
      comma = c.in_default-node.not-Comma;
    } in
    follows_as _ _ _ _ _ _ (λ grows.
    no_expr t here c.in-Some.node.now env none ∙ sym (ap (λ n. expr_of here (node_in t n) env) c.in-Some.ensures)) c.finish-in_default-node.ensures
