use Rattle.std.proofs.Common.{◌≡◌, ℕ, List, sym, ap, ◌∙◌, subst}
use Rattle.std.specs.Prelude.{OnOk}
use Rattle.wjs_meaning.specs.Declarations.{declared_by}
use Rattle.wjs_meaning.specs.Deeds.{Env, tree_here, node_here}
use Rattle.wjs_meaning.specs.Functions.{program_declare, program_from}
use Rattle.wjs_meaning.specs.Reading.{node_in}
use Rattle.wjs_meaning.specs.Trees.{Node, elements_of}
use Rattle.wjs_model.specs.declared.frame.Activation.{Activation as Frame}
use Rattle.wjs_model.specs.declared.loaded.LoadedProgram.{LoadedProgram as Program}
use Rattle.wjs_model.specs.Soundness.{IsThere}
use Rattle.wjs_model.specs.Lists.{program_elements}
use Rattle.wjs_frames.specs.Doing.{DoesFirst}
use Rattle.wjs_frames.specs.Following.{Follows}
use Rattle.wjs_frames.specs.Parts.{env_in, node_now, node_among}
use Rattle.wjs_heap_steps.proofs.Composing.{env_later}
use Rattle.wjs_calls.proofs.FunctionNodes.{node_is}
use Rattle.wjs_calls.proofs.Rows.{same_units}
use Rattle.wjs_variables.specs.Filling.{program_filled}
use Rattle.wjs_variables.proofs.StandingBodies.{at_body, body_is, same_elements}
use Rattle.wjs_frames.proofs.Handling.{runs_over}
use Rattle.wjs_eval_call.proofs.programs.program.Goals as goal

pub declare_program-requires-clause-there : goal.declare_program-requires-clause-there
declare_program-requires-clause-there g c =
    let m = g.S.WorldStore.meaning in
    let old = c.args.config.now in
    let is : c.set_node.new.self ≡ record c.args.frame { node = c.program_body-body.result } = c.set_node.ensures ∙ ap (λ (k : ℕ). record c.args.frame { tree = k; node = c.program_body-body.result }) c.tree-tree.ensures in
    subst (IsThere m old) (sym is) (at_body m old c.args.frame c.program_body-body.result c.requires.runs.there c.program_body-body.ensures.body)

pub run_elements-requires : goal.run_elements-requires
run_elements-requires g c =
    let m = g.S.WorldStore.meaning in
    let old = c.args.config.now in
    let is : c.set_node.new.self ≡ record c.args.frame { node = c.program_body-body.result } = c.set_node.ensures ∙ ap (λ (k : ℕ). record c.args.frame { tree = k; node = c.program_body-body.result }) c.tree-tree.ensures in
    record {
      runs = runs_over _ _ _ _ _ c.requires.runs c.in_ok-declare_program.ensures.later (c.in_ok-declare_program.ensures.later.frames c.set_node.new.self
          (subst (IsThere m old) (sym is) (at_body m old c.args.frame c.program_body-body.result c.requires.runs.there c.program_body-body.ensures.body)));
      stands = tt;
    }

pub returns : goal.returns
returns g c =
    let m = g.S.WorldStore.meaning in
    let old = c.args.config.now in
    let mid = c.declare_program.new.config in
    let new = c.run_elements.new.config in
    let r = c.run_elements.result in
    let t = new.heap.texts in
    let at : Frame = record c.args.frame { node = c.program_body-body.result } in
    let is : c.set_node.new.self ≡ at = c.set_node.ensures ∙ ap (λ (k : ℕ). record c.args.frame { tree = k; node = c.program_body-body.result }) c.tree-tree.ensures in
    let env = env_in m old t at in
    let later = c.in_ok-declare_program.ensures.later in
    let begun = λ (b : ℕ). program_declare b (declared_by (tree_here env) b) env in
    let same : node_now m mid at ≡ node_among old.units.items at.tree at.node = ap (λ (us : List Program). node_among us at.tree at.node) (same_units m old mid later) in
    let node = node_is t old.units.items at.tree at.node (node_now m mid at) (sym same) in
    let body = body_is m old c.args.frame c.program_body-body.result c.requires.runs.running.base c.requires.runs.there c.program_body-body.ensures.body in
    let elements = same_elements t (node_now m mid at) body.0 (same ∙ body.1) in
    let run0 : OnOk r (Follows m (program_from (program_elements (node_in t (node_now m mid at))) env) mid new) = subst (λ (e : Env). OnOk r (Follows m (program_from (program_elements (node_in t (node_now m mid at))) e) mid new)) (env_later m old mid t at later)
    (subst (λ (q : Frame). OnOk r (Follows m (program_from (program_elements (node_in t (node_now m mid q))) (env_in m mid t q)) mid new)) is c.run_elements.ensures) in
    let run1 : OnOk r (Follows m (program_from (elements_of (node_in t (node_now m mid at))) env) mid new) = subst (λ (l : List ℕ). OnOk r (Follows m (program_from l env) mid new)) (sym elements) run0 in
    let run2 : OnOk r (Follows m (program_from (elements_of (node_here env at.node.0)) env) mid new) = subst (λ (n : Node). OnOk r (Follows m (program_from (elements_of n) env) mid new)) (sym node) run1 in
    let filled = subst (λ (q : Frame). DoesFirst m (λ u. program_filled (declared_by (tree_here (env_in m old u q)) q.node.0) (env_in m old u q)) old mid) is c.in_ok-declare_program.ensures.does in
    let all : OnOk r (Follows m (begun at.node.0) old new) = filled.by (program_from (elements_of (node_here env at.node.0)) env) new r run2 in
    subst (λ (b : ℕ). OnOk r (Follows m (begun b) old new)) (sym (c.program_body-body.ensures.is t)) all
