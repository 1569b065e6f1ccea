use Rattle.std.proofs.Common.{ℕ, List, sym, ap, ◌∙◌, subst}
use Rattle.std.specs.Prelude.{All, Ok, map}
use Rattle.std.proofs.lemmas.Result.{on_ok_weaker}
use Rattle.wjs_base.proofs.TextLaws.{Grows-trans}
use Rattle.wjs_base.specs.declared.ids.NodeId.{NodeId}
use Rattle.wjs_by_content.specs.Tables.{text_in}
use Rattle.wjs_by_content.specs.Values.{Text}
use Rattle.wjs_meaning.specs.Declarations.{declared_by}
use Rattle.wjs_meaning.specs.Deeds.{Env, tree_here}
use Rattle.wjs_meaning.specs.Functions.{declare_functions, declare_variables}
use Rattle.wjs_meaning.specs.Reading.{numbers}
use Rattle.wjs_frames.specs.Doing.{DoesFirst}
use Rattle.wjs_frames.specs.Following.{Follows, Later}
use Rattle.wjs_frames.specs.Parts.{env_in}
use Rattle.wjs_heap_steps.proofs.Composing.{env_later}
use Rattle.wjs_calls.proofs.Rows.{ok_later}
use Rattle.wjs_tree.specs.declared.node.Node.TheVariants as nodes
use Rattle.wjs_model.specs.Standing.{IsFunction}
use Rattle.wjs_frames.proofs.Parting.{among_around, stands_here}
use Rattle.wjs_variables.proofs.GlobalVariables.{on_both}
use Rattle.wjs_variables.proofs.StandingBodies.{body_is, declared_stand}
use Rattle.wjs_variables.proofs.declarations.declare_program.Goals as goal

pub declare_functions-requires-clause-stand : goal.declare_functions-requires-clause-stand
declare_functions-requires-clause-stand g c =
    let m = g.S.WorldStore.meaning in
    let old = c.args.config.now in
    let f = c.args.frame.now in
    let s = c.requires.there.stands.node in
    let body = body_is m old f f.node c.requires.base c.requires.there c.requires.body in
    subst (All (λ (i : NodeId). IsFunction old.units.items old.heap.arena f.tree i f.scope 0)) (sym c.functions.ensures)
    (declared_stand old.units.items old.heap.arena s.unit f.tree f.scope s.found f.node (nodes.Program body.0) c.in_ok-declared.declared.functions body.2
    (λ i k. stands_here m old f (nodes.Program body.0) i c.requires.there body.1 (among_around body.0 i k)) (c.in_ok-declared.ensures.nodes s.unit s.found))

pub declare_variables-requires-clause-there : goal.declare_variables-requires-clause-there
declare_variables-requires-clause-there g c = c.in_ok-declare_functions.ensures.later.frames c.args.frame.now c.requires.there

pub returns-clause-later : goal.returns-clause-later
returns-clause-later g c = ok_later g.S.WorldStore.meaning c.args.config.now c.declare_functions.new.config c.declare_variables.new.config c.declare_variables.result c.in_ok-declare_functions.ensures.later c.declare_variables.ensures.later

pub returns-clause-does : goal.returns-clause-does
returns-clause-does g c =
    let m = g.S.WorldStore.meaning in
    let old = c.args.config.now in
    let mid = c.declare_functions.new.config in
    let new = c.declare_variables.new.config in
    let f = c.args.frame.now in
    let fns = c.functions.result.now in
    let ids = c.variables.result.now in
    let first = c.in_ok-declare_functions.ensures.later in
    on_both c.declare_variables.result
    (λ (second : Later m mid new) (last : DoesFirst m (λ t. declare_variables (map (text_in t) ids) (env_in m mid t f)) mid new). record {
      by = λ act later r h. on_ok_weaker r (λ (k : Follows m act new later).
          let t = later.heap.texts in
          let env = env_in m old t f in
          let declared = declared_by (tree_here env) f.node.0 in
          let grows = Grows-trans old.heap.texts new.heap.texts t (Grows-trans old.heap.texts mid.heap.texts new.heap.texts first.texts second.texts) k.keeps.stays.texts in
          let ev = ap (map (text_in t)) c.variables.ensures ∙ c.in_ok-declared.ensures.variables t k.sound.base.heap.table grows in
          let en = ap numbers c.functions.ensures ∙ c.in_ok-declared.ensures.functions t in
          let one = last.by act later (Ok tt) k in
          let here = subst (λ (e : Env). Follows m (declare_variables (map (text_in t) ids) e act) mid later) (env_later m old mid t f first) one in
          let both = c.in_ok-declare_functions.ensures.does.by (declare_variables (map (text_in t) ids) env act) later (Ok tt) here in
          subst (λ (ks : List ℕ). Follows m (declare_functions ks old.global env (declare_variables declared.vars env act)) old later) en
          (subst (λ (vs : List Text). Follows m (declare_functions (numbers fns) old.global env (declare_variables vs env act)) old later) ev both)) h;
    })
    c.declare_variables.ensures.later c.declare_variables.ensures.does
