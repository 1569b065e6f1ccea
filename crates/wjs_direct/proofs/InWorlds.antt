-- The statement `in`: the world of a value, and the block in it.
use Rattle.std.proofs.Common.{◌≡◌, List, Bool, true, false, [], Option, None, Some, sym, subst}
use Rattle.std.specs.Prelude.{Result, OnOk}
use Rattle.wjs_base.specs.declared.ids.NodeId.{NodeId}
use Rattle.wjs_base.specs.declared.ids.WorldId.{WorldId}
use Rattle.wjs_base.specs.declared.values.Value.{Value as Numbered}
use Rattle.wjs_base.specs.Text.{Table}
use Rattle.wjs_by_content.specs.Objects.{object_at}
use Rattle.wjs_by_content.specs.Tables.{value_in}
use Rattle.wjs_by_content.specs.Values.{Value, Undefined, Null, Boolean, Number, String, Object}
use Rattle.wjs_store.specs.Meaning.{Meaning}
use Rattle.wjs_heap_steps.specs.Worlds.{found_then, world_then}
use Rattle.wjs_heap_steps.proofs.Sprouting.{or_throw, world_line}
use Rattle.wjs_meaning.specs.Deeds.{AtStmt, Completion, Act, Sub}
use Rattle.wjs_meaning.specs.Statements.{within_value, within_world}
use Rattle.wjs_model.specs.declared.config.Config.{Config}
use Rattle.wjs_model.specs.declared.frame.Activation.{Activation as Frame}
use Rattle.wjs_model.specs.declared.frame.Phase.{Phase}
use Rattle.wjs_model.specs.Soundness.{HasWorld, IsThere, StandsHere}
use Rattle.wjs_model.specs.Standing.{IsShown}
use Rattle.wjs_frames.specs.Doing.{Does}
use Rattle.wjs_frames.specs.Following.{Follows}
use Rattle.wjs_frames.specs.Parts.{env_in}
use Rattle.wjs_frames.specs.Shortening.{Shortens}
use Rattle.wjs_frames.proofs.Shorter.{follows_shorter, shorten_trans, shorten_same, shorten_do, shorten_deed}
use Rattle.wjs_quick.proofs.Coming.{shorten_last}
use Rattle.wjs_stopping.specs.declared.ends.Broken.{Broken}
use Rattle.wjs_stopping.specs.Waiting.{at_node}
use Rattle.wjs_stopping.specs.Evaluating.{Evaluates}
use Rattle.wjs_stopping.proofs.Evaluating.{in_memory}
use Rattle.wjs_direct_lines.specs.Deeds.{goal_here, line_here}
use Rattle.wjs_direct_lines.proofs.Forming.{node_there}
use Rattle.wjs_direct_lines.proofs.Parts.{shortened}

-- ---- within nested deeds: what comes next is, where the look for the world is

tested_goes : (w : WorldId) (k : Option WorldId → Act) (go : Completion → Act) (has : Bool)
    → Shortens (Sub (elim has [ true ↦ k (Some w) | false ↦ k None ]) go) (elim has [ true ↦ Sub (k (Some w)) go | false ↦ Sub (k None) go ])
tested_goes w k go true = shorten_same _
tested_goes w k go false = shorten_same _

found_goes : (r : Option WorldId) (k : Option WorldId → Act) (go : Completion → Act) → Shortens (Sub (found_then r k) go) (found_then r (λ x. Sub (k x) go))
found_goes None k go = shorten_same _
found_goes (Some w) k go = shorten_trans _ _ _ (shorten_deed _ _ go) (shorten_do _ _ _ (tested_goes w k go))

world_goes : (v : Value) (k : Option WorldId → Act) (go : Completion → Act) → Shortens (Sub (world_then v k) go) (world_then v (λ x. Sub (k x) go))
world_goes (Object o) k go = shorten_trans _ _ _ (shorten_deed _ _ go) (shorten_do _ _ _ (λ arena. found_goes (object_at arena o).world k go))
world_goes Undefined k go = shorten_same _
world_goes Null k go = shorten_same _
world_goes (Boolean b) k go = shorten_same _
world_goes (Number x) k go = shorten_same _
world_goes (String t) k go = shorten_same _

module _ {S : Type 0} (meaning : S → Meaning) where
  -- the block's frame is there in a world that is
  pub inside_there : (c : Config S) (f inner : Frame) (block : NodeId) (world : WorldId) → IsThere meaning c f → StandsHere c f block → HasWorld meaning c world → IsShown c.heap.arena world
      → inner ≡ record (at_node f block []) { world = world } → IsThere meaning c inner
  inside_there c f inner block world h s w shown e =
      let k = node_there meaning c f block [] h s tt in
      subst (λ (q : Frame). IsThere meaning c q) (sym e) (record { scope = k.scope; this = k.this; world = w; held = k.held; stands = record { node = k.stands.node; shown = shown } })

  module _ {A : Type 0} (said : Table → A → Completion) where
    -- a value stands for a world, and the block is run in it
    pub world_opened : (c new : Config S) (f : Frame) (block : NodeId) (v : Numbered) (world : WorldId) (done : Result A Broken) (waits : List Frame) (top : Option (Frame × Phase))
        → Does meaning (λ t. world_then (value_in t v)) (λ t. Some world) c c
        → Evaluates meaning (line_here meaning c f (λ t env. within_world block.0 env world)) said done waits top c new
        → Evaluates meaning (line_here meaning c f (λ t env. within_value block.0 env (value_in t v))) said done waits top c new
    world_opened c new f block v world done waits top first d =
        in_memory done (λ d'. record {
          by = λ go later r h.
              let t = later.heap.texts in
              let env = env_in meaning c t f in
              let k : Option WorldId → Act = or_throw env (within_world block.0 env) in
              subst (λ (a : Act). OnOk r (Follows meaning (Sub a go) c later)) (world_line (value_in t v) env (within_world block.0 env))
              (follows_shorter meaning (Sub (world_then (value_in t v) k) go) (world_then (value_in t v) (λ x. Sub (k x) go)) c later r (world_goes (value_in t v) k go)
              (first.by (λ x. Sub (k x) go) later r (d'.by go later r h)));
        }) d

    -- its frame is made first, and given back behind it
    pub block_inside : (old begun ran new : Config S) (f inner : Frame) (block : NodeId) (world : WorldId) (done : Result A Broken) (waits : List Frame) (top : Option (Frame × Phase))
        → begun ≡ old → inner ≡ record (at_node f block []) { world = world } → new ≡ ran
        → Evaluates meaning (goal_here meaning begun inner (AtStmt block.0)) said done waits top begun ran
        → Evaluates meaning (line_here meaning old f (λ t env. within_world block.0 env world)) said done waits top old new
    block_inside old begun ran new f inner block world done waits top eb es en d =
        let D : Config S → Table → (Completion → Act) → Act = λ c. line_here meaning c f (λ t env. within_world block.0 env world) in
        let g : Frame = record (at_node f block []) { world = world } in
        subst (λ (c : Config S). Evaluates meaning (D old) said done waits top old c) (sym en)
        (subst (λ (c : Config S). Evaluates meaning (D c) said done waits top c ran) eb
        (shortened meaning said (D begun) (goal_here meaning begun g (AtStmt block.0)) done waits top begun ran
        (λ t more go. shorten_last (AtStmt block.0) (record (env_in meaning begun t f) { world = world }) go)
        (subst (λ (q : Frame). Evaluates meaning (goal_here meaning begun q (AtStmt block.0)) said done waits top begun ran) es d)))
