-- Names of visits that are stored, and what a `for`-`in` waits for.
use Rattle.std.proofs.Common.{◌≡◌, ℕ, List, ◌∷◌, Option, None, Some, refl, sym, ap, ◌∙◌, subst}
use Rattle.std.specs.Prelude.{Result, OnOk, map as each}
use Rattle.std.specs.Option.{option_map}
use Rattle.wjs_base.specs.declared.ids.OutOfMemory.{OutOfMemory}
use Rattle.wjs_base.specs.declared.ids.TextId.{TextId}
use Rattle.wjs_base.specs.declared.values.Slot.{Slot as NumberedSlot}
use Rattle.wjs_base.specs.declared.values.Value.{Value as NumberedValue}
use Rattle.wjs_base.specs.Text.{Table}
use Rattle.wjs_base.specs.declared.ids.NodeId.{NodeId}
use Rattle.wjs_store.specs.Meaning.{Meaning}
use Rattle.wjs_tree.specs.declared.node.Node.{Node as NumberedNode}
use Rattle.wjs_tree.specs.declared.node.Node.TheVariants as nodes
use Rattle.wjs_by_content.specs.Values.{Text}
use Rattle.wjs_by_content.specs.Names.{Slot}
use Rattle.wjs_by_content.specs.Tables.{text_in, name_in, value_in, slot_in}
use Rattle.wjs_meaning.specs.Reading.{node_in}
use Rattle.wjs_meaning.specs.Deeds.{Env, Act, Ret, Eval, Completion, Reference, AtStmt, AtTarget, Normal, Throws, then_reference}
use Rattle.wjs_meaning.specs.Loops as line
use Rattle.wjs_meaning.specs.Loops.{after_body, visits_from, visit_body, for_in_value}
use Rattle.wjs_model.specs.declared.config.Config.{Config}
use Rattle.wjs_model.specs.declared.frame.Activation.{Activation as Frame}
use Rattle.wjs_model.specs.declared.point.Point.TheVariants as points
use Rattle.wjs_model.specs.declared.point.StmtPoint.TheVariants as stmts
use Rattle.wjs_model.specs.declared.frame.Held.TheVariants as holds
use Rattle.wjs_model.specs.Contents.{Holding, holding_in, visits_held}
use Rattle.wjs_model.specs.Lists.{if_visits}
use Rattle.wjs_model.specs.Waiting.{after, visit_taken}
use Rattle.wjs_frames.specs.Parts.{env_in, node_now, node_among, then_at}
use Rattle.wjs_frames.specs.Doing.{Does, DoesFirst, FailsFirst}
use Rattle.wjs_frames.specs.Following.{Follows, Later}
use Rattle.wjs_heap_steps.proofs.Composing.{env_later}
use Rattle.wjs_loops.specs.declared.for_ins.Taker.{Taker}
use Rattle.wjs_loops.specs.declared.for_ins.Taker.TheVariants.{Target, Variable}
use Rattle.wjs_loops.specs.ForIns.{Reaches, Lists, Refuses, taker_of, taker_in, visit_goes}

-- ---- what frames wait for

-- what takes the names, by content
pub taken_by : (t : Table) (node : NumberedNode) (taker : Taker) (go : line.Taker → Act) → taker_of node ≡ Some taker → if_visits (node_in t node) go ≡ go (taker_in t taker)
taken_by t (nodes.ForIn target e s) taker go q = let same : Target target ≡ taker = cc in ap (λ (k : Taker). go (taker_in t k)) same
taken_by t (nodes.ForVarIn name e s) taker go q = let same : Variable name ≡ taker = cc in ap (λ (k : Taker). go (taker_in t k)) same
taken_by t _ taker go q = absurd (cc)

pub taken_by_none : (t : Table) (node : NumberedNode) (go : line.Taker → Act) → taker_of node ≡ None → if_visits (node_in t node) go ≡ Ret Normal
taken_by_none t (nodes.ForIn target e s) go q = absurd (cc)
taken_by_none t (nodes.ForVarIn name e s) go q = absurd (cc)
taken_by_none t _ go q = refl

module _ (t : Table) (here : ℕ) (held : Holding) (env : Env) (node : NumberedNode) (taker : Taker) (s : NodeId) (is : taker_of node ≡ Some taker) where
  -- for the body of a visit
  pub body_waits : after (points.Stmt (stmts.VisitBody s)) here (node_in t node) held env ≡ after_body here env (visits_from here (taker_in t taker) s.0 held.visits env)
  body_waits = λ i c. taken_by t node taker (λ k. after_body here env (visits_from here k s.0 held.visits env) c) is i

  -- for the target of a visit
  pub target_waits : after (points.Stmt (stmts.VisitTarget s)) here (node_in t node) held env ≡ then_reference (visit_taken here (taker_in t taker) s.0 held.visits env)
  target_waits = λ i. then_reference (λ r. taken_by t node taker (λ k. visit_taken here k s.0 held.visits env r) is i)

module _ {S : Type 0} (meaning : S → Meaning) where
  -- ---- deeds with the text of a name

  -- the text of a name is found, and deeds are done with it by the frame
  pub named_follows : (old mid new later : Config S) (r : Result (Unit {0}) OutOfMemory) (f : Frame) (name : Table → Text) (id : TextId) (deeds : Table → Text → Env → Act → Act) (act : Act) → Does meaning (λ t go. go (name t)) (λ t. text_in t id) old mid → Later meaning old mid
      → DoesFirst meaning (λ t. deeds t (text_in t id) (env_in meaning mid t f)) mid new → OnOk r (Follows meaning act new later) → OnOk r (Follows meaning (deeds later.heap.texts (name later.heap.texts) (env_in meaning old later.heap.texts f) act) old later)
  named_follows old mid new later r f name id deeds act d l s h =
      let t = later.heap.texts in
      d.by (λ x. deeds t x (env_in meaning old t f) act) later r (subst (λ (e : Env). OnOk r (Follows meaning (deeds t (text_in t id) e act) mid later)) (env_later meaning old mid t f l) (s.by act later r h))

  -- the same where they throw
  pub named_fails : (old mid new later : Config S) (r : Result (Unit {0}) OutOfMemory) (f : Frame) (name : Table → Text) (id : TextId) (deeds : Table → Text → Env → Act → Act) (act : Act) (error : NumberedValue) → Does meaning (λ t go. go (name t)) (λ t. text_in t id) old mid → Later meaning old mid
      → FailsFirst meaning (λ t. deeds t (text_in t id) (env_in meaning mid t f)) (λ t. value_in t error) mid new → OnOk r (Follows meaning (Ret (Throws (value_in later.heap.texts error))) new later) → OnOk r (Follows meaning (deeds later.heap.texts (name later.heap.texts) (env_in meaning old later.heap.texts f) act) old later)
  named_fails old mid new later r f name id deeds act error d l s h =
      let t = later.heap.texts in
      d.by (λ x. deeds t x (env_in meaning old t f) act) later r (subst (λ (e : Env). OnOk r (Follows meaning (deeds t (text_in t id) e act) mid later)) (env_later meaning old mid t f l) (s.by act later r h))

  -- ---- the body of a visit

  -- it is entered, and then come the visits that are left
  abbrev pub body_entered : Table → Config S → Frame → Taker → NodeId → Act
  body_entered t c f taker s = Eval (AtStmt s.0) (env_in meaning c t f) (after_body f.node.0 (env_in meaning c t f) (visits_from f.node.0 (taker_in t taker) s.0 (holding_in t f.held).visits (env_in meaning c t f)))

  entered_same : (t : Table) (c : Config S) (f : Frame) (taker : Taker) (s : NodeId) → taker_of (node_now meaning c f) ≡ Some taker
      → Eval (AtStmt s.0) (env_in meaning c t f) (then_at meaning c f (points.Stmt (stmts.VisitBody s)) t (env_in meaning c t f)) ≡ body_entered t c f taker s
  entered_same t c f taker s is = ap (λ (go : Completion → Act). Eval (AtStmt s.0) (env_in meaning c t f) go) (body_waits t f.node.0 (holding_in t f.held) (env_in meaning c t f) (node_now meaning c f) taker s is)

  -- the frame's node stays
  node_later : (old new : Config S) (f : Frame) → Later meaning old new → node_now meaning new f ≡ node_now meaning old f
  node_later old new f l = λ i. node_among (l.units i).items f.tree f.node

  -- after deeds
  pub entered_later : (t : Table) (old new : Config S) (f : Frame) (taker : Taker) (s : NodeId) → taker_of (node_now meaning old f) ≡ Some taker → Later meaning old new
      → Eval (AtStmt s.0) (env_in meaning new t f) (then_at meaning new f (points.Stmt (stmts.VisitBody s)) t (env_in meaning new t f)) ≡ body_entered t old f taker s
  entered_later t old new f taker s is l =
      entered_same t new f taker s (ap taker_of (node_later old new f l) ∙ is)
      ∙ ap (λ (e : Env). Eval (AtStmt s.0) e (after_body f.node.0 e (visits_from f.node.0 (taker_in t taker) s.0 (holding_in t f.held).visits e))) (env_later meaning old new t f l)

  -- ---- the frame that holds other visits

  env_moved : (old new : Config S) (t : Table) (f g : Frame) → Later meaning old new → g ≡ record f { held = g.held } → env_in meaning new t g ≡ env_in meaning old t f
  env_moved old new t f g l eg = ap (λ (x : Frame). env_in meaning new t x) eg ∙ env_later meaning old new t f l

  module _ (old mid later : Config S) (r : Result (Unit {0}) OutOfMemory) (f g : Frame) (taker : Taker) (s : NodeId) (l : Later meaning old mid) (eg : g ≡ record f { held = g.held }) where
    abbrev texts : Table
    texts = later.heap.texts

    abbrev env : Env
    env = env_in meaning old texts f

    abbrev left : List Slot
    left = (holding_in texts g.held).visits

    -- the visit that was found, or the end
    pub reached_follows : (found o : Option NumberedSlot) → Reaches meaning (λ t. (holding_in t f.held).visits) (λ t. (holding_in t g.held).visits) (λ t. option_map (λ (x : NumberedSlot). name_in t x.name) found) (λ t. env_in meaning old t f) old mid → found ≡ o
        → OnOk r (Follows meaning (visit_goes g.node.0 (taker_in texts taker) s.0 (option_map (λ (x : NumberedSlot). name_in texts x.name) o) left (env_in meaning mid texts g)) mid later) → OnOk r (Follows meaning (visits_from f.node.0 (taker_in texts taker) s.0 (holding_in texts f.held).visits env) old later)
    reached_follows found o x e h =
        let P : Act → Type 0 = λ act. OnOk r (Follows meaning act mid later) in
        x.by f.node.0 (taker_in texts taker) s.0 None later r (subst P
        (ap (λ (here : ℕ). visit_goes here (taker_in texts taker) s.0 (option_map (λ (x : NumberedSlot). name_in texts x.name) o) left (env_in meaning mid texts g)) (λ i. (eg i).node.0)
        ∙ ap (λ (e : Env). visit_goes f.node.0 (taker_in texts taker) s.0 (option_map (λ (x : NumberedSlot). name_in texts x.name) o) left e) (env_moved old mid texts f g l eg)
        ∙ ap (λ (p : Option NumberedSlot). visit_goes f.node.0 (taker_in texts taker) s.0 (option_map (λ (x : NumberedSlot). name_in texts x.name) p) left env) (sym e)) h)

    -- the visits that were listed
    pub listed_follows : (v : NumberedValue) → Lists meaning (λ t. value_in t v) (λ t. (holding_in t g.held).visits) (λ t. env_in meaning old t f) old mid
        → OnOk r (Follows meaning (visits_from g.node.0 (taker_in texts taker) s.0 left (env_in meaning mid texts g)) mid later) → OnOk r (Follows meaning (for_in_value f.node.0 (taker_in texts taker) s.0 env (value_in texts v)) old later)
    listed_follows v x h =
        let P : Act → Type 0 = λ act. OnOk r (Follows meaning act mid later) in
        x.by f.node.0 (taker_in texts taker) s.0 None later r (subst P
        (ap (λ (here : ℕ). visits_from here (taker_in texts taker) s.0 left (env_in meaning mid texts g)) (λ i. (eg i).node.0)
        ∙ ap (λ (e : Env). visits_from f.node.0 (taker_in texts taker) s.0 left e) (env_moved old mid texts f g l eg)) h)

    -- that there are none
    pub refused_follows : (v error : NumberedValue) → Refuses meaning (λ t. value_in t v) (λ t. value_in t error) (λ t. env_in meaning old t f) old mid → OnOk r (Follows meaning (Ret (Throws (value_in texts error))) mid later) → OnOk r (Follows meaning (for_in_value f.node.0 (taker_in texts taker) s.0 env (value_in texts v)) old later)
    refused_follows v error x h = x.by f.node.0 (taker_in texts taker) s.0 None later r h

  -- a target is entered with its visit held
  pub target_entered : (t : Table) (c : Config S) (f g : Frame) (taker : Taker) (target s : NodeId) (x : NumberedSlot) → taker ≡ Target target → taker_of (node_now meaning c f) ≡ Some taker → g ≡ record f { held = holds.Visit x ∷ f.held }
      → Eval (AtTarget target.0) (env_in meaning c t g) (then_at meaning c g (points.Stmt (stmts.VisitTarget s)) t (env_in meaning c t g))
      ≡ visit_goes f.node.0 (taker_in t taker) s.0 (Some (name_in t x.name)) (holding_in t f.held).visits (env_in meaning c t f)
  target_entered t c f g taker target s x et is eg =
      ap (λ (y : Frame). Eval (AtTarget target.0) (env_in meaning c t y) (then_at meaning c y (points.Stmt (stmts.VisitTarget s)) t (env_in meaning c t y))) eg
      ∙ ap (λ (go : Completion → Act). Eval (AtTarget target.0) (env_in meaning c t f) go)
      (target_waits t f.node.0 (holding_in t (holds.Visit x ∷ f.held)) (env_in meaning c t f) (node_now meaning c f) (Target target) s (is ∙ ap Some et))
      ∙ sym (ap (λ (k : Taker). visit_goes f.node.0 (taker_in t k) s.0 (Some (name_in t x.name)) (holding_in t f.held).visits (env_in meaning c t f)) et)

  -- the latest visit is taken off
  pub taken_same : (t : Table) (c : Config S) (f g : Frame) (taker : Taker) (s : NodeId) (x : NumberedSlot) (r : Reference) → g ≡ record f { held = g.held } → visits_held f.held ≡ x ∷ visits_held g.held
      → visit_body g.node.0 s.0 (name_in t x.name) (env_in meaning c t g) (visits_from g.node.0 (taker_in t taker) s.0 (holding_in t g.held).visits (env_in meaning c t g)) r ≡ visit_taken f.node.0 (taker_in t taker) s.0 (holding_in t f.held).visits (env_in meaning c t f) r
  taken_same t c f g taker s x r eg e =
      ap (λ (y : Frame). visit_body y.node.0 s.0 (name_in t x.name) (env_in meaning c t y) (visits_from y.node.0 (taker_in t taker) s.0 (holding_in t g.held).visits (env_in meaning c t y)) r) eg
      ∙ sym (ap (λ (xs : List NumberedSlot). visit_taken f.node.0 (taker_in t taker) s.0 (each (slot_in t) xs) (env_in meaning c t f) r) e)
