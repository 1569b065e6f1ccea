-- The loop `for`-`in`: its visits one after the other, and where it waits.
use Rattle.std.proofs.Common.{◌≡◌, List, [], ◌∷◌, Option, None, Some, Vec, Global, refl, sym, ap, ◌∙◌, subst}
use Rattle.std.specs.Prelude.{Result, OnOk}
use Rattle.std.specs.Option.{option_map}
use Rattle.wjs_base.specs.declared.ids.NodeId.{NodeId}
use Rattle.wjs_base.specs.declared.ids.TextId.{TextId}
use Rattle.wjs_base.specs.declared.values.Slot.{Slot as NumberedSlot}
use Rattle.wjs_base.specs.declared.values.Value.{Value as Numbered}
use Rattle.wjs_base.specs.Text.{Table, Grows}
use Rattle.wjs_by_content.specs.Tables.{name_in, text_in, value_in}
use Rattle.wjs_by_content.specs.Values.{Value, String}
use Rattle.wjs_store.specs.Meaning.{Meaning}
use Rattle.wjs_scope.specs.declared.place.Place.{Place as NumberedPlace}
use Rattle.wjs_meaning.specs.Deeds.{Env, Reference, AtStmt, AtTarget, Completion, Normal, Throws, Act, Ret, Sub, then_normal, then_reference, then_value, tree_here}
use Rattle.wjs_meaning.specs.Loops.{after_body, for_in_value}
use Rattle.wjs_meaning.specs.References.{reference_at, store}
use Rattle.wjs_meaning.specs.Trees.{Place, name_place}
use Rattle.wjs_model.specs.declared.config.Config.{Config}
use Rattle.wjs_model.specs.declared.frame.Activation.{Activation as Frame}
use Rattle.wjs_model.specs.declared.frame.Completion.{Completion as Said}
use Rattle.wjs_model.specs.declared.frame.Completion.TheVariants as completions
use Rattle.wjs_model.specs.declared.frame.Held.{Held}
use Rattle.wjs_model.specs.declared.frame.Held.TheVariants as holds
use Rattle.wjs_model.specs.declared.frame.Phase.{Phase}
use Rattle.wjs_model.specs.declared.frame.Reference.{Reference as NumberedReference}
use Rattle.wjs_model.specs.declared.loaded.LoadedProgram.{LoadedProgram as Program}
use Rattle.wjs_model.specs.declared.point.Point.TheVariants as points
use Rattle.wjs_model.specs.declared.point.StmtPoint.TheVariants as stmt
use Rattle.wjs_model.specs.Contents.{completion_in, holding_in, reference_in}
use Rattle.wjs_model.specs.Soundness.{IsThere, StandsHere}
use Rattle.wjs_model.specs.Units.{place_in}
use Rattle.wjs_frames.specs.Doing.{Does}
use Rattle.wjs_frames.specs.Following.{Follows, Later}
use Rattle.wjs_frames.specs.Parts.{env_in, node_among, then_at}
use Rattle.wjs_frames.proofs.Handling.{env_later}
use Rattle.wjs_frames.proofs.Shorter.{follows_ret, follows_shorter, shorten_ended, shorten_ret}
use Rattle.wjs_effects.specs.Effects.{stored}
use Rattle.wjs_effects.proofs.Leaving.{shorten_as}
use Rattle.wjs_effects.proofs.Storing.{referred_goes}
use Rattle.wjs_loops.specs.declared.for_ins.Taker.{Taker}
use Rattle.wjs_loops.specs.declared.for_ins.Taker.TheVariants.{Target, Variable}
use Rattle.wjs_loops.specs.ForIns.{Lists, Reaches, Refuses, taker_in, taker_of, visit_goes}
use Rattle.wjs_loops.proofs.ForInNames.{body_waits, taken_by, target_waits}
use Rattle.wjs_loops.proofs.ForInParts.{target_stands}
use Rattle.wjs_stopping.specs.declared.ends.Broken.{Broken}
use Rattle.wjs_stopping.specs.Evaluating.{Leaves}
use Rattle.wjs_stopping.specs.Waiting.{at_node}
use Rattle.wjs_stopping.proofs.Evaluating.{leaves_all}
use Rattle.wjs_direct_lines.specs.Deeds.{form_here, line_here}
use Rattle.wjs_direct.specs.Visits.{GoesVisit, HoldsVisits, ListsVisits, RefusesVisits, TakesNames, body_left, ended_or, name_taken, next_left, over_left, visit_left, visited_then, visits_left}
use Rattle.wjs_direct_lines.proofs.Declaring.{store_then}
use Rattle.wjs_direct_lines.proofs.Elements.{not_normal}
use Rattle.wjs_direct_lines.proofs.Forming.{node_there}
use Rattle.wjs_direct_lines.proofs.Nesting.{comes_behind, leaves_shorter, line_begins, line_same}

module _ {S : Type 0} (meaning : S → Meaning) (f : Frame) (node : NodeId) where
  abbrev Deeds : Type 0
  Deeds = Table → (Completion → Act) → Act

  -- ---- what takes the names

  pub taken_later : (old mid : Config S) (taker : Taker) → TakesNames old f node taker → Later meaning old mid → TakesNames mid f node taker
  taken_later old mid taker is l = subst (λ (us : Vec Program Global). taker_of (node_among us.items f.tree node) ≡ Some taker) (sym l.units) is

  -- a target stands there
  pub target_there : (c : Config S) (target : NodeId) → IsThere meaning c f → StandsHere c f node → TakesNames c f node (Target target) → StandsHere c f target
  target_there c target there stands is = target_stands meaning c (at_node f node []) target (node_there meaning c f node [] there stands tt) is

  -- ---- the frame that holds the visits

  pub holds_later : (old mid : Config S) (v : Frame) → HoldsVisits meaning old f node v → Later meaning old mid → HoldsVisits meaning mid f node v
  holds_later old mid v h l = (h.0, l.frames v h.1)

  -- it holds others
  pub holds_others : (c : Config S) (v w : Frame) → v ≡ at_node f node v.held → w ≡ record v { held = w.held } → IsThere meaning c w → HoldsVisits meaning c f node w
  holds_others c v w ev ew h = (ew ∙ ap (λ (x : Frame). record x { held = w.held }) ev, h)

  -- ---- the visits of a value

  module _ (old mid : Config S) (v : Frame) (over : Numbered) (ev : v ≡ at_node f node v.held) where
    -- they are listed
    pub visits_listed : (held : List Held) → Later meaning old mid → Lists meaning (λ t. value_in t over) (λ t. (holding_in t held).visits) (λ t. env_in meaning old t v) old mid → ListsVisits meaning over f node held old mid
    visits_listed held l x = λ taker body.
        let y : Lists meaning (λ t. value_in t over) (λ t. (holding_in t held).visits) (λ t. env_in meaning old t f) old mid =
        subst (λ (g : Frame). Lists meaning (λ t. value_in t over) (λ t. (holding_in t held).visits) (λ t. env_in meaning old t g) old mid) ev x in
        subst (λ (env : Table → Env). Leaves meaning (line_here meaning old f (λ t e. over_left node taker body t e (value_in t over))) (λ t go. Sub (visits_left node taker body held t (env t)) go) old mid)
        (λ i t. (sym (env_later meaning old mid t f l)) i)
        (record { by = λ go later r h. y.by node.0 (taker_in later.heap.texts taker) body.0 (Some go) later r h })

    -- that it has none was thrown
    pub visits_refused : (error : Numbered) → Refuses meaning (λ t. value_in t over) (λ t. value_in t error) (λ t. env_in meaning old t v) old mid → RefusesVisits meaning over error f node old mid
    visits_refused error x = λ taker body.
        let y : Refuses meaning (λ t. value_in t over) (λ t. value_in t error) (λ t. env_in meaning old t f) old mid =
        subst (λ (g : Frame). Refuses meaning (λ t. value_in t over) (λ t. value_in t error) (λ t. env_in meaning old t g) old mid) ev x in
        record {
          by = λ go later r h.
              let t = later.heap.texts in
              y.by node.0 (taker_in t taker) body.0 (Some go) later r (follows_ret meaning (Throws (value_in t error)) go mid later r h);
        }

  -- ---- the next visit

  abbrev is_reached : Config S → Config S → Frame → List Held → Option NumberedSlot → Type 0
  is_reached old mid v held found = Reaches meaning (λ t. (holding_in t v.held).visits) (λ t. (holding_in t held).visits) (λ t. option_map (λ (s : NumberedSlot). name_in t s.name) found) (λ t. env_in meaning old t v) old mid

  module _ (old mid : Config S) (v : Frame) (held : List Held) (taker : Taker) (body : NodeId) (ev : v ≡ at_node f node v.held) where
    abbrev begun : Deeds
    begun = line_here meaning old f (visits_left node taker body v.held)

    abbrev going : Option NumberedSlot → Deeds
    going found t go = Sub (visit_goes node.0 (taker_in t taker) body.0 (option_map (λ (s : NumberedSlot). name_in t s.name) found) (holding_in t held).visits (env_in meaning old t f)) go

    reached_here : (found : Option NumberedSlot) → is_reached old mid v held found → Leaves meaning begun (going found) old mid
    reached_here found x =
        let Before : Frame → Type 0 = λ g. Reaches meaning (λ t. (holding_in t v.held).visits) (λ t. (holding_in t held).visits) (λ t. option_map (λ (s : NumberedSlot). name_in t s.name) found) (λ t. env_in meaning old t g) old mid in
        let y : Before f = subst Before ev x in
        record { by = λ go later r h. y.by node.0 (taker_in later.heap.texts taker) body.0 (Some go) later r h }

    -- one is present
    pub visit_reached : (found : Option NumberedSlot) (slot : NumberedSlot) → found ≡ Some slot → Later meaning old mid → is_reached old mid v held found → Leaves meaning begun (line_here meaning mid f (visit_left node taker body held slot)) old mid
    visit_reached found slot is l x =
        subst (λ (env : Table → Env). Leaves meaning begun (λ t go. Sub (visit_left node taker body held slot t (env t)) go) old mid) (λ i t. (sym (env_later meaning old mid t f l)) i)
        (subst (λ (o : Option NumberedSlot). Leaves meaning begun (going o) old mid) is (reached_here found x))

    -- none is
    pub visits_past : (found : Option NumberedSlot) → found ≡ None → is_reached old mid v held found → Leaves meaning begun (λ t go. go Normal) old mid
    visits_past found is x =
        leaves_all meaning begun (λ t go. Sub (Ret Normal) go) (λ t go. go Normal) old mid mid
        (subst (λ (o : Option NumberedSlot). Leaves meaning begun (going o) old mid) is (reached_here found x))
        (leaves_shorter meaning (λ t go. Sub (Ret Normal) go) (λ t go. go Normal) mid (λ t more go. shorten_ret Normal go))

  -- ---- its name is taken

  -- by a target
  pub by_target : (old new : Config S) (taker : Taker) (target body : NodeId) (held left : List Held) (slot : NumberedSlot) (done : Result (Option Said) Broken) (w : List Frame) (p : Option (Frame × Phase)) → taker ≡ Target target
      → GoesVisit meaning (form_here meaning old f (AtTarget target.0) (λ t env. then_reference (name_taken node (Target target) body held slot t env))) f node (Target target) body left done w p old new
      → GoesVisit meaning (line_here meaning old f (visit_left node taker body held slot)) f node taker body left done w p old new
  by_target old new taker target body held left slot done w p is d =
      let next : Table → Env → Completion → Act = λ t env. then_reference (name_taken node (Target target) body held slot t env) in
      subst (λ (k : Taker). GoesVisit meaning (line_here meaning old f (visit_left node k body held slot)) f node k body left done w p old new) (sym is)
      (comes_behind meaning (line_here meaning old f (visit_left node (Target target) body held slot)) (form_here meaning old f (AtTarget target.0) next) (next_left meaning new f node (Target target) body left) done w p old old new
      (line_begins meaning old f (visit_left node (Target target) body held slot) (AtTarget target.0) next (λ t more. refl)) d)

  -- by a variable
  pub by_variable : (old new : Config S) (taker : Taker) (name : TextId) (body : NodeId) (held left : List Held) (slot : NumberedSlot) (done : Result (Option Said) Broken) (w : List Frame) (p : Option (Frame × Phase)) → taker ≡ Variable name
      → GoesVisit meaning (line_here meaning old f (visit_left node (Variable name) body held slot)) f node (Variable name) body left done w p old new
      → GoesVisit meaning (line_here meaning old f (visit_left node taker body held slot)) f node taker body left done w p old new
  by_variable old new taker name body held left slot done w p is d =
      subst (λ (k : Taker). GoesVisit meaning (line_here meaning old f (visit_left node k body held slot)) f node k body left done w p old new) (sym is) d

  -- at its place
  pub place_takes : (c : Config S) (name : TextId) (body : NodeId) (held : List Held) (slot : NumberedSlot) (place : NumberedPlace) (q : NumberedReference)
      → ((t : Table) → name_place (tree_here (env_in meaning c t f)) node.0 0 ≡ place_in place) → Does meaning (λ t. reference_at (place_in place) (text_in t name) (env_in meaning c t f)) (λ t. reference_in t q) c c
      → Leaves meaning (line_here meaning c f (visit_left node (Variable name) body held slot)) (line_here meaning c f (λ t env. name_taken node (Variable name) body held slot t env (reference_in t q))) c c
  place_takes c name body held slot place q found does = record {
    by = λ go later r h.
        let t = later.heap.texts in
        let env = env_in meaning c t f in
        let next : Reference → Act = name_taken node (Variable name) body held slot t env in
        subst (λ (p : Place). OnOk r (Follows meaning (Sub (reference_at p (text_in t name) env next) go) c later)) (sym (found t))
        (follows_shorter meaning (Sub (reference_at (place_in place) (text_in t name) env next) go) (reference_at (place_in place) (text_in t name) env (λ y. Sub (next y) go)) c later r
        (referred_goes (place_in place) (text_in t name) env next go) (does.by (λ y. Sub (next y) go) later r h));
  }

  module _ (old new : Config S) (taker : Taker) (body : NodeId) (held : List Held) (slot : NumberedSlot) (q : NumberedReference) (e : Said) (l : Later meaning old new)
      (does : Does meaning (λ t. stored (reference_in t q) (String (name_in t slot.name)) (env_in meaning old t f) Normal) (λ t. completion_in t e) old new) where
    abbrev naming : Deeds
    naming = line_here meaning old f (λ t env. name_taken node taker body held slot t env (reference_in t q))

    abbrev behind_name : Table → Env → Act
    behind_name t env = then_normal (body_left node taker body held t env) (completion_in t e)

    name_goes : Leaves meaning naming (line_here meaning new f behind_name) old new
    name_goes =
        subst (λ (env : Table → Env). Leaves meaning naming (λ t go. Sub (behind_name t (env t)) go) old new) (λ i t. (sym (env_later meaning old new t f l)) i)
        (record {
          by = λ go later r h.
              let t = later.heap.texts in
              let env = env_in meaning old t f in
              let rest : Act = body_left node taker body held t env in
              let name : Value = String (name_in t slot.name) in
              follows_shorter meaning (Sub (store (reference_in t q) name env rest) go) (stored (reference_in t q) name env Normal (λ x. Sub (then_normal rest x) go)) old later r
              (store_then name env rest go (reference_in t q)) (does.by (λ x. Sub (then_normal rest x) go) later r h);
        })

    -- and the body comes
    pub body_comes : e ≡ completions.Normal → Leaves meaning naming (form_here meaning new f (AtStmt body.0) (visited_then node taker body held)) old new
    body_comes is =
        leaves_all meaning naming (line_here meaning new f behind_name) (form_here meaning new f (AtStmt body.0) (visited_then node taker body held)) old new new name_goes
        (line_begins meaning new f behind_name (AtStmt body.0) (visited_then node taker body held)
        (λ t more. ap (λ (x : Said). then_normal (body_left node taker body held t (env_in meaning new t f)) (completion_in t x)) is))

    -- or the store threw
    pub naming_ends : (e ≡ completions.Normal → ⊥) → Leaves meaning naming (λ t go. go (completion_in t e)) old new
    naming_ends other =
        leaves_all meaning naming (line_here meaning new f behind_name) (λ t go. go (completion_in t e)) old new new name_goes
        (leaves_shorter meaning (line_here meaning new f behind_name) (λ t go. go (completion_in t e)) new
        (λ t more go. shorten_ended _ (completion_in t e) go (shorten_as _ _ (not_normal t e _ other))))

  -- ---- behind its body

  pub body_leaves : (c : Config S) (taker : Taker) (body : NodeId) (held : List Held) (e : Said) (ended : Option Said)
      → ((t : Table) → Grows c.heap.texts t → (again : Act) → after_body node.0 (env_in meaning c t f) again (completion_in t e) ≡ ended_or t again ended)
      → Leaves meaning (line_here meaning c f (λ t env. visited_then node taker body held t env (completion_in t e))) (next_left meaning c f node taker body held ended) c c
  body_leaves c taker body held e None is =
      line_same meaning c f (λ t env. visited_then node taker body held t env (completion_in t e)) (visits_left node taker body held) (λ t more. is t more (visits_left node taker body held t (env_in meaning c t f)))
  body_leaves c taker body held e (Some x) is =
      leaves_shorter meaning (line_here meaning c f (λ t env. visited_then node taker body held t env (completion_in t e))) (λ t go. go (completion_in t x)) c
      (λ t more go. shorten_ended _ (completion_in t x) go (shorten_as _ _ (is t more (visits_left node taker body held t (env_in meaning c t f)))))

  -- ---- where it waits

  module _ (old mid : Config S) (taker : Taker) (body : NodeId) (is : TakesNames old f node taker) (l : Later meaning old mid) (t : Table) (env : Env) where
    -- for its object
    pub object_waited : then_at meaning mid (at_node f node []) (points.Stmt (stmt.VisitsObject body)) t env ≡ then_value (over_left node taker body t env)
    object_waited = λ i. then_value (λ v. taken_by t (node_among mid.units.items f.tree node) taker (λ k. for_in_value node.0 k body.0 env v) (taken_later old mid taker is l) i)

    -- for its target, with a visit held
    pub target_waited : (held : List Held) (slot : NumberedSlot)
        → then_at meaning mid (at_node f node (holds.Visit slot ∷ held)) (points.Stmt (stmt.VisitTarget body)) t env ≡ then_reference (name_taken node taker body held slot t env)
    target_waited held slot = target_waits t node.0 (holding_in t (holds.Visit slot ∷ held)) env (node_among mid.units.items f.tree node) taker body (taken_later old mid taker is l)

    -- for its body
    pub body_waited : (held : List Held) → then_at meaning mid (at_node f node held) (points.Stmt (stmt.VisitBody body)) t env ≡ visited_then node taker body held t env
    body_waited held = body_waits t node.0 (holding_in t held) env (node_among mid.units.items f.tree node) taker body (taken_later old mid taker is l)
