-- Nested deeds: what is left of them where a part ends, and how the node around it waits where it broke off.
use Rattle.std.proofs.Common.{◌≡◌, ℕ, suc, ◌≤◌, List, [], ◌∷◌, sym, ap, ◌∙◌, subst, arith}
use Rattle.std.specs.Prelude.{Option, None, Some, Result, Ok, Err}
use Rattle.wjs_base.specs.declared.ids.NodeId.{NodeId}
use Rattle.wjs_base.specs.Text.{Table, Grows}
use Rattle.wjs_by_content.specs.Tables.{value_in}
use Rattle.wjs_by_content.specs.Values.{Value}
use Rattle.wjs_store.specs.Meaning.{Meaning}
use Rattle.wjs_meaning.specs.Deeds.{St, Env, Goal, Completion, Throws, Act, Ret, Tick, Eval, Sub, Do, interp, answer_of, state_after}
use Rattle.wjs_meaning.specs.Programs.{eval, entry}
use Rattle.wjs_model.specs.declared.config.Config.{Config}
use Rattle.wjs_model.specs.declared.frame.Activation.{Activation as Frame}
use Rattle.wjs_model.specs.declared.frame.Completion.{Completion as Said}
use Rattle.wjs_model.specs.declared.frame.Held.{Held}
use Rattle.wjs_model.specs.declared.frame.Phase.{Phase}
use Rattle.wjs_model.specs.declared.point.Point.{Point}
use Rattle.wjs_model.specs.Rest.{Count, turns_act}
use Rattle.wjs_model.specs.Soundness.{StandsIf}
use Rattle.wjs_frames.specs.Following.{Later}
use Rattle.wjs_frames.specs.Parts.{env_in, then_at}
use Rattle.wjs_frames.specs.Shortening.{Shortens}
use Rattle.wjs_frames.proofs.Handling.{env_later}
use Rattle.wjs_frames.proofs.Shorter.{shorten_sub}
use Rattle.wjs_quick.proofs.Coming.{shorten_goal}
use Rattle.wjs_effects.proofs.Leaving.{follows_when, shorten_as}
use Rattle.wjs_stopping.specs.declared.ends.Broken.{Broken}
use Rattle.wjs_stopping.specs.declared.ends.Broken.TheVariants as ends
use Rattle.wjs_stopping.specs.Waiting.{at_node, waiting_at, WaitsAt}
use Rattle.wjs_stopping.specs.Evaluating.{Evaluates, InMemory, Leaves, broken_in, rest_in}
use Rattle.wjs_stopping.proofs.Evaluating.{in_memory, leaves_all, none_below, same_below, then_twice, within_then, within_thrown, within_waits}
use Rattle.wjs_direct_lines.specs.Deeds.{ComesTo, entry_here, form_here, goal_here, line_here}

-- ---- nested deeds, in fewer turns

next_below : (x y : ℕ) → x ≤ y → suc x ≤ suc y
next_below x y h = omega (arith, h)

-- one turn more behind deeds is one turn more at most
one_more : (a : Act) (st : St) (k k' : Count) → ((c : Completion) (st' : St) → k c st' ≤ suc (k' c st')) → turns_act a st k ≤ suc (turns_act a st k')
one_more (Ret c) st k k' h = next_below _ _ (h c st)
one_more (Tick a) st k k' h = none_below _
one_more (Eval goal env go) st k k' h = none_below _
one_more (Sub a go) st k k' h = next_below _ _ (one_more a st _ _ (λ c st'. one_more (go c) st' k k' h))
one_more (Do deed go) st k k' h = one_more (go (answer_of deed st)) (state_after deed st) k k' h

pub shorten_within : (a : Act) (next go : Completion → Act) → Shortens (Sub (Sub a next) go) (Sub a (λ c. Sub (next c) go))
shorten_within a next go = record {
  same = λ st n. then_twice (interp eval a st n) _ _;
  fewer = λ st k. next_below _ _ (one_more a st _ _ (λ c st'. same_below _));
}

module _ {S : Type 0} (meaning : S → Meaning) where
  abbrev Deeds : Type 0
  Deeds = Table → (Completion → Act) → Act

  -- ---- what is left of deeds

  -- deeds that come to the same in fewer turns, under a table that has grown
  pub leaves_shorter : (long short : Deeds) (c : Config S) → ((t : Table) → Grows c.heap.texts t → (go : Completion → Act) → Shortens (long t go) (short t go)) → Leaves meaning long short c c
  leaves_shorter long short c s = record { by = λ go later r h. follows_when meaning c later r (long later.heap.texts go) (short later.heap.texts go) (λ more. s later.heap.texts more go) h }

  -- deeds that ended, and then a line
  within_at : {A : Type 0} (told : Table → A → Completion) (deeds : Deeds) (old mid : Config S) (env : Table → Env) (next : Table → Env → Completion → Act) (v : A) → Leaves meaning deeds (λ t go. go (told t v)) old mid
      → Leaves meaning (within_then deeds (λ t. next t (env t))) (λ t go. Sub (next t (env t) (told t v)) go) old mid
  within_at told deeds old mid env next v d = record { by = λ go later r h. d.by (λ c. Sub (next later.heap.texts (env later.heap.texts) c) go) later r h }

  pub within_left : {A : Type 0} (told : Table → A → Completion) (deeds : Deeds) (old mid : Config S) (f : Frame) (next : Table → Env → Completion → Act) (v : A) → Later meaning old mid → Leaves meaning deeds (λ t go. go (told t v)) old mid
      → Leaves meaning (within_then deeds (λ t. next t (env_in meaning old t f))) (line_here meaning mid f (λ t env. next t env (told t v))) old mid
  within_left told deeds old mid f next v l d =
      subst (λ (env : Table → Env). Leaves meaning (within_then deeds (λ t. next t (env t))) (line_here meaning mid f (λ t env. next t env (told t v))) old mid) (λ i t. env_later meaning old mid t f l i)
      (within_at told deeds old mid (λ t. env_in meaning mid t f) next v d)

  -- a part that ended, and then a line
  pub part_left : {A : Type 0} (told : Table → A → Completion) (old mid : Config S) (f : Frame) (goal : Goal) (next : Table → Env → Completion → Act) (v : A) → Later meaning old mid
      → Leaves meaning (goal_here meaning old f goal) (λ t go. go (told t v)) old mid
      → Leaves meaning (form_here meaning old f goal next) (line_here meaning mid f (λ t env. next t env (told t v))) old mid
  part_left told old mid f goal next v l d = within_left told (goal_here meaning old f goal) old mid f next v l d

  -- and one that was entered already
  entry_shorter : (c : Config S) (f : Frame) (goal : Goal) (next : Table → Env → Completion → Act)
      → Leaves meaning (line_here meaning c f (λ t env. Sub (entry goal env) (next t env))) (within_then (entry_here meaning c f goal) (λ t. next t (env_in meaning c t f))) c c
  entry_shorter c f goal next = leaves_shorter _ _ c (λ t more go. let env = env_in meaning c t f in shorten_within (entry goal env) (next t env) go)

  pub entry_left : {A : Type 0} (told : Table → A → Completion) (old mid : Config S) (f : Frame) (goal : Goal) (next : Table → Env → Completion → Act) (v : A) → Later meaning old mid
      → Leaves meaning (entry_here meaning old f goal) (λ t go. go (told t v)) old mid
      → Leaves meaning (line_here meaning old f (λ t env. Sub (entry goal env) (next t env))) (line_here meaning mid f (λ t env. next t env (told t v))) old mid
  entry_left told old mid f goal next v l d = leaves_all meaning _ _ _ old old mid (entry_shorter old f goal next) (within_left told (entry_here meaning old f goal) old mid f next v l d)

  -- ---- deeds that broke off, and the node around them waits

  module _ {A B : Type 0} (told : Table → A → Completion) (said : Table → B → Completion) (old mid : Config S) (f : Frame) (deeds : Deeds) (next : Table → Env → Completion → Act) (node : NodeId) (held : List Held) (point : Point) where
    abbrev then_next : Table → Completion → Act
    then_next t = next t (env_in meaning old t f)

    -- where it waits
    pub within_stopped : (waits : List Frame) (top : Option (Frame × Phase)) → ((t : Table) (env : Env) → then_at meaning mid (at_node f node held) point t env ≡ next t env) → Later meaning old mid
        → Leaves meaning deeds (rest_in meaning mid waits top) old mid → Leaves meaning (within_then deeds then_next) (rest_in meaning mid (waiting_at (at_node f node held) point ∷ waits) top) old mid
    within_stopped waits top en l d =
        let k = at_node f node held in
        subst (λ (n : Table → Completion → Act). Leaves meaning (within_then deeds n) (rest_in meaning mid (waiting_at k point ∷ waits) top) old mid)
        (λ i t. (en t (env_in meaning mid t k) ∙ ap (next t) (env_later meaning old mid t f l)) i)
        (within_waits meaning deeds old mid waits top k point d)

    pub within_broke : (end : Broken) (waits : List Frame) (top : Option (Frame × Phase)) (end' : Broken) (waits' : List Frame) (top' : Option (Frame × Phase))
        → (Later meaning old mid → (t : Table) (env : Env) → then_at meaning mid (at_node f node held) point t env ≡ next t env)
        → ((t : Table) (env : Env) (e : Value) → next t env (Throws e) ≡ Ret (Throws e)) → InMemory {A = A} (Err end) (Later meaning old mid)
        → Evaluates meaning deeds told (Err end) waits top old mid → WaitsAt (at_node f node held) point end waits top end' waits' top'
        → Evaluates meaning (within_then deeds then_next) said (Err end') waits' top' old mid
    within_broke ends.Stopped waits top ends.Stopped waits' top' en et l d w =
        subst (λ (x : List Frame). Leaves meaning (within_then deeds then_next) (rest_in meaning mid x top') old mid) (sym w.0)
        (subst (λ (p : Option (Frame × Phase)). Leaves meaning (within_then deeds then_next) (rest_in meaning mid (waiting_at (at_node f node held) point ∷ waits) p) old mid) (sym w.1) (within_stopped waits top (en l) l d))
    within_broke ends.Stopped waits top (ends.Throws v) waits' top' en et l d w = absurd w
    within_broke ends.Stopped waits top ends.OutOfMemory waits' top' en et l d w = tt
    within_broke (ends.Throws v) waits top end' waits' top' en et l d w =
        subst (λ (x : Broken). Evaluates meaning (within_then deeds then_next) said (Err x) waits' top' old mid) (sym w.0)
        (within_thrown meaning deeds then_next (λ t. value_in t v) old mid (λ t. et t (env_in meaning old t f) (value_in t v)) d)
    within_broke ends.OutOfMemory waits top end' waits' top' en et l d w =
        subst (λ (x : Broken). Evaluates meaning (within_then deeds then_next) said (Err x) waits' top' old mid) (sym w) tt

  -- what was entered already broke off
  pub entry_broke : {A B : Type 0} (told : Table → A → Completion) (said : Table → B → Completion) (old mid new : Config S) (f : Frame) (goal : Goal) (next : Table → Env → Completion → Act) (node : NodeId) (held : List Held) (point : Point)
      (end : Broken) (waits : List Frame) (top : Option (Frame × Phase)) (end' : Broken) (waits' : List Frame) (top' : Option (Frame × Phase)) → new ≡ mid → WaitsAt (at_node f node held) point end waits top end' waits' top'
      → (Later meaning old mid → (t : Table) (env : Env) → then_at meaning mid (at_node f node held) point t env ≡ next t env)
      → ((t : Table) (env : Env) (e : Value) → next t env (Throws e) ≡ Ret (Throws e)) → InMemory {A = A} (Err end) (Later meaning old mid)
      → Evaluates meaning (entry_here meaning old f goal) told (Err end) waits top old mid
      → Evaluates meaning (line_here meaning old f (λ t env. Sub (entry goal env) (next t env))) said (Err end') waits' top' old new
  entry_broke {B = B} told said old mid new f goal next node held point end waits top end' waits' top' same w en et l d =
      subst (λ (c : Config S). Evaluates meaning (line_here meaning old f (λ t env. Sub (entry goal env) (next t env))) said (Err end') waits' top' old c) (sym same)
      (in_memory {A = B} (Err end') (λ h. leaves_all meaning _ _ _ old old mid (entry_shorter old f goal next) h)
      (within_broke told said old mid f (entry_here meaning old f goal) next node held point end waits top end' waits' top' en et l d w))

  -- ---- deeds behind others, and lines that are others

  -- what comes before deeds
  pub comes_behind : {A : Type 0} (one two : Deeds) (left : A → Deeds) (done : Result A Broken) (w : List Frame) (p : Option (Frame × Phase)) (old mid new : Config S) → Leaves meaning one two old mid
      → ComesTo meaning two left done w p mid new → ComesTo meaning one left done w p old new
  comes_behind one two left (Ok v) w p old mid new l d = leaves_all meaning one two (left v) old mid new l d
  comes_behind one two left (Err end) w p old mid new l d = in_memory {A = Said} (Err end) (λ h. leaves_all meaning one two (broken_in meaning new end w p) old mid new l h) d

  -- a line that is a form, or a goal
  pub line_begins : (c : Config S) (f : Frame) (act : Table → Env → Act) (goal : Goal) (next : Table → Env → Completion → Act)
      → ((t : Table) → Grows c.heap.texts t → act t (env_in meaning c t f) ≡ Eval goal (env_in meaning c t f) (next t (env_in meaning c t f))) → Leaves meaning (line_here meaning c f act) (form_here meaning c f goal next) c c
  line_begins c f act goal next e = leaves_shorter _ _ c (λ t more go.
      let env = env_in meaning c t f in
      subst (λ (x : Act). Shortens (Sub x go) (Eval goal env (λ d. Sub (next t env d) go))) (sym (e t more)) (shorten_goal goal env (next t env) go))

  -- one that is another
  pub line_same : (c : Config S) (f : Frame) (act other : Table → Env → Act) → ((t : Table) → Grows c.heap.texts t → act t (env_in meaning c t f) ≡ other t (env_in meaning c t f)) → Leaves meaning (line_here meaning c f act) (line_here meaning c f other) c c
  line_same c f act other e = leaves_shorter _ _ c (λ t more go. shorten_sub _ _ go (shorten_as _ _ (e t more)))

  -- ---- parts that stand there

  -- of a node that isn't the frame's
  pub if_stands : (c : Config S) (f : Frame) (node : NodeId) (part : Option NodeId) → StandsIf c (at_node f node []) part → StandsIf c f part
  if_stands c f node None h = tt
  if_stands c f node (Some j) h = h

  pub if_here : (c : Config S) (f : Frame) (node : NodeId) (part : Option NodeId) → StandsIf c f part → StandsIf c (at_node f node []) part
  if_here c f node None h = tt
  if_here c f node (Some j) h = h
