-- Deeds that come to a value at once, one after another.
use Rattle.std.proofs.Common.{◌≡◌, ℕ, suc, ◌-◌, ◌<◌, ◌≤◌, refl, sym, ap, ◌∙◌, subst, arith}
use Rattle.std.specs.Prelude.{Ok}
use Rattle.wjs_base.specs.declared.ids.NodeId.{NodeId}
use Rattle.wjs_base.specs.declared.values.Value.{Value as Numbered}
use Rattle.wjs_base.specs.Text.{Table, Grows}
use Rattle.wjs_store.specs.Meaning.{Meaning}
use Rattle.wjs_tree.specs.declared.node.Node.{Node}
use Rattle.wjs_by_content.specs.Tables.{value_in}
use Rattle.wjs_by_content.specs.Values.{Value}
use Rattle.wjs_meaning.specs.Deeds.{St, Env, Goal, AtExpr, Completion, Gives, Act, Ret, Eval, Sub, Outcome, Ends, Spent, interp, then_do, then_value, give}
use Rattle.wjs_meaning.specs.Expressions.{expr_of}
use Rattle.wjs_meaning.specs.Programs.{eval, entry}
use Rattle.wjs_meaning.specs.Reading.{node_in}
use Rattle.wjs_model.specs.declared.config.Config.{Config}
use Rattle.wjs_model.specs.declared.frame.Activation.{Activation as Frame}
use Rattle.wjs_model.specs.declared.operand.Operand.{Operand}
use Rattle.wjs_model.specs.Contents.{operand_in}
use Rattle.wjs_model.specs.Operands.{with_operand}
use Rattle.wjs_model.specs.Soundness.{Base}
use Rattle.wjs_frames.specs.declared.part.Part.{Part}
use Rattle.wjs_frames.specs.Following.{Later}
use Rattle.wjs_frames.specs.Operands.{IsOperand}
use Rattle.wjs_frames.specs.Parts.{goal_of, env_in, node_among}
use Rattle.wjs_frames.specs.Shortening.{Shortens}
use Rattle.wjs_frames.proofs.Keeping.{grows_same}
use Rattle.wjs_frames.proofs.OperandLines.{expr_is}
use Rattle.wjs_frames.proofs.Paying.{step_paid}
use Rattle.wjs_frames.proofs.Shorter.{shorten_same, shorten_sub, shorten_ended, follows_shorter}
use Rattle.wjs_frames.proofs.Sounding.{there_framed, base_framed}
use Rattle.wjs_heap_steps.specs.Peeking.{Peeks}
use Rattle.wjs_heap_steps.proofs.Composing.{by_follows}
use Rattle.wjs_quick.specs.Coming.{GoalYields, Yields, YieldsWith, GoalComes, Comes, EndsWith}

pub one_less : (n : ℕ) → 0 < n → n ≡ suc (n - 1)
one_less n some = omega (arith, some)

none_below : (n : ℕ) → 0 ≤ suc n
none_below n = omega arith

then_twice : (o : Outcome) (one two : Completion → St → ℕ → Outcome) → then_do (then_do o one) two ≡ then_do o (λ c st n. then_do (one c st n) two)
then_twice (Ends c st n) one two = refl
then_twice (Spent st) one two = refl

pub then_ends : (o : Outcome) → then_do o (λ c st n. Ends c st n) ≡ o
then_ends (Ends c st n) = refl
then_ends (Spent st) = refl

-- a goal within nested deeds
pub shorten_goal : (goal : Goal) (env : Env) (k go : Completion → Act) → Shortens (Sub (Eval goal env k) go) (Eval goal env (λ e. Sub (k e) go))
shorten_goal goal env k go = record { same = λ st n. then_twice (eval goal env st n) _ _; fewer = λ st c. none_below _ }

-- a goal that is all of them
pub shorten_last : (goal : Goal) (env : Env) (go : Completion → Act) → Shortens (Sub (Eval goal env Ret) go) (Eval goal env go)
shorten_last goal env go = record { same = λ st n. ap (λ o. then_do o (λ e st' n'. interp eval (go e) st' n')) (then_ends (eval goal env st n)); fewer = λ st c. none_below _ }

-- deeds that are an end
pub ends_as : (act : Act) (v : Value) → act ≡ give v → Shortens act (give v)
ends_as act v e = subst (λ a. Shortens a (give v)) (sym e) (shorten_same (give v))

module _ {S : Type 0} (meaning : S → Meaning) where
  abbrev with_left : Config S → ℕ → Config S
  with_left c left = record c { left = left }

  -- all but the steps that are left stays
  pub later_left : (c : Config S) (left : ℕ) → Base meaning c → Later meaning c (record c { left = left })
  later_left c left b = record {
    state = refl;
    units = refl;
    global = refl;
    owner = refl;
    base = base_framed meaning c c.frames left c.state b b.frames;
    frames = λ f k. there_framed meaning c c.frames left c.state f k;
    values = λ v k. k;
    objects = λ o k. k;
    names = λ name k. k;
    references = λ r k. k;
    completions = λ e k. k;
    items = λ held k. k;
    worlds = λ w k. k;
    arena = λ o e k. k;
    texts = grows_same c.heap.texts;
  }

  module _ (c : Config S) (f : Frame) where
    -- ---- values that are told by content

    -- the step is taken, and what follows it gives the value
    pub yields_entered : (goal : Goal) (v : Table → Value) (before after : ℕ) → 0 < before → Yields meaning (λ t env. entry goal env) v c f (before - 1) after → GoalYields meaning goal v c f before after
    yields_entered goal v before after some d = record {
      by = λ go later r h.
          let env = env_in meaning c later.heap.texts f in
          step_paid meaning goal env go (Sub (entry goal env) go) (with_left c before) later (before - 1) r (one_less before some) (λ st n. refl) (d.by go later r h);
    }

    -- the value of a goal, and then what follows it
    pub yields_then : (goal : Goal) (more : Table → Env → Value → Act) (v w : Table → Value) (before mid after : ℕ) → GoalYields meaning goal v c f before mid → Yields meaning (λ t env. more t env (v t)) w c f mid after → Yields meaning (λ t env. Eval goal env (then_value (more t env))) w c f before after
    yields_then goal more v w before mid after one two = record {
      by = λ go later r h.
          let t = later.heap.texts in
          let env = env_in meaning c t f in
          let next : Completion → Act = λ e. Sub (then_value (more t env) e) go in
          follows_shorter meaning (Sub (Eval goal env (then_value (more t env))) go) (Eval goal env next) (with_left c before) later r (shorten_goal goal env (then_value (more t env)) go) (one.by next later r (two.by go later r h));
    }

    -- deeds that come to others where the texts have grown
    pub yields_shorter : (long short : Table → Env → Act) (v : Table → Value) (before after : ℕ) → ((t : Table) → Grows c.heap.texts t → Shortens (long t (env_in meaning c t f)) (short t (env_in meaning c t f))) → Yields meaning short v c f before after → Yields meaning long v c f before after
    yields_shorter long short v before after h d = by_follows meaning (λ t go. Sub (long t (env_in meaning c t f)) go) (λ t. Gives (v t)) (with_left c before) (with_left c after) (λ go later g k.
        let t = later.heap.texts in
        let env = env_in meaning c t f in
        follows_shorter meaning (Sub (long t env) go) (Sub (short t env) go) (with_left c before) later (Ok tt) (shorten_sub (long t env) (short t env) go (h t g)) (d.by go later (Ok tt) k))

    pub yields_as : (one two : Table → Env → Act) (v : Table → Value) (before after : ℕ) → ((t : Table) → Grows c.heap.texts t → two t (env_in meaning c t f) ≡ one t (env_in meaning c t f)) → Yields meaning one v c f before after → Yields meaning two v c f before after
    yields_as one two v before after e d = yields_shorter two one v before after (λ t g. let done = one t (env_in meaning c t f) in subst (λ a. Shortens a done) (sym (e t g)) (shorten_same done)) d

    -- deeds that end with the value
    pub yields_ended : (act : Table → Env → Act) (v : Table → Value) (left : ℕ) → YieldsWith act v c → Yields meaning act v c f left left
    yields_ended act v left ends = by_follows meaning (λ t go. Sub (act t (env_in meaning c t f)) go) (λ t. Gives (v t)) (with_left c left) (with_left c left) (λ go later g k.
        let t = later.heap.texts in
        let env = env_in meaning c t f in
        follows_shorter meaning (Sub (act t env) go) (go (Gives (v t))) (with_left c left) later (Ok tt) (shorten_ended (act t env) (Gives (v t)) go (ends t g env)) k)

    -- ---- values that are known by number

    pub comes_entered : (goal : Goal) (v : Numbered) (before after : ℕ) → 0 < before → Comes meaning (λ t env. entry goal env) v c f (before - 1) after → GoalComes meaning goal v c f before after
    comes_entered goal v before after some d = yields_entered goal (λ t. value_in t v) before after some d

    -- an operand that is had at once
    pub comes_operand : (p : Part) (o : Operand) (v : Numbered) (before : ℕ) → 0 < before → IsOperand meaning c f p o → Peeks meaning (λ t. with_operand (operand_in t o) (env_in meaning c t f)) (λ t. Gives (value_in t v)) c → GoalComes meaning (goal_of p) v c f before (before - 1)
    comes_operand p o v before some is d = record {
      by = λ go later r h.
          let t = later.heap.texts in
          let env = env_in meaning c t f in
          step_paid meaning (goal_of p) env go (with_operand (operand_in t o) env go) (with_left c before) later (before - 1) r (one_less before some) (λ st n. is.does t go st n) ((d (before - 1)).by go later r h);
    }

    -- a literal, or `this`
    pub comes_literal : (e : NodeId) (n : Node) (v : Numbered) (before : ℕ) → 0 < before → node_among c.units.items f.tree e ≡ n → ((t : Table) → expr_of e.0 (node_in t n) (env_in meaning c t f) ≡ give (value_in t v)) → GoalComes meaning (AtExpr e.0) v c f before (before - 1)
    comes_literal e n v before some is gives =
        let left = before - 1 in
        comes_entered (AtExpr e.0) v before left some
        (yields_as (λ t env. give (value_in t v)) (λ t env. entry (AtExpr e.0) env) (λ t. value_in t v) left left (λ t more. expr_is meaning c f e n t is ∙ gives t)
        (yields_ended (λ t env. give (value_in t v)) (λ t. value_in t v) left (λ t more env. shorten_same (give (value_in t v)))))

    pub comes_then : (goal : Goal) (more : Table → Env → Value → Act) (v w : Numbered) (before mid after : ℕ) → GoalComes meaning goal v c f before mid → Comes meaning (λ t env. more t env (value_in t v)) w c f mid after → Comes meaning (λ t env. Eval goal env (then_value (more t env))) w c f before after
    comes_then goal more v w before mid after one two = yields_then goal more (λ t. value_in t v) (λ t. value_in t w) before mid after one two

    -- a goal that is all of them
    pub comes_last : (goal : Goal) (v : Numbered) (before after : ℕ) → GoalComes meaning goal v c f before after → Comes meaning (λ t env. Eval goal env Ret) v c f before after
    comes_last goal v before after d = record {
      by = λ go later r h.
          let env = env_in meaning c later.heap.texts f in
          follows_shorter meaning (Sub (Eval goal env Ret) go) (Eval goal env go) (with_left c before) later r (shorten_last goal env go) (d.by go later r h);
    }

    pub comes_shorter : (long short : Table → Env → Act) (v : Numbered) (before after : ℕ) → ((t : Table) → Grows c.heap.texts t → Shortens (long t (env_in meaning c t f)) (short t (env_in meaning c t f))) → Comes meaning short v c f before after → Comes meaning long v c f before after
    comes_shorter long short v before after h d = yields_shorter long short (λ t. value_in t v) before after h d

    pub comes_as : (one two : Table → Env → Act) (v : Numbered) (before after : ℕ) → ((t : Table) → Grows c.heap.texts t → two t (env_in meaning c t f) ≡ one t (env_in meaning c t f)) → Comes meaning one v c f before after → Comes meaning two v c f before after
    comes_as one two v before after e d = yields_as one two (λ t. value_in t v) before after e d

    pub comes_ended : (act : Table → Env → Act) (v : Numbered) (left : ℕ) → EndsWith act v c → Comes meaning act v c f left left
    comes_ended act v left ends = yields_ended act (λ t. value_in t v) left ends

    -- deeds that find the value, and then an end with it
    pub comes_found : (deeds : Table → Env → (Value → Act) → Act) (v : Numbered) (left : ℕ) → ((t : Table) (env : Env) (go : Completion → Act) → Shortens (Sub (deeds t env give) go) (deeds t env (λ x. go (Gives x)))) → Peeks meaning (λ t. deeds t (env_in meaning c t f)) (λ t. value_in t v) c → Comes meaning (λ t env. deeds t env give) v c f left left
    comes_found deeds v left short d = record {
      by = λ go later r h.
          let t = later.heap.texts in
          let env = env_in meaning c t f in
          follows_shorter meaning (Sub (deeds t env give) go) (deeds t env (λ x. go (Gives x))) (with_left c left) later r (short t env go) ((d left).by (λ x. go (Gives x)) later r h);
    }
