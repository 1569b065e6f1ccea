-- Loops: their iterations, one after the other.
use Rattle.std.proofs.Common.{◌≡◌, ℕ, ◌-◌, ◌<◌, [], Vec, Global, sym, ap, ◌∙◌, subst, true, false, Bool}
use Rattle.std.specs.Prelude.{Option, None, Some, IfSome}
use Rattle.wjs_base.specs.declared.ids.NodeId.{NodeId}
use Rattle.wjs_base.specs.Text.{Table, Grows}
use Rattle.wjs_by_content.specs.Conversions.{to_boolean}
use Rattle.wjs_by_content.specs.Values.{Value}
use Rattle.wjs_store.specs.Meaning.{Meaning}
use Rattle.wjs_tree.specs.declared.node.Node.{Node}
use Rattle.wjs_tree.specs.declared.node.Node.TheVariants as nodes
use Rattle.wjs_tree.specs.declared.node.ForInit.{ForInit}
use Rattle.wjs_meaning.specs.Deeds.{Env, Again, AtExpr, AtStmt, Normal, Act, Ret, Eval, Sub, then_value, interp}
use Rattle.wjs_meaning.specs.Loops.{do_test, for_started, loop_body, loop_test}
use Rattle.wjs_meaning.specs.Programs.{eval, entry}
use Rattle.wjs_meaning.specs.Reading.{node_in, number}
use Rattle.wjs_meaning.specs.Statements.{again_of}
use Rattle.wjs_model.specs.declared.config.Config.{Config}
use Rattle.wjs_model.specs.declared.frame.Activation.{Activation as Frame}
use Rattle.wjs_model.specs.declared.frame.Completion.{Completion as Said}
use Rattle.wjs_model.specs.declared.loaded.LoadedProgram.{LoadedProgram as Program}
use Rattle.wjs_model.specs.declared.point.Point.TheVariants as points
use Rattle.wjs_model.specs.declared.point.StmtPoint.TheVariants as stmt
use Rattle.wjs_model.specs.Contents.{completion_in}
use Rattle.wjs_model.specs.Lists.{if_for}
use Rattle.wjs_model.specs.Soundness.{HasCompletion}
use Rattle.wjs_frames.specs.Following.{Later}
use Rattle.wjs_frames.specs.Parts.{env_in, node_among, then_at}
use Rattle.wjs_frames.specs.Shortening.{Shortens}
use Rattle.wjs_frames.proofs.Paying.{step_paid}
use Rattle.wjs_frames.proofs.Places.{node_same}
use Rattle.wjs_frames.proofs.Shorter.{shorten_ended}
use Rattle.wjs_quick.proofs.Coming.{one_less, shorten_last}
use Rattle.wjs_effects.proofs.Leaving.{shorten_as}
use Rattle.wjs_stopping.specs.Waiting.{at_node}
use Rattle.wjs_stopping.specs.Evaluating.{Leaves}
use Rattle.wjs_direct_lines.specs.Deeds.{goal_here, line_here}
use Rattle.wjs_direct.specs.Rounds.{HasRound, Iterates, round_left, next_in}
use Rattle.wjs_direct_lines.proofs.Nesting.{leaves_shorter}

module _ {S : Type 0} (meaning : S → Meaning) where
  -- ---- iterations

  -- one that is at its end, and so is the loop
  pub round_ended : (c : Config S) (f : Frame) (node : NodeId) (act : Table → Env → Act) (e : Said) → ((t : Table) → Grows c.heap.texts t → act t (env_in meaning c t f) ≡ Ret (completion_in t e))
      → Leaves meaning (line_here meaning c f act) (round_left meaning c f node (Some e)) c c
  round_ended c f node act e is = leaves_shorter meaning _ _ c (λ t more go. shorten_ended _ (completion_in t e) go (shorten_as _ _ (is t more)))

  -- one that is the next iteration
  pub round_due : (c : Config S) (f : Frame) (node : NodeId) (act : Table → Env → Act) → ((t : Table) → Grows c.heap.texts t → act t (env_in meaning c t f) ≡ Eval (Again node.0) (env_in meaning c t f) Ret)
      → Leaves meaning (line_here meaning c f act) (round_left meaning c f node None) c c
  round_due c f node act is = leaves_shorter meaning _ _ c (λ t more go.
      let env = env_in meaning c t f in
      subst (λ (x : Act). Shortens (Sub x go) (Eval (Again node.0) env go)) (sym (is t more)) (shorten_last (Again node.0) env go))

  -- after the update, or the test of a `do`
  pub round_next : (c : Config S) (f : Frame) (node : NodeId) (act : Table → Env → Act) (ended : Option Said) → ((t : Table) → Grows c.heap.texts t → (env : Env) → act t env ≡ next_in t node.0 env ended)
      → Leaves meaning (line_here meaning c f act) (round_left meaning c f node ended) c c
  round_next c f node act None is = round_due c f node act (λ t more. is t more (env_in meaning c t f))
  round_next c f node act (Some e) is = round_ended c f node act e (λ t more. is t more (env_in meaning c t f))

  -- the step of one is taken
  pub round_begun : (c : Config S) (f : Frame) (node : NodeId) (round : Env → Act) → 0 < c.left → Iterates meaning c f node round
      → Leaves meaning (goal_here meaning c f (Again node.0)) (line_here meaning (record c { left = c.left - 1 }) f (λ t env. round env)) c (record c { left = c.left - 1 })
  round_begun c f node round some is = record {
    by = λ go later r h.
        let t = later.heap.texts in
        let env = env_in meaning c t f in
        let same : entry (Again node.0) env ≡ round env = ap (λ n. again_of node.0 n env) (node_same t c.units.items f.tree node) ∙ is.again t env in
        step_paid meaning (Again node.0) env go (Sub (round env) go) c later (c.left - 1) r (one_less c.left some)
        (λ st n. ap (λ (a : Act). interp eval (Sub a go) st n) same) h;
  }

  -- they are what they were
  pub round_later : (old new : Config S) (f : Frame) (node : NodeId) (round : Env → Act) → Later meaning old new → Iterates meaning old f node round → Iterates meaning new f node round
  round_later old new f node round l is = record {
    again = subst (λ (us : Vec Program Global). (t : Table) (env : Env) → again_of node.0 (node_in t (node_among us.items f.tree node)) env ≡ round env) (sym l.units) is.again;
  }

  -- by the form of the node
  pub round_is : (c : Config S) (f : Frame) (node : NodeId) (n : Node) (round : Env → Act) → ((t : Table) (env : Env) → again_of node.0 (node_in t n) env ≡ round env) → node_among c.units.items f.tree node ≡ n → Iterates meaning c f node round
  round_is c f node n round does e = record { again = λ t env. ap (λ (x : Node). again_of node.0 (node_in t x) env) e ∙ does t env }

  -- ---- parts that stand there

  -- where a `for` waits for its first expression
  pub for_first_then : (old mid : Config S) (f : Frame) (node : NodeId) (first : ForInit) (test update : Option NodeId) (body : NodeId) → node_among old.units.items f.tree node ≡ nodes.For first test update body → Later meaning old mid
      → (t : Table) (env : Env) → then_at meaning mid (at_node f node []) (points.Stmt stmt.ForFirst) t env ≡ then_value (for_started node.0 (number test) (number update) body.0 env)
  for_first_then old mid f node first test update body is l t env =
      ap (λ (us : Vec Program Global). then_value (λ v. if_for (node_in t (node_among us.items f.tree node)) (λ x u s. for_started node.0 x u s env v))) l.units
      ∙ ap (λ (n : Node). then_value (λ v. if_for (node_in t n) (λ x u s. for_started node.0 x u s env v))) is

-- ---- lines

-- after the test
pub test_holds : (here : ℕ) (u : Option ℕ) (s : ℕ) (env : Env) (v : Value) → to_boolean v ≡ true → loop_test here u s env v ≡ Eval (AtStmt s) env (loop_body here u env)
test_holds here u s env v e = ap (λ (b : Bool). elim b [ true ↦ Eval (AtStmt s) env (loop_body here u env) | false ↦ Ret Normal ]) e

pub test_fails : (here : ℕ) (u : Option ℕ) (s : ℕ) (env : Env) (v : Value) → to_boolean v ≡ false → loop_test here u s env v ≡ Ret Normal
test_fails here u s env v e = ap (λ (b : Bool). elim b [ true ↦ Eval (AtStmt s) env (loop_body here u env) | false ↦ Ret Normal ]) e

-- what is asked behind the body of a `do`
abbrev pub asks_test : ℕ → ℕ → Env → Act
asks_test here e env = Eval (AtExpr e) env (then_value (do_test here env))

-- what an update ended with is there
pub round_there : {S : Type 0} (c : Config S) (ended : Option Said) (e : Said) → IfSome ended (λ x. x ≡ e) → HasCompletion c e → HasRound c ended
round_there c None e is h = tt
round_there c (Some x) e is h = subst (λ (y : Said). HasCompletion c y) (sym is) h
