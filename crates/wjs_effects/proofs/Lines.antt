-- The lines of statements, targets and `++`, at the nodes that stand there.
use Rattle.std.proofs.Common.{◌≡◌, Bool, true, false, Option, List, [], ◌∷◌, None, Some, Ok, ℕ, suc, ◌<◌, lit<, length, refl, sym, ap, ◌∙◌, subst, arith}
use Rattle.std.specs.Prelude.{map, slice_get}
use Rattle.wjs_base.specs.declared.ids.TextId.{TextId}
use Rattle.wjs_base.specs.Text.{Table}
use Rattle.wjs_store.specs.Meaning.{Meaning}
use Rattle.wjs_tree.specs.declared.node.Declarator.{Declarator}
use Rattle.wjs_base.specs.declared.ids.NodeId.{NodeId}
use Rattle.wjs_tree.specs.declared.node.Node.{Node}
use Rattle.wjs_tree.specs.declared.operators.UpdateOperator.{UpdateOperator}
use Rattle.wjs_scope.specs.Places.{declarator_names}
use Rattle.wjs_by_content.specs.Conversions.{to_boolean}
use Rattle.wjs_by_content.specs.Tables.{text_in}
use Rattle.wjs_by_content.specs.Values.{Whole, Value, Number}
use Rattle.wjs_meaning.specs.Deeds.{Env, AtStmt, AtTarget, Completion, Gives, Refers, Normal, Breaks, Continues, Returns, Throws, Reference, Act, Ret, Eval, then_normal, give}
use Rattle.wjs_meaning.specs.Expressions.{Fix, target_of, given, updated, update_value, update_number, update_store}
use Rattle.wjs_meaning.specs.Programs.{entry}
use Rattle.wjs_meaning.specs.Reading.{node_in, number, numbers, variable_in}
use Rattle.wjs_meaning.specs.References.{store}
use Rattle.wjs_meaning.specs.Statements.{stmt_of, block_from, vars_from, else_of, if_test}
use Rattle.wjs_model.specs.declared.config.Config.{Config}
use Rattle.wjs_model.specs.declared.frame.Activation.{Activation as Frame}
use Rattle.wjs_model.specs.Soundness.{HasLabel}
use Rattle.wjs_model.specs.Texts.{HasText}
use Rattle.wjs_frames.specs.Parts.{env_in, node_among}
use Rattle.wjs_frames.specs.Shortening.{Shortens}
use Rattle.wjs_frames.proofs.Places.{node_same}
use Rattle.wjs_step_common.proofs.Converting.{number_shortens}

module _ {S : Type 0} (meaning : S → Meaning) (c : Config S) (f : Frame) (id : NodeId) where
  pub stmt_is : (n : Node) (t : Table) → node_among c.units.items f.tree id ≡ n → entry (AtStmt id.0) (env_in meaning c t f) ≡ stmt_of id.0 (node_in t n) (env_in meaning c t f)
  stmt_is n t is = ap (λ node. stmt_of id.0 node (env_in meaning c t f)) (node_same t c.units.items f.tree id ∙ ap (node_in t) is)

  pub target_is : (n : Node) (t : Table) → node_among c.units.items f.tree id ≡ n → entry (AtTarget id.0) (env_in meaning c t f) ≡ target_of id.0 (node_in t n) (env_in meaning c t f)
  target_is n t is = ap (λ node. target_of id.0 node (env_in meaning c t f)) (node_same t c.units.items f.tree id ∙ ap (node_in t) is)

-- ---- statements

-- the label of a jump
pub label_there : {S : Type 0} (c : Config S) (label : Option TextId) → HasText c.heap.texts label → HasLabel c label
label_there c None h = tt
label_there c (Some id) h = h

two_more : (n : ℕ) → suc (suc n) ≡ 1 → ⊥
two_more n e = omega (arith, e)

-- a list of one
pub only_one : {T : Type 0} (l : List T) (x : T) → slice_get l 0 ≡ Some x → length l ≡ 1 → l ≡ x ∷ []
only_one [] x e one = absurd (cc)
only_one (y ∷ []) x e one = let same : y ≡ x = cc in ap (λ z. z ∷ []) same
only_one (y ∷ z ∷ l) x e one = absurd (two_more (length l) one)

-- a block of one statement
pub block_is : (l : List NodeId) (s : NodeId) (env : Env) → slice_get l 0 ≡ Some s → length l ≡ 1 → block_from (numbers l) env ≡ Eval (AtStmt s.0) env (then_normal (Ret Normal))
block_is l s env e one = ap (λ k. block_from (numbers k) env) (only_one l s e one)

-- its end is that of the statement
pub handed_on : (e : Completion) → then_normal (Ret Normal) e ≡ Ret e
handed_on (Gives v) = refl
handed_on (Refers r) = refl
handed_on Normal = refl
handed_on (Breaks label) = refl
handed_on (Continues label) = refl
handed_on (Returns v) = refl
handed_on (Throws v) = refl

module _ (s : ℕ) (other : Option ℕ) (env : Env) (v : Value) where
  pub if_yes : to_boolean v ≡ true → if_test s other env v ≡ Eval (AtStmt s) env Ret
  if_yes e = ap (λ (b : Bool). elim b [ true ↦ Eval (AtStmt s) env Ret | false ↦ else_of other env ]) e

  pub if_no : to_boolean v ≡ false → if_test s other env v ≡ else_of other env
  if_no e = ap (λ (b : Bool). elim b [ true ↦ Eval (AtStmt s) env Ret | false ↦ else_of other env ]) e

-- ---- `var`

module _ (l : List Declarator) (d : Declarator) (is : l ≡ d ∷ []) where
  pub var_named : 0 < length (declarator_names l)
  var_named = subst (λ (k : List Declarator). 0 < length (declarator_names k)) (sym is) (lit< tt)

  -- with an initialiser, and without one
  module _ (t : Table) (here : ℕ) (env : Env) where
    pub var_begins : (e : NodeId) → d.value ≡ Some e → vars_from here 0 (map (variable_in t) l) env ≡ vars_from here 0 ((text_in t d.name, Some e.0) ∷ []) env
    var_begins e v = ap (λ (k : List Declarator). vars_from here 0 (map (variable_in t) k) env) is ∙ ap (λ (o : Option NodeId). vars_from here 0 ((text_in t d.name, number o) ∷ []) env) v

    pub var_ends : d.value ≡ None → vars_from here 0 (map (variable_in t) l) env ≡ Ret Normal
    var_ends v = ap (λ (k : List Declarator). vars_from here 0 (map (variable_in t) k) env) is ∙ ap (λ (o : Option NodeId). vars_from here 0 ((text_in t d.name, number o) ∷ []) env) v

-- ---- `++` and `--`

-- a number that has a next one
pub update_stores : (fix : Fix) (op : UpdateOperator) (env : Env) (r : Reference) (x y told : Whole) → updated op x ≡ Ok y → told ≡ given fix x y → update_number fix op env r x ≡ store r (Number y) env (give (Number told))
update_stores fix op env r x y told e is = ap (λ next. update_store fix env r x next) e ∙ ap (λ (z : Whole). store r (Number y) env (give (Number z))) (sym is)

pub update_shortens : (fix : Fix) (op : UpdateOperator) (env : Env) (r : Reference) (x y told : Whole) → updated op x ≡ Ok y → told ≡ given fix x y → Shortens (update_value fix op env r (Number x)) (store r (Number y) env (give (Number told)))
update_shortens fix op env r x y told e is =
    subst (λ (a : Act). Shortens (update_value fix op env r (Number x)) a) (update_stores fix op env r x y told e is) (number_shortens (Number x) env (update_number fix op env r) refl)
