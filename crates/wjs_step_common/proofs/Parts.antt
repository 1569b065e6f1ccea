-- The parts of lists that stand in nodes.
use Rattle.std.proofs.Common.{◌≡◌, ℕ, zero, suc, ◌+◌, List, [], ◌∷◌, None, Some, refl, sym, ap, ◌∙◌, drop, arith}
use Rattle.std.specs.Prelude.{map as each, slice_get}
use Rattle.wjs_base.specs.Text.{Table}
use Rattle.wjs_base.specs.declared.ids.NodeId.{NodeId}
use Rattle.wjs_tree.specs.declared.node.Node.{Node as NumberedNode}
use Rattle.wjs_tree.specs.declared.node.Node.TheVariants as nodes
use Rattle.wjs_meaning.specs.Reading.{node_in}
use Rattle.wjs_meaning.specs.Deeds.{Env, Ret, Eval, AtStmt, Normal}
use Rattle.wjs_meaning.specs.Statements.{block_from}
use Rattle.wjs_model.specs.declared.point.StmtPoint.TheVariants as stmt
use Rattle.wjs_model.specs.Contents.{Holding}
use Rattle.wjs_model.specs.Lists.{block_items}
use Rattle.wjs_model.specs.Waiting.{after_stmt}
use Rattle.wjs_step_common.specs.Lists.{statements_in}

-- the part of a number, and those behind it
pub drop_at : {X : Type 0} (xs : List X) (i : ℕ) (x : X) → slice_get xs i ≡ Some x → drop i xs ≡ x ∷ drop (suc i) xs
drop_at [] i x e = absurd (cc)
drop_at (y ∷ xs) zero x e = let q : y ≡ x = cc in ap (λ z. z ∷ xs) q
drop_at (y ∷ xs) (suc i) x e = drop_at xs i x e

drop_past : {X : Type 0} (xs : List X) (i : ℕ) → slice_get xs i ≡ None → drop i xs ≡ []
drop_past [] zero e = refl
drop_past [] (suc i) e = refl
drop_past (y ∷ xs) zero e = absurd (cc)
drop_past (y ∷ xs) (suc i) e = drop_past xs i e

pub drop_each : {X Y : Type 0} (f : X → Y) (xs : List X) (i : ℕ) → drop i (each f xs) ≡ each f (drop i xs)
drop_each f xs zero = refl
drop_each f [] (suc i) = refl
drop_each f (x ∷ xs) (suc i) = drop_each f xs i

pub each_at : {X Y : Type 0} (f : X → Y) (xs : List X) (i : ℕ) (x : X) → slice_get xs i ≡ Some x → drop i (each f xs) ≡ f x ∷ drop (suc i) (each f xs)
each_at f xs i x e = drop_each f xs i ∙ ap (each f) (drop_at xs i x e) ∙ sym (ap (λ l. f x ∷ l) (drop_each f xs (suc i)))

pub each_past : {X Y : Type 0} (f : X → Y) (xs : List X) (i : ℕ) → slice_get xs i ≡ None → drop i (each f xs) ≡ []
each_past f xs i e = drop_each f xs i ∙ ap (each f) (drop_past xs i e)

module _ (t : Table) (here : ℕ) (held : Holding) (env : Env) where
  block_goes : (n : NumberedNode) (at : ℕ) (s : NodeId) → slice_get (statements_in n) at ≡ Some s
      → Eval (AtStmt s.0) env (after_stmt (stmt.BlockStatement (suc at)) here (node_in t n) held env) ≡ block_from (drop at (block_items (node_in t n))) env
  block_goes (nodes.Block ss) at s e = ap (λ l. block_from l env) (sym (each_at (λ (id : NodeId). id.0) ss at s e))
  block_goes _ at s e = absurd (cc)

  -- the next statement is entered
  pub block_at : (n : NumberedNode) (at next : ℕ) (s : NodeId) → next ≡ at + 1 → slice_get (statements_in n) at ≡ Some s
      → Eval (AtStmt s.0) env (after_stmt (stmt.BlockStatement next) here (node_in t n) held env) ≡ block_from (drop at (block_items (node_in t n))) env
  block_at n at next s en e =
      let k : next ≡ suc at = omega (arith, en) in
      ap (λ m. Eval (AtStmt s.0) env (after_stmt (stmt.BlockStatement m) here (node_in t n) held env)) k
      ∙ block_goes n at s e

  -- there is none
  pub block_end : (n : NumberedNode) (at : ℕ) → slice_get (statements_in n) at ≡ None → Ret Normal ≡ block_from (drop at (block_items (node_in t n))) env
  block_end (nodes.Block ss) at e = ap (λ l. block_from l env) (sym (each_past (λ (id : NodeId). id.0) ss at e))
  block_end _ zero e = refl
  block_end _ (suc at) e = refl
