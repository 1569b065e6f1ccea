-- The lines of array and object literals from one part to the next (ECMA-262, 3rd edition, sections 11.1.4 and 11.1.5).
use Rattle.std.proofs.Common.{◌≡◌, ℕ, zero, suc, ◌+◌, List, [], ◌∷◌, Option, None, Some, length, refl, sym, ap, ◌∙◌, subst, drop, add-one, arith}
use Rattle.std.specs.Prelude.{map as each, All, slice_get}
use Rattle.std.proofs.lemmas.List.Elements.{All-head, All-tail}
use Rattle.wjs_base.specs.declared.ids.ObjId.{ObjId}
use Rattle.wjs_base.specs.Text.{Table}
use Rattle.wjs_base.specs.declared.ids.NodeId.{NodeId}
use Rattle.wjs_tree.specs.declared.node.Property.{Property}
use Rattle.wjs_tree.specs.declared.node.Node.{Node}
use Rattle.wjs_tree.specs.declared.node.Node.TheVariants as nodes
use Rattle.wjs_by_content.specs.Values.{Value, Object}
use Rattle.wjs_by_content.specs.Names.{slot, index_name}
use Rattle.wjs_meaning.specs.Reading.{node_in, number, key_in, pair_in}
use Rattle.wjs_meaning.specs.Deeds.{Env, Ret, Normal, Eval, Do, Write, AtExpr, give, then_value}
use Rattle.wjs_meaning.specs.Expressions.{array_from, key_name, object_from}
use Rattle.wjs_model.specs.declared.loaded.LoadedProgram.{LoadedProgram as Program}
use Rattle.wjs_model.specs.Contents.{Holding}
use Rattle.wjs_model.specs.Lists.{items_of, pairs_of}
use Rattle.wjs_model.specs.Texts.{KnowsKey, KnowsNode, KnowsUnit}
use Rattle.wjs_model.specs.Waiting.{array_rest, array_item, object_rest, object_item}
use Rattle.wjs_frames.specs.Parts.{node_among}
use Rattle.wjs_step_common.proofs.Parts.{each_at, each_past}
use Rattle.wjs_frames.proofs.Places.{node_known}
use Rattle.wjs_calls.proofs.Elements.{length-each, none_left}
use Rattle.wjs_literals.specs.Parts.{items_in, properties_in}
use Rattle.wjs_literals.proofs.Lists.{items_same, items_at, pairs_at, pairs_past}

-- ---- arrays

module _ (t : Table) (n : Node) (at : ℕ) where
  -- the rest of the items by content
  pub items_rest : (o : ObjId) (env : Env) → array_from (drop at (each number (items_in n))) at o env ≡ array_from (drop at (items_of (node_in t n))) at o env
  items_rest o env = sym (ap (λ l. array_from (drop at l) at o env) (items_same t n))

  -- an item comes next
  pub item_next : (i : ℕ) (e : NodeId) (o : ObjId) (env : Env) → i ≡ at → slice_get (items_in n) at ≡ Some (Some e) →
      Eval (AtExpr e.0) env (then_value (λ v. Do (Write env.world (slot o (index_name i)) (Some v)) (λ done. array_from (drop (i + 1) (items_of (node_in t n))) (i + 1) o env))) ≡ array_from (drop at (items_of (node_in t n))) at o env
  item_next i e o env ei h =
      let items = items_of (node_in t n) in
      ap (λ k. array_from (Some e.0 ∷ drop (k + 1) items) k o env) ei
      ∙ sym (ap (λ l. array_from l at o env) (items_at t n at e h) ∙ ap (λ j. array_from (Some e.0 ∷ drop j items) at o env) (sym (add-one at)))

  -- none comes after the last
  pub none_after : (i : ℕ) → length (items_in n) ≡ i + 1 → drop (i + 1) (items_of (node_in t n)) ≡ []
  none_after i last = ap (drop (i + 1)) (items_same t n) ∙ none_left (each number (items_in n)) (i + 1) (omega (arith, length-each number (items_in n), last))

  -- the last comes next, and then the length
  pub last_next : (i : ℕ) (e : NodeId) (o : ObjId) (env : Env) → i ≡ at → slice_get (items_in n) at ≡ Some (Some e) → length (items_in n) ≡ i + 1 →
      Eval (AtExpr e.0) env (then_value (λ v. Do (Write env.world (slot o (index_name i)) (Some v)) (λ done. array_from [] (i + 1) o env))) ≡ array_from (drop at (items_of (node_in t n))) at o env
  last_next i e o env ei h last =
      ap (λ l. Eval (AtExpr e.0) env (then_value (λ v. Do (Write env.world (slot o (index_name i)) (Some v)) (λ done. array_from l (i + 1) o env)))) (sym (none_after i last))
      ∙ item_next i e o env ei h

  -- an item is entered
  pub array_enters : (i : ℕ) (e : NodeId) (held : Holding) (env : Env) (o : ObjId) → i ≡ at → held.value ≡ Object o → slice_get (items_in n) at ≡ Some (Some e) →
      Eval (AtExpr e.0) env (then_value (array_item (items_of (node_in t n)) i held env)) ≡ array_from (drop at (items_of (node_in t n))) at o env
  array_enters i e held env o ei eh h =
      ap (λ x. Eval (AtExpr e.0) env (then_value (array_rest x (drop (i + 1) (items_of (node_in t n))) i env))) eh ∙ item_next i e o env ei h

-- a hole is left out
pub hole_skipped : (items : List (Option NodeId)) (at : ℕ) (o : ObjId) (env : Env) → slice_get items at ≡ Some None → array_from (drop at (each number items)) at o env ≡ array_from (drop (at + 1) (each number items)) (at + 1) o env
hole_skipped items at o env h = ap (λ l. array_from l at o env) (each_at number items at None h) ∙ ap (λ j. array_from (drop j (each number items)) (at + 1) o env) (sym (add-one at))

-- none is left
pub items_end : (items : List (Option NodeId)) (at : ℕ) (o : ObjId) (env : Env) → slice_get items at ≡ None → array_from (drop at (each number items)) at o env ≡ array_from [] at o env
items_end items at o env h = ap (λ l. array_from l at o env) (each_past number items at h)

-- an item is written to the array that is held
pub array_writes : (items : List (Option ℕ)) (at : ℕ) (held : Holding) (env : Env) (o : ObjId) (v : Value) → held.value ≡ Object o →
    array_item items at held env v ≡ Do (Write env.world (slot o (index_name at)) (Some v)) (λ done. array_from (drop (at + 1) items) (at + 1) o env)
array_writes items at held env o v eh = ap (λ x. array_rest x (drop (at + 1) items) at env v) eh

-- ---- objects

module _ (t : Table) (n : Node) (at : ℕ) where
  -- a property comes next
  pub property_next : (p : Property) (o : ObjId) (env : Env) → slice_get (properties_in n) at ≡ Some p →
      Eval (AtExpr p.value.0) env (then_value (λ v. Do (Write env.world (slot o (key_name (key_in t p.key))) (Some v)) (λ done. object_from (drop (at + 1) (pairs_of (node_in t n))) o env))) ≡ object_from (drop at (pairs_of (node_in t n))) o env
  property_next p o env h =
      let pairs = pairs_of (node_in t n) in
      sym (ap (λ l. object_from l o env) (pairs_at t n at p h) ∙ ap (λ j. object_from (pair_in t p ∷ drop j pairs) o env) (sym (add-one at)))

  -- the value of a property is entered
  pub object_enters : (p : Property) (held : Holding) (env : Env) (o : ObjId) → held.value ≡ Object o → slice_get (properties_in n) at ≡ Some p →
      Eval (AtExpr p.value.0) env (then_value (object_item (pairs_of (node_in t n)) at held env)) ≡ object_from (drop at (pairs_of (node_in t n))) o env
  object_enters p held env o eh h =
      let left = pairs_at t n at p h in
      ap (λ x. Eval (AtExpr p.value.0) env (then_value (object_rest x (drop at (pairs_of (node_in t n))) env))) eh
      ∙ ap (λ l. Eval (AtExpr p.value.0) env (then_value (object_rest (Object o) l env))) left
      ∙ sym (ap (λ l. object_from l o env) left)

  -- the value is written to the object that is held
  pub object_writes : (p : Property) (held : Holding) (env : Env) (o : ObjId) (v : Value) → held.value ≡ Object o → slice_get (properties_in n) at ≡ Some p → object_item (pairs_of (node_in t n)) at held env v ≡
      Do (Write env.world (slot o (key_name (key_in t p.key))) (Some v)) (λ done. object_from (drop (at + 1) (pairs_of (node_in t n))) o env)
  object_writes p held env o v eh h =
      let pairs = pairs_of (node_in t n) in
      ap (λ x. object_rest x (drop at pairs) env v) eh
      ∙ ap (λ l. object_rest (Object o) l env v) (pairs_at t n at p h)
      ∙ ap (λ j. Do (Write env.world (slot o (key_name (key_in t p.key))) (Some v)) (λ done. object_from (drop j pairs) o env)) (sym (add-one at))

  -- none is left
  pub object_ends : (o : ObjId) (env : Env) → slice_get (properties_in n) at ≡ None → object_from (drop at (pairs_of (node_in t n))) o env ≡ give (Object o)
  object_ends o env h = ap (λ l. object_from l o env) (pairs_past t n at h)

  -- a property that is not there gets nothing
  pub object_lacks : (held : Holding) (env : Env) (o : ObjId) (v : Value) → held.value ≡ Object o → slice_get (properties_in n) at ≡ None → object_item (pairs_of (node_in t n)) at held env v ≡ Ret Normal
  object_lacks held env o v eh h = ap (λ x. object_rest x (drop at (pairs_of (node_in t n))) env v) eh ∙ ap (λ l. object_rest (Object o) l env v) (pairs_past t n at h)

-- the texts of a key are there
key_at : (t : Table) (properties : List Property) (k : ℕ) (p : Property) → All (λ (q : Property). KnowsKey t q.key) properties → slice_get properties k ≡ Some p → KnowsKey t p.key
key_at t [] k p h e = absurd (cc)
key_at t (q ∷ properties) zero p h e = let same : q ≡ p = cc in subst (λ (x : Property). KnowsKey t x.key) same (All-head (λ (x : Property). KnowsKey t x.key) q properties h)
key_at t (q ∷ properties) (suc k) p h e = key_at t properties k p (All-tail (λ (x : Property). KnowsKey t x.key) q properties h) e

key_of : (t : Table) (n : Node) (k : ℕ) (p : Property) → KnowsNode t n → slice_get (properties_in n) k ≡ Some p → KnowsKey t p.key
key_of t (nodes.ObjectLit properties comma) k p h e = key_at t properties k p h e
key_of t _ k p h e = absurd (cc)

pub key_known : (t : Table) (units : List Program) (tree : ℕ) (id : NodeId) (k : ℕ) (p : Property) → All (KnowsUnit t) units → slice_get (properties_in (node_among units tree id)) k ≡ Some p → KnowsKey t p.key
key_known t units tree id k p h e = key_of t (node_among units tree id) k p (node_known t units tree id (node_among units tree id) h refl) e
