-- One row of a layer is put in or taken out.
use Rattle.std.proofs.Common.{◌≡◌, ℕ, true, false, cond, List, [], ◌∷◌, refl, ap, sym, ◌∙◌, subst, Option, Some, slice_get, set, zero, suc}
use Rattle.std.specs.Option.{option_and_then}
use Rattle.std.specs.Ordering.{eq_by_cmp}
use Rattle.std.specs.FinMap as map
use Rattle.wjs_base.specs.declared.ids.WorldId.{WorldId}
use Rattle.wjs_base.specs.declared.values.Slot.{Slot}
use Rattle.wjs_base.specs.Order.{slot_cmp, slot_total, slot_exact}
use Rattle.wjs_base.proofs.Booleans.{by_bool}
use Rattle.wjs_store.specs.Naming.{plain}
use Rattle.wjs_store.specs.State.{World, State, find_world, same_world, put}
use Rattle.wjs_store.specs.Reached.{IsReached}
use Rattle.wjs_store.proofs.Marks.{key_is}
use Rattle.wjs_store.proofs.Writes.{same_self, get_put, found_id}
use Rattle.wjs_layers.specs.declared.maps.Row.{Row}
use Rattle.wjs_layers.specs.declared.layer.Layer.{Layer}
use Rattle.wjs_layers.specs.Sparse.{now_of, read_of, mark_of, Keeps, AreKept, StandFor}
use Rattle.wjs_layers.specs.Look.{Puts}
use Rattle.wjs_layers.proofs.Full.{full_is}

-- layers that keep a reached state
pub stand_by : (layers : List Layer) (G : State plain) → IsReached G → AreKept layers G → StandFor layers G
stand_by layers G h k =
    let e = full_is layers G h k in
    record { full = e; sparse = record { reached = subst IsReached (sym e) h; kept = subst (AreKept layers) (sym e) k } }

-- ---- one world

module _ (r : Layer) (s : Slot) (o : Option Row) (x y : World plain) (k : Keeps r x) (p : Puts r s o x y) where
  row_here : (t : Slot) → eq_by_cmp slot_cmp t s ≡ true → map.get (put r.rows s o) t ≡ o
  row_here t e = get_put slot_total r.rows s o t ∙ ap (λ b. cond b o (map.get r.rows t)) e

  row_other : (t : Slot) → eq_by_cmp slot_cmp t s ≡ false → map.get (put r.rows s o) t ≡ map.get r.rows t
  row_other t e = get_put slot_total r.rows s o t ∙ ap (λ b. cond b o (map.get r.rows t)) e

  -- what f gives of the rows is what the world has
  read_out : {V : Type 0} (f : Row → Option V) (a b : Slot → Option V) (t : Slot) → a s ≡ option_and_then f o → (eq_by_cmp slot_cmp t s ≡ false → a t ≡ b t) → b t ≡ option_and_then f (map.get r.rows t) → a t ≡ option_and_then f (map.get (put r.rows s o) t)
  read_out f a b t h u v = by_bool (eq_by_cmp slot_cmp t s)
      (λ e. ap a (key_is slot_exact t s e) ∙ h ∙ ap (option_and_then f) (sym (row_here t e)))
      (λ e. u e ∙ v ∙ ap (option_and_then f) (sym (row_other t e)))

  pub keeps_put : Keeps (record r { rows = put r.rows s o }) y
  keeps_put = record {
    id = p.id ∙ k.id;
    parent = p.parent ∙ k.parent;
    strict = p.strict ∙ k.strict;
    closed = p.closed ∙ k.closed;
    first = λ t. read_out read_of (map.get y.first) (map.get x.first) t p.first_here (p.first_other t) (k.first t);
    written = λ t. read_out mark_of (map.get y.written) (map.get x.written) t p.written_here (p.written_other t) (k.written t);
    now = λ t row h. by_bool (eq_by_cmp slot_cmp t s)
        (λ e. ap (map.get y.copy) (key_is slot_exact t s e) ∙ p.copy_here ∙ ap (option_and_then now_of) (sym (row_here t e) ∙ h))
        (λ e. p.copy_other t e ∙ k.now t row (sym (row_other t e) ∙ h));
    marked = λ t row h. by_bool (eq_by_cmp slot_cmp t s)
        (λ e. p.marked row (sym (row_here t e) ∙ h))
        (λ e. k.marked t row (sym (row_other t e) ∙ h));
    present = λ t row u h. by_bool (eq_by_cmp slot_cmp t s)
        (λ e. p.present row u (sym (row_here t e) ∙ h))
        (λ e. k.present t row u (sym (row_other t e) ∙ h));
    bare = λ t u h. by_bool (eq_by_cmp slot_cmp t s)
        (λ e. ap (map.get y.copy) (key_is slot_exact t s e) ∙ p.copy_here ∙ ap (option_and_then now_of) (sym (row_here t e) ∙ h))
        (λ e. p.copy_other t e ∙ k.bare t u (sym (row_other t e) ∙ h));
  }

-- ---- one world among all

module _ (F : State plain) (w : WorldId) (f : World plain → World plain) where
  pub at_one : (x : World plain) → find_world F w ≡ Some x → cond (same_world x.id w) (f x) x ≡ f x
  at_one x e = ap (λ b. cond b (f x) x) (ap (λ j. same_world j w) (found_id F w x e) ∙ same_self w)

  pub at_other : (v : WorldId) (x : World plain) → same_world v w ≡ false → find_world F v ≡ Some x → cond (same_world x.id w) (f x) x ≡ x
  at_other v x b e = ap (λ c. cond c (f x) x) (ap (λ j. same_world j w) (found_id F v x e) ∙ b)

pub set_same : {A : Type 0} (xs : List A) (i : ℕ) (a : A) → slice_get xs i ≡ Some a → set xs i a ≡ xs
set_same [] i a h = refl
set_same (x ∷ xs) zero a h = let e : x ≡ a = cc in ap (λ y. y ∷ xs) (sym e)
set_same (x ∷ xs) (suc i) a h = ap (λ ys. x ∷ ys) (set_same xs i a h)
