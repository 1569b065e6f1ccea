-- Functions that are declared in order.
use Rattle.std.proofs.Common.{◌≡◌, ℕ, ◌+◌, List, ◌∷◌, Option, None, Some, drop, refl, sym, ◌∙◌, subst}
use Rattle.std.specs.Prelude.{OnOk, Result, Ok, Err}
use Rattle.wjs_base.specs.declared.ids.ObjId.{ObjId}
use Rattle.wjs_base.specs.declared.ids.OutOfMemory.{OutOfMemory}
use Rattle.wjs_base.specs.Text.{Table, Grows}
use Rattle.wjs_base.specs.declared.ids.NodeId.{NodeId}
use Rattle.wjs_store.specs.Meaning.{Meaning}
use Rattle.wjs_by_content.specs.Values.{Text, Object}
use Rattle.wjs_by_content.specs.Names.{slot}
use Rattle.wjs_meaning.specs.Trees.{name_of}
use Rattle.wjs_meaning.specs.Reading.{numbers}
use Rattle.wjs_meaning.specs.Deeds.{Env, Act, Do, Write, node_here}
use Rattle.wjs_meaning.specs.Functions.{make_function_in, declare_functions}
use Rattle.wjs_model.specs.declared.config.Config.{Config}
use Rattle.wjs_frames.specs.Doing.{Does, DoesFirst}
use Rattle.wjs_frames.specs.Following.{Follows}
use Rattle.wjs_calls.specs.Making.{declared_as, declare_one}

-- of two facts
both_ok : {P Q R : Type 0} (r : Result (Unit {0}) OutOfMemory) → (P → Q → R) → OnOk r P → OnOk r Q → OnOk r R
both_ok (Ok x) f p q = f p q
both_ok (Err e) f p q = tt

named : (n : Option Text) (holder f : ObjId) (env : Env) (a : Act) → (elim n [
  | None ↦ a
  | Some name ↦ Do (Write env.world (slot holder name) (Some (Object f))) (λ done. a)
]) ≡ declared_as n holder f env a
named None holder f env a = refl
named (Some name) holder f env a = refl

-- the first of the functions is declared, and those after it
pub declare_left : (fs : List NodeId) (i : ℕ) (k : NodeId) (holder : ObjId) (env : Env) (a : Act) → drop i fs ≡ k ∷ drop (i + 1) fs
    → declare_functions (numbers (drop i fs)) holder env a ≡ declare_one k.0 holder env (declare_functions (numbers (drop (i + 1) fs)) holder env a)
declare_left fs i k holder env a e =
    (λ j. declare_functions (numbers (e j)) holder env a)
    ∙ (λ j. make_function_in k.0 env.scope env (λ f. named (name_of (node_here env k.0)) holder f env (declare_functions (numbers (drop (i + 1) fs)) holder env a) j))

module _ {S : Type 0} (meaning : S → Meaning) where
  -- a function is made, and written under its name or not
  pub declares_one : (k : ℕ) (holder o : ObjId) (env : Table → Env) (name : Table → Option Text) (old mid new : Config S)
      → Does meaning (λ t. make_function_in k (env t).scope (env t)) (λ t. o) old mid → ((t : Table) → Grows new.heap.texts t → name_of (node_here (env t) k) ≡ name t)
      → DoesFirst meaning (λ t. declared_as (name t) holder o (env t)) mid new → DoesFirst meaning (λ t. declare_one k holder (env t)) old new
  declares_one k holder o env name old mid new d e w = record {
    by = λ act later r h.
        let t = later.heap.texts in
        d.by (λ f. declared_as (name_of (node_here (env t) k)) holder f (env t) act) later r
        (named_ok r later act h (w.by act later r h));
  }
    where
      named_ok : (r : Result (Unit {0}) OutOfMemory) (later : Config S) (act : Act) → OnOk r (Follows meaning act new later) → OnOk r (Follows meaning (declared_as (name later.heap.texts) holder o (env later.heap.texts) act) mid later)
          → OnOk r (Follows meaning (declared_as (name_of (node_here (env later.heap.texts) k)) holder o (env later.heap.texts) act) mid later)
      named_ok r later act h w' = both_ok r (λ (x : Follows meaning act new later) (y : Follows meaning (declared_as (name later.heap.texts) holder o (env later.heap.texts) act) mid later).
          subst (λ n. Follows meaning (declared_as n holder o (env later.heap.texts) act) mid later) (sym (e later.heap.texts x.keeps.stays.texts)) y) h w'
