-- Objects by owner: those of a part's owner, and those of others beside them.
use Rattle.std.proofs.Common.{◌≡◌, ℕ, ◌==◌, Bool, true, false, cond, not, Option, None, Some, refl, sym, ap, ◌∙◌, Ordering, IsTrue}
use Rattle.std.specs.Prelude.{is_some}
use Rattle.std.specs.Option.{option_or, option_map}
use Rattle.std.specs.FinMap as map
use Rattle.std.proofs.lemmas.Bool.{eqb-true, eqb-false}
use Rattle.wjs_base.specs.declared.ids.ObjId.{ObjId}
use Rattle.wjs_base.specs.Order.{obj_cmp, obj_total, obj_exact}
use Rattle.wjs_base.specs.Text.{Table}
use Rattle.wjs_arena.specs.Entries as numbered
use Rattle.wjs_arena.specs.Entries.{Entry as Placed, Objects, Keeps}
use Rattle.wjs_arena.proofs.Owners.{key_apart}
use Rattle.wjs_by_content.specs.Objects.{Arena, Entry, Internals, next_number, entry_of, created}
use Rattle.wjs_by_content.specs.Tables.{arena_in, entry_in}
use Rattle.wjs_by_content.proofs.ArenaMaps.{object_found}
use Rattle.wjs_model.specs.Outside.{beside}
use Rattle.wjs_model.proofs.Beside.{get_beside, IsIn, created_beside}
use Rattle.wjs_alone.specs.Alone.{without}
use Rattle.wjs_tries.proofs.Owning.{same_other}

-- ---- objects of no owner but others

-- no object of these is an owner's
abbrev pub Others : ℕ → Arena → Type 0
Others q m = (o : ObjId) (e : Entry) → map.get m o ≡ Some e → ¬ (o.owner ≡ q)

pub gone : (q : ℕ) (m : Arena) → Others q m → (o : ObjId) → o.owner ≡ q → map.get m o ≡ None
gone q m h o is = by (map.get m o) refl
  where
    by : (r : Option Entry) → map.get m o ≡ r → r ≡ None
    by None e = refl
    by (Some e) at = absurd (h o e at is)

-- where no object of a numbered arena is the owner's, none of it by content is
pub others_in : (t : Table) (objects : Objects) (q : ℕ) → ((o : ObjId) → IsTrue (numbered.has objects o) → ¬ (o.owner ≡ q)) → Others q (arena_in t objects)
others_in t objects q h o x at is = by (map.get objects o) refl
  where
    by : (r : Option Placed) → map.get objects o ≡ r → ⊥
    by None e = let none : None ≡ Some x = sym (object_found t objects o ∙ ap (option_map (entry_in t)) e) ∙ at in cc
    by (Some y) e = h o (ap is_some e) is

module _ (q : ℕ) where
  abbrev other : ObjId → Bool
  other o = not (o.owner == q)

  alike : (o x : ObjId) → obj_cmp o x ≡ Ordering.Equal → other x ≡ other o
  alike o x t = ap other (sym (obj_exact o x t))

  -- the objects but those of an owner, one by one
  pub get_without : (m : Arena) (o : ObjId) → map.get (without q m) o ≡ cond (other o) (map.get m o) None
  get_without m o = map.get-retain_keys m other o (alike o)

-- ---- an owner's first object

module _ (a more : Arena) (q : ℕ) (x : Internals) (none : Others q a) (others : Others q more) where
  as_before : (o : ObjId) (b : Bool) → (o.owner == q) ≡ b → cond (not b) (map.get (beside (created a q x) more) o) None ≡ map.get (beside a more) o
  as_before o true e =
      let is = eqb-true o.owner q e in
      sym (get_beside a more o ∙ (λ i. option_or (gone q a none o is i) (gone q more others o is i)))
  as_before o false e =
      let k = next_number a q in
      get_beside (created a q x) more o
      ∙ ap (λ (r : Option Entry). option_or r (map.get more o)) (
      map.get-insert obj_total a k (entry_of a x) o
      ∙ ap (λ b. cond b (Some (entry_of a x)) (map.get a o)) (key_apart o k (λ h. eqb-false o.owner q e (ap (λ (z : ObjId). z.owner) h))))
      ∙ sym (get_beside a more o)

  made_without : without q (beside (created a q x) more) ≡ beside a more
  made_without = map.same_map obj_total obj_exact (without q (beside (created a q x) more)) (beside a more) (λ o.
      get_without q (beside (created a q x) more) o ∙ as_before o (o.owner == q) refl)

  -- it is made anew over the objects of others
  pub made_alone : IsIn a x.prototype → IsIn a x.scope → created (without q (beside (created a q x) more)) q x ≡ beside (created a q x) more
  made_alone p s = ap (λ m. created m q x) made_without ∙ created_beside a more q others x p s

-- ---- more objects

-- where objects were added that are an owner's, the others' are the same
module _ (t : Table) (old new : Objects) (q : ℕ) (keeps : Keeps old new)
    (made : (o : ObjId) (e : Placed) → map.get old o ≡ None → map.get new o ≡ Some e → o.owner ≡ q) where
  pub same_in : (o : ObjId) → ¬ (o.owner ≡ q) → map.get (arena_in t old) o ≡ map.get (arena_in t new) o
  same_in o apart = object_found t old o ∙ ap (option_map (entry_in t)) (sym (same_other old new q keeps made o apart)) ∙ sym (object_found t new o)

  pub same_beside : (more : Arena) (o : ObjId) → ¬ (o.owner ≡ q) → map.get (beside (arena_in t old) more) o ≡ map.get (beside (arena_in t new) more) o
  same_beside more o apart = get_beside (arena_in t old) more o ∙ ap (λ (r : Option Entry). option_or r (map.get more o)) (same_in o apart)
      ∙ sym (get_beside (arena_in t new) more o)

  -- for another owner they are further objects beside those that were there
  module _ (p : ℕ) (differ : ¬ (p ≡ q)) (more : Arena) where
    kept_first : (o : ObjId) (r : Option Placed) → map.get old o ≡ r → (s : Option Entry)
        → option_or (option_map (entry_in t) r) (option_or (option_map (entry_in t) (map.get new o)) s) ≡ option_or (option_map (entry_in t) (map.get new o)) s
    kept_first o None e s = refl
    kept_first o (Some x) e s = ap (λ (r : Option Placed). option_or (option_map (entry_in t) r) s) (sym (keeps o x e))

    by_owner : (o : ObjId) (b : Bool) → (o.owner == p) ≡ b → option_or (map.get (arena_in t old) o)
        (option_or (cond (not b) (map.get (arena_in t new) o) None) (map.get more o)) ≡ option_or (map.get (arena_in t new) o) (map.get more o)
    by_owner o true e = ap (λ (r : Option Entry). option_or r (map.get more o)) (same_in o (λ h. differ (sym (eqb-true o.owner p e) ∙ h)))
    by_owner o false e =
        (λ i. option_or (object_found t old o i) (option_or (object_found t new o i) (map.get more o)))
        ∙ kept_first o (map.get old o) refl (map.get more o)
        ∙ ap (λ (r : Option Entry). option_or r (map.get more o)) (sym (object_found t new o))

    pub beside_others : beside (arena_in t old) (beside (without p (arena_in t new)) more) ≡ beside (arena_in t new) more
    beside_others = map.same_map obj_total obj_exact (beside (arena_in t old) (beside (without p (arena_in t new)) more)) (beside (arena_in t new) more) (λ o.
        get_beside (arena_in t old) (beside (without p (arena_in t new)) more) o
        ∙ ap (option_or (map.get (arena_in t old) o)) (get_beside (without p (arena_in t new)) more o
        ∙ ap (λ (r : Option Entry). option_or r (map.get more o)) (get_without p (arena_in t new) o))
        ∙ by_owner o (o.owner == p) refl
        ∙ sym (get_beside (arena_in t new) more o))
