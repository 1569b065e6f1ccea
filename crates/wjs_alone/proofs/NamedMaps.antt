-- Maps whose keys are known, under the names.
use Rattle.std.proofs.Common.{◌≡◌, Bool, true, false, cond, List, [], ◌∷◌, refl, ap, sym, ◌∙◌, map as each, Option, None, Some, is_some}
use Rattle.std.specs.Option.{option_map}
use Rattle.std.specs.Ordering.{eq_by_cmp, is_eq}
use Rattle.std.specs.Cmp.{tied_itself}
use Rattle.std.specs.FinMap as map
use Rattle.std.specs.FinMap.{FinMap}
use Rattle.std.proofs.lemmas.Bool.{true≢false, false≢true}
use Rattle.wjs_base.proofs.Booleans.{by_bool}
use Rattle.wjs_store.specs.Naming.{Naming}
use Rattle.wjs_store.proofs.Marks.{key_is}
use Rattle.wjs_by_content.specs.Rename.{renamed}
use Rattle.wjs_by_content.specs.Renamed.{Names, Holds}
use Rattle.wjs_by_content.proofs.RenamedKnown.{entries_hold}

pub map_if : {A B : Type 0} (g : A → B) (b : Bool) (x : A) (o : Option A) → option_map g (cond b (Some x) o) ≡ cond b (Some (g x)) (option_map g o)
map_if g true x o = refl
map_if g false x o = refl

none_at : {A : Type 0} (o : Option A) → is_some o ≡ false → o ≡ None
none_at None h = refl
none_at (Some a) h = absurd (true≢false h)

module _ {K V J W : Type 0} {n : Naming K V} {m : Naming J W} (r : Names n m) where
  same_name : (a b : K) → r.knows a ≡ true → r.knows b ≡ true → eq_by_cmp m.cmp (r.slot a) (r.slot b) ≡ eq_by_cmp n.cmp a b
  same_name a b ka kb = by_bool (eq_by_cmp n.cmp a b)
      (λ e. ap (λ (c : K). eq_by_cmp m.cmp (r.slot a) (r.slot c)) (sym (key_is n.exact a b e)) ∙ ap is_eq (tied_itself m.total (r.slot a)) ∙ sym e)
      (λ e. by_bool (eq_by_cmp m.cmp (r.slot a) (r.slot b))
      (λ q. absurd (true≢false (sym (ap (λ (c : K). eq_by_cmp n.cmp a c) (sym (r.slots_tell a b ka kb (key_is m.exact (r.slot a) (r.slot b) q))) ∙ ap is_eq (tied_itself n.total a)) ∙ e)))
      (λ q. q ∙ sym e))

  -- all keys of a map are known
  abbrev pub KnownKeys : {X : Type 0} → FinMap n.cmp X → Type 0
  KnownKeys {X} a = (s : K) (v : X) → map.get a s ≡ Some v → r.knows s ≡ true

  -- the name of a known key
  abbrev pub IsName : J → Type 0
  IsName q = (k : K) × (r.knows k ≡ true) × (q ≡ r.slot k)

  module _ {X Y : Type 0} (g : X → Y) where
    find_named : (es : List (K × X)) (q : K) → r.knows q ≡ true → Holds (λ (e : K × X). r.knows e.0 ≡ true) es → map.find m.cmp (r.slot q) (each (λ (e : K × X). (r.slot e.0, g e.1)) es) ≡ option_map g (map.find n.cmp q es)
    find_named [] q k h = refl
    find_named (e ∷ es) q k h =
        ap (λ b. cond b (Some (g e.1)) (map.find m.cmp (r.slot q) (each (λ (d : K × X). (r.slot d.0, g d.1)) es))) (same_name q e.0 k h.0)
        ∙ ap (cond (eq_by_cmp n.cmp q e.0) (Some (g e.1))) (find_named es q k h.1)
        ∙ sym (map_if g (eq_by_cmp n.cmp q e.0) e.1 (map.find n.cmp q es))

    pub get_named : (a : FinMap n.cmp X) → KnownKeys a → (q : K) → r.knows q ≡ true → map.get (renamed {S = m.cmp} r.slot g a) (r.slot q) ≡ option_map g (map.get a q)
    get_named a all q k =
        map.get-from_entries m.total (each (λ (e : K × X). (r.slot e.0, g e.1)) (map.entries a)) (r.slot q)
        ∙ find_named (map.entries a) q k (entries_hold n.total n.exact (λ s v. r.knows s ≡ true) a all)
        ∙ ap (option_map g) (sym (map.get-entries a q))

    name_found : (es : List (K × X)) (q : J) → Holds (λ (e : K × X). r.knows e.0 ≡ true) es → is_some (map.find m.cmp q (each (λ (e : K × X). (r.slot e.0, g e.1)) es)) ≡ true → IsName q
    name_found [] q k h = absurd (false≢true h)
    name_found (e ∷ es) q k h = by_bool (eq_by_cmp m.cmp q (r.slot e.0))
        (λ b. (e.0, k.0, key_is m.exact q (r.slot e.0) b))
        (λ b. name_found es q k.1 (sym (ap (λ c. is_some (cond c (Some (g e.1)) (map.find m.cmp q (each (λ (d : K × X). (r.slot d.0, g d.1)) es)))) b) ∙ h))

    pub is_named : (a : FinMap n.cmp X) → KnownKeys a → (q : J) → is_some (map.get (renamed {S = m.cmp} r.slot g a) q) ≡ true → IsName q
    is_named a all q h = name_found (map.entries a) q (entries_hold n.total n.exact (λ s v. r.knows s ≡ true) a all)
        (sym (ap is_some (map.get-from_entries m.total (each (λ (e : K × X). (r.slot e.0, g e.1)) (map.entries a)) q)) ∙ h)

  -- maps that have names alone are one where they agree at each
  pub same_named : {Y : Type 0} (a b : FinMap m.cmp Y) → ((q : J) → is_some (map.get a q) ≡ true → IsName q) → ((q : J) → is_some (map.get b q) ≡ true → IsName q) → ((k : K) → r.knows k ≡ true → map.get a (r.slot k) ≡ map.get b (r.slot k)) → a ≡ b
  same_named a b ca cb h = map.same_map m.total m.exact a b (λ q. by_bool (is_some (map.get a q))
      (λ e. let k = ca q e in ap (map.get a) k.2 ∙ h k.0 k.1 ∙ ap (map.get b) (sym k.2))
      (λ e. by_bool (is_some (map.get b q))
      (λ d. let k = cb q d in ap (map.get a) k.2 ∙ h k.0 k.1 ∙ ap (map.get b) (sym k.2))
      (λ d. none_at (map.get a q) e ∙ sym (none_at (map.get b q) d))))
