-- A write in the first world reaches every world, where none has touched the slot.
use Rattle.std.proofs.Common.{◌≡◌, Bool, true, false, cond, not, ◌&&◌, ◌||◌, List, [], ◌∷◌, refl, ap, sym, ◌∙◌, length, arith, map as each, Option, None, Some, is_some}
use Rattle.std.specs.Option.{option_map_or}
use Rattle.std.specs.List.{AllByRecursion}
use Rattle.std.specs.FinMap as map
use Rattle.std.proofs.lemmas.Bool.{true≢false, false≢true, or_left, or_right}
use Rattle.wjs_base.specs.declared.ids.WorldId.{WorldId}
use Rattle.wjs_base.specs.declared.values.Slot.{Slot}
use Rattle.wjs_base.specs.declared.values.Value.{Value}
use Rattle.wjs_base.proofs.Booleans.{by_bool}
use Rattle.wjs_store.specs.Naming.{plain}
use Rattle.wjs_store.specs.Reached.{IsReached}
use Rattle.wjs_store.specs.Shown.{first_of}
use Rattle.wjs_store.specs.Meaning.{Worlds}
use Rattle.wjs_store.specs.State.{World, same_world, find_world, has_world, has_row, is_touched, is_below, put, write_in, write_at, after_write}
use Rattle.wjs_store.proofs.Writes.{same_self, world_is, has_head, has_tail, below_newest, below_older}
use Rattle.wjs_store.proofs.Commits.{find_nil, find_tail}
use Rattle.wjs_session.proofs.Worlds.{each_on, all_weaker, all_both, first_alone}

module _ (i : WorldId) (s : Slot) where
  abbrev pub Free : World plain → Type 0
  Free y = is_touched y s ≡ false

  -- each world is the first or below it
  all_below : (G : Worlds) → IsReached G → first_of G ≡ Some i → AllByRecursion Free G → (d : WorldId) → has_world G d ≡ true → (same_world d i || is_below i s G d) ≡ true
  all_below [] r f p d h = absurd (false≢true (ap is_some f))
  all_below (x ∷ []) r f p d h = by_bool (same_world x.id d)
      (λ e.
      let is : x.id ≡ i = cc in
      or_left (same_world d i) (is_below i s (x ∷ []) d) (ap (λ j. same_world j i) (sym (world_is x.id d e)) ∙ ap (same_world x.id) (sym is) ∙ same_self x.id))
      (λ e. absurd (false≢true (sym (ap is_some (find_tail x [] d e ∙ find_nil {n = plain} d)) ∙ h)))
  all_below (x ∷ y ∷ older) r f p d h = by_bool (same_world x.id d)
      (λ e.
      let is = world_is x.id d e in
      or_right (same_world d i) (is_below i s (x ∷ y ∷ older) d)
      (ap (is_below i s (x ∷ y ∷ older)) (sym is) ∙ below_newest i s x (y ∷ older)
      ∙ ap (λ b. not b && option_map_or (λ q. same_world q i || is_below i s (y ∷ older) q) x.parent false) p.0
      ∙ up x.parent refl (λ q e. all_below (y ∷ older) r.1 f p.1 q (r.0.parent_older q e))))
      (λ e. ap (λ b. same_world d i || b) (below_older i s x (y ∷ older) d e) ∙ all_below (y ∷ older) r.1 f p.1 d (sym (ap is_some (find_tail x (y ∷ older) d e)) ∙ h))
    where
      up : (o : Option WorldId) → x.parent ≡ o → ((q : WorldId) → x.parent ≡ Some q → (same_world q i || is_below i s (y ∷ older) q) ≡ true) → option_map_or (λ q. same_world q i || is_below i s (y ∷ older) q) o false ≡ true
      up None e g = absurd (let z = r.0.alone e in omega arith)
      up (Some q) e g = g q e

  all_there : (G : Worlds) → AllByRecursion (λ (y : World plain). has_world G y.id ≡ true) G
  all_there [] = tt
  all_there (x ∷ G) = (has_head x G, all_weaker (λ (y : World plain). has_world G y.id ≡ true) (λ (y : World plain). has_world (x ∷ G) y.id ≡ true) (λ y h. has_tail x G y.id h) G (all_there G))

  -- in a world without parent, and in one below, the content is put in the copy alone
  put_alone : (c : Option Value) (y : World plain) → is_some y.parent ≡ false → write_in s c y ≡ record y { copy = put y.copy s c }
  put_alone c y e = λ j. record y {
    copy = put y.copy s c;
    first = cond (e j && (not (has_row y s) && (map.contains_key y.closed s.object || y.strict))) (map.insert y.first s (map.get y.copy s)) y.first;
    written = cond (e j) (map.insert y.written s tt) y.written;
  }

  abbrev Reached : Worlds → World plain → Type 0
  Reached G y = (same_world y.id i ≡ true → is_some y.parent ≡ false) × ((same_world y.id i || is_below i s G y.id) ≡ true)

  pub write_everywhere : (c : Option Value) (G : Worlds) → IsReached G → first_of G ≡ Some i → AllByRecursion Free G → after_write G i s c ≡ each (λ (y : World plain). record y { copy = put y.copy s c }) G
  unfolding after_write
  write_everywhere c G r f p =
      each_on (Reached G) (write_at G i s c) (λ (y : World plain). record y { copy = put y.copy s c }) one G
      (all_both (λ (y : World plain). same_world y.id i ≡ true → is_some y.parent ≡ false) (λ (y : World plain). (same_world y.id i || is_below i s G y.id) ≡ true) G
      (first_alone G i r f)
      (all_weaker (λ (y : World plain). has_world G y.id ≡ true) (λ (y : World plain). (same_world y.id i || is_below i s G y.id) ≡ true) (λ y h. all_below G r f p y.id h) G (all_there G)))
    where
      one : (y : World plain) → Reached G y → write_at G i s c y ≡ record y { copy = put y.copy s c }
      one y q = by (same_world y.id i) (is_below i s G y.id) q.0 q.1
        where
          by : (a b : Bool) → (a ≡ true → is_some y.parent ≡ false) → (a || b) ≡ true → cond a (write_in s c y) (cond b (record y { copy = put y.copy s c }) y) ≡ record y { copy = put y.copy s c }
          by true b f h = put_alone c y (f refl)
          by false true f h = refl
          by false false f h = absurd (false≢true h)
