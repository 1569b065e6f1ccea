-- What each action leaves of the contents.
use Rattle.std.proofs.Common.{◌≡◌, ℕ, Bool, true, false, cond, ◌&&◌, ◌||◌, ◌∷◌, refl, ap, sym, ◌∙◌, Option, Some, IsTrue}
use Rattle.std.specs.Option.{option_map_or, option_and_then}
use Rattle.std.specs.Ordering.{eq_by_cmp}
use Rattle.std.specs.FinMap as map
use Rattle.wjs_base.specs.declared.ids.WorldId.{WorldId}
use Rattle.wjs_base.specs.declared.ids.ObjId.{ObjId}
use Rattle.wjs_store.specs.Naming.{Naming}
use Rattle.wjs_store.specs.State.{World, State, same_world, find_world, has_world, content_at, is_below, read_in, list_in, after_read, after_list, after_write, child_of, next_id, after_sprout, answer_to, after}
use Rattle.wjs_store.specs.Meaning.{Meaning, PlainAct, PlainReply, Does, IsSound, worlds}
use Rattle.wjs_store.proofs.States.{content_each}
use Rattle.wjs_store.proofs.Marks.{marks_at, marks_read, marks_list}
use Rattle.wjs_store.proofs.Writes.{write_content}
use Rattle.wjs_store.proofs.Invariant.{some_world}

module _ {K V : Type 0} {n : Naming K V} (F : State n) where
  pub content_after_read : (w : WorldId) (s : K) (i : WorldId) (t : K) → content_at (after_read F w s) i t ≡ content_at F i t
  unfolding after_read
  content_after_read w s i t =
      let m = marks_at w (read_in s) (marks_read s) in
      content_each (λ x. cond (same_world x.id w) (read_in s x) x) (λ x. (m x).id) F i t (λ x. ap (λ c. map.get c t) (m x).copy)

  pub content_after_list : (w : WorldId) (o : ObjId) (i : WorldId) (t : K) → content_at (after_list F w o) i t ≡ content_at F i t
  unfolding after_list
  content_after_list w o i t =
      let m = marks_at w (list_in o) (marks_list o) in
      content_each (λ x. cond (same_world x.id w) (list_in o x) x) (λ x. (m x).id) F i t (λ x. ap (λ c. map.get c t) (m x).copy)

  pub content_after_write : (w : WorldId) (s : K) (c : Option V) (i : WorldId) (t : K) → has_world F i ≡ true → content_at (after_write F w s c) i t ≡ cond ((same_world i w || is_below w s F i) && eq_by_cmp n.cmp t s) c (content_at F i t)
  unfolding after_write
  content_after_write w s c i t h = write_content F w s c F i t h

  content_child : (c : World n) (i : WorldId) (t : K) → content_at (c ∷ F) i t ≡ cond (same_world c.id i) (map.get c.copy t) (content_at F i t)
  unfolding find_world
  content_child c i t = by (same_world c.id i)
    where
      by : (b : Bool) → option_and_then (λ (x : World n). map.get x.copy t) (cond b (Some c) (find_world F i)) ≡ cond b (map.get c.copy t) (content_at F i t)
      by true = refl
      by false = refl

  pub content_after_sprout : (w : WorldId) (owner : ℕ) (strict : Bool) (i : WorldId) (t : K) → has_world F w ≡ true → content_at (after_sprout F w owner strict) i t ≡ cond (same_world (next_id F owner) i) (content_at F w t) (content_at F i t)
  unfolding after_sprout
  content_after_sprout w owner strict i t h = some_world F w h (λ x fx.
      ap (λ o. content_at (option_map_or (λ (v : World n). child_of v (next_id F owner) strict ∷ F) o F) i t) fx
      ∙ content_child (child_of x (next_id F owner) strict) i t
      ∙ ap (λ c. cond (same_world (next_id F owner) i) c (content_at F i t)) (sym (ap (option_and_then (λ (v : World n). map.get v.copy t)) fx)))

-- under its own view, where that is admitted afterwards
pub own_view_at : (old new : Meaning) (a : PlainAct) (answer : PlainReply) → IsTrue (new.admits new.own) → Does old a answer new → (answer ≡ answer_to (worlds old) a) × (worlds new ≡ after (worlds old) a)
own_view_at old new a answer ok d = (
  d.answers new.own ok ∙ ap (λ v. answer_to (old.full v) a) d.own,
  d.worlds new.own ok ∙ ap (λ v. after (old.full v) a) d.own,
)

pub own_view : (old new : Meaning) (a : PlainAct) (answer : PlainReply) → IsSound new → Does old a answer new → (answer ≡ answer_to (worlds old) a) × (worlds new ≡ after (worlds old) a)
own_view old new a answer s d = own_view_at old new a answer s.admits_own d
