-- What the two stores of a session answered.
use Rattle.std.proofs.Common.{◌≡◌, ℕ, Bool, true, false, refl, ap, sym, ◌∙◌, subst, Option, Result, Ok, Err, IfOk, OnOk}
use Rattle.std.specs.FinMap as map
use Rattle.wjs_base.specs.declared.ids.OutOfMemory.{OutOfMemory}
use Rattle.wjs_base.specs.declared.ids.WorldId.{WorldId}
use Rattle.wjs_base.specs.Order.{slot_cmp}
use Rattle.wjs_store.specs.Reached.{IsReached}
use Rattle.wjs_store.specs.Fixed.{fixed, begun}
use Rattle.wjs_store.specs.Meaning.{Meaning, Worlds, PlainAct, PlainReply, Does, Answers}
use Rattle.wjs_store.specs.State.{has_world, next_id, after_sprout, sprout, sprouted}
use Rattle.wjs_overlay.specs.declared.overlay.Overlay.{Overlay}
use Rattle.wjs_overlay.specs.Store.{worlds_of}
use Rattle.wjs_session.specs.Stores.{worlds_in}
use Rattle.wjs_session.specs.Kept.{IsSession, IsAlone}
use Rattle.wjs_session.specs.Calls.{Answered}
use Rattle.wjs_session.proofs.Acting.{answered_sprout}
use Rattle.wjs_session.proofs.CallLaws.{Did, did}

-- an answer of a sparse store
pub of_does : (o n : Overlay) (a : PlainAct) (r : PlainReply) → Does (fixed (worlds_in o) o.spent) a r (fixed (worlds_in n) n.spent) → Did (worlds_in o) o.spent a r (worlds_in n) n.spent
of_does o n a r d = did (worlds_in o) (worlds_in n) o.spent n.spent a r d

-- a sparse store that works has a reached state
pub overlay_reached : (o : Overlay) → o.spent ≡ false → IsReached (worlds_in o)
overlay_reached o h = subst (λ b. IsReached (worlds_of b o.layers.items)) (sym h) (o.kept h).sparse.reached

-- what holds of each answer, by cases
pub ok_answers : {T : Type 0} (old : Meaning) (a : PlainAct) (told : T → PlainReply) (r : Result T OutOfMemory) (new : Meaning) → Answers old a told r new → (P : T → Type 0) → ((x : T) → Does old a (told x) new → P x) → IfOk r P
ok_answers old a told (Ok x) new h P f = f x h.0
ok_answers old a told (Err e) new h P f = tt

pub on_answers : {T : Type 0} (old : Meaning) (a : PlainAct) (told : T → PlainReply) (r : Result T OutOfMemory) (new : Meaning) → Answers old a told r new → (P : Type 0) → ((x : T) → Does old a (told x) new → P) → OnOk r P
on_answers old a told (Ok x) new h P f = f x h.0
on_answers old a told (Err e) new h P f = tt

pub on_any : {T E : Type 0} (r : Result T E) (P : Type 0) → P → OnOk r P
on_any (Ok x) P p = p
on_any (Err e) P p = tt

pub sprouted_is : (a b : WorldId) → ◌≡◌ {A = PlainReply} (sprouted a) (sprouted b) → a ≡ b
sprouted_is a b e = cc

-- a world was made inside
pub made_below : (F : Worlds) (i : WorldId) (G : Worlds) → IsSession F i G → (w : WorldId) (owner : ℕ) (strict : Bool) → has_world G w ≡ true → (G1 : Worlds) (child : WorldId) → G1 ≡ after_sprout G w owner strict → child ≡ next_id G owner → Answered F i G (sprout w owner strict) (sprouted child) F G1
made_below F i G k w owner strict there G1 child e c = subst (λ (v : WorldId). Answered F i G (sprout w owner strict) (sprouted v) F G1) (sym c) (subst (λ (K : Worlds). Answered F i G (sprout w owner strict) (sprouted (next_id G owner)) F K) (sym e) (answered_sprout F i G k w owner strict there))

pub alone_begun : (i : WorldId) → IsAlone (begun i)
alone_begun i = map.len-empty slot_cmp _
