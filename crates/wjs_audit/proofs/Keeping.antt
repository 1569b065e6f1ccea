-- A store that is logged: what each answered action keeps.
use Rattle.std.proofs.Common.{◌≡◌, Bool, true, false, cond, not, ◌&&◌, ◌||◌, List, [], ◌∷◌, ◌++◌, refl, ap, sym, subst, ◌∙◌, IsTrue, T, Some}
use Rattle.std.proofs.lemmas.List.{map_push}
use Rattle.std.proofs.lemmas.List.Elements.{All-push, All-nil}
use Rattle.std.specs.Cmp.{tied_itself}
use Rattle.std.specs.Ordering.{ordering_then, is_lt}
use Rattle.std.specs.declared.cmp.Ordering.{Ordering}
use Rattle.std.specs.declared.cmp.Ordering.TheVariants.{Equal}
use Rattle.std.specs.FinMap as map
use Rattle.std.specs.FinMap.Entries.{below_all}
use Rattle.wjs_base.specs.declared.ids.ObjId.{ObjId}
use Rattle.wjs_base.specs.declared.ids.WorldId.{WorldId}
use Rattle.wjs_base.specs.declared.values.Name.{Name}
use Rattle.wjs_base.specs.Order.{obj_cmp, obj_total, name_cmp, slot_cmp}
use Rattle.wjs_store.specs.declared.action.Answer.TheVariants.{NoWorld}
use Rattle.wjs_store.specs.Ascends.{tagged, Ascends}
use Rattle.wjs_store.specs.State.{world_of, has_world, answer_to, after, slots_at, list, listed}
use Rattle.wjs_store.specs.Shown.{slots_of}
use Rattle.wjs_store.specs.Meaning as store
use Rattle.wjs_store.specs.Meaning.{Meaning, Worlds, View, Does, IsSound}
use Rattle.wjs_store.specs.Run.{act_of, answer_of, is_done, answer_in, after_all}
use Rattle.wjs_store.specs.Fixed.{fresh}
use Rattle.wjs_store.proofs.Ascending.{slots_ascend}
use Rattle.wjs_audit.specs.declared.deed.Entry.{Entry}
use Rattle.wjs_audit.specs.Deeds.{action_of, answer_of_deed, reply_of_deed, actions_of, told_of_deed}
use Rattle.wjs_audit.specs.Kept.{IsKept}
use Rattle.wjs_audit.specs.Recorded.{Recorded, telling}
use Rattle.wjs_audit.proofs.Deeds.{shown_deed}
use Rattle.wjs_audit.proofs.Machine.{after_entry, right_more}

pub kept_fresh : (m : Meaning) → ((v : View) → IsTrue (m.admits v) → m.full v ≡ fresh) → IsKept m []
kept_fresh m same = record { right = refl; worlds = same; unnumbered = All-nil (λ (x : Entry). x.line ≡ 0) }

-- one deed more
kept_more : (old new : Meaning) (log : List Entry) (e : Entry) → IsKept old log → IsTrue (not old.spent) → Does old (act_of (action_of e.deed)) (reply_of_deed e.deed) new → (IsTrue (not new.spent) → IsSound new) → IsTrue (has_world (store.worlds old) (world_of (act_of (action_of e.deed)))) → e.line ≡ 0 → IsKept new (log ++ e ∷ [])
kept_more old new log e kept works does sound there zero =
    let F = after_all fresh (actions_of log) in
    let a = action_of e.deed in
    let owned : IsTrue (new.admits new.own) = (sound (ap not does.spent ∙ works)).admits_own in
    let at : (v : View) → IsTrue (new.admits v) → old.full v ≡ F = λ v h. kept.worlds v (does.narrows v h) in
    let done : is_done F a ≡ true = ap (λ (G : Worlds). has_world G (world_of (act_of a))) (sym (at new.own owned) ∙ ap old.full does.own) ∙ there in
    let reply : answer_to F (act_of a) ≡ reply_of_deed e.deed = ap (λ (G : Worlds). answer_to G (act_of a)) (sym (at new.own owned)) ∙ sym (does.answers new.own owned) in
    let same : answer_in F a ≡ answer_of_deed e.deed =
    ap (λ b. cond b (answer_of (answer_to F (act_of a))) NoWorld) done ∙ ap answer_of reply ∙ shown_deed e.deed in
    record {
      right = right_more log e kept.right same;
      worlds = λ v h.
          does.worlds v h
          ∙ ap (λ (G : Worlds). after G (act_of a)) (at v h)
          ∙ sym (ap (λ b. cond b (after F (act_of a)) F) done)
          ∙ sym (after_entry log e);
      unnumbered = All-push (λ (x : Entry). x.line ≡ 0) log e kept.unnumbered zero;
    }

-- what the inner store does the store does that tells it
told_did : (m new : Meaning) (log : List Entry) (e : Entry) (spent still : Bool) → still ≡ spent → Does m (act_of (action_of e.deed)) (reply_of_deed e.deed) new → Does (telling m log spent) (act_of (action_of e.deed)) (reply_of_deed e.deed) (telling new (log ++ e ∷ []) still)
told_did m new log e spent still same does = record {
  narrows = does.narrows;
  answers = does.answers;
  worlds = does.worlds;
  still_there = does.still_there;
  own = does.own;
  told = ap Some (map_push (λ (x : Entry). told_of_deed x.deed) log e);
  around = does.around;
  spent = λ i. does.spent i || same i;
}

neither : (a b : Bool) → IsTrue (not a) → b ≡ false → IsTrue (not (a || b))
neither true b h e = h
neither false true h e = cc
neither false false h e = h

told_works : (m : Meaning) (log : List Entry) (spent : Bool) → spent ≡ false → IsTrue (not m.spent) → IsTrue (not (telling m log spent).spent)
told_works m log spent e works = neither m.spent spent works e

-- what a call of the store leaves, by what the inner one answered
module _ {S : Type 0} (mean : S → Meaning) (inside now after : Recorded S) (view_is : inside ≡ now) where
  is_there : (w : WorldId) → IsTrue (has_world (store.worlds (telling (mean now.inner) now.log now.spent)) w) → IsTrue (has_world (store.worlds (mean inside.inner)) w)
  is_there w h = ap (λ (r : Recorded S). has_world (store.worlds (mean r.inner)) w) view_is ∙ h

  pub logged_did : (e : Entry) → inside.spent ≡ false → after.spent ≡ false → after.log ≡ inside.log ++ e ∷ [] → Does (mean inside.inner) (act_of (action_of e.deed)) (reply_of_deed e.deed) (mean after.inner) × IsTrue (not (mean inside.inner).spent)
      → Does (telling (mean now.inner) now.log now.spent) (act_of (action_of e.deed)) (reply_of_deed e.deed) (telling (mean after.inner) after.log after.spent) × IsTrue (not (telling (mean now.inner) now.log now.spent).spent)
  logged_did e was still log does =
      let A = act_of (action_of e.deed) in
      let R = reply_of_deed e.deed in
      let did = told_did (mean inside.inner) (mean after.inner) inside.log e inside.spent after.spent (still ∙ sym was) does.0 in
      let here = subst (λ (l : List Entry). Does (telling (mean inside.inner) inside.log inside.spent) A R (telling (mean after.inner) l after.spent)) (sym log) did in (
        subst (λ (r : Recorded S). Does (telling (mean r.inner) r.log r.spent) A R (telling (mean after.inner) after.log after.spent)) view_is here,
        subst (λ (r : Recorded S). IsTrue (not (telling (mean r.inner) r.log r.spent).spent)) view_is (told_works (mean inside.inner) inside.log inside.spent was does.1),
      )

  -- the log is kept
  pub logged_kept : (e : Entry) → IsKept (mean inside.inner) inside.log → Does (mean inside.inner) (act_of (action_of e.deed)) (reply_of_deed e.deed) (mean after.inner) × IsTrue (not (mean inside.inner).spent) → (IsTrue (not (mean after.inner).spent) → IsSound (mean after.inner))
      → IsTrue (has_world (store.worlds (telling (mean now.inner) now.log now.spent)) (world_of (act_of (action_of e.deed)))) → after.log ≡ inside.log ++ e ∷ [] → e.line ≡ 0 → IsKept (mean after.inner) after.log
  logged_kept e kept does sound there log zero =
      subst (IsKept (mean after.inner)) (sym log) (kept_more (mean inside.inner) (mean after.inner) inside.log e kept does.1 does.0 sound (is_there (world_of (act_of (action_of e.deed))) there) zero)

-- ---- a listing's names ascend

then_equal : (a b : Ordering) → a ≡ Equal → ordering_then a b ≡ b
then_equal a b e = ap (λ o. ordering_then o b) e

-- slots of one object are in the order of their names
slot_order : (o : ObjId) (x y : Name) → slot_cmp (record { object = o; name = x }) (record { object = o; name = y }) ≡ name_cmp x y
slot_order o x y = then_equal (obj_cmp o o) (name_cmp x y) (tied_itself obj_total o)

below_names : (o : ObjId) (x : Name) (names : List Name) → below_all slot_cmp (record { object = o; name = x }) (tagged (slots_of o names)) ≡ below_all name_cmp x (tagged names)
below_names o x [] = refl
below_names o x (y ∷ names) = λ i. is_lt (slot_order o x y i) && below_names o x names i

sorted_names : (o : ObjId) (names : List Name) → map.is_sorted slot_cmp (tagged (slots_of o names)) ≡ map.is_sorted name_cmp (tagged names)
sorted_names o [] = refl
sorted_names o (x ∷ names) = λ i. below_names o x names i && sorted_names o names i

pub names_ascend : (m new : Meaning) (w : WorldId) (o : ObjId) (names : List Name) → Does m (list w o) (listed (slots_of o names)) new → (IsTrue (not new.spent) → IsSound new) → IsTrue (not m.spent) → Ascends name_cmp names
names_ascend m new w o names does sound works =
    let owned : IsTrue (new.admits new.own) = (sound (ap not does.spent ∙ works)).admits_own in
    let e : listed (slots_of o names) ≡ listed (slots_at (m.full new.own) w o) = does.answers new.own owned in
    let same : slots_of o names ≡ slots_at (m.full new.own) w o = cc in
    subst T (sorted_names o names) (subst (Ascends slot_cmp) (sym same) (slots_ascend (m.full new.own) w o))
