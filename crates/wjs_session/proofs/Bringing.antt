-- Slots are brought inside, one after another, and then an action is done there.
use Rattle.std.proofs.Common.{◌≡◌, ℕ, ◌+◌, ◌<◌, Bool, true, false, cond, not, ◌&&◌, List, [], ◌∷◌, ◌++◌, length, take, get_or, refl, ap, sym, ◌∙◌, subst, map as each, Option, None, Some, is_some}
use Rattle.std.specs.Ordering.{eq_by_cmp}
use Rattle.std.specs.List.{AllByRecursion, list_any}
use Rattle.std.specs.FinMap as map
use Rattle.std.proofs.lemmas.Bool.{true≢false, false≢true, and_from}
use Rattle.std.proofs.lemmas.List.{take_more}
use Rattle.wjs_base.specs.declared.ids.ObjId.{ObjId}
use Rattle.wjs_base.specs.declared.ids.WorldId.{WorldId}
use Rattle.wjs_base.specs.declared.values.Name.{Name}
use Rattle.wjs_base.specs.declared.values.Slot.{Slot}
use Rattle.wjs_base.specs.Order.{slot_cmp, slot_exact}
use Rattle.wjs_base.specs.Same.{same_value}
use Rattle.wjs_base.proofs.Booleans.{by_bool}
use Rattle.wjs_store.specs.Naming.{plain}
use Rattle.wjs_store.specs.Shown.{slots_of}
use Rattle.wjs_store.specs.Meaning.{View, Worlds, PlainAct, PlainReply, Does}
use Rattle.wjs_store.specs.State.{World, has_world, content_at, is_touched, same_content, slots_at, slots_in, read_in, after_read, after_list, after_write, answer_to, after}
use Rattle.wjs_store.proofs.Marks.{key_is, or_case, none_or_some, touched_read}
use Rattle.wjs_session.specs.Session.{world_at, first_copy, settled, outer, full_of, passes, session}
use Rattle.wjs_session.specs.Kept.{IsSession}
use Rattle.wjs_session.specs.Calls.{Answered, Brought}
use Rattle.wjs_session.proofs.Worlds.{all_weaker, content_is, first_content, first_alone, parent_some}
use Rattle.wjs_session.proofs.Marking.{listed_slot}
use Rattle.wjs_session.proofs.Growing.{read_world, list_world, grows_same, grows_then}
use Rattle.wjs_session.proofs.Looking.{inner_there, absent_settled, read_copy, list_copy, brought_read, brought_list}
use Rattle.wjs_session.proofs.Owning.{idle, read_none, slots_found, listed_touched}
use Rattle.wjs_session.proofs.Writing.{brought_write, settled_write}
use Rattle.wjs_session.specs.Maps.{same_content_self}
use Rattle.wjs_session.specs.Fills.{fill, has_fill}

brought_nothing : (F : Worlds) (i : WorldId) (G : Worlds) → IsSession F i G → Brought F i G F G
brought_nothing F i G k = record { kept = k; grows = grows_same F i k.shared k.child; same = λ v p. refl; holds = refl; there = λ d h. h; settles = λ s h. h }

pub brought_then : (F : Worlds) (i : WorldId) (G F1 G1 F2 G2 : Worlds) → Brought F i G F1 G1 → Brought F1 i G1 F2 G2 → Brought F i G F2 G2
brought_then F i G F1 G1 F2 G2 a b = record {
  kept = b.kept;
  grows = grows_then F F1 F2 i a.grows b.grows;
  same = λ v p. b.same v p ∙ a.same v (b.grows.narrows v p);
  holds = b.holds ∙ a.holds;
  there = λ d h. b.there d (a.there d h);
  settles = λ s h. b.settles s (a.settles s h);
}

-- what is answered after something was brought is answered
pub answered_then : (F : Worlds) (i : WorldId) (G F1 G1 : Worlds) (a : PlainAct) (r : PlainReply) (F2 G2 : Worlds) → Brought F i G F1 G1 → Answered F1 i G1 a r F2 G2 → Answered F i G a r F2 G2
answered_then F i G F1 G1 a r F2 G2 b d = record {
  kept = d.kept;
  does = record {
    narrows = λ v p. b.grows.narrows v (d.does.narrows v p);
    answers = λ v p. d.does.answers v p ∙ ap (λ H. answer_to H a) (b.same v (d.does.narrows v p));
    worlds = λ v p. d.does.worlds v p ∙ ap (λ H. after H a) (b.same v (d.does.narrows v p));
    still_there = λ j h.
        let x = world_at F i in
        let y = world_at F1 i in
        let old = session F i G [] false in
        let mid = session F1 i G1 [] false in
        d.does.still_there j (has_fill (settled y G1) (outer y mid.own) G1 j ∙ b.there j (sym (has_fill (settled x G) (outer x old.own) G j) ∙ h));
    own = d.does.own ∙ b.grows.own;
    told = refl;
    around = d.does.around ∙ b.grows.around;
    spent = refl;
  };
}

-- ---- one slot

module _ (F : Worlds) (i : WorldId) (G : Worlds) (k : IsSession F i G) (s : Slot) where
  -- a read in the inner first world changes nothing
  pub inner_stays : after_read G i s ≡ G
  unfolding after_read
  inner_stays = idle i (read_in s) (read_none s) G (first_alone G i k.inner k.first)

  abbrev looked : Worlds
  looked = after_read F i s

  pub read_touched : is_touched (world_at (after_read F i s) i) s ≡ true
  read_touched = ap (λ (y : World plain). is_touched y s) (read_world F i k.shared k.child s) ∙ touched_read (world_at F i) s (parent_some F i k.shared k.child)

  -- what the session's world holds, and what the inner first world does
  held_is : content_at F i s ≡ map.get (world_at (after_read F i s) i).copy s
  held_is = content_is F i s ∙ ap (λ c. map.get c s) (sym (read_copy F i G k s))

  inside_is : content_at G i s ≡ map.get (first_copy G) s
  inside_is = sym (first_content G i s k.first)

  settled_by : settled (world_at (after_read F i s) i) G s ≡ same_content same_value (content_at G i s) (content_at F i s)
  settled_by = λ j. read_touched j && same_content same_value (sym inside_is j) (sym held_is j)

  -- it was there
  pub bring_none : same_content same_value (content_at G i s) (content_at F i s) ≡ true → Brought F i G (after_read F i s) G × (settled (world_at (after_read F i s) i) G s ≡ true)
  bring_none e = (brought_read F i G k s, settled_by ∙ e)

  -- it is brought
  pub bring_one : same_content same_value (content_at G i s) (content_at F i s) ≡ false → Brought F i G (after_read F i s) (after_write G i s (content_at F i s)) × (settled (world_at (after_read F i s) i) (after_write G i s (content_at F i s)) s ≡ true)
  bring_one e =
      let b = brought_read F i G k s in
      let F1 = after_read F i s in
      let open_s = settled_by ∙ e in
      subst (λ c. Brought F i G F1 (after_write G i s c) × (settled (world_at F1 i) (after_write G i s c) s ≡ true)) (sym held_is) (
        brought_then F i G F1 G F1 (after_write G i s (map.get (world_at F1 i).copy s)) b (brought_write F1 i G b.kept s read_touched open_s),
        settled_write F1 i G b.kept s read_touched open_s,
      )

-- ---- the slots of an object

all_push : {A : Type 0} (P : A → Type 0) (xs : List A) (y : A) → AllByRecursion P xs → P y → AllByRecursion P (xs ++ y ∷ [])
all_push P [] y p q = (q, tt)
all_push P (x ∷ xs) y p q = (p.0, all_push P xs y p.1 q)

slots_push : (q : ObjId) (names : List Name) (name : Name) → slots_of q (names ++ name ∷ []) ≡ slots_of q names ++ record { object = q; name = name } ∷ []
slots_push q [] name = refl
slots_push q (n ∷ names) name = ap (λ ss. record { object = q; name = n } ∷ ss) (slots_push q names name)

slots_more : (P : Slot → Type 0) (q : ObjId) (names : List Name) (j : ℕ) (name : Name) → j < length names → get_or names j name ≡ name → AllByRecursion P (slots_of q (take j names)) → P (record { object = q; name = name }) → AllByRecursion P (slots_of q (take (j + 1) names))
slots_more P q names j name l e p here = subst (λ ns. AllByRecursion P (slots_of q ns)) (sym (take_more names j name l ∙ ap (λ n. take j names ++ n ∷ []) e)) (subst (AllByRecursion P) (sym (slots_push q (take j names) name)) (all_push P (slots_of q (take j names)) (record { object = q; name = name }) p here))

all_in : (P : Slot → Type 0) (ss : List Slot) (t : Slot) → AllByRecursion P ss → list_any (eq_by_cmp slot_cmp t) ss ≡ true → P t
all_in P [] t p h = absurd (false≢true h)
all_in P (s ∷ ss) t p h = or_case (eq_by_cmp slot_cmp t s) (list_any (eq_by_cmp slot_cmp t) ss) h
    (λ e. subst P (sym (key_is slot_exact t s e)) p.0)
    (λ e. all_in P ss t p.1 e)

-- once the listed slots are settled, all of the object are
pub whole_settled : (F : Worlds) (i : WorldId) (G : Worlds) → IsSession F i G → (q : ObjId) (F2 G2 : Worlds) → Brought (after_list F i q) i G F2 G2 → AllByRecursion (λ (s : Slot). settled (world_at F2 i) G2 s ≡ true) (slots_at F i q) → (t : Slot) → t.object ≡ q → settled (world_at F2 i) G2 t ≡ true
whole_settled F i G k q F2 G2 b all t is =
    let x = world_at F i in
    let touched = b.grows.touches t (ap (λ (y : World plain). is_touched y t) (list_world F i k.shared k.child q) ∙ listed_touched q x (parent_some F i k.shared k.child) t is) in
    none_or_some (map.get x.copy t)
    (λ e. absent_settled F2 i G2 b.kept t touched (ap (λ c. map.get c t) (b.holds ∙ list_copy F i G k q) ∙ e))
    (λ e. all_in (λ (s : Slot). settled (world_at F2 i) G2 s ≡ true) (slots_at F i q) t all (ap (list_any (eq_by_cmp slot_cmp t)) (slots_found F i q k.child.there) ∙ listed_slot x q t is e))

-- the first names of a list were brought
pub record Begun (F : Worlds) (i : WorldId) (G : Worlds) (q : ObjId) (names : List Name) (F' G' : Worlds) : Type 0 where
  pub brought : Brought F i G F' G'
  pub settled : AllByRecursion (λ (s : Slot). settled (world_at F' i) G' s ≡ true) (slots_of q names)

pub begun_none : (F : Worlds) (i : WorldId) (G : Worlds) (q : ObjId) → IsSession F i G → Begun F i G q [] F G
begun_none F i G q k = record { brought = brought_nothing F i G k; settled = tt }

pub begun_more : (F : Worlds) (i : WorldId) (G : Worlds) (q : ObjId) (names : List Name) (j : ℕ) (name : Name) (F1 G1 F2 G2 : Worlds) → j < length names → get_or names j name ≡ name → Begun F i G q (take j names) F1 G1 → Brought F1 i G1 F2 G2 → settled (world_at F2 i) G2 (record { object = q; name = name }) ≡ true → Begun F i G q (take (j + 1) names) F2 G2
begun_more F i G q names j name F1 G1 F2 G2 l e b d here = record {
  brought = brought_then F i G F1 G1 F2 G2 b.brought d;
  settled = slots_more (λ (s : Slot). settled (world_at F2 i) G2 s ≡ true) q names j name l e
      (all_weaker (λ (s : Slot). settled (world_at F1 i) G1 s ≡ true) (λ (s : Slot). settled (world_at F2 i) G2 s ≡ true) (λ s h. d.settles s h) (slots_of q (take j names)) b.settled)
      here;
}
