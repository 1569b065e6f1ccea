-- What others do while a session rests changes nothing of it.
use Rattle.std.proofs.Common.{◌≡◌, Bool, true, false, cond, not, ◌&&◌, List, [], ◌∷◌, refl, ap, sym, ◌∙◌, subst, map as each}
use Rattle.std.specs.Option.{is_none}
use Rattle.std.specs.List.{AllByRecursion}
use Rattle.std.specs.FinMap as map
use Rattle.wjs_base.specs.declared.ids.WorldId.{WorldId}
use Rattle.wjs_base.specs.declared.values.Slot.{Slot}
use Rattle.wjs_base.specs.Same.{same_value}
use Rattle.wjs_base.proofs.Booleans.{by_bool}
use Rattle.wjs_store.specs.Naming.{plain}
use Rattle.wjs_store.specs.Meaning.{Meaning, View, Worlds, PlainAct, PlainReply, unseen}
use Rattle.wjs_store.specs.State.{World, is_touched, same_content, fault_in}
use Rattle.wjs_session.specs.Session.{holding, world_at, first_copy, settled, outer, full_of, passes, session}
use Rattle.wjs_session.specs.Kept.{IsShut, IsSession}
use Rattle.wjs_session.specs.Stores.{worlds_in}
use Rattle.wjs_session.specs.Told.{told_of}
use Rattle.wjs_session.specs.Along.{along}
use Rattle.wjs_session.specs.Tells.{actions_of, unmarked, TellsMarks}
use Rattle.wjs_session.specs.Returns.{Returns, IsTheSame, RestChangesNothing}
use Rattle.wjs_session.specs.Resumed.{RestingStandsStill, RestingIsSound}
use Rattle.wjs_session.specs.Sound.{sound_session}
use Rattle.wjs_session.proofs.Acting.{fill_alike}
use Rattle.wjs_session.specs.Maps.{get_outer, same_view}

module _ (F F' : Worlds) (i : WorldId) (b : Returns F F' i) where
  touched_same : (s : Slot) → is_touched (world_at F' i) s ≡ is_touched (world_at F i) s
  touched_same s = ap (λ (x : World plain). is_touched x s) b.marks

  settled_same : (G : Worlds) (s : Slot) → settled (world_at F' i) G s ≡ settled (world_at F i) G s
  settled_same G s = by_bool (is_touched (world_at F i) s)
      (λ t. λ k. touched_same s k && same_content same_value (map.get (first_copy G) s) (b.holds s t k))
      (λ t.
      ap (λ c. c && same_content same_value (map.get (first_copy G) s) (map.get (world_at F' i).copy s)) (touched_same s ∙ t)
      ∙ sym (ap (λ c. c && same_content same_value (map.get (first_copy G) s) (map.get (world_at F i).copy s)) t))

  outer_same : (v : View) (s : Slot) → map.get (outer (world_at F' i) v) s ≡ map.get (outer (world_at F i) v) s
  outer_same v s =
      get_outer (world_at F' i) v s
      ∙ by_bool (is_touched (world_at F i) s)
      (λ t. λ k. cond (touched_same s k) (b.holds s t k) (map.get v s))
      (λ t.
      ap (λ c. cond c (map.get (world_at F' i).copy s) (map.get v s)) (touched_same s ∙ t)
      ∙ sym (ap (λ c. cond c (map.get (world_at F i).copy s) (map.get v s)) t))
      ∙ sym (get_outer (world_at F i) v s)

  full_same : (G : Worlds) → full_of (world_at F' i) G ≡ full_of (world_at F i) G
  full_same G = λ k v. each (λ (y : World plain). fill_alike (settled (world_at F i) G) (settled (world_at F' i) G) (outer (world_at F i) v) (outer (world_at F' i) v) (settled_same G) (λ t e. outer_same v t) y k) G

  passes_same : passes (world_at F' i) ≡ passes (world_at F i)
  unfolding passes
  passes_same = λ k v. is_none (fault_in (b.marks k) (holding (b.marks k).id v))

  kept_same : (G : Worlds) → IsSession F i G → IsSession F' i G
  kept_same G h = record {
    shared = b.reached;
    child = b.child;
    inner = h.inner;
    first = h.first;
    shut = subst (λ (w : Slot → Bool). AllByRecursion (IsShut w) G) (λ k s. sym (settled_same G s) k) h.shut;
  }

-- what was told makes the marks still
tells_still : (F F' : Worlds) (i : WorldId) (G : Worlds) (told : List (PlainAct × PlainReply)) → Returns F F' i → TellsMarks (world_at F i) G told → TellsMarks (world_at F' i) G told
tells_still F F' i G told b old = λ v p.
    let x = world_at F i in
    let y = world_at F' i in
    let same : outer y v ≡ outer x v = same_view (outer y v) (outer x v) (outer_same F F' i b v) in
    (λ j. along (actions_of told) (holding (b.marks j).id v ∷ []) (unmarked (b.marks j) v))
    ∙ old v (ap (λ (test : View → Bool). test v) (sym (passes_same F F' i b)) ∙ p)
    ∙ (λ j. (sym (full_same F F' i b G) j v, record (sym b.marks j) { copy = sym same j }))

pub rest_law : RestChangesNothing
rest_law F F' i G h b = (kept_same F F' i b G h, full_same F F' i b G, passes_same F F' i b)

pub resumed : (F' : Worlds) (i : WorldId) (G : Worlds) (told : List (PlainAct × PlainReply)) (m : Meaning) → m ≡ session F' i G told false → IsTheSame F' i G told m
resumed F' i G told m e = record {
  is = e;
  same = λ F b. (ap (λ (n : Meaning). n.full) e ∙ full_same F F' i b G, ap (λ (n : Meaning). n.admits) e ∙ passes_same F F' i b);
}

pub stands_still : RestingStandsStill
stands_still F F' r k b = (
  record { is = kept_same F F' r.world b (worlds_in r.inner) k.is; tells = tells_still F F' r.world (worlds_in r.inner) (told_of r.told.chain.value) b k.tells },
  full_same F F' r.world b (worlds_in r.inner),
  passes_same F F' r.world b,
)

pub is_sound : RestingIsSound
is_sound F r k = sound_session F r.world (worlds_in r.inner) (told_of r.told.chain.value) false (λ e. k.is) refl
