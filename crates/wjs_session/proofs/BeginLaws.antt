-- A session that begins.
use Rattle.std.proofs.Common.{◌≡◌, ℕ, ◌<◌, ◌+◌, ◌==◌, Bool, true, false, cond, not, ◌&&◌, ◌||◌, List, [], ◌∷◌, refl, ap, sym, ◌∙◌, subst, arith, map as each, Option, None, Some, is_some, unwrap_or}
use Rattle.std.specs.Option.{option_map_or, option_and_then}
use Rattle.std.specs.List.{AllByRecursion, list_any}
use Rattle.std.specs.FinMap as map
use Rattle.std.proofs.lemmas.Bool.{true≢false, false≢true, or_from, false_from_ne_true, eqb-true}
use Rattle.std.proofs.lemmas.Option.{same_Some}
use Rattle.wjs_base.specs.declared.ids.WorldId.{WorldId}
use Rattle.wjs_base.specs.declared.values.Slot.{Slot}
use Rattle.wjs_base.specs.declared.values.Value.{Value}
use Rattle.wjs_base.specs.Order.{slot_cmp, obj_cmp}
use Rattle.wjs_base.specs.Same.{same_value}
use Rattle.wjs_base.proofs.Booleans.{by_bool}
use Rattle.wjs_store.specs.Naming.{plain}
use Rattle.wjs_store.specs.Reached.{IsReached}
use Rattle.wjs_store.specs.Shown.{first_of}
use Rattle.wjs_store.specs.Fixed.{begun}
use Rattle.wjs_store.specs.Meaning.{Meaning, View, Worlds, PlainAct, PlainReply}
use Rattle.wjs_store.specs.State.{World, same_world, find_world, has_world, count_of, next_id, child_of, after_sprout, is_touched, same_content}
use Rattle.wjs_store.proofs.Marks.{none_some}
use Rattle.wjs_store.proofs.Keeps.{reached_after}
use Rattle.wjs_store.proofs.Writes.{same_self, world_is, serial_below, has_head, has_tail, not_older, reached_sprout}
use Rattle.wjs_store.proofs.Commits.{find_head, find_tail, reached_begun}
use Rattle.wjs_session.specs.Filled.{filled}
use Rattle.wjs_session.specs.Session.{holding, world_at, first_copy, has_child, settled, outer, full_of, passes, owned, around_of, session}
use Rattle.wjs_session.specs.Kept.{IsChild, IsShut, IsSession}
use Rattle.wjs_session.specs.Begun.{Begins}
use Rattle.wjs_session.specs.Along.{along}
use Rattle.wjs_session.specs.Tells.{actions_of, under, unmarked, TellsMarks}
use Rattle.wjs_session.proofs.Worlds.{found_at, at_found, id_at, first_there, first_child}
use Rattle.wjs_session.proofs.Marking.{own_fresh}
use Rattle.wjs_session.proofs.Acting.{sprout_is}
use Rattle.wjs_session.proofs.CarryLaws.{none_changed}
use Rattle.wjs_session.specs.Maps.{get_filled, get_outer, same_view, passes_by}

-- an owner without worlds has none of any number
no_world : (F : Worlds) (owner : ℕ) → IsReached F → has_world F (next_id F owner) ≡ false
no_world F owner r = false_from_ne_true (has_world F (next_id F owner)) (λ h. let l : count_of owner F < count_of owner F = serial_below F (next_id F owner) r h in omega arith)

-- a world that is not there has no child
no_child : (F : Worlds) (i : WorldId) → IsReached F → has_world F i ≡ false → has_child F i ≡ false
no_child [] i r h = refl
no_child (y ∷ F) i r h =
    let gone : has_world F i ≡ false = false_from_ne_true (has_world F i) (λ e. true≢false (sym (has_tail y F i e) ∙ h)) in
    or_from (option_map_or (λ p. same_world p i) y.parent false) (has_child F i) (up y.parent refl gone) (no_child F i r.1 gone)
  where
    up : (o : Option WorldId) → y.parent ≡ o → has_world F i ≡ false → option_map_or (λ p. same_world p i) o false ≡ false
    up None e g = refl
    up (Some p) e g = false_from_ne_true (same_world p i) (λ q. true≢false (sym (ap (has_world F) (sym (world_is p i q)) ∙ r.0.parent_older p e) ∙ g))

-- an owner without a world of serial 0 has none
pub count_none : (F : Worlds) (owner : ℕ) → IsReached F → has_world F (record { owner = owner; serial = 0 }) ≡ false → count_of owner F ≡ 0
count_none [] owner r h = refl
count_none (y ∷ F) owner r h =
    let first : WorldId = record { owner = owner; serial = 0 } in
    let gone : has_world F first ≡ false = false_from_ne_true (has_world F first) (λ e. true≢false (sym (has_tail y F first e) ∙ h)) in
    let rest : count_of owner F ≡ 0 = count_none F owner r.1 gone in
    let apart : (y.id.owner == owner) ≡ false = false_from_ne_true (y.id.owner == owner) (λ e.
    let is : y.id.owner ≡ owner = eqb-true y.id.owner owner e in
    let serial : y.id.serial ≡ 0 = r.0.serial ∙ ap (λ o. count_of o F) is ∙ rest in
    let same : y.id ≡ first = λ k. record { owner = is k; serial = serial k } in
    true≢false (sym (ap (has_world (y ∷ F)) (sym same) ∙ has_head y F) ∙ h)) in
    (λ k. cond (apart k) 1 0 + rest k)

untouched_bare : (x : World plain) → x.first ≡ map.empty → x.written ≡ map.empty → x.closed ≡ map.empty → (t : Slot) → is_touched x t ≡ false
untouched_bare x f w c t =
    (λ k. (map.contains_key (f k) t || map.contains_key (w k) t) || map.contains_key (c k) t.object)
    ∙ (λ k. (is_some (map.get-empty {X = Option Value} slot_cmp t k) || is_some (map.get-empty {X = Unit {0}} slot_cmp t k)) || is_some (map.get-empty {X = Unit {0}} obj_cmp t.object k))

module _ (F : Worlds) (p : WorldId) (owner : ℕ) (r : IsReached F) (first : first_of F ≡ Some p) (new : count_of owner F ≡ 0) where
  abbrev i : WorldId
  i = next_id F owner

  abbrev c : World plain
  c = child_of (world_at F p) (next_id F owner) false

  there : has_world F p ≡ true
  there = first_there F p r first

  abbrev now : Worlds
  now = child_of (world_at F p) (next_id F owner) false ∷ F

  is_now : after_sprout F p owner false ≡ now
  is_now = sprout_is F p owner false there

  reached_now : IsReached now
  reached_now = subst IsReached is_now (reached_sprout F p owner false r)

  other : same_world (next_id F owner) p ≡ false
  other = not_older c F p reached_now there

  gone : has_world F (next_id F owner) ≡ false
  gone = no_world F owner r

  child_now : IsChild now (next_id F owner)
  child_now = record {
    there = has_head c F;
    up = ap (option_and_then (λ (x : World plain). x.parent)) (find_head c F) ∙ ap (λ j. Some j) (id_at F p there) ∙ sym first ∙ sym (first_child c F p there);
    plain = ap (λ o. option_map_or (λ (x : World plain). x.strict) o false) (find_head c F);
    leaf = or_from (same_world (world_at F p).id (next_id F owner)) (has_child F (next_id F owner))
        (false_from_ne_true (same_world (world_at F p).id (next_id F owner)) (λ q. true≢false (sym (ap (has_world F) (sym (world_is (world_at F p).id (next_id F owner) q)) ∙ ap (has_world F) (id_at F p there) ∙ there) ∙ gone)))
        (no_child F (next_id F owner) r gone);
  }

  world_now : world_at now (next_id F owner) ≡ c
  world_now = at_found now (next_id F owner) c (find_head c F)

  untouched_now : (t : Slot) → is_touched (world_at now (next_id F owner)) t ≡ false
  untouched_now t = ap (λ (x : World plain). is_touched x t) world_now ∙ untouched_bare c refl refl refl t

  abbrev one : World plain
  one = holding (next_id F owner) map.empty

  kept_now : IsSession now (next_id F owner) (begun (next_id F owner))
  kept_now = record {
    shared = reached_now;
    child = child_now;
    inner = reached_begun (next_id F owner) new;
    first = refl;
    shut = (record { absent = λ t e. map.get-empty slot_cmp t; untouched = λ t e. untouched_bare one refl refl refl t }, tt);
  }

  -- the first world's copy stays
  base_now : first_copy now ≡ first_copy F
  base_now =
      ap (λ o. option_map_or (λ j. (world_at now j).copy) o map.empty) (first_child c F p there ∙ first)
      ∙ ap (λ (o : Option (World plain)). (unwrap_or o (holding p map.empty)).copy) (find_tail c F p other)
      ∙ sym (ap (λ o. option_map_or (λ j. (world_at F j).copy) o map.empty) first)

  full_now : (v : View) → full_of (world_at now (next_id F owner)) (begun (next_id F owner)) v ≡ holding (next_id F owner) v ∷ []
  full_now v =
      let x = world_at now (next_id F owner) in
      let G = begun (next_id F owner) in
      ap (λ m. holding (next_id F owner) m ∷ []) (same_view (filled (settled x G) map.empty (outer x v)) v (λ t.
      get_filled (settled x G) map.empty (outer x v) t
      ∙ ap (λ b. cond (b && same_content same_value (map.get (first_copy G) t) (map.get x.copy t)) (map.get (map.empty {X = Value} {R = slot_cmp}) t) (map.get (outer x v) t)) (untouched_now t)
      ∙ get_outer x v t
      ∙ ap (λ b. cond b (map.get x.copy t) (map.get v t)) (untouched_now t)))

  admits_now : (v : View) → passes (world_at now (next_id F owner)) v ≡ true
  admits_now v = ap (λ x. passes x v) world_now ∙ passes_by c v
      (λ s d e. absurd (none_some (map.get c.first s) (ap is_some e) (map.get-empty slot_cmp s)))
      (λ s e n. absurd (none_some (map.get c.closed s.object) e (map.get-empty obj_cmp s.object)))

  own_now : owned (world_at now (next_id F owner)) (first_copy now) ≡ first_copy F
  own_now = same_view (owned (world_at now (next_id F owner)) (first_copy now)) (first_copy now) (λ t. own_fresh (first_copy now) (world_at now (next_id F owner)) t (untouched_now t)) ∙ base_now

  abbrev hidden : World plain → World plain
  hidden y = record y { copy = map.empty; first = map.empty; written = map.empty; closed = map.empty }

  around_now : around_of now (next_id F owner) ≡ record (holding (next_id F owner) map.empty) { parent = first_of F } ∷ F
  around_now =
      (λ k. cond (same_self (next_id F owner) k) (hidden c) c ∷ each (λ (y : World plain). cond (same_world y.id (next_id F owner)) (hidden y) y) F)
      ∙ (λ k. record (hidden c) { parent = up k } ∷ none_changed (next_id F owner) hidden F gone k)
    where
      up : Some (world_at F p).id ≡ first_of F
      up = ap (λ j. Some j) (id_at F p there) ∙ sym first

  begins_now : (told : List (PlainAct × PlainReply)) → told ≡ [] → Begins F owner (next_id F owner) (session now (next_id F owner) (begun (next_id F owner)) told false)
  begins_now told e = record {
    number = refl;
    full = full_now;
    admits = admits_now;
    own = own_now;
    told = ap (λ d. Some d) e;
    around = around_now;
    works = refl;
  }

  outer_now : (v : View) → outer c v ≡ v
  outer_now v = same_view (outer c v) v (λ t. get_outer c v t ∙ ap (λ b. cond b (map.get c.copy t) (map.get v t)) (untouched_bare c refl refl refl t))

  -- nothing was told, and its world has no marks
  tells_now : (told : List (PlainAct × PlainReply)) → told ≡ [] → TellsMarks (world_at now (next_id F owner)) (begun (next_id F owner)) told
  tells_now told e = λ v q.
      (λ j. along (actions_of (e j)) (holding (world_now j).id v ∷ []) (unmarked (world_now j) v))
      ∙ (λ j. (sym (full_now v) j, record c { copy = sym (outer_now v) j }))
      ∙ ap (λ (y : World plain). (full_of (world_at now (next_id F owner)) (begun (next_id F owner)) v, under y v)) (sym world_now)

  -- by the worlds that the sprout leaves
  pub kept_begun : IsSession (after_sprout F p owner false) (next_id F owner) (begun (next_id F owner))
  kept_begun = subst (λ H. IsSession H (next_id F owner) (begun (next_id F owner))) (sym is_now) kept_now

  pub begins : (told : List (PlainAct × PlainReply)) → told ≡ [] → Begins F owner (next_id F owner) (session (after_sprout F p owner false) (next_id F owner) (begun (next_id F owner)) told false)
  begins told e = subst (λ H. Begins F owner (next_id F owner) (session H (next_id F owner) (begun (next_id F owner)) told false)) (sym is_now) (begins_now told e)

  pub tells_begun : (told : List (PlainAct × PlainReply)) → told ≡ [] → TellsMarks (world_at (after_sprout F p owner false) (next_id F owner)) (begun (next_id F owner)) told
  tells_begun told e = subst (λ (H : Worlds). TellsMarks (world_at H (next_id F owner)) (begun (next_id F owner)) told) (sym is_now) (tells_now told e)
