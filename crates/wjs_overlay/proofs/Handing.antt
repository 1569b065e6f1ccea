-- A commit hands up what was touched, and bounds that cover it there go on covering.
use Rattle.std.proofs.Common.{◌≡◌, ℕ, ◌<◌, Bool, true, false, cond, not, ◌&&◌, ◌||◌, List, Option, Some, is_some, refl, ap, sym, ◌∙◌, subst, arith}
use Rattle.std.specs.Option.{option_map, option_map_or, option_and_then}
use Rattle.std.specs.FinMap as map
use Rattle.std.proofs.lemmas.Bool.{true≢false, or_parts}
use Rattle.std.proofs.lemmas.Option.{same_Some}
use Rattle.wjs_base.specs.declared.ids.WorldId.{WorldId}
use Rattle.wjs_base.specs.declared.values.Slot.{Slot}
use Rattle.wjs_base.proofs.Booleans.{by_bool}
use Rattle.wjs_base.proofs.Options.{by_option}
use Rattle.wjs_store.specs.Marked.{recorded_at, is_written, is_listed, is_strict}
use Rattle.wjs_store.specs.MarksMoved.{MarksMoved, hands_read}
use Rattle.wjs_store.specs.Meaning.{unseen}
use Rattle.wjs_store.specs.Naming.{plain}
use Rattle.wjs_store.specs.Reached.{IsReached}
use Rattle.wjs_store.specs.State.{World, State, find_world, parent_of, same_world, content_at, is_touched, with_parent, fault_in, after_commit}
use Rattle.wjs_store.proofs.MarksLaw.{marks_moved}
use Rattle.wjs_store.proofs.Moved.{pass}
use Rattle.wjs_store.proofs.Parents.{commit_alone, commit_fault, commit_moves}
use Rattle.wjs_store.proofs.Writes.{world_is}
use Rattle.wjs_overlay.specs.declared.bounds.Bound.{Bound}
use Rattle.wjs_overlay.specs.Covers.{covers, Grows}
use Rattle.wjs_layers.specs.Sparse.{place_of}
use Rattle.wjs_overlay.specs.Touched.{Covered}
use Rattle.wjs_layers.proofs.Looks.{found_at}
use Rattle.wjs_overlay.proofs.StoreLaws.{place_ids, ids_commit}
use Rattle.wjs_overlay.proofs.Touching.{covered_more}

-- whether a slot is touched in a world, by its number
abbrev touched_at : State plain → WorldId → Slot → Bool
touched_at F i s = (is_some (recorded_at F i s) || is_written F i s) || is_listed F i s.object

touched_found : (F : State plain) (i : WorldId) (x : World plain) (s : Slot) → find_world F i ≡ Some x → touched_at F i s ≡ is_touched x s
touched_found F i x s f = ap (λ (o : Option (World plain)). (is_some (option_and_then (λ (x : World plain). map.get x.first s) o) || option_map_or (λ (x : World plain). map.contains_key x.written s) o false) || option_map_or (λ (x : World plain). map.contains_key x.closed s.object) o false) f

never : (a b : Bool) → (a && (b && false)) ≡ false
never true true = refl
never true false = refl
never false b = refl

neither : (a : Bool) → ((a && false) || false) ≡ false
neither true = refl
neither false = refl

module _ (F : State plain) (w p : WorldId) (G : State plain) (m : MarksMoved F w p G) (s : Slot) where
  -- the world that was committed has touched nothing
  emptied : touched_at G w s ≡ false
  emptied =
      ap (λ o. (is_some o || is_written G w s) || is_listed G w s.object) (m.no_reads s)
      ∙ ap (λ b. b || is_listed G w s.object) (m.no_writes s)
      ∙ m.no_lists s.object

  -- and its parent nothing that neither had touched
  handed_none : touched_at F p s ≡ false → touched_at F w s ≡ false → touched_at G p s ≡ false
  handed_none above below =
      let a = or_parts (is_some (recorded_at F p s) || is_written F p s) (is_listed F p s.object) above in
      let b = or_parts (is_some (recorded_at F p s)) (is_written F p s) a.0 in
      let c = or_parts (is_some (recorded_at F w s) || is_written F w s) (is_listed F w s.object) below in
      let d = or_parts (is_some (recorded_at F w s)) (is_written F w s) c.0 in
      let hands : hands_read F w p s ≡ false =
      ap (λ r. (r && not (is_listed F p s.object)) || (is_written F w s && (is_listed F p s.object || is_strict F p))) d.0
      ∙ ap (λ r. r && (is_listed F p s.object || is_strict F p)) d.1 in
      let reads : is_some (recorded_at G p s) ≡ false =
      ap is_some (m.reads s)
      ∙ ap (λ q. is_some (cond (is_some (parent_of F p) && (not (is_some (recorded_at F p s) || is_written F p s) && q)) (Some (content_at F p s)) (recorded_at F p s))) hands
      ∙ ap (λ q. is_some (cond q (Some (content_at F p s)) (recorded_at F p s))) (never (is_some (parent_of F p)) (not (is_some (recorded_at F p s) || is_written F p s)))
      ∙ b.0 in
      let writes : is_written G p s ≡ false =
      m.writes s
      ∙ ap (λ q. (is_some (parent_of F p) && q) || is_written F p s) d.1
      ∙ ap (λ q. (is_some (parent_of F p) && false) || q) b.1
      ∙ neither (is_some (parent_of F p)) in
      let lists : is_listed G p s.object ≡ false =
      m.lists s.object
      ∙ ap (λ q. (is_some (parent_of F p) && q) || is_listed F p s.object) c.1
      ∙ ap (λ q. (is_some (parent_of F p) && false) || q) a.1
      ∙ neither (is_some (parent_of F p)) in
      ap (λ q. (q || is_written G p s) || is_listed G p s.object) reads ∙ ap (λ q. q || is_listed G p s.object) writes ∙ lists

module _ (old new : List Bound) (grows : Grows old new) (F : State plain) (w : WorldId) (i j : ℕ) (reached : IsReached F) (here : place_of F w ≡ Some i) (above : (p : WorldId) → parent_of F w ≡ Some p → (place_of F p ≡ Some j) × (j < i)) (handed : 0 < j → (serial : ℕ) → covers old i serial ≡ true → covers new j serial ≡ true) (h : Covered old F) where
  handed_over : (n : ℕ) → n ≡ j → 0 < n → j < i → (s : Slot) → touched_at F w s ≡ true → covers new n s.object.serial ≡ true
  handed_over n same l up s b =
      let x = found_at F w i here in
      let child : 0 < i = omega arith in
      let first : 0 < j = omega arith in
      ap (λ k. covers new k s.object.serial) same ∙ handed first s.object.serial (h w i x.0 s here x.1 child (sym (touched_found F w x.0 s x.1) ∙ b))

  -- a commit that moved
  covered_moved : (p : WorldId) → parent_of F w ≡ Some p → MarksMoved F w p (after_commit F w) → Covered new (after_commit F w)
  covered_moved p up m = λ v n y s pv f l t.
      let place : place_of F v ≡ Some n = sym (place_ids (after_commit F w) F v (ids_commit F w)) ∙ pv in
      let x = found_at F v n place in
      let now : touched_at (after_commit F w) v s ≡ true = touched_found (after_commit F w) v y s f ∙ t in
      by_bool (same_world v w)
      (λ e. absurd (true≢false (sym now ∙ ap (λ k. touched_at (after_commit F w) k s) (world_is v w e) ∙ emptied F w p (after_commit F w) m s)))
      (λ e. by_bool (same_world v p)
      (λ g.
      let is : v ≡ p = world_is v p g in
      let same : n ≡ j = same_Some n j (sym place ∙ ap (place_of F) is ∙ (above p up).0) in
      by_bool (touched_at F p s)
      (λ a. grows n s.object.serial (h v n x.0 s place x.1 l (sym (touched_found F v x.0 s x.1) ∙ ap (λ k. touched_at F k s) is ∙ a)))
      (λ a. by_bool (touched_at F w s)
      (λ b. handed_over n same l (above p up).1 s b)
      (λ b. absurd (true≢false (sym now ∙ ap (λ k. touched_at (after_commit F w) k s) is ∙ handed_none F w p (after_commit F w) m s a b)))))
      (λ g.
      let kept : Some (unseen y) ≡ Some (unseen x.0) = sym (ap (option_map unseen) f) ∙ m.others v e g ∙ ap (option_map unseen) x.1 in
      let same : is_touched y s ≡ is_touched x.0 s = ap (λ (z : World plain). is_touched z s) (same_Some (unseen y) (unseen x.0) kept) in
      grows n s.object.serial (h v n x.0 s place x.1 l (sym same ∙ t))))

  pub covered_commit : Covered new (after_commit F w)
  covered_commit = by_option (with_parent F w)
      (λ e. subst (Covered new) (commit_alone F w e).1 (covered_more old new F grows h))
      (λ d e. by_option (fault_in d.0 d.1)
      (λ n.
      let v = sym (commit_moves F w d.0 d.1 e (sym n)).0 in
      let k = pass F w v in
      let up : parent_of F w ≡ Some k.above.id = ap (option_and_then (λ (x : World plain). x.parent)) (ap (find_world F) (sym k.child_id) ∙ k.child_there) ∙ k.up in
      covered_moved k.above.id up (marks_moved F w v k.above.id up reached))
      (λ s n. subst (Covered new) (commit_fault F w d.0 d.1 s e (sym n)).1 (covered_more old new F grows h)))
