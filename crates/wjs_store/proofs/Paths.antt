-- Below, as a path of parents, is what the test answers.
use Rattle.std.proofs.Common.{◌≡◌, Bool, true, false, cond, not, ◌&&◌, ◌||◌, [], ◌∷◌, refl, ap, sym, ◌∙◌, Option, None, Some, is_some}
use Rattle.std.specs.Option.{option_map_or}
use Rattle.std.proofs.lemmas.Bool.{and_parts, and_from, not-true, true≢false, false≢true, or_left, or_right}
use Rattle.wjs_base.specs.declared.ids.WorldId.{WorldId}
use Rattle.wjs_base.proofs.Booleans.{by_bool}
use Rattle.wjs_store.specs.Naming.{Naming}
use Rattle.wjs_store.specs.State.{World, State, same_world, find_world, has_world, is_below, is_touched}
use Rattle.wjs_store.specs.Reached.{IsReached}
use Rattle.wjs_store.specs.Path.{Leads, last, step}
use Rattle.wjs_store.proofs.Marks.{none_some, or_case}
use Rattle.wjs_store.proofs.Writes.{not_older, world_is, same_self, below_newest, below_older, has_head, has_tail}
use Rattle.wjs_store.proofs.Commits.{at_head, find_head, find_tail, find_nil, parent_there}

path_parent : (o : Option WorldId) (g : WorldId → Bool) → option_map_or g o false ≡ true → (p : WorldId) × (o ≡ Some p) × (g p ≡ true)
path_parent None g h = absurd (false≢true h)
path_parent (Some p) g h = (p, refl, h)

below_empty : {K V : Type 0} {n : Naming K V} (w : WorldId) (s : K) (F : State n) (d : WorldId) → F ≡ [] → is_below w s F d ≡ false
unfolding is_below
below_empty w s F d e = ap (λ G. is_below w s G d) e

module _ {K V : Type 0} {n : Naming K V} (w : WorldId) (s : K) where
  -- the test at a world that is there
  below_found : (F : State n) (d : WorldId) (x : World n) → IsReached F → find_world F d ≡ Some x → is_below w s F d ≡ (not (is_touched x s) && option_map_or (λ p. same_world p w || is_below w s F p) x.parent false)
  below_found [] d x h e = absurd (none_some (find_world {n = n} [] d) (ap is_some e) (find_nil d))
  below_found (y ∷ older) d x h e = by_bool (same_world y.id d)
      (λ b.
      ap (is_below w s (y ∷ older)) (sym (world_is y.id d b)) ∙ below_newest w s y older
      ∙ up_same y older h y.parent y.parent refl (λ p q. h.0.parent_older p q) (is_touched y s)
      ∙ ap (λ (v : World n). not (is_touched v s) && option_map_or (λ p. same_world p w || is_below w s (y ∷ older) p) v.parent false) (at_head y x older d b e))
      (λ b.
      let f = sym (find_tail y older d b) ∙ e in
      below_older w s y older d b ∙ below_found older d x h.1 f
      ∙ up_same y older h x.parent x.parent refl (λ p q. parent_there older d p x h.1 f q) (is_touched x s))
    where
      up_same : (y : World n) (older : State n) → IsReached (y ∷ older) → (o r : Option WorldId) → o ≡ r → ((p : WorldId) → r ≡ Some p → has_world older p ≡ true) → (t : Bool) → (not t && option_map_or (λ p. same_world p w || is_below w s older p) o false) ≡ (not t && option_map_or (λ p. same_world p w || is_below w s (y ∷ older) p) r false)
      up_same y older h o None q f t = ap (λ o. not t && option_map_or (λ p. same_world p w || is_below w s older p) o false) q
      up_same y older h o (Some p) q f t = ap (λ o. not t && option_map_or (λ p. same_world p w || is_below w s older p) o false) q ∙ ap (λ b. not t && (same_world p w || b)) (sym (below_older w s y older p (not_older y older p h (f p refl))))

  -- a path passes the test
  pub below_path : (F : State n) → IsReached F → (d : WorldId) → Leads F w s d → is_below w s F d ≡ true
  below_path F h d (last x e u q) = below_found F d x h e ∙ and_from (not (is_touched x s)) _ (ap not u) (ap (λ o. option_map_or (λ p. same_world p w || is_below w s F p) o false) q ∙ or_left (same_world w w) (is_below w s F w) (same_self w))
  below_path F h d (step x p e u q r) = below_found F d x h e ∙ and_from (not (is_touched x s)) _ (ap not u) (ap (λ o. option_map_or (λ p. same_world p w || is_below w s F p) o false) q ∙ or_right (same_world p w) (is_below w s F p) (below_path F h p r))

  below_cons : (y : World n) (older : State n) (d : WorldId) → is_below w s (y ∷ older) d ≡ cond (same_world y.id d) (not (is_touched y s) && option_map_or (λ p. same_world p w || is_below w s older p) y.parent false) (is_below w s older d)
  unfolding is_below
  below_cons y older d = refl

  -- what passes the test has a path
  path_part : (F G : State n) → ((i : WorldId) → has_world G i ≡ true → find_world F i ≡ find_world G i) → IsReached G → (d : WorldId) → is_below w s G d ≡ true → Leads F w s d
  path_part F [] a h d e = absurd (true≢false (sym e ∙ below_empty w s [] d refl))
  path_part F (y ∷ older) a h d e =
      let tail = λ (i : WorldId) (k : has_world older i ≡ true). a i (has_tail y older i k) ∙ find_tail y older i (not_older y older i h k) in
      by_bool (same_world y.id d)
      (λ b.
      let is = world_is y.id d b in
      let t : (not (is_touched y s) && option_map_or (λ p. same_world p w || is_below w s older p) y.parent false) ≡ true = sym (below_cons y older d ∙ ap (λ c. cond c (not (is_touched y s) && option_map_or (λ p. same_world p w || is_below w s older p) y.parent false) (is_below w s older d)) b) ∙ e in
      let v = and_parts (not (is_touched y s)) (option_map_or (λ p. same_world p w || is_below w s older p) y.parent false) t in
      let u = not-true (is_touched y s) v.0 in
      let f : find_world F d ≡ Some y = ap (find_world F) (sym is) ∙ a y.id (has_head y older) ∙ find_head y older in
      let p = path_parent y.parent (λ p. same_world p w || is_below w s older p) v.1 in
      or_case (same_world p.0 w) (is_below w s older p.0) p.2
      (λ q. last y f u (p.1 ∙ ap (λ i. Some i) (world_is p.0 w q)))
      (λ q. step y p.0 f u p.1 (path_part F older tail h.1 p.0 q)))
      (λ b. path_part F older tail h.1 d (sym (below_cons y older d ∙ ap (λ c. cond c (not (is_touched y s) && option_map_or (λ p. same_world p w || is_below w s older p) y.parent false) (is_below w s older d)) b) ∙ e))

  pub path_below : (F : State n) → IsReached F → (d : WorldId) → is_below w s F d ≡ true → Leads F w s d
  path_below F h d e = path_part F F (λ i k. refl) h d e
