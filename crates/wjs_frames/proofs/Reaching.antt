-- Turns one after another.
use Rattle.std.proofs.Common.{◌≡◌, ℕ, ◌+◌, ◌<◌, Option, None, Some, inl, inr, refl, sym, ap, ◌∙◌, subst, arith}
use Rattle.std.specs.FinMap as map
use Rattle.wjs_base.specs.declared.ids.ObjId.{ObjId}
use Rattle.wjs_base.specs.Order.{obj_cmp}
use Rattle.wjs_base.specs.Text.{Table, Grows}
use Rattle.wjs_base.proofs.TextLaws.{Grows-trans}
use Rattle.wjs_store.specs.Meaning.{Meaning}
use Rattle.wjs_arena.specs.Entries.{Entry}
use Rattle.wjs_by_content.specs.Objects.{Entry as Placed}
use Rattle.wjs_by_content.proofs.Growth.{worlds_grow}
use Rattle.wjs_model.specs.declared.config.Config.{Config}
use Rattle.wjs_model.specs.declared.config.State.TheVariants as states
use Rattle.wjs_model.specs.Soundness.{Sound}
use Rattle.wjs_model.specs.Outside.{Outside, Admits, Knows, alone}
use Rattle.wjs_model.specs.Configurations.{rest, turns, Stays, Turned, quietly, by_step, stopped, Quiet, Stepped, Stopped}
use Rattle.wjs_frames.specs.Growing.{LeftAlike}
use Rattle.wjs_frames.specs.Reaching.{own_view, AdmitsOwn, Reaches, turns_now, Falls}
use Rattle.wjs_frames.proofs.Keeping.{grows_same, stays_framed}
use Rattle.wjs_frames.proofs.Taking.{seen_spent}
use Rattle.wjs_frames.proofs.Growing.{left_alike, later_alike}

fewer_steps : (x k y : ℕ) → 0 < k → x ≡ k + y → y < x
fewer_steps x k y some e = omega (arith, some, e)

fewer_turns : (x y z : ℕ) → x < y → y ≡ z → x < z
fewer_turns x y z h e = omega (arith, h, e)

no_entry : (r : Option Placed) (e : Placed) → r ≡ None → r ≡ Some e → ⊥
no_entry r e n h = cc

module _ {S : Type 0} (meaning : S → Meaning) where
  pub stays_on : (old mid new : Config S) → Stays meaning old mid → Stays meaning mid new → Stays meaning old new
  stays_on old mid new f s = record {
    units = s.units ∙ f.units;
    global = s.global ∙ f.global;
    world = s.world ∙ f.world;
    owner = s.owner ∙ f.owner;
    apart = s.apart ∙ f.apart;
    texts = Grows-trans old.heap.texts mid.heap.texts new.heap.texts f.texts s.texts;
    objects = λ o e h. s.objects o e (f.objects o e h);
    made = λ o e h k. by o e h k (map.get mid.heap.arena o) refl;
    own = s.own ∙ f.own;
    around = s.around ∙ f.around;
    narrows = λ v a. f.narrows v (s.narrows v a);
  }
    where
      by : (o : ObjId) (e : Entry) → map.get old.heap.arena o ≡ None → map.get new.heap.arena o ≡ Some e → (r : Option Entry) → map.get mid.heap.arena o ≡ r → o.owner ≡ old.owner
      by o e h k None q = s.made o e q k ∙ f.owner
      by o e h k (Some x) q = f.made o x h q

  -- the own view under a table
  abbrev own_under : Config S → Table → Outside
  own_under c u = alone (meaning c.heap.store).own u

  -- a table that has grown from the texts knows what the worlds hold under the own view
  known_own : (c : Config S) (u : Table) → Sound meaning c → Grows c.heap.texts u → Knows meaning c (own_under c u)
  known_own c u s g = (worlds_grow c.heap.texts u g ((meaning c.heap.store).full (meaning c.heap.store).own) s.base.marks).0

  -- no further objects are admitted with each view that is
  admits_alone : (c : Config S) → AdmitsOwn meaning c → Admits meaning c (own_view meaning c)
  admits_alone c a = record {
    view = a;
    further = record { apart = λ o e h. absurd (none o e h); worlds = λ o e w h. absurd (none o e h) };
    texts = grows_same c.heap.texts;
  }
    where
      none : (o : ObjId) (e : Placed) → map.get (map.empty {X = Placed} {R = obj_cmp}) o ≡ Some e → ⊥
      none o e h = no_entry (map.get (map.empty {X = Placed} {R = obj_cmp}) o) e (map.get-empty obj_cmp o) h

  -- under tables that have grown
  own_alike : (c : Config S) (t u : Table) → Sound meaning c → Grows c.heap.texts t → Grows c.heap.texts u → LeftAlike meaning t (own_under c u) c.heap.texts (own_view meaning c) c
  own_alike c t u s g gu =
      let v = own_view meaning c in
      let one = left_alike meaning t (own_under c u) c s g in
      let two = later_alike meaning c.heap.texts u v c s (grows_same c.heap.texts) gu (known_own c c.heap.texts s (grows_same c.heap.texts)) in
      record { rest = λ n. one.rest n ∙ two.rest n; turns = one.turns ∙ two.turns }

  -- the new own view is the old one, under the new texts
  own_is : (old new : Config S) → Stays meaning old new → own_view meaning new ≡ own_under old new.heap.texts
  own_is old new s = ap (λ view. alone view new.heap.texts) s.own

  rest_on : (old new : Config S) (n : ℕ) → Sound meaning old → Stays meaning old new → rest meaning new.heap.texts (own_view meaning new) old n ≡ rest meaning old.heap.texts (own_view meaning old) old n
  rest_on old new n s k = ap (λ w. rest meaning new.heap.texts w old n) (own_is old new k) ∙ (own_alike old new.heap.texts new.heap.texts s k.texts k.texts).rest n

  turns_on : (old new : Config S) → Sound meaning old → Stays meaning old new → turns meaning new.heap.texts (own_view meaning new) old ≡ turns_now meaning old
  turns_on old new s k = ap (λ w. turns meaning new.heap.texts w old) (own_is old new k) ∙ (own_alike old new.heap.texts new.heap.texts s k.texts k.texts).turns

  -- what was known of the old one's worlds is, under the new own view
  known_now : (old new : Config S) → Sound meaning old → Stays meaning old new → Knows meaning old (own_view meaning new)
  known_now old new s k = subst (Knows meaning old) (sym (own_is old new k)) (known_own old new.heap.texts s k.texts)

  quiet_reaches : (old new : Config S) → Sound meaning old → AdmitsOwn meaning new → Quiet meaning old new → Reaches meaning old new × Falls meaning old new
  quiet_reaches old new s a q =
      let v = own_view meaning new in
      let known = known_now old new s q.stays in (
        record { stays = q.stays; kept = q.kept v (admits_alone new a) known old.left ∙ ap (rest meaning new.heap.texts v new) (sym q.left) },
        inr (inl (q.left, fewer_turns _ _ _ (q.falls v (admits_alone new a) known) (turns_on old new s q.stays))),
      )

  step_reaches : (old new : Config S) → Sound meaning old → AdmitsOwn meaning new → Stepped meaning old new → Reaches meaning old new × Falls meaning old new
  step_reaches old new s a q =
      let v = own_view meaning new in (
        record { stays = q.stays; kept = ap (rest meaning new.heap.texts v old) q.left ∙ q.kept v (admits_alone new a) (known_now old new s q.stays) new.left },
        inl (fewer_steps old.left q.steps new.left q.some q.left),
      )

  stop_reaches : (old : Config S) → Stopped meaning old (record old { state = states.StepsSpent }) → Reaches meaning old (record old { state = states.StepsSpent }) × Falls meaning old (record old { state = states.StepsSpent })
  stop_reaches old q =
      let v = own_view meaning old in (
        record {
          stays = stays_framed meaning old old.frames states.StepsSpent;
          kept = ap (rest meaning old.heap.texts v old) q.left ∙ q.due v ∙ sym (seen_spent old.heap.texts (meaning old.heap.store).told _ _ _ _);
        },
        inr (inr (λ e. absurd (cc))),
      )

  pub turn_reaches : (old new : Config S) → Sound meaning old → AdmitsOwn meaning new → Turned meaning old new → Reaches meaning old new × Falls meaning old new
  turn_reaches old new s a (quietly q) = quiet_reaches old new s a q
  turn_reaches old new s a (by_step q) = step_reaches old new s a q
  turn_reaches old new s a (stopped q) = subst (λ c. Reaches meaning old c × Falls meaning old c) (sym q.same) (stop_reaches old (subst (Stopped meaning old) q.same q))

  pub reached_reached : (old mid new : Config S) → Sound meaning old → Sound meaning mid → Reaches meaning old mid → Reaches meaning mid new → Reaches meaning old new
  reached_reached old mid new so sm f h =
      let stays = stays_on old mid new f.stays h.stays in
      record {
        stays = stays;
        kept =
            rest_on old new old.left so stays
            ∙ sym (rest_on old mid old.left so f.stays)
            ∙ f.kept
            ∙ sym (rest_on mid new mid.left sm h.stays)
            ∙ h.kept;
      }
