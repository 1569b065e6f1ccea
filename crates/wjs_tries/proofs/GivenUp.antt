-- What a try leaves of what is shared, once it is given up.
use Rattle.std.proofs.Common.{◌≡◌, ℕ, ◌≤◌, None, Some, sym, ap, ◌∙◌, subst}
use Rattle.std.specs.FinMap as map
use Rattle.wjs_base.specs.declared.ids.ObjId.{ObjId}
use Rattle.wjs_base.specs.declared.ids.WorldId.{WorldId}
use Rattle.wjs_base.specs.Text.{Grows}
use Rattle.wjs_base.proofs.TextLaws.{Grows-refl}
use Rattle.wjs_store.specs.State.{same_world}
use Rattle.wjs_store.specs.Meaning.{Worlds}
use Rattle.wjs_arena.specs.Entries.{Objects, Entry, Keeps, others_of}
use Rattle.wjs_model.specs.declared.config.Config.{Config}
use Rattle.wjs_model.specs.Soundness.{Base}
use Rattle.wjs_session.specs.declared.session.Session.{Session}
use Rattle.wjs_session.specs.Session.{first_copy}
use Rattle.wjs_session.specs.Stores.{worlds_in}
use Rattle.wjs_session.specs.Others.{Leaves}
use Rattle.wjs_session.proofs.AnswerLaws.{overlay_reached}
use Rattle.wjs_session.proofs.Leaving.{abandons}
use Rattle.wjs_tries.specs.declared.common.Common.{Common}
use Rattle.wjs_tries.specs.Common.{IsCommon}
use Rattle.wjs_tries.specs.Meant.{session_meaning}
use Rattle.wjs_tries.specs.Passing.{Passes}
use Rattle.wjs_tries.specs.Turning.{common_of, GivesUp}
use Rattle.wjs_tries.proofs.Turned.{kept_now, number_is, common_moved}

pub not_both : (m : Objects) (o : ObjId) (e : Entry) (P : Type 0) → map.get m o ≡ None → map.get m o ≡ Some e → P
not_both m o e P none at = let h : None ≡ Some e = sym none ∙ at in absurd (cc)

module _ (c : Config Session) (base : Base session_meaning c) (common : Common) (s : GivesUp c common) where
  abbrev F : Worlds
  F = worlds_in c.heap.store.shared

  abbrev F' : Worlds
  F' = worlds_in common.shared

  -- the others' worlds stand as they stood
  left : Leaves F c.heap.store.world F' × (first_copy F' ≡ first_copy F)
  left = abandons F F' c.heap.store.world (worlds_in c.heap.store.inner) (kept_now c base) s.worlds

  -- what the first world holds stays
  pub first_given : first_copy (worlds_in common.shared) ≡ first_copy (worlds_in c.heap.store.shared)
  first_given = left.1

  pub texts_given : Grows c.heap.texts common.texts
  texts_given = subst (λ t. Grows c.heap.texts t) (sym s.texts) (Grows-refl c.heap.texts)

  -- as the others see it
  pub passes_given : Passes c.owner (common_of c) common
  passes_given = record {
    texts = texts_given;
    objects = subst (λ m. Keeps (others_of c.heap.arena c.owner) m) (sym s.arena_is) (λ o e at. at);
    made = λ o e none at. not_both (others_of c.heap.arena c.owner) o e (o.owner ≡ c.owner) none (ap (λ (m : Objects). map.get m o) (sym s.arena_is) ∙ at);
    units = s.units;
    first = (left.0).first;
    returns = λ i e child. (left.0).returns i (ap (same_world i) (number_is c base) ∙ e) child;
  }

  pub common_given : (drawn : ℕ) → c.owner ≤ drawn → IsCommon c.heap.texts (others_of c.heap.arena c.owner) c.units.items
      (worlds_in c.heap.store.shared) drawn → IsCommon common.texts common.arena common.units.items (worlds_in common.shared) drawn
  common_given drawn within h =
      let now = common_moved c.heap.texts (others_of c.heap.arena c.owner) c.units.items F F' c.heap.store.world drawn h
      (subst (λ k. k ≤ drawn) (sym (ap (λ (z : WorldId). z.owner) (number_is c base))) within)
      (overlay_reached common.shared s.works) (left.0).first (left.0).there first_given in
      subst (λ us. IsCommon common.texts common.arena us.items F' drawn) (sym s.units) (
      subst (λ m. IsCommon common.texts m c.units.items F' drawn) (sym s.arena_is) (
      subst (λ t. IsCommon t (others_of c.heap.arena c.owner) c.units.items F' drawn) (sym s.texts) now))
