-- A try that rests stays unaware of others over another owner's turn, and may be resumed with them kept apart.
use Rattle.std.proofs.Common.{◌≡◌, ℕ, sym, ap, ◌∙◌, IsTrue}
use Rattle.wjs_base.specs.declared.ids.ObjId.{ObjId}
use Rattle.wjs_arena.specs.Entries.{has, joined}
use Rattle.wjs_store.specs.State.{content_at}
use Rattle.wjs_store.specs.Meaning.{Worlds, worlds}
use Rattle.wjs_model.specs.Others.{Other, OtherValue, KeptApart}
use Rattle.wjs_model.specs.Soundness.{Sound}
use Rattle.wjs_session.specs.declared.resting.Resting.{Resting}
use Rattle.wjs_session.specs.Session.{world_at, first_copy, full_of}
use Rattle.wjs_session.specs.Stores.{worlds_in}
use Rattle.wjs_session.specs.Returns.{Returns}
use Rattle.wjs_session.specs.Resumed.{Rests, resumed}
use Rattle.wjs_session.proofs.RestLaws.{stands_still}
use Rattle.wjs_tries.specs.declared.common.Common.{Common}
use Rattle.wjs_tries.specs.declared.common.Rested.{Rested}
use Rattle.wjs_tries.specs.Hiding.{IsHidden, Unaware}
use Rattle.wjs_tries.specs.Meant.{itself, Listed, resting}
use Rattle.wjs_tries.proofs.Grown.{either_held}
use Rattle.wjs_tries.proofs.NotYet.{named_other}

-- over another's turn: what its worlds hold now they held, or the first world holds it
module _ (old new : Common) (rest : Rested) (u : ℕ) (stands : Rests (worlds_in old.shared) rest.resting)
    (returns : Returns (worlds_in old.shared) (worlds_in new.shared) rest.resting.world) where
  abbrev F : Worlds
  F = worlds_in old.shared

  abbrev F' : Worlds
  F' = worlds_in new.shared

  abbrev r : Resting
  r = rest.resting

  -- the worlds as they were
  was_is : full_of (world_at F' r.world) (worlds_in r.inner) (resumed F r).own ≡ worlds (resumed F r)
  was_is = ap (λ f. f (resumed F r).own) (stands_still F F' r stands returns).1

  pub unaware_still : IsHidden new u → Unaware old rest u → Unaware new rest u
  unaware_still h k = record {
    slots = λ i s v at. either_held (world_at F' r.world) (worlds_in r.inner) (first_copy F') (resumed F r).own i s v (Other u s.object × OtherValue u v)
        (λ e. k.slots i s v (ap (λ (H : Worlds). content_at H i s) (sym was_is) ∙ e))
        (λ e. h.slots s v e)
        at;
    frames = k.frames;
  }

-- it names none of an owner of which it is unaware, and no object of which is there
module _ (common : Common) (rest : Rested) (u : ℕ) (us : Listed) (sound : Sound itself (resting us common rest)) (some : ¬ (u ≡ 0))
    (differ : ¬ (u ≡ rest.owner)) (none : (o : ObjId) → IsTrue (has (joined common.arena rest.objects) o) → Other u o) where
  pub kept_resting : Unaware common rest u → KeptApart itself (resting us common rest) u
  kept_resting k = record {
    no_worlds = λ o e w at own is there. differ (sym own ∙ sym (sound.base.worlds_by o e w at is) ∙ sound.base.worlds_own w there);
    slots = k.slots;
    frames = k.frames;
    state = tt;
    objects = λ o e at other. named_other common.texts (joined common.arena rest.objects) u none sound.base.heap.arena o e at (sound.base.heap.objects o e at);
    global = λ e. some (sym e);
  }
