-- A configuration stays sound as output goes out, and keeps all else.
use Rattle.std.proofs.Common.{◌≡◌, None, Some, refl, sym, subst}
use Rattle.std.specs.FinMap as map
use Rattle.wjs_base.specs.declared.ids.ObjId.{ObjId}
use Rattle.wjs_base.proofs.TextLaws.{Grows-refl}
use Rattle.wjs_store.specs.Meaning.{Meaning}
use Rattle.wjs_arena.specs.Entries.{Entry}
use Rattle.wjs_model.specs.declared.config.Config.{Config}
use Rattle.wjs_model.specs.declared.config.State.{State}
use Rattle.wjs_model.specs.declared.config.State.TheVariants as states
use Rattle.wjs_model.specs.Configurations.{Stays}
use Rattle.wjs_model.specs.Soundness.{Sound, HasThrown}
use Rattle.wjs_heap_steps.proofs.Later.{base_out}

module _ {S : Type 0} (meaning : S → Meaning) (old new : Config S) where
  thrown_out : (s : State) → HasThrown old s → HasThrown (record old { pending = new.pending }) s
  thrown_out (states.Threw v) h = h
  thrown_out states.Running h = tt
  thrown_out states.Done h = tt
  thrown_out states.StepsSpent h = tt

  sound_same : Sound meaning old → Sound meaning (record old { pending = new.pending })
  sound_same s = record { base = base_out meaning old new.pending s.base; thrown = thrown_out old.state s.thrown; running = s.running }

  pub sound_out : new ≡ record old { pending = new.pending } → Sound meaning old → Sound meaning new
  sound_out same s = subst (Sound meaning) (sym same) (sound_same s)

  not_both : (o : ObjId) (e : Entry) → map.get old.heap.arena o ≡ None → map.get old.heap.arena o ≡ Some e → ⊥
  not_both o e h k = cc

  stays_same : Stays meaning old (record old { pending = new.pending })
  stays_same = record {
    units = refl;
    global = refl;
    world = refl;
    owner = refl;
    apart = refl;
    texts = Grows-refl old.heap.texts;
    objects = λ o e h. h;
    made = λ o e h k. absurd (not_both o e h k);
    own = refl;
    around = refl;
    narrows = λ v a. a;
  }

  pub stays_out : new ≡ record old { pending = new.pending } → Stays meaning old new
  stays_out same = subst (Stays meaning old) (sym same) stays_same
