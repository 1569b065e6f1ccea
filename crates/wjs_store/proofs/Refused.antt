-- A commit that does not move changes nothing.
use Rattle.std.proofs.Common.{◌≡◌, ◌≢◌, refl, Option, None, Some, cond}
use Rattle.std.specs.Option.{option_map_or, is_none}
use Rattle.wjs_base.specs.declared.ids.WorldId.{WorldId}
use Rattle.wjs_store.specs.Naming.{Naming}
use Rattle.wjs_store.specs.State.{World, State, verdict_in, verdict_at, with_parent, fault_in, settle, after_commit, moved, no_parent, differs}

module _ {K V : Type 0} {n : Naming K V} (F : State n) where
  refused_by : (o : Option (World n × World n)) → option_map_or (λ (e : World n × World n). verdict_in e.0 e.1) o no_parent ≢ moved → option_map_or (λ (e : World n × World n). cond (is_none (fault_in e.0 e.1)) (settle e.0 e.1.id F) F) o F ≡ F
  refused_by None h = refl
  refused_by (Some e) h = by (fault_in e.0 e.1) h
    where
      by : (o : Option K) → option_map_or differs o moved ≢ moved → cond (is_none o) (settle e.0 e.1.id F) F ≡ F
      by None h = absurd (h refl)
      by (Some s) h = refl

  pub refused_stays : (w : WorldId) → verdict_at F w ≢ moved → after_commit F w ≡ F
  unfolding verdict_at after_commit
  refused_stays w h = refused_by (with_parent F w) h
