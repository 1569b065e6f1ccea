-- A frame that is there is so with another phase, `this` and other items.
use Rattle.std.proofs.Common.{List}
use Rattle.wjs_base.specs.declared.values.Value.{Value}
use Rattle.wjs_store.specs.Meaning.{Meaning}
use Rattle.wjs_model.specs.declared.config.Config.{Config}
use Rattle.wjs_model.specs.declared.frame.Activation.{Activation as Frame}
use Rattle.wjs_model.specs.declared.frame.Held.{Held}
use Rattle.wjs_model.specs.declared.frame.Phase.{Phase}
use Rattle.wjs_model.specs.Soundness.{IsThere, HasItems, HasValue}

pub there_with : {S : Type 0} (meaning : S → Meaning) (c : Config S) (f : Frame) (phase : Phase) (this : Value) (items : List Held) → IsThere meaning c f → HasValue c this → HasItems c items
    → IsThere meaning c (record f { phase = phase; this = this; held = items })
there_with meaning c f phase this items h ht hi = record {
  scope = h.scope;
  this = ht;
  world = h.world;
  held = hi;
  stands = record { node = h.stands.node; shown = h.stands.shown };
}
