-- Where a frame runs still: with another in its place, after a deed, or with more that it holds.
use Rattle.std.proofs.Common.{◌≡◌, List, subst, ◌∙◌}
use Rattle.std.specs.Prelude.{Result, OnOk, map as each}
use Rattle.wjs_base.specs.declared.ids.OutOfMemory.{OutOfMemory}
use Rattle.wjs_base.specs.Text.{Table}
use Rattle.wjs_store.specs.Meaning.{Meaning}
use Rattle.wjs_tree.specs.declared.node.Node.{Node}
use Rattle.wjs_meaning.specs.Deeds.{Env, Act}
use Rattle.wjs_model.specs.declared.config.Config.{Config}
use Rattle.wjs_model.specs.declared.frame.Activation.{Activation as Frame}
use Rattle.wjs_model.specs.declared.frame.Held.{Held}
use Rattle.wjs_model.specs.Soundness.{IsThere, HasItems}
use Rattle.wjs_model.specs.Units.{unit_in}
use Rattle.wjs_model.specs.Contents.{env_of, frame_in}
use Rattle.wjs_frames.specs.Following.{Follows, Later}
use Rattle.wjs_frames.specs.Doing.{Does}
use Rattle.wjs_frames.specs.Parts.{env_in}
use Rattle.wjs_frames.specs.Handling.{IsRunning, Runs, IsAt, GoesOn}

module _ {S : Type 0} (meaning : S → Meaning) where
  -- where frames are run stays
  pub env_later : (old new : Config S) (t : Table) (f : Frame) → Later meaning old new → env_in meaning new t f ≡ env_in meaning old t f
  env_later old new t f l = λ i. env_of (record { trees = each (unit_in t) (l.units i).items; global = l.global i; owner = l.owner i }) (frame_in t f)

  -- another frame in its place
  pub runs_as : (c : Config S) (f g : Frame) → Runs meaning c f → IsThere meaning c g → Runs meaning c g
  runs_as c f g r h = record { running = r.running; there = h }

  -- the frame, holding these things
  pub runs_held : (c : Config S) (f : Frame) (held : List Held) → Runs meaning c f → HasItems c held → Runs meaning c (record f { held = held })
  runs_held c f held r h =
      let at = r.there in
      record {
        running = r.running;
        there = record { scope = at.scope; this = at.this; world = at.world; held = h; stands = record { node = at.stands.node; shown = at.stands.shown } };
      }

  -- after a deed
  pub running_later : (old mid : Config S) → IsRunning meaning old → Later meaning old mid → IsRunning meaning mid
  running_later old mid r l = record { state = l.state ∙ r.state; base = l.base }

  pub runs_later : (old mid : Config S) (f : Frame) → Runs meaning old f → Later meaning old mid → Runs meaning mid f
  runs_later old mid f r l = record { running = running_later old mid r.running l; there = l.frames f r.there }

  -- after a deed, another frame in its place
  pub runs_over : (old mid : Config S) (f g : Frame) → Runs meaning old f → Later meaning old mid → IsThere meaning mid g → Runs meaning mid g
  runs_over old mid f g r l h = record { running = running_later old mid r.running l; there = h }

  pub at_later : (old mid : Config S) (f : Frame) (n : Node) → IsAt meaning old f n → Later meaning old mid → IsAt meaning mid f n
  at_later old mid f n e l = rw l.units e

  -- a deed was done where the frame is run: what goes on with what follows its answer goes on with the deed
  pub goes_on_after : {A : Type 0} (f : Frame) (old mid new : Config S) (result : Result (Unit {0}) OutOfMemory)
      (deeds : Table → (A → Act) → Act) (answer : Table → A) (rest : Table → Env → A → Act) →
      Does meaning deeds answer old mid → Later meaning old mid →
      GoesOn meaning f mid new result (λ t env. rest t env (answer t)) → GoesOn meaning f old new result (λ t env. deeds t (rest t env))
  goes_on_after f old mid new result deeds answer rest d l h =
      let t = new.heap.texts in
      let P : Env → Type 0 = λ env. OnOk result (Follows meaning (rest t env (answer t)) mid new) in
      d.by (rest t (env_in meaning old t f)) new result (subst P (env_later old mid t f l) h)
