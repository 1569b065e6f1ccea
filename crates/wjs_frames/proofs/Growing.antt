-- What is left to do under a table that has grown.
use Rattle.std.proofs.Common.{◌≡◌, ℕ, true, List, [], ◌∷◌, refl, sym, ap, ◌∙◌}
use Rattle.std.specs.Prelude.{unwrap_or}
use Rattle.wjs_base.specs.declared.values.Name.{Name}
use Rattle.wjs_base.specs.declared.values.Value.{Value}
use Rattle.wjs_base.specs.declared.values.Value.TheVariants as values
use Rattle.wjs_base.specs.Spelling.{IsName}
use Rattle.wjs_base.specs.Text.{Table, IsTable, Grows}
use Rattle.wjs_base.proofs.TextLaws.{Grows-trans}
use Rattle.wjs_store.specs.Meaning.{Meaning}
use Rattle.wjs_arena.specs.declared.object.Object.{Object}
use Rattle.wjs_arena.specs.Entries.{Objects}
use Rattle.wjs_by_content.specs.Renamed.{Holds}
use Rattle.wjs_by_content.specs.Tables.{knows_value, KnowsUnder, KnowsObject, KnowsArena}
use Rattle.wjs_by_content.proofs.Known.{text_known, name_known}
use Rattle.wjs_by_content.proofs.Growth.{worlds_grow}
use Rattle.wjs_by_content.proofs.ArenaGrowth.{arena_grows}
use Rattle.wjs_heap.specs.Heap.{HasValue, HasNamed, IsHeap, Parts}
use Rattle.wjs_heap.proofs.Told.{told_grows}
use Rattle.wjs_meaning.specs.Deeds.{St}
use Rattle.wjs_meaning.specs.Programs.{Threw}
use Rattle.wjs_model.specs.declared.config.Config.{Config}
use Rattle.wjs_model.specs.declared.config.State.{State}
use Rattle.wjs_model.specs.declared.config.State.TheVariants as states
use Rattle.wjs_model.specs.Contents.{Frame, Run, frame_in}
use Rattle.wjs_model.specs.Units.{unit_in}
use Rattle.wjs_model.specs.Texts.{KnowsUnit}
use Rattle.wjs_model.specs.Soundness.{HasThrown, IsStacked, Sound}
use Rattle.wjs_model.specs.Outside.{Outside, Knows, beside}
use Rattle.wjs_model.specs.Configurations.{seen, tells, run_in, state_in, frames_in, rest_by, turns_by}
use Rattle.wjs_frames.specs.Growing.{LeftAlike, later}
use Rattle.wjs_frames.proofs.Lists.{each_alike}
use Rattle.wjs_frames.proofs.NodesGrow.{unit_grows}
use Rattle.wjs_frames.proofs.FramesGrow.{value_grows, frame_grows}

module _ (texts : Table) (arena : Objects) (table : IsTable texts) where
  value_known : (v : Value) → HasValue texts arena v → knows_value texts v ≡ true
  value_known values.Undefined k = refl
  value_known values.Null k = refl
  value_known (values.Bool b) k = refl
  value_known (values.Number x) k = refl
  value_known (values.Text id) k = text_known texts table id k
  value_known (values.Object o) k = refl

  fixed_known : (xs : List (Name × Value)) → Holds (λ e. IsName texts e.0 × HasValue texts arena e.1) xs → KnowsUnder texts (knows_value texts) xs
  fixed_known [] k = tt
  fixed_known (x ∷ xs) k = ((name_known texts table x.0 (k.0).0, value_known x.1 (k.0).1), fixed_known xs k.1)

  flags_known : {A : Type 0} (xs : List (Name × A)) → Holds (λ e. IsName texts e.0) xs → KnowsUnder texts (λ f. true) xs
  flags_known [] k = tt
  flags_known (x ∷ xs) k = ((name_known texts table x.0 k.0, refl), flags_known xs k.1)

  object_known : (x : Object) → HasNamed texts arena x → KnowsObject texts x
  object_known x k = record { primitive = value_known x.primitive k.primitive; fixed = fixed_known x.fixed k.fixed; flags = flags_known x.flags k.flags }

-- the objects of a heap are known
pub arena_known : (h : Parts) → IsHeap h → KnowsArena h.texts h.arena
arena_known h k o e at = object_known h.texts h.arena k.table e.object (k.objects o e at)

module _ {S : Type 0} (meaning : S → Meaning) (t : Table) (v : Outside) (c : Config S) (s : Sound meaning c) (g : Grows c.heap.texts t) where
  run_grows : run_in meaning t c ≡ run_in meaning c.heap.texts c
  run_grows =
      let trees = each_alike (unit_in t) (unit_in c.heap.texts) (KnowsUnit c.heap.texts) (unit_grows c.heap.texts t g) c.units.items s.base.units in
      λ i. record { trees = trees i; global = c.global; owner = c.owner }

  frames_grow : frames_in meaning t c ≡ frames_in meaning c.heap.texts c
  frames_grow = each_alike (frame_in t) (frame_in c.heap.texts) (IsStacked meaning c) (frame_grows c t g meaning) c.frames s.base.frames

  state_grows : state_in meaning t v c ≡ state_in meaning c.heap.texts v c
  state_grows =
      let arena = (arena_grows c.heap.texts t g c.heap.arena (arena_known _ s.base.heap)).1 in
      λ i. record (state_in meaning c.heap.texts v c) { arena = beside (arena i) v.more }

  rest_grows : (q : State) → HasThrown c q → (run : Run) (fs : List Frame) (st : St) (n : ℕ) → rest_by t q run fs st n ≡ rest_by c.heap.texts q run fs st n
  rest_grows states.Running h run fs st n = refl
  rest_grows states.Done h run fs st n = refl
  rest_grows (states.Threw x) h run fs st n = ap (λ e. (Threw e, st)) (value_grows c t g x h)
  rest_grows states.StepsSpent h run fs st n = refl

  pub left_alike : LeftAlike meaning t v c.heap.texts v c
  left_alike = record {
    rest = λ n.
        ap (seen (tells meaning c)) (
        rest_grows c.state s.thrown (run_in meaning t c) (frames_in meaning t c) (state_in meaning t v c) n
        ∙ (λ i. rest_by c.heap.texts c.state (run_grows i) (frames_grow i) (state_grows i) n));
    turns = λ i. turns_by c.state (run_grows i) (frames_grow i) (state_grows i);
  }

-- under a later table of what stands outside
module _ {S : Type 0} (meaning : S → Meaning) (t u : Table) (v : Outside) (c : Config S) (s : Sound meaning c) (g : Grows c.heap.texts v.texts) (gu : Grows v.texts u) (k : Knows meaning c v) where
  state_later : state_in meaning t (later v u) c ≡ state_in meaning t v c
  state_later =
      let full = (worlds_grow v.texts u gu ((meaning c.heap.store).full v.view) k).1 in
      let told = told_grows c.heap.texts u (Grows-trans c.heap.texts v.texts u g gu) (meaning c.heap.store).told s.base.told ∙ sym (told_grows c.heap.texts v.texts g (meaning c.heap.store).told s.base.told) in
      λ i. record (state_in meaning t v c) { full = full i; done = unwrap_or (told i) [] }

  pub later_alike : LeftAlike meaning t (later v u) t v c
  later_alike = record {
    rest = λ n i. seen (tells meaning c) (rest_by t c.state (run_in meaning t c) (frames_in meaning t c) (state_later i) n);
    turns = λ i. turns_by c.state (run_in meaning t c) (frames_in meaning t c) (state_later i);
  }
