-- A body that is due is the run of its part.
use Rattle.std.proofs.Common.{◌≡◌, ℕ, ◌<◌, Bool, true, false, cond, List, [], ◌∷◌, ◌++◌, Option, None, Some, length, get_or, refl, sym, ap, ◌∙◌, subst, arith}
use Rattle.std.specs.Prelude.{map as each, slice_get, All}
use Rattle.std.specs.Option.{option_and_then}
use Rattle.std.specs.FinMap as map
use Rattle.std.proofs.lemmas.List.Elements.{All-nil, All-cons}
use Rattle.std.proofs.lemmas.Option.{slice_get-get_or, get_or_from_slice_get}
use Rattle.wjs_base.specs.declared.ids.ObjId.{ObjId}
use Rattle.wjs_base.specs.declared.ids.WorldId.{WorldId}
use Rattle.wjs_base.specs.Order.{obj_total}
use Rattle.wjs_base.specs.Text.{Table}
use Rattle.wjs_base.specs.declared.ids.NodeId.{NodeId}
use Rattle.wjs_store.specs.Meaning.{Meaning}
use Rattle.wjs_arena.specs.declared.object.Object.{Object}
use Rattle.wjs_arena.specs.declared.class.Class.TheVariants as class
use Rattle.wjs_arena.specs.Entries.{Entry, Objects, next_number, entry_over, created, world_of, IsThere as IsThereIn}
use Rattle.wjs_arena.proofs.Owners.{key_itself}
use Rattle.wjs_by_content.specs.Objects.{created as made_in}
use Rattle.wjs_by_content.specs.Tables.{arena_in}
use Rattle.wjs_heap.specs.declared.heap.Heap.{Heap}
use Rattle.wjs_heap.specs.Acts.{Creates}
use Rattle.wjs_heap.specs.Means.{parts}
use Rattle.wjs_meaning.specs.Builtins.{world_prototype}
use Rattle.wjs_meaning.specs.WorldValues.{world_object_of}
use Rattle.wjs_meaning.specs.Trees.{Tree}
use Rattle.wjs_meaning.specs.Deeds.{St, AtProgram, Tick, Ends, interp, then_do}
use Rattle.wjs_meaning.specs.Functions.{program_of}
use Rattle.wjs_meaning.specs.Programs.{eval, Ending, Done, env_of_program, run_next}
use Rattle.wjs_meaning.proofs.Steps.{entries_lem}
use Rattle.wjs_model.specs.declared.config.Config.{Config}
use Rattle.wjs_model.specs.declared.config.State.{State}
use Rattle.wjs_model.specs.declared.config.State.TheVariants as states
use Rattle.wjs_model.specs.declared.frame.Activation.{Activation as Frame}
use Rattle.wjs_model.specs.declared.loaded.LoadedProgram.{LoadedProgram as Program}
use Rattle.wjs_model.specs.Configurations.{rest, rest_by, seen, tells, run_in, frames_in, state_in, Stays}
use Rattle.wjs_model.specs.Contents.{frame_in}
use Rattle.wjs_model.specs.Outside.{Outside}
use Rattle.wjs_model.specs.Soundness.{HasObject, HasWorld, IsStacked, Base, Sound}
use Rattle.wjs_model.specs.Standing.{Stands, IsShown}
use Rattle.wjs_model.specs.Units.{unit_in}
use Rattle.wjs_frames.proofs.Sounding.{base_framed}
use Rattle.wjs_heap_steps.proofs.Later.{later_create}
use Rattle.wjs_heap_steps.proofs.Making.{bare as bare_object, world_object_is, near_world, no_code}
use Rattle.wjs_heap_steps.proofs.Steps.{ran_create}
use Rattle.wjs_alone.specs.Alone.{part_run}
use Rattle.wjs_model.proofs.Starts.{then_ends}
use Rattle.wjs_parts.specs.Entering.{ShowsWorld, Enters, body_frame}

-- the body of a program that is due, with nothing below it
pub body_runs : (trees : List Tree) (tree : ℕ) (world : WorldId) (global : ObjId) (owner : ℕ) (st : St) (n : ℕ)
    → run_next (then_do (interp eval (Tick (program_of (env_of_program trees tree world global owner))) st n) Ends) (λ st' n'. (Done, st')) ≡ part_run trees tree world global owner st n
body_runs trees tree world global owner st n =
    ap (λ o. run_next o (λ st' n'. (Done, st'))) (then_ends (interp eval (Tick (program_of (env_of_program trees tree world global owner))) st n) ∙ sym (entries_lem AtProgram (env_of_program trees tree world global owner) st n))

one_frame : (xs : List Frame) (f : Frame) → xs ≡ [] → xs ++ f ∷ [] ≡ f ∷ []
one_frame xs f e = ap (λ (l : List Frame). l ++ f ∷ []) e

not_none : (xs : List Frame) (f : Frame) → xs ≡ f ∷ [] → xs ≡ [] → ⊥
not_none xs f e h = cc

one_world : (a b : WorldId) → Some a ≡ Some b → a ≡ b
one_world a b e = cc

module _ {S : Type 0} (meaning : S → Meaning) where
  -- the one object more stands for the world
  created_world : (x : Object) (id : ObjId) (old : Config S) (heap : Heap S) (w : WorldId) → Creates old.owner x id (parts meaning old.heap) (parts meaning heap) → x.world ≡ Some w → IsShown heap.arena w
  created_world x id old heap w c e = (
    id,
    ap (λ (m : Objects). world_of m id) c.arena ∙ ap (world_of (created old.heap.arena old.owner x)) c.number
        ∙ ap (option_and_then (λ (y : Entry). y.object.world))
        (map.get-insert obj_total old.heap.arena (next_number old.heap.arena old.owner) (entry_over old.heap.arena x) (next_number old.heap.arena old.owner)
        ∙ ap (λ b. cond b (Some (entry_over old.heap.arena x)) (map.get old.heap.arena (next_number old.heap.arena old.owner))) (key_itself (next_number old.heap.arena old.owner)))
        ∙ e,
  )

  -- the World object of the configuration's world was made
  pub shows_world : (old : Config S) (heap : Heap S) (bare : Object) (p id : ObjId) → Base meaning old → bare ≡ bare_object class.World (Some p) → p ≡ world_prototype → HasObject old p → Creates old.owner (record bare { world = Some old.world }) id (parts meaning old.heap) (parts meaning heap) → ShowsWorld meaning old (record old { heap = heap })
  shows_world old heap bare p id base is number there c =
      let x = record bare { world = Some old.world } in
      let ran = ran_create meaning (λ t. world_object_of old.world) x id old heap c
      (subst (λ (y : Object). IsThereIn old.heap.arena y.prototype) (sym is) there.0) (subst (λ (y : Object). IsThereIn old.heap.arena y.scope) (sym is) tt) (λ t more. world_object_is t bare p old.world is number) in
      let later = later_create meaning x id old heap base c
      (near_world old.apart.items bare class.World (Some p) is there.1 (Some old.world)) (no_code old.units.items old.heap.arena x x.scope (ap (λ (y : Object). y.code) is)) (λ w h. subst (HasWorld meaning old) (one_world old.world w h) base.world) in
      record {
        same = refl;
        stays = ran.stays;
        base = later.base;
        store = c.store;
        texts = c.texts;
        objects = λ t. c.arena_by t ∙ ap (made_in (arena_in t old.heap.arena) old.owner) (world_object_is t bare p old.world is number);
        shown = created_world x id old heap old.world c refl;
      }

  -- a configuration whose one frame is a body
  module _ (c : Config S) (frames : List Frame) (left tree : ℕ) (u : Program) (at : slice_get c.units.items tree ≡ Some u) (one : frames ≡ body_frame c tree u.program.body ∷ []) where
    abbrev now : Config S
    now = record c { frames = frames; left = left; state = states.Running }

    runs : (t : Table) (v : Outside) (n : ℕ) → rest meaning t v now n ≡ seen (tells meaning now) (part_run (each (unit_in t) c.units.items) tree c.world c.global c.owner (state_in meaning t v c) n)
    runs t v n =
        ap (λ fs. seen (tells meaning c) (rest_by t states.Running (run_in meaning t c) (each (frame_in t) fs) (state_in meaning t v c) n)) one
        ∙ ap (seen (tells meaning c)) (body_runs (each (unit_in t) c.units.items) tree c.world c.global c.owner (state_in meaning t v c) n)

    there : Base meaning c → IsShown c.heap.arena c.world → IsStacked meaning c (body_frame c tree u.program.body)
    there base shown = record {
      there = record {
        scope = base.global;
        this = base.global;
        world = base.world;
        held = tt;
        stands = record {
          node = record { unit = u; found = at; arguments = None; scopes = []; around = ([], (refl, refl)); outwards = tt };
          shown = shown;
        };
      };
      phase = tt;
    }

    sound_now : Base meaning c → IsShown c.heap.arena c.world → Sound meaning now
    sound_now base shown = record {
      base = base_framed meaning c frames left states.Running base (subst (λ fs. All (IsStacked meaning c) fs) (sym one) (All-cons (IsStacked meaning c) (body_frame c tree u.program.body) [] (there base shown) (All-nil (IsStacked meaning c))));
      thrown = tt;
      running = λ e. not_none frames (body_frame c tree u.program.body) one;
    }

  pub none_left : (old mid : Config S) → ShowsWorld meaning old mid → old.frames ≡ [] → mid.frames ≡ []
  none_left old mid h none = ap (λ (c : Config S). c.frames) h.same ∙ none

  -- a part was entered
  module _ (old mid : Config S) (frames : List Frame) (part budget : ℕ) (u : Program) (shows : ShowsWorld meaning old mid) (at : slice_get mid.units.items part ≡ Some u) (one : frames ≡ body_frame mid part u.program.body ∷ []) where
    same_world : mid.world ≡ old.world
    same_world = shows.stays.world

    pub enters : Enters meaning part budget old (record mid { frames = frames; left = budget; state = states.Running })
    enters = record {
      stays = let h = shows.stays in record { units = h.units; global = h.global; world = h.world; owner = h.owner; apart = h.apart; texts = h.texts; objects = h.objects; made = h.made; own = h.own; around = h.around; narrows = h.narrows };
      sound = sound_now mid frames budget part u at one shows.base (subst (IsShown mid.heap.arena) (sym same_world) shows.shown);
      running = refl;
      left = refl;
      pending = ap (λ (c : Config S). c.pending.items) shows.same;
      store = shows.store;
      texts = shows.texts;
      objects = shows.objects;
      run = runs mid frames budget part u at one;
    }

-- the unit of a number that there is
pub unit_there : (units : List Program) (i : ℕ) → i < length units → (u : Program) × (slice_get units i ≡ Some u)
unit_there [] i lt = absurd (omega (arith, lt))
unit_there (u ∷ us) i lt = (get_or (u ∷ us) i u, slice_get-get_or (u ∷ us) i u lt)

pub body_at : (units : List Program) (i : ℕ) (u x : Program) → slice_get units i ≡ Some u → x ≡ get_or units i x → x.program.body ≡ u.program.body
body_at units i u x at is = ap (λ (y : Program). y.program.body) (is ∙ get_or_from_slice_get units i u x at)
