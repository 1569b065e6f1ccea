-- What a configuration of the code means under a table of texts and what stands outside it, and what a call on it keeps.
use Rattle.std.specs.Prelude.{◌≡◌, ℕ, ◌+◌, ◌<◌, Bool, true, false, List, [], ◌++◌, map as each, None, Some, is_some, unwrap_or}
use Rattle.std.specs.FinMap as map
use Rattle.wjs_base.specs.declared.ids.ObjId.{ObjId}
use Rattle.wjs_base.specs.Text.{Table, Grows}
use Rattle.wjs_store.specs.Meaning.{Meaning}
use Rattle.wjs_arena.specs.Entries.{Entry}
use Rattle.wjs_by_content.specs.Tables.{value_in, arena_in}
use Rattle.wjs_by_content.specs.Plans.{Told}
use Rattle.wjs_by_content.specs.Worlds.{worlds_in, told_by}
use Rattle.wjs_meaning.specs.Deeds.{St}
use Rattle.wjs_meaning.specs.Programs.{Ending, Done, Threw, StepsSpent}
use Rattle.wjs_model.specs.declared.config.Config.{Config}
use Rattle.wjs_model.specs.declared.config.State.{State}
use Rattle.wjs_model.specs.declared.config.State.TheVariants as states
use Rattle.wjs_model.specs.Units.{unit_in}
use Rattle.wjs_model.specs.Contents.{Frame, Run, frame_in}
use Rattle.wjs_model.specs.Rest.{rest_of, turns_of}
use Rattle.wjs_model.specs.Outside.{Outside, Admits, Knows, beside}

-- ---- what is left to do

-- where the configuration goes on what its frames have left to do, and else its ending
abbrev pub rest_by : Table → State → Run → List Frame → St → ℕ → Ending × St
rest_by texts states.Running run frames st n = rest_of run frames st n
rest_by texts states.Done run frames st n = (Done, st)
rest_by texts (states.Threw v) run frames st n = (Threw (value_in texts v), st)
rest_by texts states.StepsSpent run frames st n = (StepsSpent, st)

abbrev pub turns_by : State → Run → List Frame → St → ℕ
turns_by states.Running run frames st = turns_of run frames st
turns_by _ run frames st = 0

-- the actions that were done, where the store tells them
abbrev pub seen : Bool → Ending × St → Ending × St
seen true r = r
seen false r = (r.0, record r.1 { done = [] })

-- the end of a run before which these actions were done
abbrev pub after_done : List Told → Ending × St → Ending × St
after_done done r = (r.0, record r.1 { done = done ++ (r.1).done })

-- by what the store means
module _ {S : Type 0} (meaning : S → Meaning) where
  abbrev pub run_in : Table → Config S → Run
  run_in texts c = record { trees = each (unit_in texts) c.units.items; global = c.global; owner = c.owner }

  -- the worlds under the view and the actions that the store tells, by the table of what stands outside; the objects, by this one, with the further ones beside them; the output that has not gone out
  abbrev pub state_in : Table → Outside → Config S → St
  state_in texts v c = record {
    full = worlds_in v.texts ((meaning c.heap.store).full v.view);
    arena = beside (arena_in texts c.heap.arena) v.more;
    out = c.pending.items;
    done = unwrap_or (told_by v.texts (meaning c.heap.store).told) [];
  }

  abbrev pub frames_in : Table → Config S → List Frame
  frames_in texts c = each (frame_in texts) c.frames

  -- whether the store tells the actions
  abbrev pub tells : Config S → Bool
  tells c = is_some (meaning c.heap.store).told

  -- the output still to come, the ending and the final state, with so many steps left; the actions in it are those that the store tells
  abbrev pub rest : Table → Outside → Config S → ℕ → Ending × St
  rest texts v c n = seen (tells c) (rest_by texts c.state (run_in texts c) (frames_in texts c) (state_in texts v c) n)

  -- the turns before the next step that is due, or the end
  abbrev pub turns : Table → Outside → Config S → ℕ
  turns texts v c = turns_by c.state (run_in texts c) (frames_in texts c) (state_in texts v c)

  -- ---- what a call on a configuration keeps

  -- the loaded programs, the global object, the world, the owner and who is kept apart; the numbers of texts; the objects, to which the owner's may be added; the store's own view and its surroundings; what is admitted outside was admitted before
  pub record Stays (old new : Config S) : Type 0 where
    pub units : new.units ≡ old.units
    pub global : new.global ≡ old.global
    pub world : new.world ≡ old.world
    pub owner : new.owner ≡ old.owner
    pub apart : new.apart ≡ old.apart
    pub texts : Grows old.heap.texts new.heap.texts
    pub objects : (o : ObjId) (e : Entry) → map.get old.heap.arena o ≡ Some e → map.get new.heap.arena o ≡ Some e
    pub made : (o : ObjId) (e : Entry) → map.get old.heap.arena o ≡ None → map.get new.heap.arena o ≡ Some e → o.owner ≡ old.owner
    pub own : (meaning new.heap.store).own ≡ (meaning old.heap.store).own
    pub around : (meaning new.heap.store).around ≡ (meaning old.heap.store).around
    pub narrows : (v : Outside) → Admits meaning new v → Admits meaning old v

  -- under whatever stands outside that is admitted afterwards, and whose table knew the worlds: what is left to do with some steps is what was left with others; in the new texts, and so in all later ones
  abbrev pub RestIs : Config S → Config S → (ℕ → ℕ) → Type 0
  RestIs old new before = let t = new.heap.texts in (v : Outside) → Admits meaning new v → Knows meaning old v → (n : ℕ) → rest t v old (before n) ≡ rest t v new n

  -- and the table knows the worlds still
  abbrev pub StaysKnown : Config S → Config S → Type 0
  StaysKnown old new = (v : Outside) → Admits meaning new v → Knows meaning old v → Knows meaning new v

  -- a turn that takes no step: under each such view, and with such objects, there are fewer turns left before the next
  pub record Quiet (old new : Config S) : Type 0 where
    pub stays : Stays old new
    pub left : new.left ≡ old.left
    pub kept : RestIs old new (λ n. n)
    pub knows : StaysKnown old new
    pub falls : let t = new.heap.texts in (v : Outside) → Admits meaning new v → Knows meaning old v → turns t v new < turns t v old
    pub alive : ¬ (new.state ≡ states.StepsSpent)

  -- a turn that takes steps: one, or more
  pub record Stepped (old new : Config S) : Type 0 where
    pub stays : Stays old new
    pub steps : ℕ
    pub some : 0 < steps
    pub left : old.left ≡ steps + new.left
    pub kept : RestIs old new (λ n. steps + n)
    -- with fewer steps left the run would have been at its end
    pub paid : let t = new.heap.texts in (v : Outside) → Admits meaning new v → Knows meaning old v → (m : ℕ) → m < steps → (rest t v old m).0 ≡ StepsSpent
    pub knows : StaysKnown old new
    pub alive : ¬ (new.state ≡ states.StepsSpent)

  -- a turn that finds a step due and none left, and changes nothing else
  pub record Stopped (old new : Config S) : Type 0 where
    pub left : old.left ≡ 0
    pub same : new ≡ record old { state = states.StepsSpent }
    pub due : let t = old.heap.texts in (v : Outside) → rest t v old 0 ≡ (StepsSpent, state_in t v old)

  -- what each turn does
  pub data Turned (old new : Config S) : Type 0 where
    quietly : Quiet old new → Turned old new
    by_step : Stepped old new → Turned old new
    stopped : Stopped old new → Turned old new
