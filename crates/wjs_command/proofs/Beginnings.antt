-- A run before its first step.
use Rattle.std.proofs.Common.{◌≡◌, ℕ, List, [], ◌∷◌, ◌++◌, Option, None, Some, ◌∙◌, sym, ap, subst, not, IsTrue, IfSome, Result, Ok, Err, IfOk}
use Rattle.std.specs.Prelude.{map as each, is_some}
use Rattle.std.specs.Option.{option_map}
use Rattle.std.proofs.lemmas.List.Elements.{All-nil, All-cons, All-head}
use Rattle.wjs_base.specs.declared.ids.OutOfMemory.{OutOfMemory}
use Rattle.wjs_base.specs.Text.{Table, Grows}
use Rattle.wjs_base.proofs.TextLaws.{Grows-refl, Grows-trans}
use Rattle.wjs_base.proofs.Options.{some_map}
use Rattle.wjs_store.specs.Meaning.{Meaning, PlainAct, PlainReply, IsSound}
use Rattle.wjs_by_content.specs.Carried.{tell}
use Rattle.wjs_by_content.specs.Plans.{Told}
use Rattle.wjs_by_content.specs.Worlds.{told_in, told_by}
use Rattle.wjs_meaning.specs.Trees.{Tree}
use Rattle.wjs_meaning.specs.Programs.{machine}
use Rattle.wjs_meaning.specs.Start.{properties}
use Rattle.wjs_meaning.specs.declared.library.TheConstants.{LIBRARY}
use Rattle.wjs_model.specs.declared.config.Config.{Config}
use Rattle.wjs_model.specs.declared.loaded.LoadedProgram.{LoadedProgram as Program}
use Rattle.wjs_model.specs.Configurations.{seen, after_done}
use Rattle.wjs_model.specs.Soundness.{Sound}
use Rattle.wjs_model.specs.Texts.{KnowsUnit, PlacesUnit}
use Rattle.wjs_model.specs.Units.{unit_in}
use Rattle.wjs_model.proofs.Placed.{placed_stay}
use Rattle.wjs_frames.proofs.NodesGrow.{unit_grows}
use Rattle.wjs_heap_steps.proofs.Staying.{units_stay}
use Rattle.wjs_start.specs.First.{writes_told}
use Rattle.wjs_start.specs.Starting.{Starts}
use Rattle.wjs_load.specs.Loading.{IsProgramOrNot}
use Rattle.wjs_command.specs.Scripts.{IsLibrary}
use Rattle.wjs_command.specs.Attempt.{Begins}

-- a program whose texts are in a table is so in a table that has grown
pub known_later : (old new : Table) (u : Program) → Grows old new → KnowsUnit old u → KnowsUnit new u
known_later old new u g h = All-head (KnowsUnit new) u [] (units_stay old new g (u ∷ []) (All-cons (KnowsUnit old) u [] h (All-nil (KnowsUnit old))))

-- and its places stay right there
pub places_later : (old new : Table) (u : Program) → Grows old new → KnowsUnit old u → PlacesUnit old u → PlacesUnit new u
places_later old new u g h p = All-head (PlacesUnit new) u [] (placed_stay old new g (u ∷ []) (All-cons (KnowsUnit old) u [] h (All-nil (KnowsUnit old))) (All-cons (PlacesUnit old) u [] p (All-nil (PlacesUnit old))))

-- the library's tree, in a table that has grown
library_is : (texts t : Table) (library : Option Program) → Grows texts t → IsProgramOrNot LIBRARY.now (option_map (unit_in texts) library) → IfSome library (KnowsUnit texts) → IsLibrary (option_map (unit_in t) library)
library_is texts t None g loads known = loads
library_is texts t (Some u) g loads known = subst (λ (tree : Tree). IsLibrary (Some tree)) (sym (unit_grows texts t g u known)) loads

tells_alike : (t : Table) (before after : Option (List (PlainAct × PlainReply))) (more : List Told) → told_by t after ≡ tell more (told_by t before) → is_some before ≡ is_some after
tells_alike t before after more e =
    sym (some_map (each (told_in t)) before)
    ∙ sym (some_map (λ (done : List Told). done ++ more) (told_by t before))
    ∙ sym (ap is_some e)
    ∙ some_map (each (told_in t)) after

-- over a store that admits its own view while it works
module _ {S : Type 0} (meaning : S → Meaning) (works : (s : S) → IsTrue (not (meaning s).spent) → IsSound (meaning s)) where
  pub begins : (texts grown : Table) (store : S) (library : Option Program) (script : Program) (steps : ℕ) (c : Config S) → Grows texts grown → IsProgramOrNot LIBRARY.now (option_map (unit_in grown) library) → IfSome library (KnowsUnit grown) → KnowsUnit texts script → Starts meaning grown (meaning store) library script steps c → Sound meaning c → Begins meaning texts script steps c
  begins texts grown store library script steps c g loads known script_known starts sound =
      let t = c.heap.texts in
      let lib = option_map (unit_in t) library in
      let later = unit_grows texts t (Grows-trans texts grown t g starts.grows) script script_known in
      let own = (meaning c.heap.store).own in
      let admitted = (works c.heap.store sound.base.works).admits_own in
      let told = tells_alike t (meaning store).told (meaning c.heap.store).told (writes_told properties) (starts.told t (Grows-refl t) own admitted) in
      record {
        library = lib;
        first = library_is grown t library starts.grows loads known;
        run = starts.run_is t (Grows-refl t) own admitted c.left
            ∙ (λ i. seen (told i) (after_done (writes_told properties) (machine lib (later i) (starts.left i))));
        sound = sound;
        world = starts.world;
      }

  pub begins_if : (texts grown : Table) (store : S) (library : Option Program) (script : Program) (steps : ℕ) (r : Result (Config S) OutOfMemory) → Grows texts grown → IsProgramOrNot LIBRARY.now (option_map (unit_in grown) library) → IfSome library (KnowsUnit grown) → KnowsUnit texts script → IfOk r (Starts meaning grown (meaning store) library script steps) → IfOk r (Sound meaning) → IfOk r (Begins meaning texts script steps)
  begins_if texts grown store library script steps (Ok c) g loads known script_known starts sound = begins texts grown store library script steps c g loads known script_known starts sound
  begins_if texts grown store library script steps (Err e) g loads known script_known starts sound = tt
