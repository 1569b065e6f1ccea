-- The marks of a try's world are by content those of the actions that it has told.
use Rattle.std.proofs.Common.{◌≡◌, ℕ, true, List, [], ◌∷◌, Some, refl, sym, ap, ◌∙◌, subst}
use Rattle.std.specs.Prelude.{map as each}
use Rattle.std.specs.Option.{option_map}
use Rattle.std.specs.FinMap as map
use Rattle.wjs_base.specs.declared.ids.WorldId.{WorldId}
use Rattle.wjs_base.specs.Text.{Table}
use Rattle.wjs_store.specs.Naming.{plain}
use Rattle.wjs_store.specs.Meaning.{View, Worlds, PlainAct, PlainReply}
use Rattle.wjs_store.specs.State.{World, State, first_world}
use Rattle.wjs_store.specs.Shown.{first_of}
use Rattle.wjs_by_content.specs.Names.{content}
use Rattle.wjs_by_content.specs.Plans.{Told}
use Rattle.wjs_by_content.specs.Renamed.{Holds, Knows}
use Rattle.wjs_by_content.specs.Tables.{value_in}
use Rattle.wjs_by_content.specs.Telling.{names_of}
use Rattle.wjs_by_content.specs.Worlds.{act_in, told_in, KnowsAct, KnowsReply, worlds_in as named_worlds}
use Rattle.wjs_session.specs.Session.{holding, world_at, passes}
use Rattle.wjs_session.specs.Kept.{IsSession}
use Rattle.wjs_session.specs.Along.{along}
use Rattle.wjs_session.specs.Tells.{actions_of, under, unmarked, TellsMarks}
use Rattle.wjs_session.proofs.Worlds.{id_at, above}
use Rattle.wjs_session.proofs.Growing.{stands_at}
use Rattle.wjs_alone.specs.Alone.{world_of}
use Rattle.wjs_alone.specs.Marks.{child, marked, agrees}
use Rattle.wjs_alone.specs.Views.{held_in, KnowsView}
use Rattle.wjs_alone.specs.Named.{world_in, MarksByContent, ChecksByContent, AlongByContent}
use Rattle.wjs_start.proofs.Beginning.{empty_in, none_there}
use Rattle.wjs_tries.proofs.OneWorld.{one_in, one_known}

-- what is told by content, without its answers
acts_told : (t : Table) (told : List (PlainAct × PlainReply)) → each (λ (e : Told). e.0) (each (told_in t) told) ≡ each (act_in t) (actions_of told)
acts_told t [] = refl
acts_told t (e ∷ told) = ap (λ (actions : List _). act_in t e.0 ∷ actions) (acts_told t told)

acts_known : (t : Table) (told : List (PlainAct × PlainReply)) → Holds (λ (e : PlainAct × PlainReply). KnowsAct t e.0 × KnowsReply t e.1) told
    → Holds (KnowsAct t) (actions_of told)
acts_known t [] h = tt
acts_known t (e ∷ told) h = (known_act e h.0, acts_known t told h.1)
  where
    known_act : (e : PlainAct × PlainReply) → KnowsAct t e.0 × KnowsReply t e.1 → KnowsAct t e.0
    known_act e k = k.0

-- of a session on its owner's world, over a first world of the first number; a table knows its own view and what it has told
module _ (marks : MarksByContent) (checks : ChecksByContent) (F : Worlds) (i : WorldId) (G : Worlds) (told : List (PlainAct × PlainReply))
    (k : IsSession F i G) (tells : TellsMarks (world_at F i) G told) (owner : ℕ) (number : i ≡ world_of owner) (first : first_of F ≡ Some first_world)
    (t : Table) (v : View) (admitted : passes (world_at F i) v ≡ true) (known : KnowsView t v)
    (acts : Holds (λ (e : PlainAct × PlainReply). KnowsAct t e.0 × KnowsReply t e.1) told) where
  abbrev x : World plain
  x = world_at F i

  id_is : (world_at F i).id ≡ world_of owner
  id_is = id_at F i k.child.there ∙ number

  up_is : (world_at F i).parent ≡ Some first_world
  up_is = let a = above F i k.shared k.child in a.up ∙ sym a.first ∙ first

  -- as it began it is the part's world
  child_is : world_in t (unmarked (world_at F i) v) ≡ child owner (held_in t v)
  child_is = λ j. record {
    id = id_is j;
    parent = up_is j;
    strict = (stands_at F i k.shared k.child).plain j;
    copy = held_in t v;
    first = empty_in t (option_map (value_in t)) j;
    written = empty_in t (λ (u : Unit {0}). u) j;
    closed = map.empty;
  }

  unmarked_known : Knows (names_of t) (unmarked (world_at F i) v)
  unmarked_known = record { copy = known; first = λ s c e. absurd (none_there s c e); written = λ s u e. absurd (none_there s u e) }

  done : AlongByContent t (actions_of told) (holding (world_at F i).id v ∷ []) (unmarked (world_at F i) v)
  done = marks t (actions_of told) (holding (world_at F i).id v ∷ []) (unmarked (world_at F i) v) (one_known t (world_at F i).id v known) unmarked_known
      (acts_known t told acts)

  -- the session's world under the view is known
  pub under_known : Knows (names_of t) (under (world_at F i) v)
  under_known = subst (Knows (names_of t)) (ap (λ (p : Worlds × World plain). p.1) (tells v admitted)) done.marks

  -- and its marks are those of the actions
  pub marked_is : marked owner (held_in t v) (each (told_in t) told) ≡ world_in t (under (world_at F i) v)
  marked_is =
      (λ j. (along (acts_told t told j) (sym (one_in t (world_of owner) v) j) (sym child_is j)).1)
      ∙ (λ j. (along (each (act_in t) (actions_of told)) (named_worlds t (holding (sym id_is j) v ∷ [])) (world_in t (unmarked (world_at F i) v))).1)
      ∙ ap (λ (p : State content × World content). p.1) done.is
      ∙ ap (λ (p : Worlds × World plain). world_in t p.1) (tells v admitted)

  -- and the check of those is the session's
  pub checked_is : (base : View) → KnowsView t base → agrees (world_in t (under (world_at F i) v)) (held_in t base) ≡ passes (world_at F i) base
  unfolding passes
  checked_is base h = checks t (under (world_at F i) v) base under_known h
