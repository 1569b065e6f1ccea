-- Histories: the places of the actions that made each world what it is, and their plain replay.
use Rattle.std.specs.Prelude.{◌≡◌, ℕ, ◌+◌, List, [], ◌∷◌, ◌++◌, map as each, Option, Some, unwrap_or, slice_get}
use Rattle.std.specs.Option.{option_map, option_map_or, option_and_then}
use Rattle.std.specs.FinMap as map
use Rattle.std.specs.FinMap.{FinMap}
use Rattle.wjs_base.specs.declared.ids.WorldId.{WorldId}
use Rattle.wjs_base.specs.Order.{world_cmp}
use Rattle.wjs_store.specs.declared.action.Action.{Action}
use Rattle.wjs_store.specs.declared.action.Action.TheVariants.{Read, Write, List as ListOf, Sprout, Commit}
use Rattle.wjs_store.specs.declared.action.Answer.{Answer}
use Rattle.wjs_store.specs.declared.action.Answer.TheVariants.{Sprouted, Committed, NoWorld}
use Rattle.wjs_store.specs.declared.store.Verdict.TheVariants.{Moved}
use Rattle.wjs_store.specs.Naming.{plain}
use Rattle.wjs_store.specs.State.{World, find_world, first_world}
use Rattle.wjs_store.specs.Replay.{plain_reply, plain_after}
use Rattle.wjs_store.specs.Meaning.{View}
use Rattle.wjs_store.specs.Run.{act_of, answer_of, after_all}
use Rattle.wjs_store.specs.Fixed.{fresh}

-- what is known of the worlds from actions and answers: each one's parent, and its list of places
pub record Histories : Type 0 where
  pub parents : FinMap world_cmp WorldId
  pub places : FinMap world_cmp (List ℕ)

abbrev pub no_histories : Histories
no_histories = record { parents = map.empty; places = map.empty }

abbrev pub places_of : Histories → WorldId → List ℕ
places_of H w = unwrap_or (map.get H.places w) []

-- the world's list is empty
abbrev pub emptied : WorldId → Histories → Histories
emptied w H = record H { places = map.remove H.places w }

-- places stand last in the world's list
abbrev pub put_places : WorldId → List ℕ → Histories → Histories
put_places w more H = record H { places = map.insert H.places w (places_of H w ++ more) }

abbrev pub put_place : WorldId → ℕ → Histories → Histories
put_place w place = put_places w (place ∷ [])

-- the world's list is appended to its parent's, and is then empty
abbrev pub move_places : WorldId → WorldId → Histories → Histories
move_places w p H = put_places p (places_of H w) (emptied w H)

-- what an answered action at a place does with the lists
abbrev pub noted : ℕ → Action → Answer → Histories → Histories
noted place a NoWorld H = H
noted place (Read w s) r H = put_place w place H
noted place (Write w s c) r H = put_place w place H
noted place (ListOf w o) r H = put_place w place H
noted place (Sprout w owner strict) (Sprouted child) H = record H { parents = map.insert H.parents child w }
noted place (Commit w) (Committed Moved) H = option_map_or (λ p. move_places w p H) (map.get H.parents w) H
noted place a r H = H

-- the lists after actions with their answers, the first of them at this place
abbrev pub histories_from : ℕ → List Action → List Answer → Histories → Histories
histories_from place [] rs H = H
histories_from place (a ∷ acts) [] H = H
histories_from place (a ∷ acts) (r ∷ rs) H = histories_from (place + 1) acts rs (noted place a r H)

-- the places of the first world's history, in replay order
abbrev pub serial_places : List Action → List Answer → List ℕ
serial_places acts rs = places_of (histories_from 0 acts rs no_histories) first_world

-- ---- plain replay of the actions at given places on one finite map

-- the map after the action at a place
abbrev pub replay_step : List Action → ℕ → View → View
replay_step acts place m = option_map_or (λ a. plain_after plain m (act_of a)) (slice_get acts place) m

-- what the map answers to the action at a place
abbrev pub replay_answer : List Action → ℕ → View → Option Answer
replay_answer acts place m = option_and_then (λ a. option_map answer_of (plain_reply plain m (act_of a))) (slice_get acts place)

abbrev pub replay_answers : List Action → List ℕ → View → List (Option Answer)
replay_answers acts [] m = []
replay_answers acts (place ∷ places) m = replay_answer acts place m ∷ replay_answers acts places (replay_step acts place m)

abbrev pub replay_end : List Action → List ℕ → View → View
replay_end acts [] m = m
replay_end acts (place ∷ places) m = replay_end acts places (replay_step acts place m)

-- plain replay from the empty map answers at each place as was recorded there, and ends in the first world's copy
pub record IsSerial (acts : List Action) (rs : List Answer) (places : List ℕ) : Type 0 where
  pub answers : replay_answers acts places map.empty ≡ each (slice_get rs) places
  pub copy : option_map (λ (x : World plain). x.copy) (find_world (after_all fresh acts) first_world) ≡ Some (replay_end acts places map.empty)
