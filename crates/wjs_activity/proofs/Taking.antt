-- One turn of one activity, as the play sees it: what there was at its begin, and what it came to.
use Rattle.std.proofs.Common.{◌≡◌, ℕ, ◌+◌, ◌≤◌, ◌<◌, ◌==◌, Bool, true, false, cond, List, [], ◌∷◌, Option, refl, sym, ap, ◌∙◌, subst, arith}
use Rattle.std.proofs.lemmas.Bool.{eqb-true}
use Rattle.std.proofs.lemmas.List.Elements.{All-head, All-tail}
use Rattle.std.proofs.lemmas.List.Sums.{sum_by-cons}
use Rattle.std.specs.Prelude.{All, map as each}
use Rattle.std.specs.FinMap as map
use Rattle.wjs_base.specs.Text.{Grows}
use Rattle.wjs_base.proofs.TextLaws.{Grows-refl}
use Rattle.wjs_store.specs.Shown.{first_of}
use Rattle.wjs_store.specs.Meaning.{Meaning, Worlds}
use Rattle.wjs_arena.specs.Entries.{Objects, others_of}
use Rattle.wjs_by_content.specs.Objects.{Arena}
use Rattle.wjs_meaning.specs.Trees.{Tree}
use Rattle.wjs_model.specs.declared.config.Config.{Config}
use Rattle.wjs_model.specs.Soundness.{Sound}
use Rattle.wjs_model.specs.Units.{unit_in}
use Rattle.wjs_session.specs.declared.session.Session.{Session}
use Rattle.wjs_session.specs.Session.{first_copy}
use Rattle.wjs_session.specs.Stores.{worlds_in}
use Rattle.wjs_session.specs.Returns.{Returns}
use Rattle.wjs_alone.specs.Alone.{Copy, world_of}
use Rattle.wjs_alone.specs.Opening.{trees_of, tree_number}
use Rattle.wjs_alone.specs.Serial.{End}
use Rattle.wjs_tries.specs.declared.common.Common.{Common}
use Rattle.wjs_tries.specs.declared.common.Rested.{Rested}
use Rattle.wjs_activity.specs.declared.activities.Play.{Play}
use Rattle.wjs_tries.specs.declared.turns.Came.{Came}
use Rattle.wjs_tries.specs.Meant.{session_meaning, resting}
use Rattle.wjs_tries.specs.Views.{held_in}
use Rattle.wjs_tries.specs.Common.{IsCommon}
use Rattle.wjs_tries.specs.Passing.{Passes}
use Rattle.wjs_tries.specs.Resting.{IsResting}
use Rattle.wjs_tries.specs.Trying.{IsTrying}
use Rattle.wjs_activity.specs.SoFar.{times_owned, IsPlay}
use Rattle.wjs_tries.specs.Turning.{common_of, IsLive, IsTurned, CameTo, Begun, GoesOnAs, first_in}
use Rattle.wjs_tries.proofs.GivenUp.{not_both}
use Rattle.wjs_tries.proofs.Hidings.{trying_with}
use Rattle.wjs_tries.proofs.Overs.{held_grows}
use Rattle.wjs_activity.proofs.Playing.{trees_pass}
use Rattle.wjs_tries.proofs.Soundly.{view_known}
use Rattle.wjs_tries.proofs.Turned.{passes_then, common_full}

-- an owner that was not drawn yet has no end
pub none_drawn : (ends : List End) (drawn q : ℕ) → drawn < q → All (λ e. e.run.owner ≤ drawn) ends → times_owned q ends ≡ 0
none_drawn [] drawn q lt h = refl
none_drawn (e ∷ ends) drawn q lt h = by (e.run.owner == q) refl (none_drawn ends drawn q lt (All-tail (λ (x : End). x.run.owner ≤ drawn) e ends h))
  where
    by : (b : Bool) → (e.run.owner == q) ≡ b → times_owned q ends ≡ 0 → times_owned q (e ∷ ends) ≡ 0
    by true k none = let is = eqb-true e.run.owner q k in let le = All-head (λ (x : End). x.run.owner ≤ drawn) e ends h in absurd (omega (arith, is, le, lt))
    by false k none =
        let all : times_owned q (e ∷ ends) ≡ 0 + times_owned q ends = sum_by-cons (λ (x : End). cond (x.run.owner == q) 1 0) e ends
        ∙ ap (λ b. cond b 1 0 + times_owned q ends) k in
        omega (arith, all, none)

-- a try that goes on or has begun over what a play shares: by whom, and with how many owners drawn
pub record Taken (trees : List Tree) (tree budget q drawn : ℕ) (shared : Common) (c : Config Session) : Type 0 where
  pub start : Passes q shared (common_of c)
  pub owner : c.owner ≡ q
  pub holds : first_copy (worlds_in c.heap.store.shared) ≡ first_copy (worlds_in shared.shared)
  pub others : others_of c.heap.arena c.owner ≡ shared.arena
  pub live : IsLive session_meaning trees tree budget drawn c

module _ (library : Option Tree) (parts : List Tree) (budget : ℕ) (copy : Copy) (arena : Arena) (p : Play) (ends : List End)
    (is : IsPlay library parts budget copy arena p ends) (activity q drawn : ℕ) (c : Config Session) (next : Common) (came : Came)
    (taken : Taken (trees_of library parts) (tree_number library activity) budget q drawn p.common c)
    (turned : IsTurned session_meaning (trees_of library parts) (tree_number library activity) budget drawn c next came) where
  -- what the others see of it
  pub passes_all : Passes q p.common next
  passes_all = passes_then q p.common (common_of c) next taken.start (subst (λ k. Passes k (common_of c) next) taken.owner turned.leaves)

  -- what the first world held, by the later table
  pub held_before : held_in next.texts (first_copy (worlds_in c.heap.store.shared)) ≡ first_in p.common
  held_before =
      ap (held_in next.texts) taken.holds
      ∙ held_grows p.common.texts next.texts (first_copy (worlds_in p.common.shared)) passes_all.texts
      (view_known p.common.texts p.common.arena (first_copy (worlds_in p.common.shared)) is.common.table is.common.slots)

  -- what the turn came to, from what the first world held
  pub came_to : CameTo session_meaning (trees_of library parts) (tree_number library activity) budget drawn q (first_in p.common) next came
  came_to =
      subst (λ k. CameTo session_meaning (trees_of library parts) (tree_number library activity) budget drawn k (first_in p.common) next came) taken.owner (
      subst (λ m. CameTo session_meaning (trees_of library parts) (tree_number library activity) budget drawn c.owner m next came) held_before turned.came)

-- ---- how it was taken

-- a try that has begun
pub taken_begun : (trees : List Tree) (tree budget q part drawn : ℕ) (shared : Common) (c : Config Session) → Begun session_meaning q part budget shared c
    → part ≡ tree → IsCommon shared.texts shared.arena shared.units.items (worlds_in shared.shared) drawn
    → each (unit_in shared.texts) shared.units.items ≡ trees → Taken trees tree budget q q shared c
taken_begun trees tree budget q part drawn shared c b number known are = record {
  start = b.leaves;
  owner = b.owner_is;
  holds = b.holds;
  others = b.others;
  live = subst (λ k. IsLive session_meaning trees k budget q c) number
      (subst (λ ts. IsLive session_meaning ts part budget q c) (trees_pass q shared (common_of c) drawn known b.leaves ∙ are) b.live);
}

-- a try that goes on where it rested
module _ (trees : List Tree) (tree budget drawn : ℕ) (shared : Common) (rest : Rested) (c : Config Session) (g : GoesOnAs session_meaning shared rest c)
    (is : IsResting trees tree budget drawn shared rest) (known : IsCommon shared.texts shared.arena shared.units.items (worlds_in shared.shared) drawn)
    (sound : Sound session_meaning c) where
  abbrev F : Worlds
  F = worlds_in shared.shared

  owner_same : c.owner ≡ rest.owner
  owner_same = ap (λ (d : Config Meaning). d.owner) g.same

  texts_same : c.heap.texts ≡ shared.texts
  texts_same = ap (λ (d : Config Meaning). d.heap.texts) g.same

  units_same : c.units ≡ shared.units
  units_same = ap (λ (d : Config Meaning). d.units) g.same

  worlds_same : worlds_in c.heap.store.shared ≡ F
  worlds_same = ap worlds_in g.shared

  common_same : IsCommon c.heap.texts (others_of c.heap.arena c.owner) c.units.items (worlds_in c.heap.store.shared) drawn
  common_same =
      subst (λ H. IsCommon c.heap.texts (others_of c.heap.arena c.owner) c.units.items H drawn) (sym worlds_same) (
      subst (λ us. IsCommon c.heap.texts (others_of c.heap.arena c.owner) us.items F drawn) (sym units_same) (
      subst (λ m. IsCommon c.heap.texts m shared.units.items F drawn) (sym g.others) (
      subst (λ t. IsCommon t shared.arena shared.units.items F drawn) (sym texts_same) known)))

  start_same : Passes rest.owner shared (common_of c)
  start_same = record {
    texts = subst (λ t. Grows shared.texts t) (sym texts_same) (Grows-refl shared.texts);
    objects = λ o e at. ap (λ (m : Objects). map.get m o) g.others ∙ at;
    made = λ o e none at. not_both shared.arena o e (o.owner ≡ rest.owner) none (ap (λ (m : Objects). map.get m o) (sym g.others) ∙ at);
    units = units_same;
    first = ap first_of worlds_same;
    returns = λ i e child. subst (λ H. Returns F H i) (sym worlds_same) (record { reached = known.reached; child = child; marks = refl; holds = λ s t. refl });
  }

  within : c.owner ≤ drawn
  within = subst (λ k. k ≤ drawn) (sym owner_same) is.owner

  pub taken_resumed : Taken trees tree budget rest.owner drawn shared c
  taken_resumed = record {
    start = start_same;
    owner = owner_same;
    holds = ap first_copy worlds_same;
    others = g.others;
    live = record {
      sound = sound;
      taken = is.taken;
      trying = subst (IsTrying trees tree budget is.taken) (sym g.same)
          (trying_with trees tree budget is.taken (resting is.none shared rest) c.apart is.trying);
      number = g.number ∙ is.number ∙ ap world_of (sym owner_same);
      some = subst (λ k. 1 ≤ k) (sym owner_same) is.some;
      owner = within;
      none = is.none;
      none_is = is.none_is;
      common = common_full c sound.base drawn within common_same;
      shared = common_same;
    };
  }
