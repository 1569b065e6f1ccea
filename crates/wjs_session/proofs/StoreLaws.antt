-- A session as a store: what it tells of its worlds, and its answers.
use Rattle.std.proofs.Common.{◌≡◌, Bool, true, false, not, List, [], ◌∷◌, ◌++◌, refl, ap, sym, ◌∙◌, subst, map as each, Option, None, Some, IsTrue}
use Rattle.std.specs.Option.{option_map, option_and_then}
use Rattle.wjs_base.specs.declared.ids.WorldId.{WorldId}
use Rattle.wjs_store.specs.Naming.{plain}
use Rattle.wjs_store.specs.Shown.{first_of, Counts, counts_of}
use Rattle.wjs_store.specs.declared.store.Counts.{Counts as Numbers}
use Rattle.wjs_store.specs.Meaning.{View, Worlds, PlainAct, PlainReply, Does}
use Rattle.wjs_store.specs.State.{World, find_world, has_world, parent_of}
use Rattle.wjs_session.specs.Session.{world_at, settled, outer, full_of, session}
use Rattle.wjs_session.specs.Calls.{Answered}
use Rattle.wjs_session.proofs.Worlds.{first_each}
use Rattle.wjs_session.specs.Fills.{fill, find_fill, has_fill}

module _ (x : World plain) (G : Worlds) (v : View) where
  pub first_full : first_of (full_of x G v) ≡ first_of G
  first_full = first_each (fill (settled x G) (outer x v)) (λ z. refl) G

  pub has_full : (w : WorldId) → has_world (full_of x G v) w ≡ has_world G w
  has_full w = has_fill (settled x G) (outer x v) G w

  pub parent_full : (w : WorldId) → parent_of (full_of x G v) w ≡ parent_of G w
  parent_full w = ap (option_and_then (λ (y : World plain). y.parent)) (find_fill (settled x G) (outer x v) G w) ∙ by (find_world G w)
    where
      by : (o : Option (World plain)) → option_and_then (λ (y : World plain). y.parent) (option_map (fill (settled x G) (outer x v)) o) ≡ option_and_then (λ (y : World plain). y.parent) o
      by None = refl
      by (Some y) = refl

  pub counts_full : (w : WorldId) (c : Numbers) → Counts G w c → Counts (full_of x G v) w c
  counts_full w c h = ap (option_map counts_of) (find_fill (settled x G) (outer x v) G w) ∙ by (find_world G w) ∙ h
    where
      by : (o : Option (World plain)) → option_map counts_of (option_map (fill (settled x G) (outer x v)) o) ≡ option_map counts_of o
      by None = refl
      by (Some y) = refl

-- an answer, with all that was told before
pub session_answers : (F : Worlds) (i : WorldId) (G : Worlds) (a : PlainAct) (r : PlainReply) (F' G' : Worlds) (told told' : List (PlainAct × PlainReply)) (spent : Bool) → spent ≡ false → told' ≡ told ++ (a, r) ∷ [] → Answered F i G a r F' G' → Does (session F i G told spent) a r (session F' i G' told' false) × IsTrue (not spent)
session_answers F i G a r F' G' told told' spent n e h =
    let d = h.does in
    subst (λ b. Does (session F i G told b) a r (session F' i G' told' false) × IsTrue (not b)) (sym n) (
      record {
        narrows = d.narrows;
        answers = d.answers;
        worlds = d.worlds;
        still_there = d.still_there;
        own = d.own;
        told = ap (λ t. Some t) e;
        around = d.around;
        spent = refl;
      },
      refl,
    )
