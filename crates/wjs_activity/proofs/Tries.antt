-- A try that rests is the definition's still, while others take their turns.
use Rattle.std.proofs.Common.{◌≡◌, ℕ, Bool, true, [], ◌∷◌, Option, None, Some, is_some, refl, sym, ap, ◌∙◌, subst}
use Rattle.std.specs.FinMap as map
use Rattle.wjs_base.specs.declared.values.Value.{Value}
use Rattle.wjs_base.specs.Text.{Table, Grows}
use Rattle.wjs_base.proofs.Booleans.{by_bool}
use Rattle.wjs_store.specs.Naming.{plain}
use Rattle.wjs_store.specs.Meaning.{View, unseen}
use Rattle.wjs_store.specs.State.{World, has_row}
use Rattle.wjs_by_content.specs.Names.{content}
use Rattle.wjs_by_content.specs.Renamed.{Knows}
use Rattle.wjs_by_content.specs.Telling.{names_of}
use Rattle.wjs_by_content.proofs.Growth.{worlds_grow}
use Rattle.wjs_session.specs.Session.{world_at, first_copy, owned}
use Rattle.wjs_session.specs.Stores.{worlds_in}
use Rattle.wjs_session.specs.Returns.{Returns}
use Rattle.wjs_session.specs.Maps.{own_by, get_owned}
use Rattle.wjs_alone.specs.Named.{world_in}
use Rattle.wjs_alone.specs.Playing as defined
use Rattle.wjs_alone.proofs.NamedChecks.{heads, known_head}
use Rattle.wjs_alone.proofs.NamedViews.{from_base}
use Rattle.wjs_tries.specs.declared.common.Common.{Common}
use Rattle.wjs_tries.specs.declared.common.Rested.{Rested}
use Rattle.wjs_tries.specs.Views.{KnowsView}
use Rattle.wjs_activity.specs.Exactly.{IsTry}
use Rattle.wjs_tries.proofs.Runs.{view_grows}

-- marks alone decide what a world takes a first world to hold
owned_marks : (x y : World plain) (base : View) → unseen y ≡ unseen x → owned y base ≡ owned x base
unfolding owned
owned_marks x y base e = λ j. owned (e j) base

-- over another first world: what was recorded, and what that holds
own_still : (x : World plain) (t : Table) (base next : View) → KnowsView t (owned x base) → KnowsView t next → KnowsView t (owned x next)
own_still x t base next known there s w at = by_bool (is_some (map.get x.first s))
    (λ f. known s w (get_owned x base s ∙ recorded (map.get x.first s) (map.contains_key x.closed s.object) (has_row x s) (map.get base s) (map.get next s) f
    ∙ sym (get_owned x next s) ∙ at))
    (λ f. there s w (from_base (map.get x.first s) (map.contains_key x.closed s.object) (has_row x s) (map.get next s) w (sym (get_owned x next s) ∙ at) f))
  where
    recorded : (o : Option (Option Value)) (c r : Bool) (a b : Option Value) → is_some o ≡ true → own_by o c r a ≡ own_by o c r b
    recorded (Some d) c r a b h = refl
    recorded None c r a b h = absurd (cc)

module _ (budget : ℕ) (before after : Common) (rest : Rested) (t : defined.Try) (is : IsTry budget before rest t)
    (returns : Returns (worlds_in before.shared) (worlds_in after.shared) rest.resting.world) (grows : Grows before.texts after.texts)
    (there : KnowsView after.texts (first_copy (worlds_in after.shared))) where
  abbrev x : World plain
  x = world_at (worlds_in before.shared) rest.resting.world

  abbrev y : World plain
  y = world_at (worlds_in after.shared) rest.resting.world

  -- its marks have the same names by the later table
  grown : Knows (names_of after.texts) (unseen (world_at (worlds_in before.shared) rest.resting.world))
      × (world_in after.texts (unseen (world_at (worlds_in before.shared) rest.resting.world))
      ≡ world_in before.texts (unseen (world_at (worlds_in before.shared) rest.resting.world)))
  grown =
      let g = worlds_grow before.texts after.texts grows (unseen x ∷ []) (is.known.marks, tt) in
      (known_head (names_of after.texts) (unseen x) [] g.0, heads (world_in after.texts (unseen x)) (world_in before.texts (unseen x)) g.1)

  named_same : world_in after.texts (unseen (world_at (worlds_in after.shared) rest.resting.world))
      ≡ world_in before.texts (unseen (world_at (worlds_in before.shared) rest.resting.world))
  named_same = ap (world_in after.texts) returns.marks ∙ grown.1

  pub stays_try : IsTry budget after rest t
  stays_try = record {
    owner = is.owner;
    steps = is.steps;
    marks = record {
      first = is.marks.first ∙ ap (λ (z : World content). z.first) (sym named_same);
      written = is.marks.written ∙ ap (λ (z : World content). z.written) (sym named_same);
      closed = is.marks.closed ∙ ap (λ (z : World plain). z.closed) (sym returns.marks);
    };
    known = record {
      marks = subst (Knows (names_of after.texts)) (sym returns.marks) grown.0;
      own = subst (KnowsView after.texts) (sym (owned_marks x y (first_copy (worlds_in after.shared)) returns.marks))
          (own_still x after.texts (first_copy (worlds_in before.shared)) (first_copy (worlds_in after.shared))
          (view_grows before.texts after.texts (owned x (first_copy (worlds_in before.shared))) grows is.known.own) there);
    };
  }
