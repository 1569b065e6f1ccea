-- A turn of the definition, by what the turn of the code came to.
use Rattle.std.proofs.Common.{◌≡◌, ℕ, ◌+◌, true, false, List, Option, sym, ap, ◌∙◌}
use Rattle.std.specs.Prelude.{min, max}
use Rattle.wjs_base.specs.Text.{Grows}
use Rattle.wjs_store.specs.State.{World}
use Rattle.wjs_by_content.specs.Names.{content}
use Rattle.wjs_by_content.specs.Tables.{arena_in}
use Rattle.wjs_meaning.specs.Trees.{Tree}
use Rattle.wjs_meaning.specs.Deeds.{St}
use Rattle.wjs_meaning.specs.Programs.{Ending}
use Rattle.wjs_model.specs.declared.config.Config.{Config}
use Rattle.wjs_session.specs.declared.session.Session.{Session}
use Rattle.wjs_session.specs.Session.{first_copy}
use Rattle.wjs_session.specs.Stores.{worlds_in}
use Rattle.wjs_alone.specs.Alone.{alone}
use Rattle.wjs_alone.specs.Opening.{trees_of, tree_number}
use Rattle.wjs_alone.specs.Marks.{marked, own_view, agrees}
use Rattle.wjs_alone.specs.Playing as defined
use Rattle.wjs_alone.specs.Playing.{goes_on, ends_with, rests_with, drops, is_resting, turn_of_try}
use Rattle.wjs_tries.specs.declared.common.Common.{Common}
use Rattle.wjs_tries.specs.Meant.{session_meaning}
use Rattle.wjs_tries.specs.Views.{held_in, KnowsView}
use Rattle.wjs_tries.specs.Common.{IsCommon}
use Rattle.wjs_tries.specs.Passing.{Passes}
use Rattle.wjs_tries.specs.Turning.{common_of, first_in}
use Rattle.wjs_tries.specs.Exact.{goes_on_after, run_of, marks_of, base_of}
use Rattle.wjs_tries.proofs.Overs.{held_grows}
use Rattle.wjs_activity.proofs.Same.{same_resting, same_run, own_later, objects_later}
use Rattle.wjs_tries.proofs.Soundly.{view_known}

module _ (library : Option Tree) (parts : List Tree) (budget taken steps : ℕ) (common next : Common) (drawn : ℕ) (c : Config Session) (q : ℕ)
    (is : IsCommon common.texts common.arena common.units.items (worlds_in common.shared) drawn) (start : Passes q common (common_of c))
    (owner_is : c.owner ≡ q) (grows : Grows common.texts next.texts)
    (holds : first_copy (worlds_in c.heap.store.shared) ≡ first_copy (worlds_in common.shared))
    (s : defined.Play) (copy_is : s.copy ≡ first_in common) (objects_are : s.objects ≡ arena_in common.texts common.arena)
    (b : defined.Activity) (t : defined.Try) (owner_same : t.owner ≡ c.owner) (steps_same : t.taken ≡ taken)
    (own_same : own_view t.outer s.copy ≡ held_in common.texts (session_meaning c.heap.store).own)
    (own_known : KnowsView common.texts (session_meaning c.heap.store).own) where
  abbrev trees : List Tree
  trees = trees_of library parts

  abbrev tree : ℕ
  tree = tree_number library b.number

  abbrev n : ℕ
  n = min budget (t.taken + steps)

  -- the definition's run, its marks, and the play with its owner drawn
  abbrev pub run : Ending × St
  run = alone (trees_of library parts) (tree_number library b.number) t.owner (own_view t.outer s.copy) s.objects (min budget (t.taken + steps))

  abbrev pub outer : World content
  outer = marked t.owner (own_view t.outer s.copy) (run.1).done

  abbrev pub with_run : defined.Play
  with_run = record s { owners = max s.owners t.owner }

  steps_are : min budget (t.taken + steps) ≡ min budget (taken + steps)
  steps_are = ap (λ k. min budget (k + steps)) steps_same

  pub run_is : run ≡ run_of session_meaning (trees_of library parts) (tree_number library b.number) next.texts c (min budget (taken + steps))
  run_is =
      same_run trees tree n q t.owner common next drawn c is start owner_is owner_same grows (own_view t.outer s.copy) own_same own_known s.objects objects_are
      ∙ ap (run_of session_meaning trees tree next.texts c) steps_are

  pub outer_is : outer ≡ marks_of session_meaning (trees_of library parts) (tree_number library b.number) next.texts c (min budget (taken + steps))
  outer_is = λ i. marked (owner_same i) (own_later trees tree n q t.owner common next drawn c is start owner_is owner_same grows
      (own_view t.outer s.copy) own_same own_known s.objects objects_are i) ((run_is i).1).done

  first_known : KnowsView common.texts (first_copy (worlds_in common.shared))
  first_known = view_known common.texts common.arena (first_copy (worlds_in common.shared)) is.table is.slots

  -- what was shared, by the later table
  pub objects_before : s.objects ≡ arena_in next.texts common.arena
  objects_before = objects_later trees tree n q t.owner common next drawn c is start owner_is owner_same grows (own_view t.outer s.copy) own_same own_known
      s.objects objects_are

  copy_before : s.copy ≡ base_of next.texts c
  copy_before = copy_is ∙ sym (held_grows common.texts next.texts (first_copy (worlds_in common.shared)) grows first_known)
      ∙ ap (held_in next.texts) (sym holds)

  rests_as : is_resting library parts budget (min budget (t.taken + steps)) run.0
      ≡ goes_on_after budget (min budget (taken + steps)) (run_of session_meaning (trees_of library parts) (tree_number library b.number) next.texts c
      (min budget (taken + steps))).0
  rests_as = same_resting library parts budget n run.0 ∙ (λ i. goes_on_after budget (steps_are i) (run_is i).0)

  agrees_as : agrees outer s.copy ≡ agrees (marks_of session_meaning (trees_of library parts) (tree_number library b.number) next.texts c
      (min budget (taken + steps))) (base_of next.texts c)
  agrees_as = λ i. agrees (outer_is i) (copy_before i)

  -- the three ends of the turn
  pub turn_rests : (go : defined.Activity → defined.Play → defined.Play)
      → goes_on_after budget (min budget (taken + steps)) (run_of session_meaning (trees_of library parts) (tree_number library b.number) next.texts c
      (min budget (taken + steps))).0 ≡ true
      → turn_of_try library parts budget go steps b t s ≡ goes_on (rests_with b t.owner (min budget (t.taken + steps)) outer) with_run
  turn_rests go h = ap (λ e. elim e [
    | true ↦ goes_on (rests_with b t.owner n outer) with_run
    | false ↦ elim (agrees outer s.copy) [ true ↦ ends_with b t.owner run with_run | false ↦ go (drops b) with_run ]
  ]) (rests_as ∙ h)

  turn_over : (go : defined.Activity → defined.Play → defined.Play)
      → goes_on_after budget (min budget (taken + steps)) (run_of session_meaning (trees_of library parts) (tree_number library b.number) next.texts c
      (min budget (taken + steps))).0 ≡ false
      → turn_of_try library parts budget go steps b t s ≡ elim (agrees outer s.copy) [ true ↦ ends_with b t.owner run with_run | false ↦ go (drops b) with_run ]
  turn_over go h = ap (λ e. elim e [
    | true ↦ goes_on (rests_with b t.owner n outer) with_run
    | false ↦ elim (agrees outer s.copy) [ true ↦ ends_with b t.owner run with_run | false ↦ go (drops b) with_run ]
  ]) (rests_as ∙ h)

  pub turn_ends : (go : defined.Activity → defined.Play → defined.Play)
      → goes_on_after budget (min budget (taken + steps)) (run_of session_meaning (trees_of library parts) (tree_number library b.number) next.texts c
      (min budget (taken + steps))).0 ≡ false
      → agrees (marks_of session_meaning (trees_of library parts) (tree_number library b.number) next.texts c (min budget (taken + steps)))
      (base_of next.texts c) ≡ true
      → turn_of_try library parts budget go steps b t s ≡ ends_with b t.owner run with_run
  turn_ends go h a = turn_over go h ∙ ap (λ e. elim e [ true ↦ ends_with b t.owner run with_run | false ↦ go (drops b) with_run ]) (agrees_as ∙ a)

  pub turn_drops : (go : defined.Activity → defined.Play → defined.Play)
      → goes_on_after budget (min budget (taken + steps)) (run_of session_meaning (trees_of library parts) (tree_number library b.number) next.texts c
      (min budget (taken + steps))).0 ≡ false
      → agrees (marks_of session_meaning (trees_of library parts) (tree_number library b.number) next.texts c (min budget (taken + steps)))
      (base_of next.texts c) ≡ false
      → turn_of_try library parts budget go steps b t s ≡ go (drops b) with_run
  turn_drops go h a = turn_over go h ∙ ap (λ e. elim e [ true ↦ ends_with b t.owner run with_run | false ↦ go (drops b) with_run ]) (agrees_as ∙ a)
