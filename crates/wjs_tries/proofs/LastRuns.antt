-- An end of the definition is that of the part's run alone with the whole budget.
use Rattle.std.proofs.Common.{◌≡◌, ℕ, ◌+◌, ◌-◌, ◌≤◌, ◌<◌, false, ◌⊎◌, inl, inr, refl, sym, ap, ◌∙◌, arith, List}
use Rattle.std.specs.Prelude.{nat_lt}
use Rattle.std.proofs.lemmas.Bool.{true≢false, lt-ltb, cases_lt}
use Rattle.wjs_arena.specs.Entries.{others_of}
use Rattle.wjs_by_content.specs.Objects.{Arena}
use Rattle.wjs_by_content.specs.Tables.{arena_in}
use Rattle.wjs_meaning.specs.Trees.{Tree}
use Rattle.wjs_meaning.specs.Programs.{Ending, Done, Threw, StepsSpent}
use Rattle.wjs_model.specs.declared.config.Config.{Config}
use Rattle.wjs_session.specs.declared.session.Session.{Session}
use Rattle.wjs_session.specs.Session.{first_copy}
use Rattle.wjs_session.specs.Stores.{worlds_in}
use Rattle.wjs_alone.specs.Alone.{Copy, alone}
use Rattle.wjs_alone.proofs.Budget.{with_more}
use Rattle.wjs_alone.proofs.Objects.{left_out_lem}
use Rattle.wjs_tries.specs.declared.common.Common.{Common}
use Rattle.wjs_tries.specs.Meant.{session_meaning}
use Rattle.wjs_tries.specs.Views.{held_in}
use Rattle.wjs_tries.specs.Passing.{Passes}
use Rattle.wjs_tries.specs.Turning.{common_of}
use Rattle.wjs_tries.specs.Exact.{goes_on_after, run_of}
use Rattle.wjs_tries.proofs.Beside.{same_in}

-- a run that doesn't go on is the run with the whole budget
module _ (trees : List Tree) (tree owner : ℕ) (copy : Copy) (arena : Arena) (budget n : ℕ) (le : n ≤ budget) where
  ended : ¬ ((alone trees tree owner copy arena n).0 ≡ StepsSpent) → alone trees tree owner copy arena budget ≡ alone trees tree owner copy arena n
  ended h =
      let sum : budget ≡ n + (budget - n) = omega (arith, le) in
      ap (alone trees tree owner copy arena) sum ∙ with_more trees tree owner copy arena n (budget - n) h

  whole_run : goes_on_after budget n (alone trees tree owner copy arena n).0 ≡ false
      → alone trees tree owner copy arena budget ≡ alone trees tree owner copy arena n
  whole_run h = by (alone trees tree owner copy arena n).0 refl
    where
      not_less : nat_lt n budget ≡ false → budget ≤ n
      not_less e = by_order (cases_lt n budget)
        where
          by_order : (n < budget) ⊎ (budget ≤ n) → budget ≤ n
          by_order (inl lt) = absurd (true≢false (sym (lt-ltb n budget lt) ∙ e))
          by_order (inr ge) = ge

      by : (e : Ending) → (alone trees tree owner copy arena n).0 ≡ e → alone trees tree owner copy arena budget ≡ alone trees tree owner copy arena n
      by Done is = ended (λ s. let z : ◌≡◌ {A = Ending} Done StepsSpent = sym is ∙ s in cc)
      by (Threw v) is = ended (λ s. let z : ◌≡◌ {A = Ending} (Threw v) StepsSpent = sym is ∙ s in cc)
      by StepsSpent is =
          let none : nat_lt n budget ≡ false = sym (ap (goes_on_after budget n) is) ∙ h in
          let ge : budget ≤ n = not_less none in
          let same : budget ≡ n = omega (arith, le, ge) in
          ap (alone trees tree owner copy arena) same

-- from what there was at the turn's begin, of a try that took the first world to hold what it held
pub last_run : (trees : List Tree) (tree budget n : ℕ) (old : Config Session) (common : Common) (before : Copy) → n ≤ budget
    → Passes old.owner (common_of old) common → (session_meaning old.heap.store).own ≡ first_copy (worlds_in old.heap.store.shared)
    → held_in common.texts (first_copy (worlds_in old.heap.store.shared)) ≡ before
    → goes_on_after budget n (run_of session_meaning trees tree common.texts old n).0 ≡ false
    → alone trees tree old.owner before (arena_in common.texts common.arena) budget ≡ run_of session_meaning trees tree common.texts old n
last_run trees tree budget n old common before le passes own holds over =
    sym (left_out_lem trees tree old.owner before (arena_in common.texts (others_of old.heap.arena old.owner)) (arena_in common.texts common.arena) budget
    (same_in common.texts (others_of old.heap.arena old.owner) common.arena old.owner passes.objects passes.made))
    ∙ (λ i. alone trees tree old.owner (sym (ap (held_in common.texts) own ∙ holds) i) (arena_in common.texts (others_of old.heap.arena old.owner)) budget)
    ∙ whole_run trees tree old.owner (held_in common.texts (session_meaning old.heap.store).own) (arena_in common.texts (others_of old.heap.arena old.owner))
    budget n le over
