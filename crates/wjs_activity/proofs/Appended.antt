-- One end more.
use Rattle.std.proofs.Common.{◌≡◌, ℕ, List, [], ◌∷◌, ◌++◌, Option, refl, sym, ap, ◌∙◌, append_assoc, append-nil}
use Rattle.std.specs.FinMap as map
use Rattle.wjs_by_content.specs.Objects.{Arena}
use Rattle.wjs_meaning.specs.Trees.{Tree}
use Rattle.wjs_meaning.specs.Deeds.{St}
use Rattle.wjs_meaning.specs.Programs.{Ending}
use Rattle.wjs_alone.specs.Alone.{Copy, Outcome, outcome_of, copy_after, objects_after, printed}
use Rattle.wjs_alone.specs.Serial.{Run, End, runs_of, outcomes_of, Holds, NewOwn, run_at, outcomes_by, printed_by, copy_by, ObjectsGrow}
use Rattle.wjs_activity.specs.SoFar.{left_by}

pub runs_then : (es : List End) (e : End) → runs_of (es ++ e ∷ []) ≡ runs_of es ++ e.run ∷ []
runs_then [] e = refl
runs_then (x ∷ es) e = ap (λ (l : List Run). x.run ∷ l) (runs_then es e)

pub told_then : (es : List End) (e : End) → outcomes_of (es ++ e ∷ []) ≡ outcomes_of es ++ e.outcome ∷ []
told_then [] e = refl
told_then (x ∷ es) e = ap (λ (l : List Outcome). x.outcome ∷ l) (told_then es e)

pub holds_same : (a b : Arena) → a ≡ b → Holds a b
holds_same a b same = λ o e at. ap (λ (m : Arena). map.get m o) (sym same) ∙ at

module _ (library : Option Tree) (parts : List Tree) (budget : ℕ) where
  -- a run behind the first ones
  abbrev run_behind : Copy → List Run → Run → Ending × St
  run_behind m rs r = run_at library parts budget (copy_by library parts budget m rs) r

  abbrev next : Copy → Run → Copy
  next m x = copy_after x.owner m (run_at library parts budget m x)

  pub copy_then : (m : Copy) (rs : List Run) (r : Run) → copy_by library parts budget m (rs ++ r ∷ [])
      ≡ copy_after r.owner (copy_by library parts budget m rs) (run_behind m rs r)
  copy_then m [] r = refl
  copy_then m (x ∷ rs) r = copy_then (next m x) rs r

  pub outcomes_then : (m : Copy) (rs : List Run) (r : Run) → outcomes_by library parts budget m (rs ++ r ∷ [])
      ≡ outcomes_by library parts budget m rs ++ outcome_of r.owner (run_behind m rs r) ∷ []
  outcomes_then m [] r = refl
  outcomes_then m (x ∷ rs) r = ap (λ (l : List Outcome). outcome_of x.owner (run_at library parts budget m x) ∷ l) (outcomes_then (next m x) rs r)

  pub printed_then : (m : Copy) (rs : List Run) (r : Run) → printed_by library parts budget m (rs ++ r ∷ [])
      ≡ printed_by library parts budget m rs ++ printed (run_behind m rs r)
  printed_then m [] r = append-nil (printed (run_at library parts budget m r))
  printed_then m (x ∷ rs) r =
      ap (λ (l : List ℕ). printed (run_at library parts budget m x) ++ l) (printed_then (next m x) rs r)
      ∙ sym (append_assoc (printed (run_at library parts budget m x)) (printed_by library parts budget (next m x) rs) (printed (run_behind m (x ∷ rs) r)))

  pub left_then : (m : Copy) (a : Arena) (rs : List Run) (r : Run) → left_by library parts budget m a (rs ++ r ∷ [])
      ≡ objects_after r.objects (run_behind m rs r)
  left_then m a [] r = refl
  left_then m a (x ∷ rs) r = left_then (next m x) (objects_after x.objects (run_at library parts budget m x)) rs r

  pub grow_then : (m : Copy) (a : Arena) (rs : List Run) (r : Run) → ObjectsGrow library parts budget m a rs
      → Holds (left_by library parts budget m a rs) r.objects → NewOwn (left_by library parts budget m a rs) r.objects
      → ObjectsGrow library parts budget m a (rs ++ r ∷ [])
  grow_then m a [] r g h w = (h, w, tt)
  grow_then m a (x ∷ rs) r g h w = (g.0, g.1, grow_then (next m x) (objects_after x.objects (run_at library parts budget m x)) rs r g.2 h w)
