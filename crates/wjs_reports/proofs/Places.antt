-- The worlds of owner 0 by their numbers, which count them from the oldest on.
use Rattle.std.proofs.Common.{◌≡◌, ℕ, suc, ◌+◌, ◌<◌, ◌≤◌, Bool, true, false, cond, ◌&&◌, ◌==◌, List, [], ◌∷◌, ◌++◌, Option, None, Some, refl, sym, ap, ◌∙◌, append-nil, append_assoc, arith}
use Rattle.std.specs.Prelude.{is_some, nat_lt, codes}
use Rattle.std.specs.Fmt.{decimal}
use Rattle.std.specs.Option.{option_map, option_map_or, option_and_then}
use Rattle.std.proofs.lemmas.Bool.{true≢false, eqb-true, eqb-false, ltb-true, ltb-false, lt-ltb, le-ltb}
use Rattle.wjs_base.specs.declared.ids.WorldId.{WorldId}
use Rattle.wjs_store.specs.declared.store.Counts.{Counts as Numbers}
use Rattle.wjs_store.specs.Meaning.{Worlds}
use Rattle.wjs_store.specs.Naming.{Naming, plain}
use Rattle.wjs_store.specs.Reached.{IsReached}
use Rattle.wjs_store.specs.Shown.{Counts, counts_of}
use Rattle.wjs_store.specs.State.{World, State, find_world, has_world, parent_of, count_of}
use Rattle.wjs_store.proofs.Writes.{found_id, serial_below}
use Rattle.wjs_reports.specs.Lines.{parent_part, marks_part, line_of, lines_of, line_at}

-- the number of a world of owner 0
abbrev pub place : ℕ → WorldId
place k = record { owner = 0; serial = k }

-- the line of a world by its parts
pub line_made : (F : Worlds) (w : WorldId) (numbers : Numbers) (before first second after : List ℕ) → Counts F w numbers → first ≡ before ++ codes "world " ++ decimal w.serial → second ≡ first ++ parent_part (parent_of F w)
    → after ≡ second ++ marks_part numbers.reads numbers.writes numbers.closed → after ≡ before ++ line_at F w
line_made F w numbers before first second after c a b e = by (find_world F w) refl c b
  where
    by : (r : Option (World plain)) → find_world F w ≡ r → option_map counts_of r ≡ Some numbers → second ≡ first ++ parent_part (option_and_then (λ (x : World plain). x.parent) r) → after ≡ before ++ option_map_or line_of r []
    by None is c b = cc
    by (Some x) is c b =
        let same : counts_of x ≡ numbers = cc in
        let word = codes "world " in
        let marks : Numbers → List ℕ = λ n. marks_part n.reads n.writes n.closed in
        e
        ∙ (λ i. b i ++ marks (sym same i))
        ∙ (λ i. ((a i ++ parent_part x.parent) ++ marks (counts_of x)))
        ∙ (λ i. (((before ++ word) ++ decimal (sym (found_id F w x is) i).serial) ++ parent_part x.parent) ++ marks (counts_of x))
        ∙ ap (λ ls. ls ++ marks (counts_of x)) (ap (λ ls. ls ++ parent_part x.parent) (append_assoc before word (decimal x.id.serial)) ∙ append_assoc before (word ++ decimal x.id.serial) (parent_part x.parent))
        ∙ append_assoc before ((word ++ decimal x.id.serial) ++ parent_part x.parent) (marks (counts_of x))

module _ {K V : Type 0} {n : Naming K V} where
  -- the lines of the worlds of owner 0 whose numbers are less than k
  abbrev pub lines_below : ℕ → State n → List ℕ
  lines_below k [] = []
  lines_below k (x ∷ older) = lines_below k older ++ cond (x.id.owner == 0) (cond (nat_lt x.id.serial k) (line_of x) []) []

  -- none is less than 0
  no_line : (b : Bool) (x : World n) → [] ≡ cond b (cond (nat_lt x.id.serial 0) (line_of x) []) []
  no_line true x = ap (λ c. cond c (line_of x) []) (sym (le-ltb x.id.serial 0 (omega arith)))
  no_line false x = refl

  pub none_below : (F : State n) → [] ≡ lines_below 0 F
  none_below [] = refl
  none_below (x ∷ older) = λ i. none_below older i ++ no_line (x.id.owner == 0) x i

  -- a world of owner 0 has as many of its owner before it as its number says
  serial_is : (x : World n) (older : State n) → IsReached (x ∷ older) → (x.id.owner == 0) ≡ true → x.id.serial ≡ count_of 0 older
  serial_is x older h e = h.0.serial ∙ ap (λ o. count_of o older) (eqb-true x.id.owner 0 e)

  -- where no number is k or more, these are all
  all_step : (x : World n) (older : State n) (k : ℕ) → IsReached (x ∷ older) → (count_of 0 older ≤ k → lines_below k older ≡ lines_of older) → (b : Bool) → (x.id.owner == 0) ≡ b → cond b 1 0 + count_of 0 older ≤ k
      → lines_below k older ++ cond b (cond (nat_lt x.id.serial k) (line_of x) []) [] ≡ lines_of older ++ cond b (line_of x) []
  all_step x older k h rest true e c =
      let s : x.id.serial ≡ count_of 0 older = serial_is x older h e in
      let l : x.id.serial < k = omega (arith, s, c) in
      let m : count_of 0 older ≤ k = omega (arith, c) in
      λ i. rest m i ++ cond (lt-ltb x.id.serial k l i) (line_of x) []
  all_step x older k h rest false e c =
      let m : count_of 0 older ≤ k = omega (arith, c) in
      λ i. rest m i ++ []

  all_below : (F : State n) (k : ℕ) → IsReached F → count_of 0 F ≤ k → lines_below k F ≡ lines_of F
  all_below [] k h c = refl
  all_below (x ∷ older) k h c = all_step x older k h (all_below older k h.1) (x.id.owner == 0) refl c

  -- each number that is less than their count is a world's
  there_step : (x : World n) (older : State n) (k : ℕ) → IsReached (x ∷ older) → (k < count_of 0 older → has_world older (place k) ≡ true) → (a : Bool) → (x.id.owner == 0) ≡ a → (b : Bool) → (x.id.serial == k) ≡ b → k < cond a 1 0 + count_of 0 older
      → is_some (cond (a && b) (Some x) (find_world older (place k))) ≡ true
  there_step x older k h rest true e true f l = refl
  there_step x older k h rest true e false f l =
      let s : x.id.serial ≡ count_of 0 older = serial_is x older h e in
      let d : x.id.serial ≡ k → ⊥ = eqb-false x.id.serial k f in
      let m : k < count_of 0 older = omega (arith, s, d, l) in
      rest m
  there_step x older k h rest false e b f l = let m : k < count_of 0 older = omega (arith, l) in rest m

  there_below : (F : State n) (k : ℕ) → IsReached F → k < count_of 0 F → has_world F (place k) ≡ true
  unfolding find_world
  there_below [] k h l = absurd (omega (arith, l))
  there_below (x ∷ older) k h l = there_step x older k h (there_below older k h.1) (x.id.owner == 0) refl (x.id.serial == k) refl l

  -- where no world has the number, all lines are below it
  not_less : (F : State n) (k : ℕ) → IsReached F → has_world F (place k) ≡ false → (b : Bool) → nat_lt k (count_of 0 F) ≡ b → count_of 0 F ≤ k
  not_less F k h e true q = absurd (true≢false (sym (there_below F k h (ltb-true k (count_of 0 F) q)) ∙ e))
  not_less F k h e false q = ltb-false k (count_of 0 F) q

  pub ends_at : (F : State n) (k : ℕ) → IsReached F → has_world F (place k) ≡ false → lines_below k F ≡ lines_of F
  ends_at F k h e = all_below F k h (not_less F k h e (nat_lt k (count_of 0 F)) refl)

  -- the world of a number has the next line
  next_step : (x : World n) (older : State n) (k : ℕ) → IsReached (x ∷ older) → (has_world older (place k) ≡ true → lines_below (suc k) older ≡ lines_below k older ++ line_at older (place k)) → (a : Bool) → (x.id.owner == 0) ≡ a → (b : Bool) → (x.id.serial == k) ≡ b
      → is_some (cond (a && b) (Some x) (find_world older (place k))) ≡ true
      → lines_below (suc k) older ++ cond a (cond (nat_lt x.id.serial (suc k)) (line_of x) []) [] ≡ (lines_below k older ++ cond a (cond (nat_lt x.id.serial k) (line_of x) []) []) ++ option_map_or line_of (cond (a && b) (Some x) (find_world older (place k))) []
  next_step x older k h rest true e true f t =
      let s : x.id.serial ≡ count_of 0 older = serial_is x older h e in
      let q : x.id.serial ≡ k = eqb-true x.id.serial k f in
      let here : count_of 0 older ≤ k = omega (arith, s, q) in
      let after : count_of 0 older ≤ suc k = omega (arith, s, q) in
      let less : x.id.serial < suc k = omega (arith, q) in
      let more : k ≤ x.id.serial = omega (arith, q) in
      (λ i. (all_below older (suc k) h.1 after ∙ sym (all_below older k h.1 here)) i ++ cond (lt-ltb x.id.serial (suc k) less i) (line_of x) [])
      ∙ ap (λ ls. ls ++ line_of x) (sym (append-nil (lines_below k older)) ∙ ap (λ c. lines_below k older ++ cond c (line_of x) []) (sym (le-ltb x.id.serial k more)))
  next_step x older k h rest true e false f t =
      let s : x.id.serial ≡ count_of 0 older = serial_is x older h e in
      let l : k < count_of 0 older = serial_below older (place k) h.1 t in
      let far : suc k ≤ x.id.serial = omega (arith, s, l) in
      let near : k ≤ x.id.serial = omega (arith, s, l) in
      ap (λ c. lines_below (suc k) older ++ cond c (line_of x) []) (le-ltb x.id.serial (suc k) far)
      ∙ append-nil (lines_below (suc k) older)
      ∙ rest t
      ∙ ap (λ ls. ls ++ line_at older (place k)) (sym (append-nil (lines_below k older)) ∙ ap (λ c. lines_below k older ++ cond c (line_of x) []) (sym (le-ltb x.id.serial k near)))
  next_step x older k h rest false e b f t =
      append-nil (lines_below (suc k) older)
      ∙ rest t
      ∙ ap (λ ls. ls ++ line_at older (place k)) (sym (append-nil (lines_below k older)))

  pub next_below : (F : State n) (k : ℕ) → IsReached F → has_world F (place k) ≡ true → lines_below (suc k) F ≡ lines_below k F ++ line_at F (place k)
  unfolding find_world
  next_below [] k h t = cc
  next_below (x ∷ older) k h t = next_step x older k h (next_below older k h.1) (x.id.owner == 0) refl (x.id.serial == k) refl t
