use Rattle.std.proofs.Common.{◌≡◌, ◌-◌, ◌≤◌, ◌++◌, ◌∷◌, [], refl, sym, ap, ◌∙◌, subst, true, Some, slice_get, ℕ}
use Rattle.wjs_overlay.specs.declared.bounds.Bound.{Bound}
use Rattle.wjs_overlay.specs.Covers.{covers, Grows, IsRising, IsCount}
use Rattle.wjs_overlay.proofs.Covering.{put_rises, put_grows, put_covers}
use Rattle.wjs_overlay.proofs.bounds.put.Goals as goal

pub count_to-count-requires : goal.count_to-count-requires
count_to-count-requires c = subst IsRising (sym c.as_slice-list.ensures.value) c.requires.rising

pub greater-serial-requires : goal.greater-serial-requires
greater-serial-requires c = subst IsRising (sym c.as_slice-list.ensures.value) c.requires.rising

pub returns-clause-rising : goal.returns-clause-rising
returns-clause-rising c =
    let bs = c.args.bounds.now.items in
    let b : Bound = record { place = c.args.place; serial = c.greater-serial.result } in
    let count : IsCount bs (c.args.place - 1) c.count_to-count.result = subst (λ xs. IsCount xs (c.args.place - 1) c.count_to-count.result) c.as_slice-list.ensures.value c.count_to-count.ensures in
    let others : (k : ℕ) (d : Bound) → slice_get bs k ≡ Some d → d.serial ≤ b.serial = λ k d s. c.greater-serial.ensures.all k d (ap (λ xs. slice_get xs k) c.as_slice-list.ensures.value ∙ s) in
    subst IsRising (sym (c.in_ok-push.ensures.items ∙ ap (λ xs. xs ++ b ∷ []) c.truncate.ensures.items)) (put_rises bs c.args.place c.count_to-count.result b c.requires.rising count c.requires.below refl others)

pub returns-clause-grows : goal.returns-clause-grows
returns-clause-grows c =
    let bs = c.args.bounds.now.items in
    let b : Bound = record { place = c.args.place; serial = c.greater-serial.result } in
    let count : IsCount bs (c.args.place - 1) c.count_to-count.result = subst (λ xs. IsCount xs (c.args.place - 1) c.count_to-count.result) c.as_slice-list.ensures.value c.count_to-count.ensures in
    let others : (k : ℕ) (d : Bound) → slice_get bs k ≡ Some d → d.serial ≤ b.serial = λ k d s. c.greater-serial.ensures.all k d (ap (λ xs. slice_get xs k) c.as_slice-list.ensures.value ∙ s) in
    subst (Grows bs) (sym (c.in_ok-push.ensures.items ∙ ap (λ xs. xs ++ b ∷ []) c.truncate.ensures.items)) (put_grows bs c.args.place c.count_to-count.result b c.requires.rising count c.requires.below refl others)

pub returns-clause-reached : goal.returns-clause-reached
returns-clause-reached c =
    let bs = c.args.bounds.now.items in
    let b : Bound = record { place = c.args.place; serial = c.greater-serial.result } in
    let count : IsCount bs (c.args.place - 1) c.count_to-count.result = subst (λ xs. IsCount xs (c.args.place - 1) c.count_to-count.result) c.as_slice-list.ensures.value c.count_to-count.ensures in
    let others : (k : ℕ) (d : Bound) → slice_get bs k ≡ Some d → d.serial ≤ b.serial = λ k d s. c.greater-serial.ensures.all k d (ap (λ xs. slice_get xs k) c.as_slice-list.ensures.value ∙ s) in
    subst (λ xs. covers xs c.args.place c.args.serial ≡ true) (sym (c.in_ok-push.ensures.items ∙ ap (λ xs. xs ++ b ∷ []) c.truncate.ensures.items)) (put_covers bs c.args.place c.count_to-count.result b c.requires.rising count c.requires.below refl others c.args.serial c.greater-serial.ensures.own)
