use Rattle.std.proofs.Common.{subst, map, IsPermutation, rules}
use Rattle.std.specs.Ordering.{is_lt}
use Rattle.std.specs.List.Sorted.{IsSorted}
use Rattle.std.proofs.lemmas.List.Sorted.{answers_always, ranks_by, IsPermutation-map}
use Rattle.wjs_base.specs.Spelling.{spelling_cmp}
use Rattle.wjs_props.specs.declared.order.Spelled.{Spelled}
use Rattle.wjs_props.specs.Spelled.{spelled_cmp, spelled_total, IsSpelled}
use Rattle.wjs_props.proofs.SpelledNames.{names_sorted, holds_moved, if_named, named_as}
use Rattle.wjs_props.proofs.order.in_order.Goals as goal

pub returns-clause-permutation : goal.returns-clause-permutation
returns-clause-permutation c =
    let moved : IsPermutation (map (λ (z : Spelled). z.name) c.in_ok-all.all.items) (map (λ (z : Spelled). z.name) c.sort_unstable_by.new.self.items) =
    IsPermutation-map (λ (z : Spelled). z.name) c.in_ok-all.all.items c.sort_unstable_by.new.self.items c.sort_unstable_by.ensures.permutation in
    if_named c.names_of.result (map (λ (z : Spelled). z.name) c.sort_unstable_by.new.self.items) (IsPermutation c.args.names.now)
    (subst (λ xs. IsPermutation xs (map (λ (z : Spelled). z.name) c.sort_unstable_by.new.self.items)) c.in_ok-all.ensures.names moved)
    (named_as c.names_of.result (λ xs. map (λ (z : Spelled). z.name) xs) c.as_slice.result.now c.sort_unstable_by.new.self.items c.as_slice.ensures.value c.names_of.ensures)

pub returns-clause-sorted : goal.returns-clause-sorted
returns-clause-sorted c =
    let s = c.sort_unstable_by.ensures.sorted (λ a b. is_lt (spelled_cmp a b)) (ranks_by spelled_total (λ z. z)) (answers_always _ _ _ (λ f a r g called. search rules)) in
    let h = holds_moved (IsSpelled c.args.texts.now) c.in_ok-all.all.items c.sort_unstable_by.new.self.items c.sort_unstable_by.ensures.permutation c.in_ok-all.ensures.units in
    if_named c.names_of.result (map (λ (z : Spelled). z.name) c.sort_unstable_by.new.self.items) (IsSorted (spelling_cmp c.args.texts.now))
    (names_sorted c.args.texts.now c.sort_unstable_by.new.self.items h s)
    (named_as c.names_of.result (λ xs. map (λ (z : Spelled). z.name) xs) c.as_slice.result.now c.sort_unstable_by.new.self.items c.as_slice.ensures.value c.names_of.ensures)
