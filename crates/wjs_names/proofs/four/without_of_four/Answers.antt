use Rattle.std.proofs.Common.{[], ◌∷◌, ◌∙◌, ap, sym, is_some}
use Rattle.wjs_base.specs.Order.{name_total}
use Rattle.wjs_names.proofs.Shorts.{less_first, less_next, found_here, found_past, rest_sorted}
use Rattle.wjs_names.proofs.four.without_of_four.Goals as goal

pub returns-then-is_named : goal.returns-then-is_named
returns-then-is_named g c =
    let k = c.args.name in
    let t = sym c.is_named.ensures ∙ c.if-is_named.true in
    let es = c.args.second ∷ c.args.third ∷ c.args.fourth ∷ [] in
    (less_first name_total k c.args.first es c.requires t, ap is_some (sym (found_here name_total k c.args.first es t)))

pub returns-then-is_named-2 : goal.returns-then-is_named-2
returns-then-is_named-2 g c =
    let k = c.args.name in
    let f = sym c.is_named.ensures ∙ c.if-is_named.false in
    let t = sym c.is_named-2.ensures ∙ c.if-is_named-2.true in
    let ds = c.args.third ∷ c.args.fourth ∷ [] in
    let es = c.args.second ∷ ds in (
      ap (λ rest. c.args.first ∷ rest) (less_first name_total k c.args.second ds (rest_sorted name_total k c.args.first es c.requires) t) ∙ less_next name_total k c.args.first es f,
      ap is_some (sym (found_here name_total k c.args.second ds t ∙ found_past name_total k c.args.first es f)),
    )

pub returns-then-is_named-3 : goal.returns-then-is_named-3
returns-then-is_named-3 g c =
    let k = c.args.name in
    let f = sym c.is_named.ensures ∙ c.if-is_named.false in
    let h = sym c.is_named-2.ensures ∙ c.if-is_named-2.false in
    let t = sym c.is_named-3.ensures ∙ c.if-is_named-3.true in
    let cs = c.args.fourth ∷ [] in
    let ds = c.args.third ∷ cs in
    let es = c.args.second ∷ ds in (
      ap (λ rest. c.args.first ∷ c.args.second ∷ rest) (less_first name_total k c.args.third cs (rest_sorted name_total k c.args.second ds (rest_sorted name_total k c.args.first es c.requires)) t)
          ∙ ap (λ rest. c.args.first ∷ rest) (less_next name_total k c.args.second ds h)
          ∙ less_next name_total k c.args.first es f,
      ap is_some (sym (found_here name_total k c.args.third cs t ∙ found_past name_total k c.args.second ds h ∙ found_past name_total k c.args.first es f)),
    )

pub returns-then-is_named-4 : goal.returns-then-is_named-4
returns-then-is_named-4 g c =
    let k = c.args.name in
    let f = sym c.is_named.ensures ∙ c.if-is_named.false in
    let h = sym c.is_named-2.ensures ∙ c.if-is_named-2.false in
    let j = sym c.is_named-3.ensures ∙ c.if-is_named-3.false in
    let t = sym c.is_named-4.ensures ∙ c.if-is_named-4.true in
    let cs = c.args.fourth ∷ [] in
    let ds = c.args.third ∷ cs in
    let es = c.args.second ∷ ds in (
      ap (λ rest. c.args.first ∷ c.args.second ∷ c.args.third ∷ rest) (less_first name_total k c.args.fourth [] tt t)
          ∙ ap (λ rest. c.args.first ∷ c.args.second ∷ rest) (less_next name_total k c.args.third cs j)
          ∙ ap (λ rest. c.args.first ∷ rest) (less_next name_total k c.args.second ds h)
          ∙ less_next name_total k c.args.first es f,
      ap is_some (sym (found_here name_total k c.args.fourth [] t ∙ found_past name_total k c.args.third cs j ∙ found_past name_total k c.args.second ds h ∙ found_past name_total k c.args.first es f)),
    )

pub returns : goal.returns
returns g c =
    let k = c.args.name in
    let f = sym c.is_named.ensures ∙ c.if-is_named.false in
    let h = sym c.is_named-2.ensures ∙ c.if-is_named-2.false in
    let j = sym c.is_named-3.ensures ∙ c.if-is_named-3.false in
    let l = sym c.is_named-4.ensures ∙ c.if-is_named-4.false in
    let cs = c.args.fourth ∷ [] in
    let ds = c.args.third ∷ cs in
    let es = c.args.second ∷ ds in
    sym (found_past name_total k c.args.fourth [] l ∙ found_past name_total k c.args.third cs j ∙ found_past name_total k c.args.second ds h ∙ found_past name_total k c.args.first es f)
