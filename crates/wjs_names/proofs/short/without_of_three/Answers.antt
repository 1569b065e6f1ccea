use Rattle.std.proofs.Common.{[], ◌∷◌, ◌∙◌, ap, sym}
use Rattle.wjs_base.specs.Order.{name_cmp, name_total}
use Rattle.wjs_base.proofs.Booleans.{right_true}
use Rattle.std.specs.FinMap.Entries.{below_all, is_sorted}
use Rattle.wjs_names.proofs.Shorts.{less_first, less_next}
use Rattle.wjs_names.proofs.short.without_of_three.Goals as goal

pub returns-then-is_named : goal.returns-then-is_named
returns-then-is_named g c = less_first name_total c.args.name c.args.first (c.args.second ∷ c.args.third ∷ []) c.requires (sym c.is_named.ensures ∙ c.if-is_named.true)

pub returns-then-is_named-2 : goal.returns-then-is_named-2
returns-then-is_named-2 g c =
    ap (λ rest. c.args.first ∷ rest) (less_first name_total c.args.name c.args.second (c.args.third ∷ []) (right_true (below_all name_cmp c.args.first.0 (c.args.second ∷ c.args.third ∷ [])) (is_sorted name_cmp (c.args.second ∷ c.args.third ∷ [])) c.requires) (sym c.is_named-2.ensures ∙ c.if-is_named-2.true))
    ∙ less_next name_total c.args.name c.args.first (c.args.second ∷ c.args.third ∷ []) (sym c.is_named.ensures ∙ c.if-is_named.false)

pub returns-then-is_named-3 : goal.returns-then-is_named-3
returns-then-is_named-3 g c =
    ap (λ rest. c.args.first ∷ c.args.second ∷ rest) (less_first name_total c.args.name c.args.third [] tt (sym c.is_named-3.ensures ∙ c.if-is_named-3.true))
    ∙ ap (λ rest. c.args.first ∷ rest) (less_next name_total c.args.name c.args.second (c.args.third ∷ []) (sym c.is_named-2.ensures ∙ c.if-is_named-2.false))
    ∙ less_next name_total c.args.name c.args.first (c.args.second ∷ c.args.third ∷ []) (sym c.is_named.ensures ∙ c.if-is_named.false)

pub returns : goal.returns
returns g c =
    ap (λ rest. c.args.first ∷ c.args.second ∷ rest) (less_next name_total c.args.name c.args.third [] (sym c.is_named-3.ensures ∙ c.if-is_named-3.false))
    ∙ ap (λ rest. c.args.first ∷ rest) (less_next name_total c.args.name c.args.second (c.args.third ∷ []) (sym c.is_named-2.ensures ∙ c.if-is_named-2.false))
    ∙ less_next name_total c.args.name c.args.first (c.args.second ∷ c.args.third ∷ []) (sym c.is_named.ensures ∙ c.if-is_named.false)
