use Rattle.std.proofs.Common.{[], ◌∷◌, ◌∙◌, ap, sym}
use Rattle.wjs_base.specs.Order.{name_total}
use Rattle.wjs_names.proofs.Shorts.{less_first, less_next}
use Rattle.wjs_names.proofs.short.without_of_two.Goals as goal

pub returns-then-is_named : goal.returns-then-is_named
returns-then-is_named g c = less_first name_total c.args.name c.args.first (c.args.second ∷ []) c.requires (sym c.is_named.ensures ∙ c.if-is_named.true)

pub returns-then-is_named-2 : goal.returns-then-is_named-2
returns-then-is_named-2 g c =
    ap (λ rest. c.args.first ∷ rest) (less_first name_total c.args.name c.args.second [] tt (sym c.is_named-2.ensures ∙ c.if-is_named-2.true))
    ∙ less_next name_total c.args.name c.args.first (c.args.second ∷ []) (sym c.is_named.ensures ∙ c.if-is_named.false)

pub returns-else-is_named-2 : goal.returns-else-is_named-2
returns-else-is_named-2 g c =
    ap (λ rest. c.args.first ∷ rest) (less_next name_total c.args.name c.args.second [] (sym c.is_named-2.ensures ∙ c.if-is_named-2.false))
    ∙ less_next name_total c.args.name c.args.first (c.args.second ∷ []) (sym c.is_named.ensures ∙ c.if-is_named.false)
