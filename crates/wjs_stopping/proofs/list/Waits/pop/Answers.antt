use Rattle.std.proofs.Common.{◌∷◌, ◌++◌, sym, ap, ◌∙◌, subst, arith}
use Rattle.std.specs.Prelude.{option_to_list}
use Rattle.wjs_model.specs.Frames.{latest_first, Uncovers}
use Rattle.wjs_model.proofs.Latest.{uncovers}
use Rattle.wjs_stopping.proofs.list.Waits.pop.Goals as goal

pub returns-in-Some : goal.returns-in-Some
returns-in-Some c =
    let inside = latest_first c.self.inside.inside.items in
    sym c.self.view_is ∙ ap (λ o. option_to_list o ++ inside) (sym c.take.ensures.value ∙ c.in-Some.is)
    ∙ ap (λ o. c.in-Some.frame ∷ (option_to_list o ++ inside)) (sym c.take.ensures.after)

pub returns-in-None : goal.returns-in-None
returns-in-None c =
    let inside = c.self.inside.inside.items in
    let left = c.pop.new.self.items in
    subst (λ n. Uncovers c.args.self.now c.pop.result n) (ap (λ o. option_to_list o ++ latest_first left) (sym c.take.ensures.after))
    (subst (λ l. Uncovers l c.pop.result (latest_first left)) (ap (λ o. option_to_list o ++ latest_first inside) (sym (sym c.take.ensures.value ∙ c.in-None.is)) ∙ c.self.view_is)
    (uncovers inside left c.pop.result c.pop.ensures.items (λ n. let z = (rw n at c.pop.ensures.cases).0 in omega (arith, z, c.self.inside.inside.ok.0))))
