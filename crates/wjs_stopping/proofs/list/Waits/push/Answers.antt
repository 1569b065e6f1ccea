use Rattle.std.proofs.Common.{◌∷◌, ◌++◌, sym, ap, ◌∙◌}
use Rattle.std.specs.Prelude.{option_to_list}
use Rattle.wjs_model.specs.Frames.{latest_first}
use Rattle.wjs_model.proofs.Latest.{latest-snoc}
use Rattle.wjs_stopping.proofs.list.Waits.push.Goals as goal

pub returns-in_ok-push-in-Some : goal.returns-in_ok-push-in-Some
returns-in_ok-push-in-Some c =
    let inside = c.self.inside.inside.items in
    ap (λ l. c.args.frame ∷ l)
    (ap latest_first c.in_ok-push-in-Some.ensures.items ∙ latest-snoc inside c.in-Some.before
    ∙ ap (λ o. option_to_list o ++ latest_first inside) (sym (sym c.take.ensures.value ∙ c.in-Some.is)) ∙ c.self.view_is)

pub returns-in-None : goal.returns-in-None
returns-in-None c =
    let inside = c.self.inside.inside.items in
    ap (λ l. c.args.frame ∷ l) (ap (λ o. option_to_list o ++ latest_first inside) (sym (sym c.take.ensures.value ∙ c.in-None.is)) ∙ c.self.view_is)
