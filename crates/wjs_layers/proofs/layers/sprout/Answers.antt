use Rattle.std.proofs.Common.{◌≡◌, ◌++◌, ◌∷◌, [], sym, ap, ◌∙◌, subst}
use Rattle.wjs_store.specs.State.{after_sprout}
use Rattle.wjs_layers.specs.Sparse.{StandFor, full_of}
use Rattle.wjs_layers.proofs.SproutLaws.{sprout_by, bare_layer}
use Rattle.wjs_layers.proofs.layers.sprout.Goals as goal

pub returns : goal.returns
returns c =
    let t = c.args.layers.now.items in
    let child = c.under.result in
    let pushed : c.push.new.self.items ≡ t ++ child ∷ [] = c.in_ok-push.ensures.items in
    let is : child ≡ bare_layer c.args.id c.args.world c.args.strict = c.under.ensures in
    record { after = subst (λ ls. StandFor ls (after_sprout (full_of t) c.args.world.world c.args.id.owner c.args.strict)) (sym (pushed ∙ ap (λ l. t ++ l ∷ []) is)) (sprout_by t c.requires.sparse c.args.world c.requires.there c.args.id c.args.strict c.requires.next) }
