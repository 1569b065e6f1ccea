use Rattle.std.proofs.Common.{◌≡◌, Bool, true, false, not, sym, ap, ◌∙◌}
use Rattle.std.specs.Option.{is_some}
use Rattle.wjs_by_content.specs.Values.{Boolean}
use Rattle.wjs_meaning.specs.Deeds.{give}
use Rattle.wjs_native_text.proofs.globals.nan_given.Goals as goal

flip : (a b : Bool) → b ≡ not a → a ≡ not b
flip true b h = sym (ap not h)
flip false b h = sym (ap not h)

pub returns : goal.returns
returns c = λ t this env.
    rw (c.whole_at.ensures t) (sym (ap (λ b. give (Boolean b)) (flip c.is_none.result (is_some c.whole_at.result.number) (ap is_some (sym c.get.ensures) ∙ c.is_none.ensures))))
