use Rattle.std.proofs.Common.{ℕ, ◌<◌, ◌^◌, w16, ap, ◌∙◌}
use Rattle.std.proofs.lemmas.List.Elements.{All-from_get_or}
use Rattle.std.proofs.Math.Facts.{Fits-lt-pow}
use Rattle.wjs_texts.proofs.Transcoding.{shows, same_back}
use Rattle.wjs_texts.proofs.unicode.utf8_of_units.Goals as goal

pub returns-clause-shows : goal.returns-clause-shows
returns-clause-shows c =
    shows c.args.units.now c.into_bytes.result.items (All-from_get_or (λ (unit : ℕ). unit < 2 ^ 16) c.args.units.now 0 (λ i _. Fits-lt-pow {w = w16} (c.type_inv.units i))) (ap (λ v. v.items) c.into_bytes.ensures.value ∙ c.in_ok-text.ensures)

pub returns-clause-back : goal.returns-clause-back
returns-clause-back c = λ text same. same_back text c.args.units.now c.into_bytes.result.items (ap (λ v. v.items) c.into_bytes.ensures.value ∙ c.in_ok-text.ensures) same
