use Rattle.std.proofs.Common.{◌≡◌, ℕ, ◌∙◌, Ok, Err, ap}
use Rattle.std.proofs.lemmas.Iterator.{items_from_collect}
use Rattle.wjs_texts.specs.declared.unicode.Utf8Fault.TheVariants.{NotUtf8}
use Rattle.wjs_texts.proofs.Transcoding.{yields_units, same_text, stops, one_stop}
use Rattle.wjs_texts.proofs.unicode.units_of_utf8.Goals as goal

pub returns-in-Err-clause-not_utf8 : goal.returns-in-Err-clause-not_utf8
returns-in-Err-clause-not_utf8 c byte =
    let here = stops c.args.bytes.now c.valid_up_to.result _ c.valid_up_to.ensures c.in-Err.ensures.cases.0 c.in-Err.ensures.cases.1 in (
      λ e. let at : byte ≡ c.valid_up_to.result = cc in stops c.args.bytes.now byte c.valid_up_to.result at here.none here.longest,
      λ s. ap (λ (n : ℕ). Err (NotUtf8 n)) (one_stop c.args.bytes.now c.valid_up_to.result byte here.longest s.longest),
    )

pub returns-clause-ok : goal.returns-clause-ok
returns-clause-ok c =
    same_text c.args.bytes.now _ c.in-Ok.ensures.cases.1
    (items_from_collect {E = ℕ} (Ok c.in-Ok-collect.units) c.in-Ok-collect.ensures.ran
    (yields_units c.encode_utf16.result c.args.bytes.now c.in-Ok.ensures.cases.1 (c.encode_utf16.ensures.text ∙ c.in-Ok.ensures.cases.0) c.encode_utf16.ensures.pending))
