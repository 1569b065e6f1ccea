use Rattle.std.proofs.Common.{List, sym, ap, ◌∙◌, subst}
use Rattle.std.proofs.lemmas.Result.{IfOk-weaker}
use Rattle.wjs_alone.specs.Serial.{lines_from}
use Rattle.wjs_activity.specs.declared.ends.Ended.{Ended}
use Rattle.wjs_activity.specs.SoFar.{TellsEnds}
use Rattle.wjs_activity.proofs.whole.lines_of.Goals as goal

pub returns : goal.returns
returns c =
    IfOk-weaker c.lines.result _ _
    (λ bytes h es tells. h es (subst (λ (l : List Ended). TellsEnds l es) (sym c.as_slice.ensures) tells)
    ∙ ap (λ n. lines_from n 1 es) (c.len.ensures ∙ c.args.play.now.activities.ok.0))
    c.lines.ensures
