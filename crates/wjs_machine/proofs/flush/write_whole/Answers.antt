use Rattle.std.proofs.Common.{◌++◌, ◌∙◌, sym}
use Rattle.std.proofs.lemmas.List.{take-append-drop}
use Rattle.wjs_machine.proofs.Running.{stops_longer}
use Rattle.wjs_machine.proofs.flush.write_whole.Goals as goal

pub returns-in-Err-clause-err : goal.returns-in-Err-clause-err
returns-in-Err-clause-err g c =
    let whole = sym c.deref.ensures.value ∙ sym (take-append-drop _ c.deref.result.now) ∙ (λ i. sym c.split_at.ensures.front i ++ sym c.split_at.ensures.back i) in
    stops_longer _ c.split_at.result.0.now c.args.config.now.pending.items c.split_at.result.1.now whole c.in-Err.ensures.err
