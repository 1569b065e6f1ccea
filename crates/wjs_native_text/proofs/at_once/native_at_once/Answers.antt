use Rattle.wjs_native_text.proofs.Telling.{if_told, told_native}
use Rattle.wjs_native_text.proofs.at_once.native_at_once.Goals as goal

pub returns-clause-does : goal.returns-clause-does
returns-clause-does g c =
    if_told _ _ c.line_at_once.result (λ v gives. told_native g.S.WorldStore.meaning c.args.native c.args.this c.args.args.now v c.args.config.now c.line_at_once.new.config (c.stay.ensures c.if-not-stay.false) gives)
    c.line_at_once.ensures.does
