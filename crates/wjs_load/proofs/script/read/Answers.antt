use Rattle.wjs_load.proofs.script.read.Goals as goal

pub returns-in-Ok : goal.returns-in-Ok
returns-in-Ok c =
    let found = c.in_ok-program.ensures.answer in
    record { program = found.tree; reading = found.reading; only = found.only; numbered = c.in-Ok.ensures.numbered found.tree found.is; placed = c.in-Ok.ensures.placed }
