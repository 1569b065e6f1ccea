use Rattle.std.proofs.Common.{◌∙◌}
use Rattle.wjs_store.specs.Shown.{content_of}
use Rattle.wjs_session.specs.Stores.{worlds_in}
use Rattle.wjs_session_tests.proofs.Keeping.{written_beside}
use Rattle.wjs_session_tests.proofs.acting.write_beside.Goals as goal

pub resume-requires-clause-live : goal.resume-requires-clause-live
resume-requires-clause-live c = c.in_ok-write.ensures.0.spent ∙ c.rest-shared.ensures.works

pub resume-requires-clause-stands : goal.resume-requires-clause-stands
resume-requires-clause-stands c =
    let old = c.rest-shared.result.0 in
    let new = c.write.new.self in
    let resting = c.rest-shared.result.1 in
    written_beside c.resting_stands_still.ensures c.writes_leave_others.ensures (worlds_in old) (worlds_in new) old.spent new.spent c.first-first.result c.args.slot (content_of c.args.content) resting c.rest-shared.ensures.stands c.first-first.ensures c.in_ok-write.ensures.0
