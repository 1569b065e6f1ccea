use Rattle.wjs_logs.proofs.Verdicts.{right_by, blamed_by, blamed_unread}
use Rattle.wjs_logs.proofs.judging.judge_log.Goals as goal

pub returns-in-Ok-clause-right : goal.returns-in-Ok-clause-right
returns-in-Ok-clause-right g c = right_by c.args.bytes.now c.in-Ok.log c.audit_in.result c.in-Ok.ensures.reads c.audit_in.ensures.right

pub returns-in-Ok-clause-fault : goal.returns-in-Ok-clause-fault
returns-in-Ok-clause-fault g c = blamed_by c.args.bytes.now c.in-Ok.log c.audit_in.result c.in-Ok.ensures.reads c.audit_in.ensures.wrong c.audit_in.ensures.never

pub returns-in-Err-clause-fault : goal.returns-in-Err-clause-fault
returns-in-Err-clause-fault g c = blamed_unread c.args.bytes.now c.in-Err.fault c.in-Err.ensures.breaks c.in-Err.ensures.never
