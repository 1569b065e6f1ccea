use Rattle.wjs_audit.proofs.Contents.{content_decides}
use Rattle.wjs_audit.proofs.same.same_content.Goals as goal

pub returns-in-Present-b-2 : goal.returns-in-Present-b-2
returns-in-Present-b-2 c = content_decides c.args.a c.args.b c.in-Present.a c.in-Present-b-2.b c.same_value.result c.in-Present.is c.in-Present-b-2.is c.same_value.ensures
