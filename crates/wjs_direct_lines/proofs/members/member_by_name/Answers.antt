use Rattle.wjs_by_content.specs.Tables.{value_in}
use Rattle.wjs_meaning.specs.Expressions.{dot_base, give_value_of}
use Rattle.wjs_meaning.specs.Reading.{spelt_in}
use Rattle.wjs_direct_lines.proofs.Membering.{dot_known, line_came}
use Rattle.wjs_direct_lines.proofs.members.member_by_name.Goals as goal

pub returns-in-Some-clause-does : goal.returns-in-Some-clause-does
returns-in-Some-clause-does g c =
    line_came g.S.WorldStore.meaning c.args.config.now c.args.frame.now (λ t env. dot_base (spelt_in t c.args.name) env (give_value_of env) (value_in t c.args.object)) c.in-Some.member c.args.stops.now.waits c.args.stops.now.top c.in-Some.ensures.does

pub dotted-requires-clause-name : goal.dotted-requires-clause-name
dotted-requires-clause-name g c = dot_known g.S.WorldStore.meaning c.args.config.now c.args.frame.now c.args.node c.args.name c.requires.is c.requires.base
