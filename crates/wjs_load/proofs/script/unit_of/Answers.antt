use Rattle.wjs_programs.proofs.Reaching.{all_bodies_stand}
use Rattle.wjs_programs.proofs.Declaring.{bodies_are_meant}
use Rattle.wjs_load.proofs.script.unit_of.Goals as goal

pub declared_bodies-requires-clause-stand : goal.declared_bodies-requires-clause-stand
declared_bodies-requires-clause-stand c =
    let script = c.requires in
    let p = c.in_ok-program.program in
    all_bodies_stand p.nodes script.tree p.body (c.in_ok-program.ensures.numbered script.tree (record { list = script.list; used = script.used; has = script.has; shows = script.shows })) c.in_ok-program.ensures.script

pub invariant_of-result : goal.invariant_of-result
invariant_of-result c =
    let script = c.requires in
    let p = c.in_ok-program.program in
    record {
      body_is_last = c.in_ok-program.ensures.last;
      bodies_are_meant = bodies_are_meant p.nodes script.tree p.body c.arguments_in-arguments.result c.in_ok-bodies.bodies (c.in_ok-program.ensures.numbered script.tree (record { list = script.list; used = script.used; has = script.has; shows = script.shows })) c.in_ok-program.ensures.script
          c.in_ok-bodies.ensures;
    }

pub returns-clause-placed : goal.returns-clause-placed
returns-clause-placed c = record {
  script = c.in_ok-program.ensures.script;
  arguments = c.arguments_in-arguments.result;
  found = c.arguments_in-arguments.ensures;
  places = c.in_ok-places.ensures;
  others = λ k. (c.in_ok-bodies.ensures k).others;
}
