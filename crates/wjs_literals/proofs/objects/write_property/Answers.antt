use Rattle.std.proofs.Common.{Some}
use Rattle.wjs_by_content.specs.Names.{slot}
use Rattle.wjs_by_content.specs.Tables.{value_in}
use Rattle.wjs_meaning.specs.Deeds.{Do, Write}
use Rattle.wjs_heap_steps.proofs.Later.{later_twice}
use Rattle.wjs_literals.proofs.objects.write_property.Goals as goal

pub write-requires-clause-there : goal.write-requires-clause-there
write-requires-clause-there g c = c.in_ok-name.ensures.later.frames c.args.frame.now c.requires.there

pub returns-clause-does : goal.returns-clause-does
returns-clause-does g c = record {
  by = λ go later r h.
      let v = value_in later.heap.texts c.args.value in
      c.in_ok-name.ensures.does.by (λ n. Do (Write c.args.frame.now.world (slot c.args.object n) (Some v)) go) later r (c.in_ok-write.ensures.does.by go later r h);
}

pub returns-clause-later : goal.returns-clause-later
returns-clause-later g c =
    later_twice g.S.WorldStore.meaning c.args.config.now c.name_of_key.new.config c.write.new.config c.in_ok-name.ensures.later c.in_ok-write.ensures.later
