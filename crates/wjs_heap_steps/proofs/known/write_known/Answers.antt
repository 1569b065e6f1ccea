use Rattle.std.proofs.Common.{Some}
use Rattle.wjs_by_content.specs.Names.{slot}
use Rattle.wjs_by_content.specs.Tables.{name_in, value_in}
use Rattle.wjs_heap.specs.Means.{nothing}
use Rattle.wjs_meaning.specs.Deeds.{Do, Write}
use Rattle.wjs_texts.specs.Known.{text_of}
use Rattle.wjs_heap_steps.proofs.Composing.{does_with, if_ok}
use Rattle.std.proofs.lemmas.Result.{on_ok_weaker}
use Rattle.wjs_heap_steps.proofs.Later.{later_twice}
use Rattle.wjs_heap_steps.proofs.known.write_known.Goals as goal

pub returns-clause-does : goal.returns-clause-does
returns-clause-does g c =
    if_ok _ _ c.write.result
    (λ v d. does_with g.S.WorldStore.meaning c.args.frame.now (λ t. text_of c.args.name) (λ t. name_in t c.in_ok-name.name) (λ t x env go. Do (Write c.args.frame.now.world (slot c.args.object x) (Some (value_in t c.args.value))) go) (λ t. nothing) c.args.config.now c.known_name.new.config c.write.new.config c.in_ok-name.ensures.does c.in_ok-name.ensures.later d)
    c.write.ensures.does

pub write-requires-clause-there : goal.write-requires-clause-there
write-requires-clause-there g c = c.in_ok-name.ensures.later.frames c.args.frame.now c.requires.there

pub returns-clause-later : goal.returns-clause-later
returns-clause-later g c = on_ok_weaker c.write.result (later_twice g.S.WorldStore.meaning c.args.config.now c.known_name.new.config c.write.new.config c.in_ok-name.ensures.later) c.write.ensures.later
