use Rattle.wjs_by_content.specs.Tables.{name_in, value_in}
use Rattle.wjs_meaning.specs.Properties as line
use Rattle.wjs_texts.specs.Known.{text_of}
use Rattle.wjs_heap_steps.proofs.Composing.{does_with, if_ok}
use Rattle.std.proofs.lemmas.Result.{on_ok_weaker}
use Rattle.wjs_heap_steps.proofs.Later.{later_twice}
use Rattle.wjs_heap_steps.proofs.known.get_known.Goals as goal

pub returns-clause-does : goal.returns-clause-does
returns-clause-does g c =
    if_ok _ _ c.get_value.result
    (λ v d. does_with g.S.WorldStore.meaning c.args.frame.now (λ t. text_of c.args.name) (λ t. name_in t c.in_ok-name.name) (λ t x env. line.get_value c.args.object x env) (λ t. value_in t v) c.args.config.now c.known_name.new.config c.get_value.new.config c.in_ok-name.ensures.does c.in_ok-name.ensures.later d)
    c.get_value.ensures.does

pub get_value-requires-clause-there : goal.get_value-requires-clause-there
get_value-requires-clause-there g c = c.in_ok-name.ensures.later.frames c.args.frame.now c.requires.there

pub returns-clause-later : goal.returns-clause-later
returns-clause-later g c = on_ok_weaker c.get_value.result (later_twice g.S.WorldStore.meaning c.args.config.now c.known_name.new.config c.get_value.new.config c.in_ok-name.ensures.later) c.get_value.ensures.later
