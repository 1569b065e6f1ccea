use Rattle.std.proofs.Common.{◌≡◌, ◌∙◌, codes}
use Rattle.std.specs.Str.Parse.{ParsesUnsigned, ExplainsUnsignedError, HasUnsignedDigitsIfOk}
use Rattle.clap.specs.Words.{found_of, rows_of}
use Rattle.clap.proofs.WalkLemmas.{first_value-rows}
use Rattle.wjs_options.proofs.ReadLemmas.{mode_given, number_given, number_read, some_from, text_read, text_there}
use Rattle.wjs_options.proofs.reading.read.Goals as goal

pub unwrap-mode-requires : goal.unwrap-mode-requires
unwrap-mode-requires c =
    let f = found_of c.args.matches.now in
    text_there c.get_str.result c.requires.mode.0 (c.get_str.ensures ∙ (first_value-rows f (codes "mode") ∙ c.requires.mode.1))

pub unwrap-requires : goal.unwrap-requires
unwrap-requires c = some_from c.get_one.result _ (number_read _ (λ bs r. ParsesUnsigned 64 10 bs r × ExplainsUnsignedError 10 bs r × HasUnsignedDigitsIfOk bs r) (found_of c.args.matches.now) (codes "steps") _ c.requires.steps c.get_one.result c.get_one.ensures.value (λ t x g. g.0))

pub unwrap-requires-2 : goal.unwrap-requires-2
unwrap-requires-2 c = rw (c.named.ensures, text_read c.get_str.result c.unwrap-mode.result c.requires.mode.0 (c.get_str.ensures ∙ (first_value-rows (found_of c.args.matches.now) (codes "mode") ∙ c.requires.mode.1)) c.unwrap-mode.ensures) c.requires.mode.2

pub unwrap-requires-3 : goal.unwrap-requires-3
unwrap-requires-3 c = some_from c.get_one-2.result _ (number_read _ (λ bs r. ParsesUnsigned 64 10 bs r × ExplainsUnsignedError 10 bs r × HasUnsignedDigitsIfOk bs r) (found_of c.args.matches.now) (codes "number") _ c.requires.number c.get_one-2.result c.get_one-2.ensures.value (λ t x g. g.0))

pub unwrap-requires-4 : goal.unwrap-requires-4
unwrap-requires-4 c = some_from c.get_one-3.result _ (number_read _ (λ bs r. ParsesUnsigned 64 10 bs r × ExplainsUnsignedError 10 bs r × HasUnsignedDigitsIfOk bs r) (found_of c.args.matches.now) (codes "turn") _ c.requires.turn c.get_one-3.result c.get_one-3.ensures.value (λ t x g. g.0))

pub returns : goal.returns
returns c =
    let rows = rows_of (found_of c.args.matches.now) in
    let f = found_of c.args.matches.now in
    let steps = number_given rows (codes "steps") _ c.requires.steps c.get_one.result c.unwrap.result (number_read _ (λ bs r. ParsesUnsigned 64 10 bs r × ExplainsUnsignedError 10 bs r × HasUnsignedDigitsIfOk bs r) (found_of c.args.matches.now) (codes "steps") _ c.requires.steps c.get_one.result c.get_one.ensures.value (λ t x g. g.0)) c.unwrap.ensures in
    let number = number_given rows (codes "number") _ c.requires.number c.get_one-2.result c.unwrap-3.result (number_read _ (λ bs r. ParsesUnsigned 64 10 bs r × ExplainsUnsignedError 10 bs r × HasUnsignedDigitsIfOk bs r) (found_of c.args.matches.now) (codes "number") _ c.requires.number c.get_one-2.result c.get_one-2.ensures.value (λ t x g. g.0)) c.unwrap-3.ensures in
    let turn = number_given rows (codes "turn") _ c.requires.turn c.get_one-3.result c.unwrap-4.result (number_read _ (λ bs r. ParsesUnsigned 64 10 bs r × ExplainsUnsignedError 10 bs r × HasUnsignedDigitsIfOk bs r) (found_of c.args.matches.now) (codes "turn") _ c.requires.turn c.get_one-3.result c.get_one-3.ensures.value (λ t x g. g.0)) c.unwrap-4.ensures in
    let text : c.unwrap-mode.result.now ≡ c.requires.mode.0 = text_read c.get_str.result c.unwrap-mode.result c.requires.mode.0 (c.get_str.ensures ∙ (first_value-rows f (codes "mode") ∙ c.requires.mode.1)) c.unwrap-mode.ensures in
    record {
      steps = steps.0;
      steps_from = steps.1;
      steps_to = steps.2;
      mode = mode_given rows c.requires.mode.0 c.unwrap-2.result c.requires.mode.1 (rw (← text, ← c.named.ensures) c.unwrap-2.ensures);
      number = number.0;
      number_from = number.1;
      number_to = number.2;
      turn = turn.0;
      turn_from = turn.1;
      turn_to = turn.2;
    }
