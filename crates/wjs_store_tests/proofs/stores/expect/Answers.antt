use Rattle.std.proofs.Common.{ap, ◌∙◌}
use Rattle.wjs_store.specs.Meaning.{Meaning}
use Rattle.wjs_store.specs.Run.{answers_in}
use Rattle.wjs_store_tests.proofs.stores.expect.Goals as goal

pub serial_history-requires : goal.serial_history-requires
serial_history-requires g c = c.as_slice.ensures.value ∙ c.in_ok-got.ensures.shown ∙ ap (λ (m : Meaning). answers_in (m.full m.own) c.args.actions.now) c.in_ok-overlay.ensures
