use Rattle.std.proofs.Common.{◌∷◌, ◌++◌, List, ap, ◌∙◌, arith}
use Rattle.wjs_base.specs.declared.values.Name.{Name}
use Rattle.wjs_arena.specs.declared.object.Flags.{Flags}
use Rattle.wjs_by_content.specs.Objects.{hidden_flags}
use Rattle.wjs_arena.specs.Hidden.{hidden_from}
use Rattle.wjs_variables.proofs.Filling.{hidden_next}
use Rattle.wjs_variables.proofs.arguments.long_flags.Goals as goal

pub loop-index-preserved : goal.loop-index-preserved
loop-index-preserved c =
    let i = c.loop-index.index in
    record {
      is = c.in_ok-push_hidden_index.ensures.is
          ∙ ap (λ (l : List (Name × Flags)). l ++ hidden_from i 1) c.loop-index.invariant.is
          ∙ ap (λ (l : List (Name × Flags)). (c.args.callee, hidden_flags) ∷ (c.args.length, hidden_flags) ∷ l) (hidden_next i);
      small = omega (arith, c.in_ok-push_hidden_index.ensures.small);
    }
