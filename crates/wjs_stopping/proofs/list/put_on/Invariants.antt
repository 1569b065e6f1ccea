use Rattle.std.specs.Prelude.{◌≡◌, ◌++◌}
use Rattle.wjs_stopping.proofs.list.put_on.Given as goal

-- what is put on and what is left are all
abbrev pub invariant-loop-turn : goal.invariant-loop-turn
invariant-loop-turn g l =
    record {
      same : l.config ≡ record l.fn.config { frames = l.config.frames };
      all : l.config.frames ++ l.waits ≡ l.fn.config.frames ++ l.fn.waits;
    }
