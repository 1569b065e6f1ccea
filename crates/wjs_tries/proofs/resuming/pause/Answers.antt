use Rattle.std.proofs.Common.{refl, sym, ◌∙◌}
use Rattle.wjs_arena.specs.Entries.{joined}
use Rattle.wjs_arena.proofs.TakenOut.{whole}
use Rattle.wjs_tries.proofs.resuming.pause.Goals as goal

pub rest-shared-requires : goal.rest-shared-requires
rest-shared-requires c = c.requires.live

pub take-objects-requires-clause-others : goal.take-objects-requires-clause-others
take-objects-requires-clause-others c = c.requires.others

pub take-objects-requires-clause-worlds : goal.take-objects-requires-clause-worlds
take-objects-requires-clause-worlds c = c.requires.worlds

pub returns-clause-shares : goal.returns-clause-shares
returns-clause-shares c = record {
  texts = refl;
  arena_is = c.take-objects.ensures.left;
  units = refl;
  worlds = c.rest-shared.ensures.shared;
  works = c.rest-shared.ensures.works;
}

pub returns-clause-same : goal.returns-clause-same
returns-clause-same c = λ running global world us.
    let config = c.args.config in
    let store = sym c.rest-shared.ensures.same in
    let arena = (λ i. joined (c.take-objects.ensures.left i) (c.take-objects.ensures.taken i)) ∙ whole config.heap.arena config.owner in
    λ i. record {
      heap = record { texts = config.heap.texts; arena = arena i; store = store i };
      units = config.units;
      frames = config.frames;
      global = sym global i;
      world = sym world i;
      owner = config.owner;
      apart = us;
      pending = config.pending;
      left = config.left;
      state = sym running i;
    }
