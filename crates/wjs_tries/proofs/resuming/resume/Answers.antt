use Rattle.std.proofs.Common.{ap, ◌∙◌}
use Rattle.wjs_arena.specs.Entries.{Objects, others_of}
use Rattle.wjs_arena.proofs.TakenOut.{others_joined}
use Rattle.wjs_tries.specs.Meant.{resting}
use Rattle.wjs_tries.proofs.resuming.resume.Goals as goal

pub set_apart-requires : goal.set_apart-requires
set_apart-requires c = c.requires.place

pub put-requires-clause-apart : goal.put-requires-clause-apart
put-requires-clause-apart c = λ a b one two same. c.requires.owns.absent a one (same ∙ c.requires.owns.owned b two)

pub put-requires-clause-arena : goal.put-requires-clause-arena
put-requires-clause-arena c = c.requires.whole

pub returns-clause-goes_on : goal.returns-clause-goes_on
returns-clause-goes_on c =
    let common = c.args.common in
    let rest = c.args.rest in
    record {
      same = λ i. record (resting c.set_apart.new.list common rest) {
        heap = record {
          texts = common.texts;
          arena = c.in_ok-put.ensures.ok i;
          store = c.resume.ensures.same.is i;
        };
      };
      number = c.resume.ensures.world;
      shared = c.resume.ensures.shared;
      others = ap (λ (m : Objects). others_of m rest.owner) c.in_ok-put.ensures.ok
          ∙ others_joined common.arena rest.objects rest.owner c.requires.owns.absent c.requires.owns.owned;
    }

pub returns-clause-list : goal.returns-clause-list
returns-clause-list c = c.set_apart.ensures
