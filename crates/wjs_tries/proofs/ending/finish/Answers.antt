use Rattle.std.proofs.Common.{sym, ◌∙◌, subst}
use Rattle.std.proofs.lemmas.Bool.{false≢true}
use Rattle.wjs_base.specs.Text.{Grows}
use Rattle.wjs_base.proofs.TextLaws.{Grows-refl}
use Rattle.wjs_tries.proofs.Exactly.{ends_by, ends_by_ok}
use Rattle.wjs_tries.proofs.Finished.{dropped, agreed, spent_left, end_turned, end_awake, end_kept, end_no_rest, end_no_drop, own_agrees}
use Rattle.wjs_tries.proofs.Hidings.{left_apart, end_apart}
use Rattle.wjs_tries.proofs.Owning.{worlds_are_own}
use Rattle.wjs_tries.proofs.Turned.{live}
use Rattle.wjs_tries.proofs.ending.finish.Goals as goal

pub agrees-requires : goal.agrees-requires
agrees-requires c = live c.args.config c.requires.sound.base

pub left_behind-requires-clause-live : goal.left_behind-requires-clause-live
left_behind-requires-clause-live c = live c.args.config c.requires.sound.base

pub left_behind-requires-clause-others : goal.left_behind-requires-clause-others
left_behind-requires-clause-others c = c.requires.others

pub left_behind-requires-clause-worlds : goal.left_behind-requires-clause-worlds
left_behind-requires-clause-worlds c = worlds_are_own c.args.config.heap.arena c.requires.sound.base.worlds_by

pub returns-then-not-agrees-clause-turned : goal.returns-then-not-agrees-clause-turned
returns-then-not-agrees-clause-turned c = λ trees tree budget drawn over. dropped c.args.config c.requires.sound c.left_behind.result
    c.left_behind.ensures.gives_up trees tree budget drawn over.owner over.shared

pub returns-then-not-agrees-clause-awake : goal.returns-then-not-agrees-clause-awake
returns-then-not-agrees-clause-awake c = λ r. r

pub returns-then-not-agrees-clause-certain : goal.returns-then-not-agrees-clause-certain
returns-then-not-agrees-clause-certain c = λ own same. false≢true
    (sym c.if-not-agrees.true ∙ c.agrees.ensures.agrees.answers ∙ own_agrees c.args.config c.requires.sound own)

pub returns-in-Done-clause-turned : goal.returns-in-Done-clause-turned
returns-in-Done-clause-turned c = end_turned c.args.config c.commit.result (agreed c.args.config c.if-not-agrees.false c.agrees.ensures.agrees) c.commit.ensures

pub returns-in-Done-clause-awake : goal.returns-in-Done-clause-awake
returns-in-Done-clause-awake c = end_awake c.args.config c.commit.result c.commit.ensures

pub returns-in-Done-clause-certain : goal.returns-in-Done-clause-certain
returns-in-Done-clause-certain c = end_kept c.args.config c.commit.result c.commit.ensures

pub returns-in-Threw-clause-turned : goal.returns-in-Threw-clause-turned
returns-in-Threw-clause-turned c = end_turned c.args.config c.tell.result (agreed c.args.config c.if-not-agrees.false c.agrees.ensures.agrees) c.tell.ensures

pub returns-in-Threw-clause-awake : goal.returns-in-Threw-clause-awake
returns-in-Threw-clause-awake c = end_awake c.args.config c.tell.result c.tell.ensures

pub returns-in-Threw-clause-certain : goal.returns-in-Threw-clause-certain
returns-in-Threw-clause-certain c = end_kept c.args.config c.tell.result c.tell.ensures

pub returns-in_default-clause-turned : goal.returns-in_default-clause-turned
returns-in_default-clause-turned c = λ trees tree budget drawn over. c.spend.ensures.turned trees tree budget drawn over
    (agreed c.args.config c.if-not-agrees.false c.agrees.ensures.agrees)

pub returns-in_default-clause-awake : goal.returns-in_default-clause-awake
returns-in_default-clause-awake c = end_no_rest c.spend.result.1 c.spend.ensures.ends

pub returns-in_default-clause-certain : goal.returns-in_default-clause-certain
returns-in_default-clause-certain c = λ own. end_no_drop c.spend.result.1 c.spend.ensures.ends

-- what is neither done nor thrown, and goes on no more, has spent its budget
pub spend-requires-clause-spent : goal.spend-requires-clause-spent
spend-requires-clause-spent c = spent_left c.args.config.state c.requires.over c.in_default.not-Done (λ v. c.in_default.not-Threw v)

pub returns-then-not-agrees-clause-checked : goal.returns-then-not-agrees-clause-checked
returns-then-not-agrees-clause-checked c =
    let config = c.args.config in
    let s = c.left_behind.ensures.gives_up in
    record {
      texts = subst (λ t. Grows config.heap.texts t) (sym s.texts) (Grows-refl config.heap.texts);
      arena_is = s.arena_is;
      by_check =
          sym c.agrees.ensures.agrees.answers ∙ c.if-not-agrees.true;
    }

pub returns-in-Done-clause-checked : goal.returns-in-Done-clause-checked
returns-in-Done-clause-checked c = ends_by_ok c.args.config c.commit.result
    (agreed c.args.config c.if-not-agrees.false c.agrees.ensures.agrees) c.commit.ensures

pub returns-in-Threw-clause-checked : goal.returns-in-Threw-clause-checked
returns-in-Threw-clause-checked c = ends_by_ok c.args.config c.tell.result (agreed c.args.config c.if-not-agrees.false c.agrees.ensures.agrees) c.tell.ensures

pub returns-in_default-clause-checked : goal.returns-in_default-clause-checked
returns-in_default-clause-checked c = ends_by c.args.config c.spend.result.0 c.spend.result.1
    (agreed c.args.config c.if-not-agrees.false c.agrees.ensures.agrees) c.spend.ensures

pub returns-then-not-agrees-clause-apart : goal.returns-then-not-agrees-clause-apart
returns-then-not-agrees-clause-apart c = left_apart c.args.config c.left_behind.result c.requires.sound.base c.left_behind.ensures.gives_up
    c.left_behind.ensures.apart

pub returns-in-Done-clause-apart : goal.returns-in-Done-clause-apart
returns-in-Done-clause-apart c = end_apart c.args.config c.commit.result (agreed c.args.config c.if-not-agrees.false c.agrees.ensures.agrees) c.commit.ensures

pub returns-in-Threw-clause-apart : goal.returns-in-Threw-clause-apart
returns-in-Threw-clause-apart c = end_apart c.args.config c.tell.result (agreed c.args.config c.if-not-agrees.false c.agrees.ensures.agrees) c.tell.ensures

pub returns-in_default-clause-apart : goal.returns-in_default-clause-apart
returns-in_default-clause-apart c = c.spend.ensures.apart (agreed c.args.config c.if-not-agrees.false c.agrees.ensures.agrees)
