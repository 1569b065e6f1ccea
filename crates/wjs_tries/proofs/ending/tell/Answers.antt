use Rattle.std.proofs.Common.{List, ℕ, sym, subst}
use Rattle.wjs_arena.specs.Entries.{Objects, IsArena, others_of}
use Rattle.wjs_model.specs.Soundness.{HasThrown}
use Rattle.wjs_tries.specs.declared.outcome.Outcome.TheVariants as told
use Rattle.wjs_tries.specs.declared.turns.Came.TheVariants as came
use Rattle.wjs_tries.specs.Meant.{session_meaning}
use Rattle.wjs_tries.specs.Turning.{IsAtEnd}
use Rattle.wjs_tries.proofs.Finished.{threw}
use Rattle.wjs_tries.proofs.Owning.{worlds_are_own}
use Rattle.wjs_tries.proofs.Turned.{live}
use Rattle.wjs_tries.proofs.ending.tell.Goals as goal

pub show_thrown-requires-clause-base : goal.show_thrown-requires-clause-base
show_thrown-requires-clause-base c = c.requires.sound.base

pub show_thrown-requires-clause-value : goal.show_thrown-requires-clause-value
show_thrown-requires-clause-value c = subst (HasThrown c.args.config) c.requires.threw c.requires.sound.thrown

pub left_behind-requires-clause-live : goal.left_behind-requires-clause-live
left_behind-requires-clause-live c = live c.show_thrown.new.config c.in_ok-text.ensures.leaves.base

pub left_behind-requires-clause-others : goal.left_behind-requires-clause-others
left_behind-requires-clause-others c =
    let leaves = c.in_ok-text.ensures.leaves in
    subst (λ (m : Objects). IsArena m) (sym (λ i. others_of (leaves.objects i) (leaves.stays.owner i))) c.requires.others

pub left_behind-requires-clause-worlds : goal.left_behind-requires-clause-worlds
left_behind-requires-clause-worlds c = worlds_are_own c.show_thrown.new.config.heap.arena c.in_ok-text.ensures.leaves.base.worlds_by

pub returns : goal.returns
returns c =
    let config = c.args.config in
    subst (λ (b : List ℕ). IsAtEnd session_meaning config c.left_behind.result (came.Ends (told.Threw b) c.new-2.result)) (sym c.new.ensures)
    (threw config c.requires.sound c.args.value c.in_ok-text.text.items c.show_thrown.new.config c.left_behind.result c.new-2.result c.requires.threw
    c.in_ok-text.ensures.shows c.in_ok-text.ensures.leaves c.left_behind.ensures.gives_up c.left_behind.ensures.apart c.new-2.ensures.items)
