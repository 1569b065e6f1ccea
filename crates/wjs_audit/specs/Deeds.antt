-- What deeds stand for: an action with its answer.
use Rattle.std.specs.Prelude.{List, map as each, ⊤, All}
use Rattle.wjs_base.specs.Order.{name_cmp}
use Rattle.wjs_store.specs.declared.action.Action.{Action}
use Rattle.wjs_store.specs.declared.action.Action.TheVariants as action
use Rattle.wjs_store.specs.declared.action.Answer.{Answer}
use Rattle.wjs_store.specs.declared.action.Answer.TheVariants as answer
use Rattle.wjs_store.specs.State.{found, wrote, listed, sprouted, committed}
use Rattle.wjs_store.specs.Shown.{content_of, slots_of, verdict_of}
use Rattle.wjs_store.specs.Meaning.{PlainAct, PlainReply}
use Rattle.wjs_store.specs.Run.{act_of}
use Rattle.wjs_store.specs.Ascends.{Ascends}
use Rattle.wjs_audit.specs.declared.deed.Deed.{Deed}
use Rattle.wjs_audit.specs.declared.deed.Deed.TheVariants.{Read, Write, List as ListOf, Sprout, Commit}
use Rattle.wjs_audit.specs.declared.deed.Entry.{Entry}

-- what was done
abbrev pub action_of : Deed → Action
action_of (Read w s c) = action.Read w s
action_of (Write w s c) = action.Write w s c
action_of (ListOf w o names) = action.List w o
action_of (Sprout w owner strict child) = action.Sprout w owner strict
action_of (Commit w v) = action.Commit w

-- what was answered
abbrev pub answer_of_deed : Deed → Answer
answer_of_deed (Read w s c) = answer.Found c
answer_of_deed (Write w s c) = answer.Wrote
answer_of_deed (ListOf w o names) = answer.Listed names
answer_of_deed (Sprout w owner strict child) = answer.Sprouted child
answer_of_deed (Commit w v) = answer.Committed v

-- the answer, as the machine has it
abbrev pub reply_of_deed : Deed → PlainReply
reply_of_deed (Read w s c) = found (content_of c)
reply_of_deed (Write w s c) = wrote
reply_of_deed (ListOf w o names) = listed (slots_of o names)
reply_of_deed (Sprout w owner strict child) = sprouted child
reply_of_deed (Commit w v) = committed (verdict_of v)

-- the names of a listing ascend, in the order of slots
abbrev pub InOrder : Deed → Type 0
InOrder (Read w s c) = ⊤
InOrder (Write w s c) = ⊤
InOrder (ListOf w o names) = Ascends name_cmp names
InOrder (Sprout w owner strict child) = ⊤
InOrder (Commit w v) = ⊤

abbrev pub AreInOrder : List Entry → Type 0
AreInOrder entries = All (λ (e : Entry). InOrder e.deed) entries

abbrev pub deeds_of : List Entry → List Deed
deeds_of = each (λ (e : Entry). e.deed)

abbrev pub actions_of : List Entry → List Action
actions_of = each (λ (e : Entry). action_of e.deed)

abbrev pub answers_of : List Entry → List Answer
answers_of = each (λ (e : Entry). answer_of_deed e.deed)

-- the machine's action, with its answer
abbrev pub told_of_deed : Deed → PlainAct × PlainReply
told_of_deed d = (act_of (action_of d), reply_of_deed d)

abbrev pub told_of : List Entry → List (PlainAct × PlainReply)
told_of = each (λ (e : Entry). told_of_deed e.deed)
