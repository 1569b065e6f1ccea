-- What a session tells: its answered actions, the oldest first.
use Rattle.std.specs.Prelude.{List, [], ◌∷◌, ◌++◌}
use Rattle.wjs_store.specs.Meaning.{PlainAct, PlainReply}
use Rattle.wjs_store.specs.State.{read, write, list, sprout, commit, found, wrote, listed, sprouted, committed}
use Rattle.wjs_store.specs.Shown.{content_of, slots_of, verdict_of}
use Rattle.wjs_session.specs.declared.told.Entry.{Entry}
use Rattle.wjs_session.specs.declared.told.Entry.TheVariants.{Read, Write, List as Listed, Sprout, Commit}
use Rattle.wjs_session.specs.declared.told.Chain.{Chain}
use Rattle.wjs_session.specs.declared.told.Chain.TheVariants.{Start, Next'}

abbrev pub entry_of : Entry → PlainAct × PlainReply
entry_of (Read w s c) = (read w s, found (content_of c))
entry_of (Write w s c) = (write w s (content_of c), wrote)
entry_of (Listed w o names) = (list w o, listed (slots_of o names.value))
entry_of (Sprout w owner strict child) = (sprout w owner strict, sprouted child)
entry_of (Commit w verdict) = (commit w, committed (verdict_of verdict))

abbrev pub told_of : Chain → List (PlainAct × PlainReply)
told_of Start = []
told_of (Next' entry marker before) = told_of before ++ entry_of entry ∷ []
