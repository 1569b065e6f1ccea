-- Which answers are the full-copy machine's, from the fresh state on.
use Rattle.std.specs.Prelude.{◌≡◌, ℕ, List, ◌∷◌, ◌++◌}
use Rattle.wjs_store.specs.Run.{answer_in, after_all, answers_in}
use Rattle.wjs_store.specs.Fixed.{fresh}
use Rattle.wjs_audit.specs.declared.deed.Entry.{Entry}
use Rattle.wjs_audit.specs.Deeds.{action_of, answer_of_deed, actions_of, answers_of}

-- all of them
abbrev pub AreRight : List Entry → Type 0
AreRight entries = answers_in fresh (actions_of entries) ≡ answers_of entries

-- those in front of an entry on this line, and not its own
pub record WrongAt (entries : List Entry) (n : ℕ) : Type 0 where
  pub front : List Entry
  pub entry : Entry
  pub back : List Entry
  pub whole : entries ≡ front ++ entry ∷ back
  pub right : AreRight front
  pub line : n ≡ entry.line
  pub wrong : ¬ (answer_in (after_all fresh (actions_of front)) (action_of entry.deed) ≡ answer_of_deed entry.deed)
