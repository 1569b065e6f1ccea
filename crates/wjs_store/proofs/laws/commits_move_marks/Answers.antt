use Rattle.wjs_store.proofs.MarksLaw.{marks_moved}
use Rattle.wjs_store.proofs.laws.commits_move_marks.Goals as goal

pub returns : goal.returns
returns c = λ F reached w p h up. marks_moved F w h p up reached
