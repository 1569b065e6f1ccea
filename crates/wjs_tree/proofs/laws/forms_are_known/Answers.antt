use Rattle.wjs_tree.proofs.Forms.{form_of}
use Rattle.wjs_tree.proofs.laws.forms_are_known.Goals as goal

pub returns : goal.returns
returns c = λ ns i node t has part. form_of ns i node has t part.0 part.1
