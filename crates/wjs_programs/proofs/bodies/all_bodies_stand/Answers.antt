use Rattle.wjs_programs.proofs.Reaching.{all_bodies_stand as law}
use Rattle.wjs_programs.proofs.bodies.all_bodies_stand.Goals as goal

pub returns : goal.returns
returns c = law
