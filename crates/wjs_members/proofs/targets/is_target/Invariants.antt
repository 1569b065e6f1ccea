use Rattle.std.proofs.Common.{◌≡◌, ℕ, suc}
use Rattle.wjs_base.specs.Text.{Table}
use Rattle.wjs_meaning.specs.Deeds.{tree_here}
use Rattle.wjs_meaning.specs.Trees.{is_target, is_target_to}
use Rattle.wjs_frames.specs.Parts.{env_in}
use Rattle.wjs_members.proofs.targets.is_target.Given as goal

abbrev pub invariant-inner : goal.invariant-inner
invariant-inner g l = (t : Table) → is_target (tree_here (env_in g.S.WorldStore.meaning l.config t l.frame)) l.fn.node.0 ≡ is_target_to (suc l.parens) (tree_here (env_in g.S.WorldStore.meaning l.config t l.frame)) l.at.0

abbrev pub decreases-inner : goal.decreases-inner
decreases-inner g l = l.parens
