-- Statements that end at once (ECMA-262, 3rd edition, sections 12.3, 12.7, 12.8 and 12.9).
use Rattle.std.proofs.Common.{◌≡◌, List, Option, ◌∙◌}
use Rattle.std.specs.Prelude.{Ok}
use Rattle.wjs_base.specs.declared.ids.NodeId.{NodeId}
use Rattle.wjs_base.specs.Text.{Table}
use Rattle.wjs_store.specs.Meaning.{Meaning}
use Rattle.wjs_tree.specs.declared.node.Node.{Node}
use Rattle.wjs_meaning.specs.Deeds.{AtStmt, Env, Ret}
use Rattle.wjs_meaning.specs.Programs.{entry}
use Rattle.wjs_meaning.specs.Reading.{node_in}
use Rattle.wjs_meaning.specs.Statements.{stmt_of}
use Rattle.wjs_model.specs.declared.config.Config.{Config}
use Rattle.wjs_model.specs.declared.frame.Activation.{Activation as Frame}
use Rattle.wjs_model.specs.declared.frame.Completion.{Completion as Said}
use Rattle.wjs_model.specs.declared.frame.Phase.{Phase}
use Rattle.wjs_model.specs.Contents.{completion_in}
use Rattle.wjs_frames.specs.Parts.{env_in, node_among}
use Rattle.wjs_effects.proofs.Leaving.{shorten_as}
use Rattle.wjs_effects.proofs.Lines.{stmt_is}
use Rattle.wjs_stopping.specs.Evaluating.{Evaluates}
use Rattle.wjs_stopping.proofs.Evaluating.{line_ends}
use Rattle.wjs_direct_lines.specs.Deeds.{entry_here}

pub end_does : {S : Type 0} (meaning : S → Meaning) (c : Config S) (f : Frame) (node : NodeId) (n : Node) (e : Said) (w : List Frame) (p : Option (Frame × Phase)) → node_among c.units.items f.tree node ≡ n
    → ((t : Table) (env : Env) → stmt_of node.0 (node_in t n) env ≡ Ret (completion_in t e)) → Evaluates meaning (entry_here meaning c f (AtStmt node.0)) completion_in (Ok e) w p c c
end_does meaning c f node n e w p is ends =
    line_ends meaning completion_in (λ t. entry (AtStmt node.0) (env_in meaning c t f)) e w p c (λ t more. shorten_as _ _ (stmt_is meaning c f node n t is ∙ ends t (env_in meaning c t f)))
