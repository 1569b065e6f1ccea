use Rattle.std.proofs.Common.{inl, inr, refl, ◌∙◌}
use Rattle.wjs_tree.specs.declared.node.Node.TheVariants as nodes
use Rattle.wjs_frames.proofs.Parting.{stands_here}
use Rattle.wjs_direct.specs.Rounds.{do_round}
use Rattle.wjs_direct.proofs.Looping.{round_is}
use Rattle.wjs_direct.proofs.do_rounds.do_parts_of.Goals as goal

pub returns-in-Some-DoWhile : goal.returns-in-Some-DoWhile
returns-in-Some-DoWhile g c =
    let m = g.S.WorldStore.meaning in
    let now = c.args.config.now in
    let f = c.args.frame.now in
    let s = c.in-Some-DoWhile in
    let n = s.ensures ∙ s.field-0-is in
    record {
      is = round_is m now f f.node (nodes.DoWhile s.body s.test s.field-0-2) (do_round f.node s.body s.test) (λ t env. refl) n;
      body = stands_here m now f (nodes.DoWhile s.body s.test s.field-0-2) s.body c.requires.there n (inl refl);
      test = stands_here m now f (nodes.DoWhile s.body s.test s.field-0-2) s.test c.requires.there n (inr (inl refl));
    }
