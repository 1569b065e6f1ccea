use Rattle.std.proofs.Common.{None, Some, inl, inr, refl, ◌∙◌}
use Rattle.wjs_tree.specs.declared.node.Node.TheVariants as nodes
use Rattle.wjs_frames.proofs.Parting.{stands_here}
use Rattle.wjs_effects.proofs.StandingFors.{for_stands}
use Rattle.wjs_direct.specs.Rounds.{loop_round}
use Rattle.wjs_direct.proofs.Looping.{round_is}
use Rattle.wjs_direct.proofs.rounds.parts_of.Goals as goal

pub returns-in-Some-While : goal.returns-in-Some-While
returns-in-Some-While g c =
    let m = g.S.WorldStore.meaning in
    let now = c.args.config.now in
    let f = c.args.frame.now in
    let s = c.in-Some-While in
    let n = s.ensures ∙ s.field-0-is in
    record {
      is = round_is m now f f.node (nodes.While s.test s.body) (loop_round f.node (Some s.test) None s.body) (λ t env. refl) n;
      test = stands_here m now f (nodes.While s.test s.body) s.test c.requires.there n (inl refl);
      update = tt;
      body = stands_here m now f (nodes.While s.test s.body) s.body c.requires.there n (inr (inl refl));
    }

pub returns-in-Some-For : goal.returns-in-Some-For
returns-in-Some-For g c =
    let m = g.S.WorldStore.meaning in
    let now = c.args.config.now in
    let f = c.args.frame.now in
    let s = c.in-Some-For in
    let n = s.ensures ∙ s.field-0-is in
    let parts = for_stands m now f c.requires.there _ _ _ _ n in
    record {
      is = round_is m now f f.node _ (loop_round f.node s.test s.update s.body) (λ t env. refl) n;
      test = parts.0;
      update = parts.1.0;
      body = parts.1.1;
    }
