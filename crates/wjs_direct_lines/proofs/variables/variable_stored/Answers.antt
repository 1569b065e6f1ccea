use Rattle.wjs_effects.proofs.Declared.{variable_named}
use Rattle.wjs_frames.specs.Parts.{node_among}
use Rattle.std.proofs.Common.{ap, sym}
use Rattle.std.specs.Option.{option_map}
use Rattle.wjs_tree.specs.declared.node.Declarator.{Declarator}
use Rattle.wjs_direct_lines.proofs.Declaring.{stored_next}
use Rattle.wjs_direct_lines.proofs.variables.variable_stored.Goals as goal

pub returns-clause-does : goal.returns-clause-does
returns-clause-does g c =
    let old = c.args.config.now in
    let f = c.args.frame.now in
    let q = c.reference_at-reference in
    let name = sym (ap (option_map (λ (x : Declarator). x.name)) c.requires.is) in
    let named = variable_named (node_among old.units.items f.tree c.args.node) c.args.at c.args.variable.name name in
    stored_next g.S.WorldStore.meaning f c.args.node old c.args.at c.args.variable c.requires.is c.store_and_end.new.config c.place_at-place.result q.result c.args.value c.in_ok-end.end (c.place_at-place.ensures named) q.ensures.peeks c.in_ok-end.ensures.does
