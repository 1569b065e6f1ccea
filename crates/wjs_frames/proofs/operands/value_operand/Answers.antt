use Rattle.std.proofs.Common.{◌≡◌, refl, sym, ap, ◌∙◌}
use Rattle.wjs_base.specs.declared.values.Value.TheVariants as values
use Rattle.wjs_tree.specs.declared.node.Node.TheVariants as nodes
use Rattle.wjs_frames.specs.Parts.{node_among}
use Rattle.wjs_frames.proofs.Places.{node_known}
use Rattle.wjs_frames.proofs.OperandLines.{name_is, value_is}
use Rattle.wjs_frames.proofs.operands.value_operand.Goals as goal

pub returns-in-Some-Name : goal.returns-in-Some-Name
returns-in-Some-Name g c =
    let is : node_among c.args.config.now.units.items c.args.frame.now.tree c.args.node ≡ nodes.Name c.in-Some-Name.id = ap (λ tree. node_among c.args.config.now.units.items tree c.args.node) (sym c.tree.ensures) ∙ c.in-Some-Name.ensures ∙ c.in-Some-Name.field-0-is in
    name_is g.S.WorldStore.meaning c.args.config.now c.args.frame.now c.args.node c.in-Some-Name.id c.place_at.result is c.requires.base c.place_at.ensures

pub returns-in-Some-Number : goal.returns-in-Some-Number
returns-in-Some-Number g c =
    let is : node_among c.args.config.now.units.items c.args.frame.now.tree c.args.node ≡ nodes.Number c.in-Some-Number.number = ap (λ tree. node_among c.args.config.now.units.items tree c.args.node) (sym c.tree.ensures) ∙ c.in-Some-Number.ensures ∙ c.in-Some-Number.field-0-is in
    value_is g.S.WorldStore.meaning c.args.config.now c.args.frame.now c.args.node _ (values.Number c.in-Some-Number.number) is tt (λ t. refl)

pub returns-in-Some-Text : goal.returns-in-Some-Text
returns-in-Some-Text g c =
    let is : node_among c.args.config.now.units.items c.args.frame.now.tree c.args.node ≡ nodes.Text c.in-Some-Text.id = ap (λ tree. node_among c.args.config.now.units.items tree c.args.node) (sym c.tree.ensures) ∙ c.in-Some-Text.ensures ∙ c.in-Some-Text.field-0-is in
    value_is g.S.WorldStore.meaning c.args.config.now c.args.frame.now c.args.node _ (values.Text c.in-Some-Text.id) is (node_known c.args.config.now.heap.texts c.args.config.now.units.items c.args.frame.now.tree c.args.node _ c.requires.base.units is) (λ t. refl)

pub returns-in-Some-This : goal.returns-in-Some-This
returns-in-Some-This g c =
    let is : node_among c.args.config.now.units.items c.args.frame.now.tree c.args.node ≡ nodes.This = ap (λ tree. node_among c.args.config.now.units.items tree c.args.node) (sym c.tree.ensures) ∙ c.in-Some-This.ensures ∙ c.in-Some-This.field-0-is in
    rw c.this.ensures (value_is g.S.WorldStore.meaning c.args.config.now c.args.frame.now c.args.node _ c.args.frame.now.this is c.requires.there.this (λ t. refl))

pub returns-in-Some-Null : goal.returns-in-Some-Null
returns-in-Some-Null g c =
    let is : node_among c.args.config.now.units.items c.args.frame.now.tree c.args.node ≡ nodes.Null = ap (λ tree. node_among c.args.config.now.units.items tree c.args.node) (sym c.tree.ensures) ∙ c.in-Some-Null.ensures ∙ c.in-Some-Null.field-0-is in
    value_is g.S.WorldStore.meaning c.args.config.now c.args.frame.now c.args.node _ values.Null is tt (λ t. refl)

pub returns-in-Some-Bool : goal.returns-in-Some-Bool
returns-in-Some-Bool g c =
    let is : node_among c.args.config.now.units.items c.args.frame.now.tree c.args.node ≡ nodes.Bool c.in-Some-Bool.truth = ap (λ tree. node_among c.args.config.now.units.items tree c.args.node) (sym c.tree.ensures) ∙ c.in-Some-Bool.ensures ∙ c.in-Some-Bool.field-0-is in
    value_is g.S.WorldStore.meaning c.args.config.now c.args.frame.now c.args.node _ (values.Bool c.in-Some-Bool.truth) is tt (λ t. refl)
