use Rattle.std.proofs.Common.{length, sym, ap, ◌∙◌}
use Rattle.wjs_by_content.specs.Values.{whole}
use Rattle.wjs_meaning.specs.Deeds.{node_here}
use Rattle.wjs_meaning.specs.Functions.{function_object}
use Rattle.wjs_meaning.specs.Trees.{formals_of}
use Rattle.wjs_frames.specs.Parts.{env_in}
use Rattle.wjs_calls.proofs.FunctionObjects.{function_is, function_named, function_near}
use Rattle.wjs_calls.proofs.makes.function_object.Goals as goal

pub returns-clause-is : goal.returns-clause-is
returns-clause-is g c = λ t more.
    function_is t c.object_of-object.result c.builtin-prototype.result c.args.scope c.tree.result c.args.body.0 _ c.in_ok-fixed.fixed c.in_ok-flags.flags c.args.names.length c.args.names.prototype c.in_ok-count.count
    c.object_of-object.ensures c.builtin-prototype.ensures.number c.in_ok-fixed.ensures c.in_ok-flags.ensures (c.requires.length_text t more) (c.requires.prototype_text t more) (c.in_ok-count.ensures t ∙ ap whole (sym (c.formals_count.ensures t)))
    ∙ ap (λ tree. function_object tree c.args.body.0 (length (formals_of (node_here (env_in g.S.WorldStore.meaning c.args.config.now t c.args.frame.now) c.args.body.0))) c.args.scope) c.tree.ensures

pub returns-clause-named : goal.returns-clause-named
returns-clause-named g c =
    let now = c.args.config.now in
    function_named now.heap.texts now.heap.arena c.object_of-object.result c.builtin-prototype.result c.args.scope c.tree.result c.args.body _ c.in_ok-fixed.fixed c.in_ok-flags.flags c.args.names.length c.args.names.prototype c.in_ok-count.count
    c.object_of-object.ensures c.in_ok-fixed.ensures c.in_ok-flags.ensures c.requires.length c.requires.prototype (c.in_ok-count.ensures now.heap.texts)

pub returns-clause-near : goal.returns-clause-near
returns-clause-near g c =
    let now = c.args.config.now in
    function_near now.apart.items now.heap.texts c.object_of-object.result c.builtin-prototype.result c.args.scope c.tree.result c.args.body _ c.in_ok-fixed.fixed c.in_ok-flags.flags c.args.names.length c.in_ok-count.count
    c.object_of-object.ensures c.in_ok-fixed.ensures (c.in_ok-count.ensures now.heap.texts) c.builtin-prototype.ensures.found.1 c.requires.near
