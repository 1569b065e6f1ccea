use Rattle.std.proofs.Common.{◌≡◌, ℕ, List, length, map, sym, ap, subst, ◌∙◌, arith}
use Rattle.std.proofs.lemmas.Option.{slice_get_within}
use Rattle.wjs_tree.specs.Trees.{Elements}
use Rattle.wjs_tree.specs.Shows.{IsBody}
use Rattle.wjs_tree.specs.Used.{IsOnce}
use Rattle.wjs_order.specs.Order.{falling, IsNumbered}
use Rattle.wjs_order.specs.Moves.{Moves, AreBehind}
use Rattle.wjs_order.specs.Renumbered.{number_in, renumbered}
use Rattle.wjs_order.proofs.Taking.{script_behind}
use Rattle.wjs_order.proofs.Numbering.{numbered, numbered_script, once_of, body_low, body_of}
use Rattle.wjs_order.proofs.program.ordered.Goals as goal

pub numbers-requires-clause-once : goal.numbers-requires-clause-once
numbers-requires-clause-once c =
    let same = c.in_ok-order.ensures.same c.requires.tree (body_of c.args.program.nodes c.args.program.body c.requires) in
    subst IsOnce (sym (c.as_slice.ensures.value ∙ same)) c.requires.once

pub moved-requires-clause-behind : goal.moved-requires-clause-behind
moved-requires-clause-behind c =
    let same = c.in_ok-order.ensures.same c.requires.tree (body_of c.args.program.nodes c.args.program.body c.requires) in
    subst (AreBehind c.args.program.nodes) (sym (c.as_slice-2.ensures.value ∙ same)) (script_behind c.args.program.nodes c.args.program.body c.requires)

pub node-requires : goal.node-requires
node-requires c = slice_get_within c.args.program.nodes c.args.program.body.0 _ c.requires.has

pub add-requires : goal.add-requires
add-requires c =
    let same = c.in_ok-order.ensures.same c.requires.tree (body_of c.args.program.nodes c.args.program.body c.requires) in
    let numbers = c.in_ok-numbers.numbers.items in
    let falls : map (number_in numbers) c.requires.used ≡ falling (length c.requires.used) = subst (λ (z : List ℕ). map (number_in numbers) z ≡ falling (length z)) (c.as_slice.ensures.value ∙ same) c.in_ok-numbers.ensures.falling in
    let long : length c.in_ok-nodes.nodes ≡ length c.requires.used = c.in_ok-nodes.ensures.length ∙ ap length (c.as_slice-2.ensures.value ∙ same) in
    body_low c.args.program.nodes c.in_ok-nodes.nodes (number_in numbers) c.args.program.body c.node.result.now c.in_ok-last.last c.requires c.node.ensures.there
    (subst (λ (z : List ℕ). c.in_ok-last.last ≡ renumbered (number_in z) c.node.result.now) c.as_slice-4.ensures.value c.in_ok-last.ensures) falls long

pub returns : goal.returns
returns c =
    let old = c.args.program.nodes in
    let body = c.args.program.body in
    let numbers = c.in_ok-numbers.numbers.items in
    let g = number_in numbers in
    let last = c.in_ok-body.body in
    let made = subst (λ (z : List ℕ). c.in_ok-last.last ≡ renumbered (number_in z) c.node.result.now) c.as_slice-4.ensures.value c.in_ok-last.ensures in
    let moves = subst (λ (z : List ℕ). Moves old c.in_ok-nodes.nodes (number_in z) c.as_slice-2.result.now) c.as_slice-3.ensures.value c.in_ok-nodes.ensures.moves in
    let each : (tree : Elements) (is : IsBody old tree body) → IsNumbered c.add.new.self tree last = λ tree is.
    (let same = c.in_ok-order.ensures.same tree is in
    numbered old c.in_ok-nodes.nodes c.add.new.self g body last c.node.result.now c.in_ok-last.last tree is c.node.ensures.there made (subst (Moves old c.in_ok-nodes.nodes g) (c.as_slice-2.ensures.value ∙ same) moves)
    (subst (λ (z : List ℕ). map g z ≡ falling (length z)) (c.as_slice.ensures.value ∙ same) c.in_ok-numbers.ensures.falling)
    (c.in_ok-nodes.ensures.length ∙ ap length (c.as_slice-2.ensures.value ∙ same)) c.in_ok-body.ensures.added c.in_ok-body.ensures.ok) in
    let own = each c.requires.tree (body_of old body c.requires) in
    let at = c.in_ok-body.ensures.ok in
    let longer = c.in_ok-body.ensures.longer in
    record {
      numbered = each;
      script = numbered_script old c.add.new.self body last c.requires own;
      once = once_of c.add.new.self c.requires.tree last own;
      last = omega arith;
    }
