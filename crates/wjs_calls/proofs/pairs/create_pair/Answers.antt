use Rattle.std.proofs.Common.{sym, ap, subst, IsTrue}
use Rattle.std.specs.Prelude.{is_some}
use Rattle.wjs_base.specs.declared.ids.ObjId.{ObjId}
use Rattle.wjs_arena.specs.Entries.{IsThere, has}
use Rattle.wjs_meaning.specs.Deeds.{Do, Create}
use Rattle.wjs_frames.specs.Doing.{Does}
use Rattle.wjs_heap_steps.proofs.Having.{owner_near}
use Rattle.wjs_calls.proofs.TwoObjects.{with_objects, does_pair, named_still, second_there, later_pair}
use Rattle.wjs_calls.proofs.pairs.create_pair.Goals as goal

pub returns-clause-does : goal.returns-clause-does
returns-clause-does g c = λ one two first second.
    let m = g.S.WorldStore.meaning in
    let old = c.args.config.now in
    let mid = c.create.new.self in
    let one_made = c.in_ok-create.ensures in
    let two_made = c.in_ok-made.ensures in
    subst (λ (o : ObjId). Does m (λ t go. Do (Create old.owner (one t)) (λ s. Do (Create old.owner (two t s)) go)) (λ t. o) old (with_objects old c.create-2.new.self)) (sym two_made.number)
    (does_pair m c.args.first c.args.second old c.create.new.self c.create-2.new.self one_made.created two_made.created one_made.keeps two_made.keeps one two first second c.requires.prototype c.requires.scope
    (named_still old.heap.arena mid one_made.keeps c.args.second.prototype c.requires.second_prototype)
    (subst (IsThere mid) (sym c.requires.second_scope) (subst (λ (o : ObjId). IsTrue (has mid o)) one_made.number (ap is_some one_made.there))))

pub returns-clause-later : goal.returns-clause-later
returns-clause-later g c =
    let m = g.S.WorldStore.meaning in
    let old = c.args.config.now in
    let mid = c.create.new.self in
    let new = c.create-2.new.self in
    let one_made = c.in_ok-create.ensures in
    let two_made = c.in_ok-made.ensures in
    let there = second_there m c.args.first c.args.second old mid new one_made.created two_made.created one_made.keeps two_made.keeps c.in_ok-create.field-0 c.in_ok-made.made c.requires.base.heap.arena one_made.arena one_made.number (ap is_some one_made.there) two_made.number (ap is_some two_made.there) in
    later_pair m c.args.first c.args.second old mid new one_made.created two_made.created one_made.keeps two_made.keeps c.requires.base two_made.arena c.requires.named c.requires.second_named there c.requires.near c.requires.second_near c.requires.world c.requires.second_world c.requires.code c.requires.second_code

pub returns-clause-found : goal.returns-clause-found
returns-clause-found g c =
    let two_made = c.in_ok-made.ensures in
    (ap is_some two_made.there, owner_near c.args.config.now c.requires.base.own c.in_ok-made.made (ap (λ (o : ObjId). o.owner) two_made.number))
