use Rattle.std.proofs.Common.{◌≡◌, ◌+◌, [], Some, length, sym, ap, ◌∙◌, subst, arith, IsTrue}
use Rattle.std.specs.Prelude.{OnOk}
use Rattle.wjs_base.specs.declared.ids.ObjId.{ObjId}
use Rattle.wjs_base.specs.Text.{Table}
use Rattle.wjs_arena.specs.declared.object.Object.{Object}
use Rattle.wjs_arena.specs.Entries.{IsThere, has, next_number as number_of_next, scope_of}
use Rattle.wjs_by_content.specs.Tables.{text_in}
use Rattle.wjs_by_content.proofs.ArenaMaps.{number_same}
use Rattle.wjs_heap.proofs.Growing.{named_stays_there}
use Rattle.wjs_meaning.specs.declared.builtin.Builtin.TheVariants as builtins
use Rattle.wjs_meaning.specs.Deeds.{Env, Do, Create, node_here}
use Rattle.wjs_meaning.specs.Functions.{function_object, name_scope}
use Rattle.wjs_meaning.specs.Trees.{formals_of}
use Rattle.wjs_frames.specs.Following.{Follows}
use Rattle.wjs_frames.specs.Parts.{env_in}
use Rattle.wjs_heap_steps.proofs.Composing.{if_ok, env_later}
use Rattle.wjs_heap_steps.proofs.Seeing.{plainly}
use Rattle.wjs_heap_steps.proofs.Having.{owner_near}
use Rattle.wjs_calls.specs.Making.{named_made, scope_of_name}
use Rattle.wjs_calls.proofs.NamedFunctions.{number_behind, scope_is, scope_named, scope_near, behind}
use Rattle.wjs_calls.proofs.Rows.{any_later}
use Rattle.wjs_calls.proofs.StandingFunctions.{script_stands, named_later, stands_in_name}
use Rattle.wjs_calls.proofs.named.create_named.Goals as goal

pub create_pair-requires-clause-named : goal.create_pair-requires-clause-named
create_pair-requires-clause-named g c = λ new more there.
    let mid = c.function_names.new.config in
    let s = c.next_number-scope.result in
    let f : ObjId = record { owner = s.owner; serial = c.in-Some.serial } in
    let first : s ≡ number_of_next mid.heap.arena mid.owner = sym (c.next_number-scope.ensures.is [] _ (plainly mid.heap.arena [])) ∙ number_same [] mid.heap.arena mid.owner in
    let next : c.in-Some.serial ≡ s.serial + 1 = grind (arith, c.in-Some.ensures) in
    let here : IsTrue (has new f) = subst (λ (o : ObjId). IsTrue (has new o)) (sym (behind s c.in-Some.serial next ∙ ap number_behind first)) there in
    scope_named mid.heap.texts new c.in_ok-named.named c.args.frame.now.scope f c.name_of-name.result (c.in_ok-named.ensures ∙ ap (λ (o : ObjId). scope_of_name o c.name_of-name.result f) c.scope.ensures) c.name_of-name.ensures.found here

pub function_object-requires-clause-near : goal.function_object-requires-clause-near
function_object-requires-clause-near g c =
    let mid = c.function_names.new.config in
    owner_near mid c.in_ok-names.ensures.later.base.own c.next_number-scope.result (ap (λ (o : ObjId). o.owner) (sym (c.next_number-scope.ensures.is [] _ (plainly mid.heap.arena [])) ∙ number_same [] mid.heap.arena mid.owner))

pub create_pair-requires-clause-near : goal.create_pair-requires-clause-near
create_pair-requires-clause-near g c =
    let mid = c.function_names.new.config in
    let s = c.next_number-scope.result in
    let f : ObjId = record { owner = s.owner; serial = c.in-Some.serial } in
    let owner = ap (λ (o : ObjId). o.owner) (sym (c.next_number-scope.ensures.is [] _ (plainly mid.heap.arena [])) ∙ number_same [] mid.heap.arena mid.owner) in
    scope_near mid.apart.items c.in_ok-named.named c.args.frame.now.scope f c.name_of-name.result (c.in_ok-named.ensures ∙ ap (λ (o : ObjId). scope_of_name o c.name_of-name.result f) c.scope.ensures) (c.in_ok-names.ensures.later.objects c.args.frame.now.scope c.requires.there.scope).1 (owner_near mid c.in_ok-names.ensures.later.base.own f owner)

pub create_pair-requires-clause-second_scope : goal.create_pair-requires-clause-second_scope
create_pair-requires-clause-second_scope g c =
    let mid = c.function_names.new.config in
    c.in_ok-object.ensures.scope ∙ ap (λ (o : ObjId). Some o) (sym (c.next_number-scope.ensures.is [] _ (plainly mid.heap.arena [])) ∙ number_same [] mid.heap.arena mid.owner)

pub create_pair-requires-clause-second_prototype : goal.create_pair-requires-clause-second_prototype
create_pair-requires-clause-second_prototype g c =
    subst (IsThere c.function_names.new.config.heap.arena) (sym c.in_ok-object.ensures.prototype) (c.in_ok-names.ensures.later.base.builtins builtins.FunctionPrototype).0

pub create_pair-requires-clause-second_named : goal.create_pair-requires-clause-second_named
create_pair-requires-clause-second_named g c = λ new more there. let heap = c.function_names.new.config.heap in named_stays_there heap.texts heap.arena new more c.in_ok-object.object c.in_ok-object.ensures.named

pub create_pair-requires-clause-second_code : goal.create_pair-requires-clause-second_code
create_pair-requires-clause-second_code g c = λ new keeps outer.
    let m = g.S.WorldStore.meaning in
    let old = c.args.config.now in
    let mid = c.function_names.new.config in
    let f = c.args.frame.now in
    let s = c.next_number-scope.result in
    let first : s ≡ number_of_next mid.heap.arena mid.owner = sym (c.next_number-scope.ensures.is [] _ (plainly mid.heap.arena [])) ∙ number_same [] mid.heap.arena mid.owner in
    let inside : scope_of new s ≡ Some f.scope = ap (scope_of new) first ∙ outer ∙ ap (λ (x : Object). x.scope) c.in_ok-named.ensures ∙ ap (λ (o : ObjId). Some o) c.scope.ensures in
    script_stands mid.units.items new c.in_ok-object.object f.tree c.args.body s c.in_ok-object.ensures.code c.in_ok-object.ensures.scope (
    stands_in_name mid.units.items f.tree c.args.body f.scope mid.heap.arena new s c.args.id keeps inside (named_later m old mid f.tree c.args.body f.scope (Some c.args.id) c.in_ok-names.ensures.later c.requires.stands))

pub returns-clause-does : goal.returns-clause-does
returns-clause-does g c =
    let m = g.S.WorldStore.meaning in
    let old = c.args.config.now in
    let mid = c.function_names.new.config in
    let f = c.args.frame.now in
    let s = c.next_number-scope.result in
    let first : s ≡ number_of_next mid.heap.arena mid.owner = sym (c.next_number-scope.ensures.is [] _ (plainly mid.heap.arena [])) ∙ number_same [] mid.heap.arena mid.owner in
    let next : c.in-Some.serial ≡ s.serial + 1 = grind (arith, c.in-Some.ensures) in
    let named = λ (t : Table) (o : ObjId). name_scope (text_in t c.args.id) f.scope o in
    let made = λ (t : Table) (o : ObjId). function_object f.tree c.args.body.0 (length (formals_of (node_here (env_in m mid t f) c.args.body.0))) o in
    if_ok _ _ c.create_pair.result
    (λ o pair. record {
      by = λ go later r h.
          let t = later.heap.texts in
          let both = pair (λ u. named u s) made
          (λ u more. scope_is u c.in_ok-named.named f.scope s (record { owner = s.owner; serial = c.in-Some.serial }) c.name_of-name.result (text_in u c.args.id) (c.in_ok-named.ensures ∙ ap (λ (o : ObjId). scope_of_name o c.name_of-name.result (record { owner = s.owner; serial = c.in-Some.serial })) c.scope.ensures) (c.name_of-name.ensures.name u more) (behind s c.in-Some.serial next))
          (λ u more. c.in_ok-object.ensures.is u more ∙ ap (made u) first) in
          c.in_ok-names.ensures.does.by (λ x. named_made c.args.body.0 (text_in t c.args.id) (env_in m old t f) go) later r
          (subst (λ (e : Env). OnOk r (Follows m (named_made c.args.body.0 (text_in t c.args.id) e go) mid later)) (env_later m old mid t f c.in_ok-names.ensures.later)
          (c.next_number-scope.ensures.does.by (λ x. Do (Create mid.owner (named t x)) (λ y. Do (Create mid.owner (made t y)) go)) later r (both.by go later r h)));
    })
    c.create_pair.ensures.does

pub returns-clause-later : goal.returns-clause-later
returns-clause-later g c = any_later g.S.WorldStore.meaning c.args.config.now c.function_names.new.config c.create_pair.new.config c.create_pair.result c.in_ok-names.ensures.later c.create_pair.ensures.later
