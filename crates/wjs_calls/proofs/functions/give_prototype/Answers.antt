use Rattle.std.proofs.Common.{[], ◌∷◌, Some}
use Rattle.wjs_by_content.specs.Names.{slot, prototype_name, constructor_name}
use Rattle.wjs_by_content.specs.Values.{Object}
use Rattle.wjs_meaning.specs.Deeds.{Do, Write, write_all}
use Rattle.wjs_heap_steps.proofs.Later.{later_twice}
use Rattle.wjs_calls.proofs.Rows.{ok_without, ok_later}
use Rattle.wjs_calls.proofs.functions.give_prototype.Goals as goal

pub returns-clause-does : goal.returns-clause-does
returns-clause-does g c =
    let p = c.in_ok-prototype.prototype in
    let f = c.args.function in
    let w = c.args.frame.now.world in
    ok_without c.write_known-2.result c.write_known-2.ensures.does
    (λ x d. record {
      by = λ act later r h.
          c.in_ok-prototype.ensures.does.by (λ q. write_all w ((slot q constructor_name, Object f) ∷ (slot f prototype_name, Object q) ∷ []) act) later r
          (c.in_ok-write_known.ensures.does.by (λ y. Do (Write w (slot f prototype_name) (Some (Object p))) (λ z. act)) later r
          (d.by (λ y. act) later r h));
    })

pub returns-clause-later : goal.returns-clause-later
returns-clause-later g c =
    let m = g.S.WorldStore.meaning in
    ok_later m c.args.config.now c.write_known.new.config c.write_known-2.new.config c.write_known-2.result
    (later_twice m c.args.config.now c.create_prototype.new.config c.write_known.new.config c.in_ok-prototype.ensures.later c.in_ok-write_known.ensures.later)
    c.write_known-2.ensures.later

pub write_known-requires-clause-there : goal.write_known-requires-clause-there
write_known-requires-clause-there g c = c.in_ok-prototype.ensures.later.frames c.args.frame.now c.requires.there

pub write_known-requires-2-clause-there : goal.write_known-requires-2-clause-there
write_known-requires-2-clause-there g c = c.in_ok-write_known.ensures.later.frames c.args.frame.now (c.in_ok-prototype.ensures.later.frames c.args.frame.now c.requires.there)
