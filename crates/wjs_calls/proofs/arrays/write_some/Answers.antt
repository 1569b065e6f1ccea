use Rattle.std.proofs.Common.{◌+◌, drop, refl}
use Rattle.std.specs.Prelude.{map}
use Rattle.wjs_by_content.specs.Tables.{value_in}
use Rattle.wjs_meaning.specs.Deeds.{write_all}
use Rattle.wjs_meaning.specs.NewObjects.{elements_from}
use Rattle.wjs_calls.proofs.Elements.{element_before}
use Rattle.wjs_calls.proofs.Rows.{leaves_all, leaves_less}
use Rattle.wjs_calls.proofs.arrays.write_some.Goals as goal

pub returns-then-values-at-lt4-clause-does : goal.returns-then-values-at-lt4-clause-does
returns-then-values-at-lt4-clause-does g c =
    let m = g.S.WorldStore.meaning in
    let old = c.args.config.now in
    let w = c.args.frame.now.world in
    let o = c.args.object in
    let vs = c.args.values.now in
    let at = c.args.at in
    let v = c.index-values-at in
    leaves_less m _ _ _ (λ t. write_all w (elements_from o (at + 1) (map (value_in t) (drop (at + 1) vs)))) old old c.write_element.new.config
    (λ t more act. element_before t w o vs at (at + 1) v.result act refl c.requires.at v.is) (leaves_all m _ old) c.in_ok-write_element.ensures.does
