use Rattle.std.proofs.Common.{sym, subst}
use Rattle.std.specs.Prelude.{OnOk}
use Rattle.wjs_base.specs.declared.ids.ObjId.{ObjId}
use Rattle.wjs_base.specs.declared.values.Value.{Value}
use Rattle.wjs_by_content.specs.Tables.{value_in}
use Rattle.wjs_frames.specs.Following.{Follows}
use Rattle.wjs_direct_lines.specs.News.{prototype_in}
use Rattle.wjs_direct_lines.proofs.Constructing.{plain_in}
use Rattle.wjs_direct_lines.proofs.news.prototype_of.Goals as goal

pub returns-in-Object-clause-does : goal.returns-in-Object-clause-does
returns-in-Object-clause-does g c = record {
  by = λ go later r h.
      let m = g.S.WorldStore.meaning in
      let t = later.heap.texts in
      c.in_ok-found.ensures.does.by (λ v. go (prototype_in v)) later r
      (subst (λ (v : Value). OnOk r (Follows m (go (prototype_in (value_in t v))) c.get_known.new.config later)) (sym c.in-Object.is) h);
}

pub returns-in_default-clause-does : goal.returns-in_default-clause-does
returns-in_default-clause-does g c = record {
  by = λ go later r h.
      let m = g.S.WorldStore.meaning in
      let t = later.heap.texts in
      c.in_ok-found.ensures.does.by (λ v. go (prototype_in v)) later r
      (subst (λ (o : ObjId). OnOk r (Follows m (go o) c.get_known.new.config later)) (plain_in t c.in_ok-found.found c.builtin.result c.builtin.ensures.number c.in_default.not-Object) h);
}
