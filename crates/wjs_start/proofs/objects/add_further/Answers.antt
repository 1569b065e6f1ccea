use Rattle.std.proofs.Common.{◌++◌, List, refl, sym, subst}
use Rattle.std.proofs.lemmas.Result.{on_ok_weaker}
use Rattle.wjs_base.specs.declared.values.Name.{Name}
use Rattle.wjs_meaning.specs.Start.{library_names}
use Rattle.wjs_start.specs.declared.blueprints.Further.{Further}
use Rattle.wjs_start.specs.Blueprints.{further_flags}
use Rattle.wjs_start.specs.Flags.{IsFlagged}
use Rattle.wjs_start.specs.Known.{declared_in}
use Rattle.wjs_start.specs.Names.{AreNamesOf}
use Rattle.wjs_start.proofs.objects.add_further.Goals as goal

pub returns-in-Declared : goal.returns-in-Declared
returns-in-Declared c = on_ok_weaker c.add_names.result (λ f. λ t before knows h.
    let k = c.args.known.now in
    let names = subst (λ (l : List Name). AreNamesOf t l (declared_in t k)) (sym c.as_slice.ensures.value) (record { there = knows.declared; spell = refl }) in
    subst (λ (x : Further). IsFlagged t c.add_names.new.flags.items (before ++ further_flags x (declared_in t k))) (sym c.in-Declared.is) (f t before (declared_in t k) names h)) c.add_names.ensures

pub returns-in-Library : goal.returns-in-Library
returns-in-Library c = on_ok_weaker c.add_names-in-Library.result (λ f. λ t before knows h.
    let k = c.args.known.now in
    let names = subst (λ (l : List Name). AreNamesOf t l library_names) (sym c.as_slice-in-Library.ensures.value) knows.library in
    subst (λ (x : Further). IsFlagged t c.add_names-in-Library.new.flags.items (before ++ further_flags x (declared_in t k))) (sym c.in-Library.is) (f t before library_names names h)) c.add_names-in-Library.ensures
