use Rattle.std.proofs.Common.{◌≡◌, false, sym, subst}
use Rattle.std.specs.Prelude.{map}
use Rattle.wjs_arena.specs.declared.native.Native.TheVariants as native
use Rattle.wjs_arena.specs.declared.native.GlobalNative.{GlobalNative}
use Rattle.wjs_by_content.specs.Tables.{value_in}
use Rattle.wjs_by_content.specs.Values.{Boolean}
use Rattle.wjs_meaning.specs.Deeds.{give}
use Rattle.wjs_meaning.specs.Natives.{native_line}
use Rattle.wjs_native_text.proofs.globals.truth_given.Goals as goal

pub returns-in-IsNaN : goal.returns-in-IsNaN
returns-in-IsNaN c = λ t this env.
    subst (λ (k : GlobalNative). native_line (native.Global k) false (value_in t this) (map (value_in t) c.args.args.now) env ≡ give (Boolean c.nan_given.result)) (sym c.in-IsNaN.is)
    (c.nan_given.ensures t this env)
