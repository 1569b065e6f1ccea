use Rattle.std.proofs.Common.{◌≡◌, false, sym}
use Rattle.std.specs.Prelude.{map}
use Rattle.wjs_base.specs.declared.number.Whole.{Whole}
use Rattle.wjs_arena.specs.declared.native.Native.TheVariants as native
use Rattle.wjs_arena.specs.declared.native.MathNative.TheVariants as math
use Rattle.wjs_by_content.specs.Tables.{value_in}
use Rattle.wjs_by_content.specs.Values.{Number, Undefined}
use Rattle.wjs_meaning.specs.declared.trouble.Trouble.TheVariants.{OutOfRange}
use Rattle.wjs_meaning.specs.Deeds.{give}
use Rattle.wjs_meaning.specs.Errors.{throw}
use Rattle.wjs_meaning.specs.Natives.{native_line}
use Rattle.wjs_frames.specs.Parts.{env_in}
use Rattle.wjs_step_common.proofs.Following.{follows_as}
use Rattle.wjs_native_text.proofs.Telling.{none_said, some_said}
use Rattle.wjs_native_text.proofs.math.max.Goals as goal

pub returns-in-None : goal.returns-in-None
returns-in-None g c =
    let m = g.S.WorldStore.meaning in
    let old = c.args.config.now in
    let new = c.throw.new.config in
    let t = new.heap.texts in
    let env = env_in m old t c.args.frame in
    let line = native_line (native.Math math.Max) false Undefined (map (value_in t) c.args.args.now) env in
    follows_as m (throw OutOfRange env) line old new c.throw.result
    (λ grows. sym (none_said (line ≡ throw OutOfRange env) (λ (n : Whole). line ≡ give (Number n.number)) c.greatest_of.result c.in-None.is (c.greatest_of.ensures t env))) c.throw.ensures

pub returns-in-Some : goal.returns-in-Some
returns-in-Some g c =
    let m = g.S.WorldStore.meaning in
    let old = c.args.config.now in
    let new = c.give.new.config in
    let t = new.heap.texts in
    let env = env_in m old t c.args.frame in
    let number = c.in-Some.number in
    let line = native_line (native.Math math.Max) false Undefined (map (value_in t) c.args.args.now) env in
    follows_as m (give (Number number.number)) line old new c.give.result
    (λ grows. sym (some_said (line ≡ throw OutOfRange env) (λ (n : Whole). line ≡ give (Number n.number)) c.greatest_of.result number c.in-Some.is (c.greatest_of.ensures t env))) c.give.ensures
