use Rattle.std.proofs.Common.{false, sym, subst}
use Rattle.std.specs.Prelude.{map}
use Rattle.wjs_base.specs.declared.values.Value.TheVariants as values
use Rattle.wjs_arena.specs.declared.native.Native.TheVariants as native
use Rattle.wjs_arena.specs.declared.native.StringNative.{StringNative}
use Rattle.wjs_arena.specs.declared.native.StringNative.TheVariants as string
use Rattle.wjs_by_content.specs.Tables.{value_in}
use Rattle.wjs_meaning.specs.Natives.{native_line}
use Rattle.wjs_native_text.specs.AtOnce.{LineGives}
use Rattle.wjs_native_text.proofs.Telling.{told_now}
use Rattle.wjs_native_text.proofs.at_once.string_at_once.Goals as goal

pub returns-in-CharCodeAt-clause-does : goal.returns-in-CharCodeAt-clause-does
returns-in-CharCodeAt-clause-does g c =
    let m = g.S.WorldStore.meaning in
    let old = c.args.config.now in
    let this = c.args.this in
    let args = c.args.args.now in
    let v = values.Number c.code_at.result in
    subst (λ (k : StringNative). LineGives m (native.String k) this args v old old) (sym c.in-CharCodeAt.is)
    (told_now m (λ t env. native_line (native.String string.CharCodeAt) false (value_in t this) (map (value_in t) args) env) v old c.code_at.ensures)

pub returns-in_ok-first_place-in-IndexOf-clause-does : goal.returns-in_ok-first_place-in-IndexOf-clause-does
returns-in_ok-first_place-in-IndexOf-clause-does g c =
    let m = g.S.WorldStore.meaning in
    let old = c.args.config.now in
    let this = c.args.this in
    let args = c.args.args.now in
    let v = values.Number c.in_ok-first_place-in-IndexOf.field-0 in
    subst (λ (k : StringNative). LineGives m (native.String k) this args v old old) (sym c.in-IndexOf.is)
    (told_now m (λ t env. native_line (native.String string.IndexOf) false (value_in t this) (map (value_in t) args) env) v old c.in_ok-first_place-in-IndexOf.ensures)

pub returns-in_ok-final_place-in-LastIndexOf-clause-does : goal.returns-in_ok-final_place-in-LastIndexOf-clause-does
returns-in_ok-final_place-in-LastIndexOf-clause-does g c =
    let m = g.S.WorldStore.meaning in
    let old = c.args.config.now in
    let this = c.args.this in
    let args = c.args.args.now in
    let v = values.Number c.in_ok-final_place-in-LastIndexOf.field-0 in
    subst (λ (k : StringNative). LineGives m (native.String k) this args v old old) (sym c.in-LastIndexOf.is)
    (told_now m (λ t env. native_line (native.String string.LastIndexOf) false (value_in t this) (map (value_in t) args) env) v old c.in_ok-final_place-in-LastIndexOf.ensures)
