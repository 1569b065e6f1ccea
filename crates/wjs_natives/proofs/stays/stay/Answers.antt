use Rattle.std.proofs.Common.{[], ◌∷◌, length, sym, ap, subst}
use Rattle.std.specs.Prelude.{ℕ, map}
use Rattle.std.proofs.lemmas.List.{length-map}
use Rattle.wjs_by_content.specs.Tables.{value_in}
use Rattle.wjs_meaning.specs.Deeds.{give}
use Rattle.wjs_meaning.specs.declared.kinds.Kind.{Kind}
use Rattle.wjs_meaning.specs.declared.kinds.Kinds.{Kinds}
use Rattle.wjs_meaning.specs.Kinds.{convert, kinds_of, with_kinds}
use Rattle.wjs_meaning.specs.Natives.{convert_from, native_run}
use Rattle.wjs_meaning.specs.Table.{Row}
use Rattle.wjs_frames.specs.Shortening.{Shortens}
use Rattle.wjs_natives.proofs.Staying.{native_stays}
use Rattle.wjs_natives.proofs.stays.stay.Goals as goal

pub returns : goal.returns
returns c = λ h t by_new env e.
    let native = c.args.native in
    let args = c.args.args.now in
    let this = value_in t c.args.this in
    let vs = map (value_in t) args in
    let others = λ (ks : Kinds) (n : ℕ). Shortens (convert_from native by_new (with_kinds (kinds_of ks n) vs) (this ∷ []) env) (native_run native by_new (this ∷ vs) env) in
    let row = c.row_of-row.result in
    native_stays native by_new env this vs e
    (subst (λ (k : Kind). Shortens (convert k this env) (give this)) (ap (λ (r : Row). r.this) c.row_of-row.ensures) (c.stays.ensures c.if-not-stays.false t env))
    (subst (λ (ks : Kinds). others ks (length vs)) (ap (λ (r : Row). r.arguments) c.row_of-row.ensures)
    (subst (λ (n : ℕ). others row.arguments n) (sym (length-map args (value_in t))) (c.all_stay.ensures h t native by_new (this ∷ []) env)))
