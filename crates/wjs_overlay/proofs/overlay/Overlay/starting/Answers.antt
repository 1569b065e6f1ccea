use Rattle.std.proofs.Common.{◌≡◌, sym, ap, ◌∙◌, subst, false}
use Rattle.std.specs.FinMap as map
use Rattle.wjs_layers.specs.Sparse.{full_of}
use Rattle.wjs_overlay.specs.Store.{IsStore}
use Rattle.wjs_overlay.specs.Touched.{IsCovered}
use Rattle.wjs_overlay.proofs.StoreLaws.{first_stand, first_store, first_layer}
use Rattle.wjs_overlay.proofs.Passing.{first_covered}
use Rattle.std.proofs.Common.{[], ◌∷◌, ◌++◌}
use Rattle.wjs_store.specs.Fixed.{fixed}
use Rattle.wjs_overlay.proofs.overlay.Overlay.starting.Goals as goal

pub invariant_of-result : goal.invariant_of-result
invariant_of-result c =
    let child = c.first.result in
    let is : child ≡ first_layer c.args.first = c.first.ensures in
    let la : c.push.new.self.items ≡ first_layer c.args.first ∷ [] = c.in_ok-push.ensures.items ∙ ap (λ xs. xs ++ child ∷ []) c.new-layers.ensures.items ∙ ap (λ l. l ∷ []) is in
    let pl : c.insert.new.self ≡ map.insert map.empty c.args.first 0 = c.in_ok-insert.ensures.ok ∙ ap (λ m. map.insert m c.args.first 0) c.new-places.ensures in
    let ow : c.insert-2.new.self ≡ map.insert map.empty c.args.first.owner 1 = c.in_ok-insert-2.ensures.ok ∙ ap (λ m. map.insert m c.args.first.owner 1) c.new-owners.ensures in
    record {
      kept = λ e. subst (λ ls. IsStore ls c.insert.new.self c.insert-2.new.self) (sym la) (subst (λ m. IsStore (first_layer c.args.first ∷ []) m c.insert-2.new.self) (sym pl) (subst (IsStore (first_layer c.args.first ∷ []) (map.insert map.empty c.args.first 0)) (sym ow) (first_store c.args.first c.requires)));
      covered = λ e. subst (λ bs. IsCovered bs c.push.new.self.items) (sym c.new-bounds.ensures.items) (subst (IsCovered []) (sym la) (first_covered c.args.first c.requires));
    }

pub returns : goal.returns
returns c =
    let child = c.first.result in
    let is : child ≡ first_layer c.args.first = c.first.ensures in
    let la : c.push.new.self.items ≡ first_layer c.args.first ∷ [] = c.in_ok-push.ensures.items ∙ ap (λ xs. xs ++ child ∷ []) c.new-layers.ensures.items ∙ ap (λ l. l ∷ []) is in
    ap (λ ls. fixed (full_of ls) false) la ∙ ap (λ G. fixed G false) (first_stand c.args.first c.requires).full
