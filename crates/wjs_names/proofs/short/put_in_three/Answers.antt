use Rattle.std.proofs.Common.{◌∷◌, [], ◌∙◌, sym}
use Rattle.wjs_base.specs.Order.{name_cmp, name_total}
use Rattle.wjs_base.proofs.Booleans.{right_true}
use Rattle.std.specs.FinMap.Entries.{below_all, is_sorted}
use Rattle.wjs_names.proofs.Shorts.{put_first, found_first, put_rest, found_rest}
use Rattle.wjs_names.proofs.short.put_in_three.Goals as goal

pub put_in_two-requires : goal.put_in_two-requires
put_in_two-requires g c = right_true (below_all name_cmp c.args.first.now.0 (c.args.second.now ∷ c.args.third.now ∷ [])) (is_sorted name_cmp (c.args.second.now ∷ c.args.third.now ∷ [])) c.requires

pub returns-then-put_in-clause-found : goal.returns-then-put_in-clause-found
returns-then-put_in-clause-found g c = sym (found_first name_total c.args.name c.args.first.now c.put_in.new.row c.args.value c.put_in.result c.put_in.ensures.is c.put_in.ensures.put (c.args.second.now ∷ c.args.third.now ∷ []) c.if-put_in.true)

pub returns-then-put_in-clause-put : goal.returns-then-put_in-clause-put
returns-then-put_in-clause-put g c = put_first name_total c.args.name c.args.first.now c.put_in.new.row c.args.value c.put_in.result c.put_in.ensures.is c.put_in.ensures.put (c.args.second.now ∷ c.args.third.now ∷ []) c.if-put_in.true

pub returns-clause-found : goal.returns-clause-found
returns-clause-found g c =
    found_rest name_total c.args.name c.args.first.now c.put_in.new.row c.args.value c.put_in.result c.put_in.ensures.is c.put_in.ensures.put (c.args.second.now ∷ c.args.third.now ∷ []) c.put_in_two.result c.if-put_in.false c.put_in_two.ensures.found

pub returns-clause-put : goal.returns-clause-put
returns-clause-put g c =
    put_rest name_total c.args.name c.args.first.now c.put_in.new.row c.args.value c.put_in.result c.put_in.ensures.is c.put_in.ensures.put (c.args.second.now ∷ c.args.third.now ∷ []) (c.put_in_two.new.first ∷ c.put_in_two.new.second ∷ []) c.put_in_two.result c.requires c.if-put_in.false
    (λ t. sym c.put_in_two.ensures.found ∙ t) c.put_in_two.ensures.put
