use Rattle.std.proofs.Common.{◌∷◌, [], sym}
use Rattle.wjs_base.specs.Order.{name_total}
use Rattle.wjs_names.proofs.Shorts.{put_first, found_first, put_rest, found_rest, found_one, put_one}
use Rattle.wjs_names.proofs.short.put_in_two.Goals as goal

pub returns-then-put_in-clause-found : goal.returns-then-put_in-clause-found
returns-then-put_in-clause-found g c = sym (found_first name_total c.args.name c.args.first.now c.put_in.new.row c.args.value c.put_in.result c.put_in.ensures.is c.put_in.ensures.put (c.args.second.now ∷ []) c.if-put_in.true)

pub returns-then-put_in-clause-put : goal.returns-then-put_in-clause-put
returns-then-put_in-clause-put g c = put_first name_total c.args.name c.args.first.now c.put_in.new.row c.args.value c.put_in.result c.put_in.ensures.is c.put_in.ensures.put (c.args.second.now ∷ []) c.if-put_in.true

pub returns-clause-found : goal.returns-clause-found
returns-clause-found g c =
    found_rest name_total c.args.name c.args.first.now c.put_in.new.row c.args.value c.put_in.result c.put_in.ensures.is c.put_in.ensures.put (c.args.second.now ∷ []) c.put_in-2.result c.if-put_in.false
    (found_one name_total c.args.name c.args.second.now c.put_in-2.new.row c.args.value c.put_in-2.result c.put_in-2.ensures.is c.put_in-2.ensures.put)

pub returns-clause-put : goal.returns-clause-put
returns-clause-put g c =
    put_rest name_total c.args.name c.args.first.now c.put_in.new.row c.args.value c.put_in.result c.put_in.ensures.is c.put_in.ensures.put (c.args.second.now ∷ []) (c.put_in-2.new.row ∷ []) c.put_in-2.result c.requires c.if-put_in.false
    (λ t. found_first name_total c.args.name c.args.second.now c.put_in-2.new.row c.args.value c.put_in-2.result c.put_in-2.ensures.is c.put_in-2.ensures.put [] t)
    (put_one name_total c.args.name c.args.second.now c.put_in-2.new.row c.args.value c.put_in-2.result c.put_in-2.ensures.is c.put_in-2.ensures.put)
