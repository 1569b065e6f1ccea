use Rattle.std.proofs.Common.{[], ◌∷◌, ◌∙◌, sym}
use Rattle.wjs_base.specs.Order.{name_total}
use Rattle.wjs_names.proofs.Shorts.{found_here, found_past}
use Rattle.wjs_names.proofs.four.Four.get.Goals as goal

pub returns-then-has_rank : goal.returns-then-has_rank
returns-then-has_rank g c =
    let s = c.args.self.now in
    let ds = (s.names.third, s.values.third) ∷ (s.names.fourth, s.values.fourth) ∷ [] in
    found_here name_total c.args.name (s.names.first, s.values.first) ((s.names.second, s.values.second) ∷ ds) (sym (c.has_rank.ensures c.args.name c.rank_for-rank.ensures) ∙ c.if-has_rank.true)

pub returns-then-has_rank-2 : goal.returns-then-has_rank-2
returns-then-has_rank-2 g c =
    let s = c.args.self.now in
    let k = c.args.name in
    let ds = (s.names.third, s.values.third) ∷ (s.names.fourth, s.values.fourth) ∷ [] in
    found_here name_total k (s.names.second, s.values.second) ds (sym (c.has_rank-2.ensures c.args.name c.rank_for-rank.ensures) ∙ c.if-has_rank-2.true)
    ∙ found_past name_total k (s.names.first, s.values.first) ((s.names.second, s.values.second) ∷ ds) (sym (c.has_rank.ensures c.args.name c.rank_for-rank.ensures) ∙ c.if-has_rank.false)

pub returns-then-has_rank-3 : goal.returns-then-has_rank-3
returns-then-has_rank-3 g c =
    let s = c.args.self.now in
    let k = c.args.name in
    let cs = (s.names.fourth, s.values.fourth) ∷ [] in
    let ds = (s.names.third, s.values.third) ∷ cs in
    found_here name_total k (s.names.third, s.values.third) cs (sym (c.has_rank-3.ensures c.args.name c.rank_for-rank.ensures) ∙ c.if-has_rank-3.true)
    ∙ found_past name_total k (s.names.second, s.values.second) ds (sym (c.has_rank-2.ensures c.args.name c.rank_for-rank.ensures) ∙ c.if-has_rank-2.false)
    ∙ found_past name_total k (s.names.first, s.values.first) ((s.names.second, s.values.second) ∷ ds) (sym (c.has_rank.ensures c.args.name c.rank_for-rank.ensures) ∙ c.if-has_rank.false)

pub returns-then-has_rank-4 : goal.returns-then-has_rank-4
returns-then-has_rank-4 g c =
    let s = c.args.self.now in
    let k = c.args.name in
    let cs = (s.names.fourth, s.values.fourth) ∷ [] in
    let ds = (s.names.third, s.values.third) ∷ cs in
    found_here name_total k (s.names.fourth, s.values.fourth) [] (sym (c.has_rank-4.ensures c.args.name c.rank_for-rank.ensures) ∙ c.if-has_rank-4.true)
    ∙ found_past name_total k (s.names.third, s.values.third) cs (sym (c.has_rank-3.ensures c.args.name c.rank_for-rank.ensures) ∙ c.if-has_rank-3.false)
    ∙ found_past name_total k (s.names.second, s.values.second) ds (sym (c.has_rank-2.ensures c.args.name c.rank_for-rank.ensures) ∙ c.if-has_rank-2.false)
    ∙ found_past name_total k (s.names.first, s.values.first) ((s.names.second, s.values.second) ∷ ds) (sym (c.has_rank.ensures c.args.name c.rank_for-rank.ensures) ∙ c.if-has_rank.false)

pub returns : goal.returns
returns g c =
    let s = c.args.self.now in
    let k = c.args.name in
    let cs = (s.names.fourth, s.values.fourth) ∷ [] in
    let ds = (s.names.third, s.values.third) ∷ cs in
    found_past name_total k (s.names.fourth, s.values.fourth) [] (sym (c.has_rank-4.ensures c.args.name c.rank_for-rank.ensures) ∙ c.if-has_rank-4.false)
    ∙ found_past name_total k (s.names.third, s.values.third) cs (sym (c.has_rank-3.ensures c.args.name c.rank_for-rank.ensures) ∙ c.if-has_rank-3.false)
    ∙ found_past name_total k (s.names.second, s.values.second) ds (sym (c.has_rank-2.ensures c.args.name c.rank_for-rank.ensures) ∙ c.if-has_rank-2.false)
    ∙ found_past name_total k (s.names.first, s.values.first) ((s.names.second, s.values.second) ∷ ds) (sym (c.has_rank.ensures c.args.name c.rank_for-rank.ensures) ∙ c.if-has_rank.false)
