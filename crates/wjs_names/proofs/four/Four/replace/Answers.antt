use Rattle.std.proofs.Common.{[], ◌∷◌, ◌∙◌, ap, sym, is_some}
use Rattle.wjs_base.specs.declared.values.Name.{Name}
use Rattle.wjs_base.specs.Order.{name_total}
use Rattle.wjs_names.proofs.Shorts.{found_here, found_past, put_here, put_past, rest_sorted}
use Rattle.wjs_names.proofs.four.Four.replace.Goals as goal

abbrev row : {V : Type 0} → Name → V → Name × V
row name value = (name, value)

pub returns-then-has_rank-clause-found : goal.returns-then-has_rank-clause-found
returns-then-has_rank-clause-found g c = λ _.
    let s = c.args.self.now in
    ap is_some (sym (found_here name_total c.args.name (s.names.first, s.values.first) ((s.names.second, s.values.second) ∷ (s.names.third, s.values.third) ∷ (s.names.fourth, s.values.fourth) ∷ []) (sym (c.has_rank.ensures c.args.name c.rank_for-rank.ensures) ∙ c.if-has_rank.true)))

pub returns-then-has_rank-clause-replaced : goal.returns-then-has_rank-clause-replaced
returns-then-has_rank-clause-replaced g c =
    let s = c.args.self.now in
    put_here name_total c.args.name c.args.value (s.names.first, s.values.first) ((s.names.second, s.values.second) ∷ (s.names.third, s.values.third) ∷ (s.names.fourth, s.values.fourth) ∷ []) (sym (c.has_rank.ensures c.args.name c.rank_for-rank.ensures) ∙ c.if-has_rank.true)

pub returns-then-has_rank-2-clause-found : goal.returns-then-has_rank-2-clause-found
returns-then-has_rank-2-clause-found g c = λ _.
    let s = c.args.self.now in
    let k = c.args.name in
    let ds = (s.names.third, s.values.third) ∷ (s.names.fourth, s.values.fourth) ∷ [] in
    ap is_some (sym (found_here name_total k (s.names.second, s.values.second) ds (sym (c.has_rank-2.ensures c.args.name c.rank_for-rank.ensures) ∙ c.if-has_rank-2.true)
    ∙ found_past name_total k (s.names.first, s.values.first) ((s.names.second, s.values.second) ∷ ds) (sym (c.has_rank.ensures c.args.name c.rank_for-rank.ensures) ∙ c.if-has_rank.false)))

pub returns-then-has_rank-2-clause-replaced : goal.returns-then-has_rank-2-clause-replaced
returns-then-has_rank-2-clause-replaced g c =
    let s = c.args.self.now in
    let k = c.args.name in
    let v = c.args.value in
    let a = row s.names.first s.values.first in
    let b = row s.names.second s.values.second in
    let ds = (s.names.third, s.values.third) ∷ (s.names.fourth, s.values.fourth) ∷ [] in
    let t = sym (c.has_rank-2.ensures c.args.name c.rank_for-rank.ensures) ∙ c.if-has_rank-2.true in
    ap (λ rest. a ∷ rest) (put_here name_total k v b ds t)
    ∙ put_past name_total k v a (b ∷ ds) c.requires (sym (c.has_rank.ensures c.args.name c.rank_for-rank.ensures) ∙ c.if-has_rank.false) (ap is_some (sym (found_here name_total k b ds t)))

pub returns-then-has_rank-3-clause-found : goal.returns-then-has_rank-3-clause-found
returns-then-has_rank-3-clause-found g c = λ _.
    let s = c.args.self.now in
    let k = c.args.name in
    let cs = (s.names.fourth, s.values.fourth) ∷ [] in
    let ds = (s.names.third, s.values.third) ∷ cs in
    ap is_some (sym (found_here name_total k (s.names.third, s.values.third) cs (sym (c.has_rank-3.ensures c.args.name c.rank_for-rank.ensures) ∙ c.if-has_rank-3.true)
    ∙ found_past name_total k (s.names.second, s.values.second) ds (sym (c.has_rank-2.ensures c.args.name c.rank_for-rank.ensures) ∙ c.if-has_rank-2.false)
    ∙ found_past name_total k (s.names.first, s.values.first) ((s.names.second, s.values.second) ∷ ds) (sym (c.has_rank.ensures c.args.name c.rank_for-rank.ensures) ∙ c.if-has_rank.false)))

pub returns-then-has_rank-3-clause-replaced : goal.returns-then-has_rank-3-clause-replaced
returns-then-has_rank-3-clause-replaced g c =
    let s = c.args.self.now in
    let k = c.args.name in
    let v = c.args.value in
    let a = row s.names.first s.values.first in
    let b = row s.names.second s.values.second in
    let e = row s.names.third s.values.third in
    let cs = (s.names.fourth, s.values.fourth) ∷ [] in
    let f = sym (c.has_rank.ensures c.args.name c.rank_for-rank.ensures) ∙ c.if-has_rank.false in
    let h = sym (c.has_rank-2.ensures c.args.name c.rank_for-rank.ensures) ∙ c.if-has_rank-2.false in
    let t = sym (c.has_rank-3.ensures c.args.name c.rank_for-rank.ensures) ∙ c.if-has_rank-3.true in
    let here = found_here name_total k e cs t in
    ap (λ rest. a ∷ b ∷ rest) (put_here name_total k v e cs t)
    ∙ ap (λ rest. a ∷ rest) (put_past name_total k v b (e ∷ cs) (rest_sorted name_total k a (b ∷ e ∷ cs) c.requires) h (ap is_some (sym here)))
    ∙ put_past name_total k v a (b ∷ e ∷ cs) c.requires f (ap is_some (sym (here ∙ found_past name_total k b (e ∷ cs) h)))

pub returns-then-has_rank-4-clause-found : goal.returns-then-has_rank-4-clause-found
returns-then-has_rank-4-clause-found g c = λ _.
    let s = c.args.self.now in
    let k = c.args.name in
    let cs = (s.names.fourth, s.values.fourth) ∷ [] in
    let ds = (s.names.third, s.values.third) ∷ cs in
    ap is_some (sym (found_here name_total k (s.names.fourth, s.values.fourth) [] (sym (c.has_rank-4.ensures c.args.name c.rank_for-rank.ensures) ∙ c.if-has_rank-4.true)
    ∙ found_past name_total k (s.names.third, s.values.third) cs (sym (c.has_rank-3.ensures c.args.name c.rank_for-rank.ensures) ∙ c.if-has_rank-3.false)
    ∙ found_past name_total k (s.names.second, s.values.second) ds (sym (c.has_rank-2.ensures c.args.name c.rank_for-rank.ensures) ∙ c.if-has_rank-2.false)
    ∙ found_past name_total k (s.names.first, s.values.first) ((s.names.second, s.values.second) ∷ ds) (sym (c.has_rank.ensures c.args.name c.rank_for-rank.ensures) ∙ c.if-has_rank.false)))

pub returns-then-has_rank-4-clause-replaced : goal.returns-then-has_rank-4-clause-replaced
returns-then-has_rank-4-clause-replaced g c =
    let s = c.args.self.now in
    let k = c.args.name in
    let v = c.args.value in
    let a = row s.names.first s.values.first in
    let b = row s.names.second s.values.second in
    let e = row s.names.third s.values.third in
    let z = row s.names.fourth s.values.fourth in
    let f = sym (c.has_rank.ensures c.args.name c.rank_for-rank.ensures) ∙ c.if-has_rank.false in
    let h = sym (c.has_rank-2.ensures c.args.name c.rank_for-rank.ensures) ∙ c.if-has_rank-2.false in
    let j = sym (c.has_rank-3.ensures c.args.name c.rank_for-rank.ensures) ∙ c.if-has_rank-3.false in
    let t = sym (c.has_rank-4.ensures c.args.name c.rank_for-rank.ensures) ∙ c.if-has_rank-4.true in
    let here = found_here name_total k z [] t in
    let there = here ∙ found_past name_total k e (z ∷ []) j in
    let more = rest_sorted name_total k a (b ∷ e ∷ z ∷ []) c.requires in
    ap (λ rest. a ∷ b ∷ e ∷ rest) (put_here name_total k v z [] t)
    ∙ ap (λ rest. a ∷ b ∷ rest) (put_past name_total k v e (z ∷ []) (rest_sorted name_total k b (e ∷ z ∷ []) more) j (ap is_some (sym here)))
    ∙ ap (λ rest. a ∷ rest) (put_past name_total k v b (e ∷ z ∷ []) more h (ap is_some (sym there)))
    ∙ put_past name_total k v a (b ∷ e ∷ z ∷ []) c.requires f (ap is_some (sym (there ∙ found_past name_total k b (e ∷ z ∷ []) h)))
