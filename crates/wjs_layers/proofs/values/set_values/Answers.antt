use Rattle.std.proofs.Common.{◌≡◌, ◌∙◌, [], ◌∷◌, ap, sym, arith}
use Rattle.std.proofs.lemmas.Result.{on_ok_weaker}
use Rattle.wjs_names.proofs.Filling.{one_read, two_read, three_read, four_read}
use Rattle.wjs_layers.specs.Several.{first_rows}
use Rattle.wjs_layers.specs.Shorts.{at_first}
use Rattle.wjs_layers.specs.Keyed.{rows_by}
use Rattle.wjs_layers.proofs.Filled.{Stand, none, more}
use Rattle.wjs_layers.proofs.values.set_values.Goals as goal

pub returns-in-len1 : goal.returns-in-len1
returns-in-len1 g c =
    let o = c.args.object in
    let rows = c.args.rows.now in
    let m = c.args.values.now in
    let a = c.a-item in
    let aa = c.short_row in
    let read : rows ≡ a.result ∷ [] = one_read rows a.result (omega (arith, c.in-len1.len_at_least)) (omega (arith, c.in-len1.len_below)) a.is in
    let stand = more o aa.result a.result ([]) ([]) aa.ensures.name aa.ensures.content (none o) in
    on_ok_weaker c.set_all.result (λ e. ap (rows_by at_first) e ∙ stand.set m ∙ ap (λ l. first_rows o l (rows_by at_first m)) (sym read)) c.set_all.ensures

pub returns-in-len2 : goal.returns-in-len2
returns-in-len2 g c =
    let o = c.args.object in
    let rows = c.args.rows.now in
    let m = c.args.values.now in
    let a = c.a-item-then-rows-lt3 in
    let aa = c.short_row-in-len2 in
    let b = c.b-item in
    let bb = c.short_row-in-len2-2 in
    let read : rows ≡ a.result ∷ b.result ∷ [] = two_read rows a.result b.result (omega (arith, c.in-len2.len_at_least)) (omega (arith, c.in-len2.len_below)) a.is b.is in
    let stand = more o aa.result a.result (bb.result ∷ []) (b.result ∷ []) aa.ensures.name aa.ensures.content (more o bb.result b.result ([]) ([]) bb.ensures.name bb.ensures.content (none o)) in
    on_ok_weaker c.set_all-in-len2.result (λ e. ap (rows_by at_first) e ∙ stand.set m ∙ ap (λ l. first_rows o l (rows_by at_first m)) (sym read)) c.set_all-in-len2.ensures

pub returns-in-len3 : goal.returns-in-len3
returns-in-len3 g c =
    let o = c.args.object in
    let rows = c.args.rows.now in
    let m = c.args.values.now in
    let a = c.a-item-then-rows-lt4 in
    let aa = c.short_row-in-len3 in
    let b = c.b-item-then-rows-lt4 in
    let bb = c.short_row-in-len3-2 in
    let x = c.c-item in
    let cc = c.short_row-in-len3-3 in
    let read : rows ≡ a.result ∷ b.result ∷ x.result ∷ [] = three_read rows a.result b.result x.result (omega (arith, c.in-len3.len_at_least)) (omega (arith, c.in-len3.len_below)) a.is b.is x.is in
    let stand = more o aa.result a.result (bb.result ∷ cc.result ∷ []) (b.result ∷ x.result ∷ []) aa.ensures.name aa.ensures.content (more o bb.result b.result (cc.result ∷ []) (x.result ∷ []) bb.ensures.name bb.ensures.content (more o cc.result x.result ([]) ([]) cc.ensures.name cc.ensures.content (none o))) in
    on_ok_weaker c.set_all-in-len3.result (λ e. ap (rows_by at_first) e ∙ stand.set m ∙ ap (λ l. first_rows o l (rows_by at_first m)) (sym read)) c.set_all-in-len3.ensures

pub returns-in-len4 : goal.returns-in-len4
returns-in-len4 g c =
    let o = c.args.object in
    let rows = c.args.rows.now in
    let m = c.args.values.now in
    let a = c.a-item-then-rows-lt5 in
    let aa = c.short_row-in-len4 in
    let b = c.b-item-then-rows-lt5 in
    let bb = c.short_row-in-len4-2 in
    let x = c.c-item-then-rows-lt5 in
    let cc = c.short_row-in-len4-3 in
    let d = c.d-item in
    let dd = c.short_row-in-len4-4 in
    let read : rows ≡ a.result ∷ b.result ∷ x.result ∷ d.result ∷ [] = four_read rows a.result b.result x.result d.result (omega (arith, c.in-len4.len_at_least)) (omega (arith, c.in-len4.len_below)) a.is b.is x.is d.is in
    let stand = more o aa.result a.result (bb.result ∷ cc.result ∷ dd.result ∷ []) (b.result ∷ x.result ∷ d.result ∷ []) aa.ensures.name aa.ensures.content (more o bb.result b.result (cc.result ∷ dd.result ∷ []) (x.result ∷ d.result ∷ []) bb.ensures.name bb.ensures.content (more o cc.result x.result (dd.result ∷ []) (d.result ∷ []) cc.ensures.name cc.ensures.content (more o dd.result d.result ([]) ([]) dd.ensures.name dd.ensures.content (none o)))) in
    on_ok_weaker c.set_all-in-len4.result (λ e. ap (rows_by at_first) e ∙ stand.set m ∙ ap (λ l. first_rows o l (rows_by at_first m)) (sym read)) c.set_all-in-len4.ensures
