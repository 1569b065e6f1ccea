-- Lists of places that are taken out and put back.
use Rattle.std.proofs.Common.{◌≡◌, ℕ, ◌+◌, ◌<◌, Bool, true, false, cond, List, [], ◌∷◌, ◌++◌, length, drop, get_or, suc, refl, ap, sym, ◌∙◌, Option, None, Some}
use Rattle.std.proofs.lemmas.List.{drop_more}
use Rattle.std.specs.Ordering.{eq_by_cmp}
use Rattle.std.specs.FinMap as map
use Rattle.std.specs.FinMap.{FinMap}
use Rattle.wjs_base.specs.declared.ids.WorldId.{WorldId}
use Rattle.wjs_base.specs.Order.{world_cmp, world_total, world_exact}
use Rattle.wjs_store.specs.declared.action.Action.{Action}
use Rattle.wjs_store.specs.declared.action.Answer.{Answer}
use Rattle.wjs_store.specs.Meaning.{Worlds}
use Rattle.wjs_store.specs.Run.{after_in, answers_in}
use Rattle.wjs_full.specs.History.{Histories, places_of, emptied, put_places, noted, histories_from}

-- what is put after a removal is put
insert-remove : {X : Type 0} (m : FinMap world_cmp X) (w : WorldId) (v : X) → map.insert (map.remove m w) w v ≡ map.insert m w v
insert-remove m w v = map.same_map world_total world_exact _ _ (λ q.
    map.get-insert world_total (map.remove m w) w v q
    ∙ ap (cond (eq_by_cmp world_cmp q w) (Some v)) (map.get-remove world_total m w q)
    ∙ by v (eq_by_cmp world_cmp q w) (map.get m q)
    ∙ sym (map.get-insert world_total m w v q))
  where
    by : {A : Type 0} (v : A) (b : Bool) (o : Option A) → cond b (Some v) (cond b None o) ≡ cond b (Some v) o
    by v true o = refl
    by v false o = refl

-- a list is taken out, and put back with more
pub put_again : (H G : Histories) (w : WorldId) (taken all more : List ℕ) → G ≡ emptied w H → taken ≡ places_of H w → all ≡ taken ++ more → record G { places = map.insert G.places w all } ≡ put_places w more H
put_again H G w taken all more e t a =
    ap (λ (K : Histories). record K { places = map.insert K.places w all }) e
    ∙ ap (λ l. record H { places = map.insert (map.remove H.places w) w l }) (a ∙ ap (λ l. l ++ more) t)
    ∙ ap (λ m. record H { places = m }) (insert-remove H.places w (places_of H w ++ more))

pub length-answers : (F : Worlds) (acts : List Action) → length (answers_in F acts) ≡ length acts
length-answers F [] = refl
length-answers F (a ∷ acts) = ap suc (length-answers (after_in F a) acts)

-- a turn of the loop
pub noted_more : (k : ℕ) (acts : List Action) (rs : List Answer) (a : Action) (r : Answer) (H : Histories) (all : Histories) → k < length acts → k < length rs → a ≡ get_or acts k a → r ≡ get_or rs k r → histories_from k (drop k acts) (drop k rs) H ≡ all → histories_from (k + 1) (drop (k + 1) acts) (drop (k + 1) rs) (noted k a r H) ≡ all
noted_more k acts rs a r H all la lr ea er h =
    ap (λ b. histories_from (k + 1) (drop (k + 1) acts) (drop (k + 1) rs) (noted k b r H)) ea
    ∙ ap (λ q. histories_from (k + 1) (drop (k + 1) acts) (drop (k + 1) rs) (noted k (get_or acts k a) q H)) er
    ∙ sym (ap (λ xs. histories_from k xs (drop k rs) H) (drop_more acts k a la) ∙ ap (λ ys. histories_from k (get_or acts k a ∷ drop (k + 1) acts) ys H) (drop_more rs k r lr))
    ∙ h
