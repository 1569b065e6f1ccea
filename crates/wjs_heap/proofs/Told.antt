-- Told actions are known as the table grows, and as the store goes on.
use Rattle.std.proofs.Common.{◌≡◌, List, [], ◌∷◌, ◌++◌, Option, None, Some, refl, sym, ap, subst, map as each, IsTrue}
use Rattle.std.specs.Option.{option_map}
use Rattle.wjs_base.specs.Text.{Table, Grows}
use Rattle.wjs_store.specs.Meaning.{Meaning, PlainAct, PlainReply, Does}
use Rattle.wjs_by_content.specs.Renamed.{Holds}
use Rattle.wjs_by_content.proofs.Found.{holds_append}
use Rattle.wjs_by_content.specs.Plans.{Told}
use Rattle.wjs_by_content.specs.Worlds.{told_in, told_by, KnowsWorlds, KnowsAct, KnowsReply}
use Rattle.wjs_by_content.proofs.Replies.{answer_knows, act_grows, reply_grows}
use Rattle.wjs_heap.specs.Heap.{KnowsTold}

-- an action that was done is known, and its answer
abbrev KnowsEntry : Table → PlainAct × PlainReply → Type 0
KnowsEntry texts e = KnowsAct texts e.0 × KnowsReply texts e.1

module _ (old new : Table) (g : Grows old new) where
  entries_grow : (es : List (PlainAct × PlainReply)) → Holds (KnowsEntry old) es → Holds (KnowsEntry new) es × (each (told_in new) es ≡ each (told_in old) es)
  entries_grow [] k = (tt, refl)
  entries_grow (e ∷ es) k =
      let act = act_grows old new g e.0 k.0.0 in
      let reply = reply_grows old new g e.1 k.0.1 in
      let more = entries_grow es k.1 in
      (((act.0, reply.0), more.0), λ i. (act.1 i, reply.1 i) ∷ more.1 i)

  -- told actions that a table knows are known by later ones
  pub told_stays : (told : Option (List (PlainAct × PlainReply))) → KnowsTold old told → KnowsTold new told
  told_stays None k = tt
  told_stays (Some done) k = (entries_grow done k).0

  -- and have their contents there
  pub told_grows : (told : Option (List (PlainAct × PlainReply))) → KnowsTold old told → told_by new told ≡ told_by old told
  told_grows None k = refl
  told_grows (Some done) k = ap (λ (l : List Told). Some l) (entries_grow done k).1

one_more : (texts : Table) (told : Option (List (PlainAct × PlainReply))) (e : PlainAct × PlainReply) → KnowsEntry texts e → KnowsTold texts told → KnowsTold texts (option_map (λ done. done ++ e ∷ []) told)
one_more texts None e h k = tt
one_more texts (Some done) e h k = holds_append (KnowsEntry texts) done (e ∷ []) k (h, tt)

-- after an action of a store whose worlds the table knows
pub told_after : (texts : Table) (old : Meaning) (a : PlainAct) (answer : PlainReply) (new : Meaning) → Does old a answer new → IsTrue (new.admits new.own) → KnowsWorlds texts (old.full new.own) → KnowsAct texts a → KnowsTold texts old.told → KnowsTold texts new.told
told_after texts old a answer new does own k l told =
    let reply : KnowsReply texts answer = subst (KnowsReply texts) (sym (does.answers new.own own)) (answer_knows texts (old.full new.own) a k) in
    subst (KnowsTold texts) (sym does.told) (one_more texts old.told (a, answer) (l, reply) told)
