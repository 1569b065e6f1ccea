-- How stores carry out plans.
use Rattle.std.proofs.Common.{◌≡◌, true, List, [], ◌∷◌, ◌++◌, Option, None, Some, refl, ap, sym, ◌∙◌, IsTrue, append_assoc, append-nil}
use Rattle.std.specs.Option.{option_map}
use Rattle.std.proofs.lemmas.List.{map-append}
use Rattle.wjs_base.specs.declared.ids.ObjId.{ObjId}
use Rattle.wjs_base.specs.declared.ids.WorldId.{WorldId}
use Rattle.wjs_base.specs.declared.values.Name.{Name}
use Rattle.wjs_base.specs.declared.values.Slot.{Slot as NumberedSlot}
use Rattle.wjs_base.specs.declared.values.Content.{Content}
use Rattle.wjs_base.specs.Text.{Table}
use Rattle.wjs_store.specs.Meaning.{Meaning, View, PlainAct, PlainReply, Does}
use Rattle.wjs_store.specs.Shown.{content_of, slots_of}
use Rattle.wjs_store.specs.State.{read, write, list, found, wrote, listed, answer_to, after}
use Rattle.wjs_by_content.specs.Renamed.{KnowsContent}
use Rattle.wjs_by_content.proofs.Store.{does_named}
use Rattle.wjs_by_content.specs.Values.{Text, Value}
use Rattle.wjs_by_content.specs.Plans.{Plan, Gives, Reads, Writes, Lists, Told, Heard, Found, Listed, heard, told_of, answer_of, worlds_after, actions_of, then_plan}
use Rattle.wjs_by_content.specs.Tables.{slot_in, content_in, knows_slot}
use Rattle.wjs_by_content.specs.Telling.{names_of}
use Rattle.wjs_by_content.specs.Worlds.{worlds_in, act_in, heard_in, told_in, told_by, listing, KnowsWorlds, KnowsAct}
use Rattle.wjs_by_content.specs.Carried.{Carries, tell}
use Rattle.wjs_by_content.proofs.Listings.{same_heard}
use Rattle.wjs_by_content.proofs.PlanLaws.{answer_then, worlds_then, actions_then}

tell_nothing : (told : Option (List Told)) → told ≡ tell [] told
tell_nothing None = refl
tell_nothing (Some done) = ap Some (sym (append-nil done))

tell_twice : (more again : List Told) (told : Option (List Told)) → tell again (tell more told) ≡ tell (more ++ again) told
tell_twice more again None = refl
tell_twice more again (Some done) = ap Some (append_assoc done more again)

tell_one : (texts : Table) (e : PlainAct × PlainReply) (told : Option (List (PlainAct × PlainReply))) → told_by texts (option_map (λ done. done ++ e ∷ []) told) ≡ tell (told_in texts e ∷ []) (told_by texts told)
tell_one texts e None = refl
tell_one texts e (Some done) = ap Some (map-append (told_in texts) done (e ∷ []))

-- nothing is done
pub carries_nothing : {A : Type 0} (texts : Table) (w : WorldId) (a : A) (m : Meaning) (v : View) → KnowsWorlds texts (m.full v) → Carries texts w (Gives a) a m m v
carries_nothing texts w a m v k = record { answers = refl; worlds = refl; told = tell_nothing (told_by texts m.told); knows = k }

-- one plan and then another
pub carries_then : {A B : Type 0} (texts : Table) (w : WorldId) (p : Plan A) (go : A → Plan B) (a : A) (b : B) (old mid new : Meaning) (v : View)
    → Carries texts w p a old mid v → Carries texts w (go a) b mid new v → Carries texts w (then_plan p go) b old new v
carries_then texts w p go a b old mid new v f s =
    let F = worlds_in texts (old.full v) in
    record {
      answers = s.answers ∙ (λ i. answer_of (go (f.answers i)) w (f.worlds i)) ∙ sym (answer_then go w p F);
      worlds = s.worlds ∙ (λ i. worlds_after (go (f.answers i)) w (f.worlds i)) ∙ sym (worlds_then go w p F);
      told = s.told ∙ (λ i. tell (actions_of (go (f.answers i)) w (f.worlds i)) (f.told i))
          ∙ tell_twice (actions_of p w F) (actions_of (go (answer_of p w F)) w (worlds_after p w F)) (told_by texts old.told)
          ∙ ap (λ more. tell more (told_by texts old.told)) (sym (actions_then go w p F));
      knows = s.knows;
    }

-- an action of a store, in contents
module _ (texts : Table) (old : Meaning) (a : PlainAct) (answer : PlainReply) (new : Meaning) (d : Does old a answer new) (v : View) (h : IsTrue (new.admits v)) (k : KnowsWorlds texts (old.full v)) (l : KnowsAct texts a) where
  pub heard_so : heard_in texts answer ≡ heard (answer_to (worlds_in texts (old.full v)) (act_in texts a))
  heard_so = ap (heard_in texts) (d.answers v h) ∙ same_heard texts (old.full v) a k l

  pub told_so : told_by texts new.told ≡ tell (told_of (worlds_in texts (old.full v)) (act_in texts a) ∷ []) (told_by texts old.told)
  told_so = ap (told_by texts) d.told ∙ tell_one texts (a, answer) old.told ∙ ap (λ (e : Heard). tell ((act_in texts a, e) ∷ []) (told_by texts old.told)) heard_so

  pub worlds_so : worlds_in texts (new.full v) ≡ after (worlds_in texts (old.full v)) (act_in texts a)
  worlds_so = (does_named (names_of texts) old a answer new d v h k l).worlds

  pub knows_so : KnowsWorlds texts (new.full v)
  knows_so = (does_named (names_of texts) old a answer new d v h k l).known

-- what a read found, and what a listing listed
found_is : (c d : Option Value) → Found c ≡ Found d → c ≡ d
found_is c d e = cc

listed_is : (ns ms : List Text) → Listed ns ≡ Listed ms → ns ≡ ms
listed_is ns ms e = cc

pub carries_read : (texts : Table) (w : WorldId) (s : NumberedSlot) (c : Content) (old new : Meaning) → Does old (read w s) (found (content_of c)) new → (v : View) → IsTrue (new.admits v) → KnowsWorlds texts (old.full v) → knows_slot texts s ≡ true
    → Carries texts w (Reads (slot_in texts s) Gives) (content_in texts c) old new v
carries_read texts w s c old new d v h k l = record {
  answers = found_is _ _ (heard_so texts old (read w s) (found (content_of c)) new d v h k l);
  worlds = worlds_so texts old (read w s) (found (content_of c)) new d v h k l;
  told = told_so texts old (read w s) (found (content_of c)) new d v h k l;
  knows = knows_so texts old (read w s) (found (content_of c)) new d v h k l;
}

pub carries_write : (texts : Table) (w : WorldId) (s : NumberedSlot) (c : Content) (old new : Meaning) → Does old (write w s (content_of c)) wrote new → (v : View) → IsTrue (new.admits v) → KnowsWorlds texts (old.full v) → knows_slot texts s ≡ true → KnowsContent (names_of texts) (content_of c)
    → Carries {A = Unit {0}} texts w (Writes (slot_in texts s) (content_in texts c) (Gives tt)) tt old new v
carries_write texts w s c old new d v h k l m = record {
  answers = refl;
  worlds = worlds_so texts old (write w s (content_of c)) wrote new d v h k (l, m);
  told = told_so texts old (write w s (content_of c)) wrote new d v h k (l, m);
  knows = knows_so texts old (write w s (content_of c)) wrote new d v h k (l, m);
}

pub carries_list : (texts : Table) (w : WorldId) (o : ObjId) (names : List Name) (old new : Meaning) → Does old (list w o) (listed (slots_of o names)) new → (v : View) → IsTrue (new.admits v) → KnowsWorlds texts (old.full v)
    → Carries texts w (Lists o Gives) (listing texts o names) old new v
carries_list texts w o names old new d v h k = record {
  answers = listed_is _ _ (heard_so texts old (list w o) (listed (slots_of o names)) new d v h k tt);
  worlds = worlds_so texts old (list w o) (listed (slots_of o names)) new d v h k tt;
  told = told_so texts old (list w o) (listed (slots_of o names)) new d v h k tt;
  knows = knows_so texts old (list w o) (listed (slots_of o names)) new d v h k tt;
}
