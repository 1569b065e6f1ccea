-- What a session tells makes the marks of its world: one action more.
use Rattle.std.proofs.Common.{◌≡◌, true, List, [], ◌∷◌, ◌++◌, refl, ap, sym, ◌∙◌}
use Rattle.std.specs.FinMap as map
use Rattle.std.proofs.lemmas.List.{map-append}
use Rattle.wjs_base.specs.declared.ids.WorldId.{WorldId}
use Rattle.wjs_store.specs.Naming.{Naming, plain}
use Rattle.wjs_store.specs.Meaning.{Worlds, PlainAct, PlainReply}
use Rattle.wjs_store.specs.State.{World, State, Act, has_world, after}
use Rattle.wjs_store.proofs.Commits.{find_at_here}
use Rattle.wjs_session.specs.Session.{holding, world_at, around_of}
use Rattle.wjs_session.specs.Kept.{IsSession}
use Rattle.wjs_session.specs.Along.{marked_by, along}
use Rattle.wjs_session.specs.Tells.{actions_of, unmarked, TellsMarks}
use Rattle.wjs_session.specs.Calls.{Answered, Marks}
use Rattle.wjs_session.proofs.Worlds.{found_at, at_found}

along_push : {K V : Type 0} {n : Naming K V} (actions : List (Act K V)) (a : Act K V) (G : State n) (x : World n) → along (actions ++ a ∷ []) G x ≡ (after (along actions G x).0 a, marked_by (along actions G x).0 (along actions G x).1 a)
along_push [] a G x = refl
along_push (b ∷ actions) a G x = along_push actions a (after G b) (marked_by G x b)

-- a world without what it holds and without its marks
abbrev hidden : World plain → World plain
hidden y = record y { copy = map.empty; first = map.empty; written = map.empty; closed = map.empty }

around_is : (F : Worlds) (i : WorldId) → has_world F i ≡ true → world_at (around_of F i) i ≡ hidden (world_at F i)
around_is F i there = at_found (around_of F i) i (hidden (world_at F i)) (find_at_here i hidden (λ y. refl) F (world_at F i) (found_at F i there))

hidden_same : (F F' : Worlds) (i : WorldId) → has_world F i ≡ true → has_world F' i ≡ true → around_of F' i ≡ around_of F i → hidden (world_at F' i) ≡ hidden (world_at F i)
hidden_same F F' i there there' around = sym (around_is F' i there') ∙ ap (λ H. world_at H i) around ∙ around_is F i there

pub tells_more : (F : Worlds) (i : WorldId) (G : Worlds) (a : PlainAct) (r : PlainReply) (F' G' : Worlds) (told told' : List (PlainAct × PlainReply)) → IsSession F i G → TellsMarks (world_at F i) G told → Answered F i G a r F' G' → Marks F i G a F' → told' ≡ told ++ (a, r) ∷ [] → TellsMarks (world_at F' i) G' told'
tells_more F i G a r F' G' told told' k old d m e = λ v p.
    let x = world_at F i in
    let y = world_at F' i in
    let bare : hidden y ≡ hidden x = hidden_same F F' i k.child.there d.kept.child.there d.does.around in
    (λ j. along (actions_of (e j)) (holding (bare j).id v ∷ []) (record (bare j) { copy = v }))
    ∙ ap (λ (actions : List PlainAct). along actions (holding x.id v ∷ []) (unmarked x v)) (map-append (λ (q : PlainAct × PlainReply). q.0) told ((a, r) ∷ []))
    ∙ along_push (actions_of told) a (holding x.id v ∷ []) (unmarked x v)
    ∙ ap (λ (q : Worlds × World plain). (after q.0 a, marked_by q.0 q.1 a)) (old v (d.does.narrows v p))
    ∙ (λ j. (sym (d.does.worlds v p) j, sym (m v p) j))
