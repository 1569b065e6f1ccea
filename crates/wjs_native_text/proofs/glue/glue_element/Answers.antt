use Rattle.std.proofs.Common.{◌≡◌, ℕ, List, [], ◌∷◌, ◌++◌, drop, ◌+◌, ◌-◌, ◌<◌, sym, ap, ◌∙◌, subst, arith}
use Rattle.std.specs.Prelude.{All}
use Rattle.std.proofs.lemmas.List.Elements.{All-drop}
use Rattle.wjs_base.specs.declared.ids.ObjId.{ObjId}
use Rattle.wjs_base.specs.declared.values.Value.{Value as NumberedValue}
use Rattle.wjs_by_content.specs.Names.{slot, index_name}
use Rattle.wjs_by_content.specs.Tables.{value_in}
use Rattle.wjs_by_content.specs.Values.{value_or_undefined}
use Rattle.wjs_meaning.specs.Deeds.{Env, Do, Read}
use Rattle.wjs_meaning.specs.Errors.{give_text}
use Rattle.wjs_meaning.specs.NativesOfObjects.{text_of}
use Rattle.wjs_meaning.specs.NativesOfTexts as line
use Rattle.wjs_model.specs.declared.frame.Activation.{Activation as Frame}
use Rattle.wjs_model.specs.declared.frame.Held.TheVariants as holds
use Rattle.wjs_model.specs.Contents.{holding_in, values_held}
use Rattle.wjs_model.specs.Frames.{earliest_first}
use Rattle.wjs_model.specs.Soundness.{HasValue}
use Rattle.wjs_frames.proofs.Held.{values_there}
use Rattle.wjs_frames.specs.Parts.{env_in}
use Rattle.wjs_step_common.proofs.Following.{follows_as, env_later}
use Rattle.wjs_native_text.proofs.Gluing.{held_over, glue_rest, glue_onward, behind_first, all_pieces}
use Rattle.wjs_frames.specs.Handling.{Runs}
use Rattle.wjs_frames.proofs.Handling.{runs_later, runs_held}
use Rattle.wjs_native_text.proofs.glue.glue_element.Goals as goal

pub due_later-requires-clause-runs : goal.due_later-requires-clause-runs
due_later-requires-clause-runs g c =
    let m = g.S.WorldStore.meaning in
    let mid = c.read.new.config in
    let f = c.args.frame in
    let piece = c.in_ok-piece.piece in
    let sep = c.held_value-separator.result in
    let elements = c.held_elements-count.result in
    let later = c.in_ok-piece.ensures.later in
    let frame = held_over c.hold_separator.new.frame c.hold.new.self f (holds.Value piece ∷ f.held) sep elements.0 elements.1 c.in_ok-hold_separator.ensures c.in_ok-hold.ensures.ok in
    subst (Runs m mid) (sym frame) (runs_held m mid f (holds.Elements elements.0 elements.1 ∷ holds.Value sep ∷ holds.Value piece ∷ f.held) (runs_later _ _ _ _ c.requires.runs later)
    (later.objects elements.0 c.held_elements-count.ensures.found, (later.values sep c.held_value-separator.ensures.found, (c.in_ok-piece.ensures.found, (later.frames f c.requires.runs.there).held))))

pub give_joined-requires-clause-values : goal.give_joined-requires-clause-values
give_joined-requires-clause-values g c =
    let mid = c.read.new.config in
    let f = c.args.frame in
    let there = c.in_ok-piece.ensures.later.frames f c.requires.runs.there in
    let held = holds.Value c.in_ok-piece.piece ∷ f.held in
    let is = c.deref.ensures.value ∙ c.in_ok-values.ensures ∙ ap (λ (q : Frame). earliest_first (values_held q.held)) c.in_ok-hold.ensures.ok in
    let all = subst (λ (l : List NumberedValue). All (HasValue mid) l) (sym is) (values_there mid held (c.in_ok-piece.ensures.found, there.held)) in
    let found = c.deref.result.now in
    subst (λ (l : List NumberedValue). All (HasValue mid) l) (sym (behind_first found)) (All-drop (HasValue mid) 1 found all)

pub returns-then-next-count : goal.returns-then-next-count
returns-then-next-count g c =
    let m = g.S.WorldStore.meaning in
    let old = c.args.config.now in
    let mid = c.read.new.config in
    let new = c.due_later.new.config in
    let t = new.heap.texts in
    let r = c.due_later.result in
    let f = c.args.frame in
    let env = env_in m old t f in
    let held = holding_in t f.held in
    let i = c.args.at in
    let piece = c.in_ok-piece.piece in
    let sep = c.held_value-separator.result in
    let elements = c.held_elements-count.result in
    let frame = held_over c.hold_separator.new.frame c.hold.new.self f (holds.Value piece ∷ f.held) sep elements.0 elements.1 c.in_ok-hold_separator.ensures c.in_ok-hold.ensures.ok in
    let less : c.in_ok-next.next < elements.1 = omega (arith, c.if-next-count.true) in
    let reads = ap (λ (x : ObjId × ℕ). Do (Read env.world (slot x.0 (index_name i))) (λ found. glue_rest i held env (value_or_undefined found))) c.held_elements-count.ensures.is in
    follows_as m _ _ old new r (λ grows. reads)
    (c.in_ok-piece.ensures.does.by (glue_rest i held env) new r
    (follows_as m _ (glue_rest i held env (value_in t piece)) mid new r
    (λ more.
    glue_onward t f.held c.in_ok-next.next i piece sep elements (env_in m mid t f) c.in_ok-next.ensures c.held_value-separator.ensures.is c.held_elements-count.ensures.is less
    ∙ ap (λ (x : Env). glue_rest i held x (value_in t piece)) (env_later m old mid t f c.in_ok-piece.ensures.later))
    (rw frame at c.due_later.ensures)))

pub returns : goal.returns
returns g c =
    let m = g.S.WorldStore.meaning in
    let old = c.args.config.now in
    let mid = c.read.new.config in
    let new = c.give_joined.new.config in
    let t = new.heap.texts in
    let r = c.give_joined.result in
    let f = c.args.frame in
    let env = env_in m old t f in
    let held = holding_in t f.held in
    let i = c.args.at in
    let piece = c.in_ok-piece.piece in
    let count = ap (λ (x : ObjId × ℕ). x.1) c.held_elements-count.ensures.is in
    let none : 0 ≡ held.elements.1 - (i + 1) = omega (arith, count, c.if-next-count.false, c.in_ok-next.ensures) in
    let reads = ap (λ (x : ObjId × ℕ). Do (Read env.world (slot x.0 (index_name i))) (λ found. glue_rest i held env (value_or_undefined found))) c.held_elements-count.ensures.is in
    let so_far = line.joined (drop 1 (held.values ++ value_in t piece ∷ [])) in
    follows_as m _ _ old new r (λ grows. reads)
    (c.in_ok-piece.ensures.does.by (glue_rest i held env) new r
    (follows_as m _ (glue_rest i held env (value_in t piece)) mid new r
    (λ more.
    ap (λ u. give_text u (env_in m mid t f)) (all_pieces t f.held c.hold.new.self.held piece c.deref.result.now (ap (λ (q : Frame). q.held) c.in_ok-hold.ensures.ok) (c.deref.ensures.value ∙ c.in_ok-values.ensures))
    ∙ ap (λ (x : Env). give_text so_far x) (env_later m old mid t f c.in_ok-piece.ensures.later)
    ∙ ap (λ k. line.glue_from k (i + 1) so_far (text_of held.value) held.elements.0 env) none)
    (rw c.in_ok-hold.ensures.ok at c.give_joined.ensures)))
