use Rattle.std.proofs.Common.{◌≡◌, Some, refl, sym, subst}
use Rattle.std.specs.Prelude.{OnOk}
use Rattle.wjs_base.specs.declared.ids.ObjId.{ObjId}
use Rattle.wjs_base.specs.declared.ids.TextId.{TextId}
use Rattle.wjs_base.specs.declared.values.Value.{Value}
use Rattle.wjs_base.specs.declared.values.Value.TheVariants as values
use Rattle.wjs_base.specs.Text.{Table}
use Rattle.wjs_by_content.specs.Names.{slot, message_name}
use Rattle.wjs_by_content.specs.Tables.{value_in}
use Rattle.wjs_meaning.specs.Deeds.{Env, Act, Do, Write}
use Rattle.wjs_meaning.specs.NativesOfObjects.{error_message, give_object}
use Rattle.wjs_frames.specs.Following.{Follows}
use Rattle.wjs_frames.specs.Parts.{env_in}
use Rattle.wjs_frames.specs.Handling.{IsRunning}
use Rattle.wjs_frames.proofs.Handling.{running_later}
use Rattle.wjs_native_core.proofs.errors.new_error.Goals as goal
use Rattle.wjs_native_core.proofs.errors.new_error.Goals.{in-Text+in_ok-write_known, in_default}

-- a text is written
written : (t : Table) (o : ObjId) (v : Value) (id : TextId) (env : Env) → v ≡ values.Text id → Do (Write env.world (slot o message_name) (Some (value_in t v))) (λ done. give_object o) ≡ error_message o (value_in t v) env
written t o v id env e = subst (λ (x : Value). Do (Write env.world (slot o message_name) (Some (value_in t x))) (λ done. give_object o) ≡ error_message o (value_in t x) env) (sym e) refl

-- and nothing else
unwritten : (t : Table) (o : ObjId) (v : Value) (env : Env) → ((id : TextId) → v ≡ values.Text id → ⊥) → give_object o ≡ error_message o (value_in t v) env
unwritten t o values.Undefined env h = refl
unwritten t o values.Null env h = refl
unwritten t o (values.Bool b) env h = refl
unwritten t o (values.Number x) env h = refl
unwritten t o (values.Text id) env h = absurd (h id refl)
unwritten t o (values.Object p) env h = refl

pub returns : goal.returns
returns g c =
    let m = g.S.WorldStore.meaning in
    let old = c.args.config.now in
    let mid = c.create_fault.new.config in
    let new = c.give.new.config in
    let t = new.heap.texts in
    let r = c.give.result in
    let env = env_in m old t c.args.frame in
    let o = c.in_ok-error.error in
    let v = c.args.message in
    c.in_ok-error.ensures.does.by (λ x. error_message x (value_in t v) env) new r (elim c.match-message.branch [
      | in-Text+in_ok-write_known w ↦ subst (λ (a : Act). OnOk r (Follows m a mid new)) (written t o v _ env w.in-Text.is)
          (w.in_ok-write_known.ensures.does.by (λ done. give_object o) new r (subst (λ q. OnOk r (Follows m (give_object o) q new)) w.config-is c.give.ensures))
      | in_default w ↦ subst (λ (a : Act). OnOk r (Follows m a mid new)) (unwritten t o v env w.in_default.not-Text)
          (subst (λ q. OnOk r (Follows m (give_object o) q new)) w.config-is c.give.ensures)
    ])

pub write_known-requires-clause-there : goal.write_known-requires-clause-there
write_known-requires-clause-there g c = c.in_ok-error.ensures.later.frames c.args.frame c.requires.runs.there

pub give-requires-clause-running : goal.give-requires-clause-running
give-requires-clause-running g c =
    let m = g.S.WorldStore.meaning in
    let made = running_later _ _ _ c.requires.runs.running c.in_ok-error.ensures.later in
    elim c.match-message.branch [
      | in-Text+in_ok-write_known w ↦ subst (IsRunning m) (sym w.config-is) (running_later _ _ _ made w.in_ok-write_known.ensures.later)
      | in_default w ↦ subst (IsRunning m) (sym w.config-is) made
    ]
