-- A variable of a program is declared on the global object.
use Rattle.std.proofs.Common.{◌≡◌, Option, None, Some, refl, sym, subst}
use Rattle.std.specs.Prelude.{OnOk, Result, Ok, Err, IfOk}
use Rattle.std.proofs.lemmas.Result.{on_ok_weaker}
use Rattle.wjs_base.specs.declared.ids.OutOfMemory.{OutOfMemory}
use Rattle.wjs_base.specs.declared.ids.TextId.{TextId}
use Rattle.wjs_base.specs.declared.values.Name.{Name}
use Rattle.wjs_base.specs.declared.values.Value.{Value as NumberedValue}
use Rattle.wjs_base.specs.declared.values.Value.TheVariants as values
use Rattle.wjs_base.specs.declared.values.Content.{Content}
use Rattle.wjs_base.specs.declared.values.Content.TheVariants as contents
use Rattle.wjs_base.specs.Text.{Table, Grows}
use Rattle.wjs_base.proofs.TextLaws.{Grows-trans}
use Rattle.wjs_store.specs.Meaning.{Meaning}
use Rattle.wjs_by_content.specs.Names.{slot}
use Rattle.wjs_by_content.specs.Tables.{text_in, name_in, value_in, content_in}
use Rattle.wjs_by_content.specs.Values.{Text, Value, Undefined}
use Rattle.wjs_heap.specs.Means.{nothing}
use Rattle.wjs_meaning.specs.Deeds.{Act, Do, Read, Write}
use Rattle.wjs_model.specs.declared.config.Config.{Config}
use Rattle.wjs_model.specs.declared.frame.Activation.{Activation as Frame}
use Rattle.wjs_frames.specs.Doing.{Does, DoesFirst}
use Rattle.wjs_frames.specs.Following.{Follows, Later}
use Rattle.wjs_frames.specs.Parts.{env_in}
use Rattle.wjs_variables.specs.Filling.{variable_declared}

-- a call that answers nothing
pub on_unit : (P : Type 0) (r : Result (Unit {0}) OutOfMemory) → IfOk r (λ (u : Unit {0}). P) → OnOk r P
on_unit P (Ok u) h = h
on_unit P (Err e) h = tt

pub on_both : {P Q R : Type 0} (r : Result (Unit {0}) OutOfMemory) → (P → Q → R) → OnOk r P → OnOk r Q → OnOk r R
on_both (Ok u) go p q = go p q
on_both (Err e) go p q = tt

module _ {S : Type 0} (meaning : S → Meaning) (f : Frame) (id : TextId) (name : Name) (old mid : Config S) (found : Content) (named : (t : Table) → Grows old.heap.texts t → name_in t name ≡ text_in t id)
    (reads : Does meaning (λ t go. Do (Read f.world (slot old.global (name_in t name))) go) (λ t. content_in t found) old mid) (first : Later meaning old mid) where
  -- what follows what was found
  abbrev then : Table → Act → Option Value → Act
  then t act (Some v) = act
  then t act None = Do (Write f.world (slot old.global (text_in t id)) (Some Undefined)) (λ done. act)

  declared : (t : Table) (act : Act) → Do (Read f.world (slot old.global (text_in t id))) (then t act) ≡ variable_declared (text_in t id) (env_in meaning old t f) act
  declared t act = λ i. Do (Read f.world (slot old.global (text_in t id))) (λ o. same o i)
    where
      same : (o : Option Value) → then t act o ≡ (elim o [
        | Some v ↦ act
        | None ↦ Do (Write f.world (slot old.global (text_in t id)) (Some Undefined)) (λ done. act)
      ])
      same (Some v) = refl
      same None = refl

  reading : (act : Act) (later : Config S) → Grows mid.heap.texts later.heap.texts → Follows meaning (then later.heap.texts act (content_in later.heap.texts found)) mid later → Follows meaning (variable_declared (text_in later.heap.texts id) (env_in meaning old later.heap.texts f) act) old later
  reading act later g k =
      let t = later.heap.texts in
      subst (λ (a : Act). Follows meaning a old later) (declared t act)
      (subst (λ (x : Text). Follows meaning (Do (Read f.world (slot old.global x)) (then t act)) old later) (named t (Grows-trans old.heap.texts mid.heap.texts t first.texts g)) (reads.by (then t act) later (Ok tt) k))

  -- it is there
  pub variable_there : (v : NumberedValue) → found ≡ contents.Present v → DoesFirst meaning (λ t. variable_declared (text_in t id) (env_in meaning old t f)) old mid
  variable_there v is = record {
    by = λ act later r h. on_ok_weaker r (λ (k : Follows meaning act mid later).
        reading act later k.keeps.stays.texts (subst (λ (c : Content). Follows meaning (then later.heap.texts act (content_in later.heap.texts c)) mid later) (sym is) k)) h;
  }

  -- it is absent, and written
  pub variable_written : (new : Config S) → found ≡ contents.Absent → Does meaning (λ t go. Do (Write f.world (slot old.global (name_in t name)) (Some (value_in t values.Undefined))) go) (λ t. nothing) mid new → Later meaning mid new → DoesFirst meaning (λ t. variable_declared (text_in t id) (env_in meaning old t f)) old new
  variable_written new is writes second = record {
    by = λ act later r h. on_ok_weaker r (λ (k : Follows meaning act new later).
        let t = later.heap.texts in
        let g = Grows-trans mid.heap.texts new.heap.texts t second.texts k.keeps.stays.texts in
        let written = subst (λ (x : Text). Follows meaning (Do (Write f.world (slot old.global x) (Some Undefined)) (λ done. act)) mid later) (named t (Grows-trans old.heap.texts mid.heap.texts t first.texts g)) (writes.by (λ done. act) later (Ok tt) k) in
        reading act later g (subst (λ (c : Content). Follows meaning (then t act (content_in t c)) mid later) (sym is) written)) h;
  }
