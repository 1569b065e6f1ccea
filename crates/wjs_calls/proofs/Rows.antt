-- Deeds one after another.
use Rattle.std.proofs.Common.{◌≡◌, List, sym, ap, subst}
use Rattle.std.specs.Prelude.{Result, Ok, Err, OnOk, IfOk}
use Rattle.std.proofs.lemmas.Result.{on_ok_weaker}
use Rattle.wjs_base.specs.declared.ids.OutOfMemory.{OutOfMemory}
use Rattle.wjs_base.specs.declared.ids.WorldId.{WorldId}
use Rattle.wjs_base.specs.Text.{Table, Grows}
use Rattle.wjs_base.proofs.TextLaws.{Grows-trans}
use Rattle.wjs_store.specs.Meaning.{Meaning}
use Rattle.wjs_by_content.specs.Names.{Slot}
use Rattle.wjs_by_content.specs.Values.{Value}
use Rattle.wjs_meaning.specs.Deeds.{Env, Act, write_all}
use Rattle.wjs_model.specs.declared.config.Config.{Config}
use Rattle.wjs_model.specs.declared.frame.Activation.{Activation as Frame}
use Rattle.wjs_frames.specs.Doing.{DoesFirst}
use Rattle.wjs_frames.specs.Following.{Follows, Later}
use Rattle.wjs_frames.specs.Parts.{env_in}
use Rattle.wjs_heap_steps.proofs.Composing.{env_later}
use Rattle.wjs_heap_steps.proofs.Later.{later_twice}
use Rattle.wjs_calls.specs.Leaving.{Leaves}

module _ {S : Type 0} (meaning : S → Meaning) where
  -- the same deeds under every table that comes after
  pub first_same : (one two : Table → Act → Act) (old mid : Config S) → ((t : Table) → Grows mid.heap.texts t → (act : Act) → two t act ≡ one t act) → DoesFirst meaning one old mid → DoesFirst meaning two old mid
  first_same one two old mid e d = record {
    by = λ act later r h. on_ok_weaker r (λ (k : Follows meaning act mid later). subst (λ x. Follows meaning x old later) (sym (e later.heap.texts k.keeps.stays.texts act)) (d.by act later (Ok tt) k)) h;
  }

  -- where they are run stays
  pub first_env : (f : Frame) (deeds : Env → Table → Act → Act) (old mid new : Config S) → Later meaning old mid → DoesFirst meaning (λ t. deeds (env_in meaning mid t f) t) mid new → DoesFirst meaning (λ t. deeds (env_in meaning old t f) t) mid new
  first_env f deeds old mid new l d = first_same (λ t. deeds (env_in meaning mid t f) t) (λ t. deeds (env_in meaning old t f) t) mid new (λ t g act. ap (λ e. deeds e t act) (sym (env_later meaning old mid t f l))) d

  -- ---- deeds of which some are left

  pub leaves_all : (all : Table → Act → Act) (old : Config S) → Leaves meaning all all old old
  leaves_all all old = record { by = λ act later r h. h }

  -- one more is done
  pub leaves_less : (all rest one less : Table → Act → Act) (old cur next : Config S) → ((t : Table) → Grows next.heap.texts t → (act : Act) → rest t act ≡ one t (less t act)) → Leaves meaning all rest old cur → DoesFirst meaning one cur next → Leaves meaning all less old next
  leaves_less all rest one less old cur next e l d = record {
    by = λ act later r h. on_ok_weaker r (λ (k : Follows meaning (less later.heap.texts act) next later).
        l.by act later (Ok tt) (subst (λ x. Follows meaning x cur later) (sym (e later.heap.texts k.keeps.stays.texts act)) (d.by (less later.heap.texts act) later (Ok tt) k))) h;
  }

  -- more of them are done
  pub leaves_twice : (all rest less : Table → Act → Act) (old cur next : Config S) → Leaves meaning all rest old cur → Leaves meaning rest less cur next → Leaves meaning all less old next
  leaves_twice all rest less old cur next l k = record { by = λ act later r h. l.by act later r (k.by act later r h) }

  -- none is left
  pub leaves_none : (all rest : Table → Act → Act) (old cur : Config S) → ((t : Table) (act : Act) → rest t act ≡ act) → Leaves meaning all rest old cur → DoesFirst meaning all old cur
  leaves_none all rest old cur e l = record { by = λ act later r h. l.by act later r (subst (λ x. OnOk r (Follows meaning x cur later)) (sym (e later.heap.texts act)) h) }

-- a call that answers nothing
pub ok_without : {P : Unit {0} → Type 0} {Q : Type 0} (r : Result (Unit {0}) OutOfMemory) → IfOk r P → ((x : Unit {0}) → P x → Q) → OnOk r Q
ok_without (Ok x) h f = f x h
ok_without (Err e) h f = tt

-- and leaves something
pub ok_leaving : {P : Unit {0} → Type 0} {L Q : Type 0} (r : Result (Unit {0}) OutOfMemory) → IfOk r P → OnOk r L → ((x : Unit {0}) → P x → L → Q) → OnOk r Q
ok_leaving (Ok x) h l f = f x h l
ok_leaving (Err e) h l f = tt

pub ok_later : {S : Type 0} (meaning : S → Meaning) (old mid new : Config S) (r : Result (Unit {0}) OutOfMemory) → Later meaning old mid → OnOk r (Later meaning mid new) → OnOk r (Later meaning old new)
ok_later meaning old mid new r f h = on_ok_weaker r (λ (s : Later meaning mid new). later_twice meaning old mid new f s) h

pub any_later : {S A : Type 0} (meaning : S → Meaning) (old mid new : Config S) (r : Result A OutOfMemory) → Later meaning old mid → OnOk r (Later meaning mid new) → OnOk r (Later meaning old new)
any_later meaning old mid new (Ok x) f h = later_twice meaning old mid new f h
any_later meaning old mid new (Err e) f h = tt

-- the programs stay
pub same_units : {S : Type 0} (meaning : S → Meaning) (old new : Config S) → Later meaning old new → new.units.items ≡ old.units.items
same_units meaning old new l = λ i. (l.units i).items

-- two things that hold after a call
both_ok : {A : Type 0} (P Q : Type 0) (r : Result A OutOfMemory) → OnOk r P → OnOk r Q → OnOk r (P × Q)
both_ok P Q (Ok x) p q = (p, q)
both_ok P Q (Err e) p q = tt

-- what was written, said otherwise
pub written_as : {S : Type 0} (meaning : S → Meaning) (w : WorldId) (r : Result (Unit {0}) OutOfMemory) (one two : Table → List (Slot × Value)) (old new : Config S)
    → OnOk r (DoesFirst meaning (λ t. write_all w (one t)) old new) → OnOk r (Later meaning old new) → ((t : Table) → Grows old.heap.texts t → one t ≡ two t) → OnOk r (DoesFirst meaning (λ t. write_all w (two t)) old new)
written_as meaning w r one two old new does later same =
    on_ok_weaker r
    (λ (both : DoesFirst meaning (λ t. write_all w (one t)) old new × Later meaning old new).
    first_same meaning (λ t. write_all w (one t)) (λ t. write_all w (two t)) old new (λ t more act. ap (λ es. write_all w es act) (sym (same t (Grows-trans old.heap.texts new.heap.texts t both.1.texts more)))) both.0)
    (both_ok (DoesFirst meaning (λ t. write_all w (one t)) old new) (Later meaning old new) r does later)
