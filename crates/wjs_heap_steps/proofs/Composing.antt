-- Deeds one after another.
use Rattle.std.proofs.Common.{◌≡◌, sym, subst}
use Rattle.std.specs.Prelude.{Result, Ok, Err, IfOk, OnOk}
use Rattle.std.proofs.lemmas.Result.{on_ok_weaker}
use Rattle.wjs_base.specs.Text.{Table, Grows}
use Rattle.wjs_store.specs.Meaning.{Meaning}
use Rattle.wjs_base.specs.declared.ids.ObjId.{ObjId}
use Rattle.wjs_by_content.specs.Objects.{Internals}
use Rattle.wjs_by_content.specs.Values.{Value, Object}
use Rattle.wjs_meaning.specs.Deeds.{Env, Act, Ret, Do, Create, Throws}
use Rattle.wjs_model.specs.declared.config.Config.{Config}
use Rattle.wjs_model.specs.declared.frame.Activation.{Activation as Frame}
use Rattle.wjs_frames.specs.Doing.{Does, Fails, DoesFirst, FailsFirst}
use Rattle.wjs_frames.specs.Following.{Follows, Later}
use Rattle.wjs_frames.specs.Parts.{env_in}
pub use Rattle.wjs_frames.proofs.Handling.{env_later}

-- throws the error that was made
abbrev pub throwing : ObjId → Act
throwing o = Ret (Throws (Object o))

module _ {S : Type 0} (meaning : S → Meaning) where
  -- in one shape: what is followed of one is followed of the other
  pub by_follows : {A : Type 0} (deeds : Table → (A → Act) → Act) (answer : Table → A) (old mid : Config S) → ((go : A → Act) (later : Config S) → Grows mid.heap.texts later.heap.texts → Follows meaning (go (answer later.heap.texts)) mid later → Follows meaning (deeds later.heap.texts go) old later)
      → Does meaning deeds answer old mid
  by_follows deeds answer old mid f = record { by = λ go later r h. on_ok_weaker r (λ (k : Follows meaning (go (answer later.heap.texts)) mid later). f go later k.keeps.stays.texts k) h }

  -- the same deeds and answer under every table that comes after
  pub does_same : {A : Type 0} (deeds others : Table → (A → Act) → Act) (answer other : Table → A) (old mid : Config S) → ((t : Table) → Grows mid.heap.texts t → (go : A → Act) → deeds t go ≡ others t go) → ((t : Table) → Grows mid.heap.texts t → answer t ≡ other t) → Does meaning deeds answer old mid → Does meaning others other old mid
  does_same deeds others answer other old mid e a d = by_follows others other old mid (λ go later g k.
      let t = later.heap.texts in
      subst (λ x. Follows meaning x old later) (e t g go) (d.by go later (Ok tt) (subst (λ x. Follows meaning (go x) mid later) (sym (a t g)) k)))

  -- deeds and then more deeds, which depend on the first answer
  pub does_then : {A B : Type 0} (deeds : Table → (A → Act) → Act) (answer : Table → A) (more : Table → A → (B → Act) → Act) (last : Table → B) (old mid new : Config S) → Does meaning deeds answer old mid → Does meaning (λ t. more t (answer t)) last mid new → Does meaning (λ t go. deeds t (λ x. more t x go)) last old new
  does_then deeds answer more last old mid new f s = record { by = λ go later r h. f.by (λ x. more later.heap.texts x go) later r (s.by go later r h) }

  -- another answer, which is made of the first
  pub does_map : {A B : Type 0} (deeds : Table → (A → Act) → Act) (answer : Table → A) (f : Table → A → B) (old mid : Config S) → Does meaning deeds answer old mid → Does meaning (λ t go. deeds t (λ x. go (f t x))) (λ t. f t (answer t)) old mid
  does_map deeds answer f old mid d = record { by = λ go later r h. d.by (λ x. go (f later.heap.texts x)) later r h }

  -- an answer that is there at once
  pub does_at_once : {A : Type 0} (answer : Table → A) (old : Config S) → Does meaning (λ t go. go (answer t)) answer old old
  does_at_once answer old = record { by = λ go later r h. h }

  -- deeds whose answer leads to a throw
  pub fails_then : {A B : Type 0} (deeds : Table → (A → Act) → Act) (answer : Table → A) (more : Table → A → (B → Act) → Act) (error : Table → Internals) (o : ObjId) (old mid new : Config S) → Does meaning deeds answer old mid → Later meaning old mid
      → ((t : Table) (go : B → Act) → more t (answer t) go ≡ Do (Create old.owner (error t)) throwing) → Does meaning (λ t go. Do (Create mid.owner (error t)) go) (λ t. o) mid new → Fails meaning (λ t go. deeds t (λ x. more t x go)) (λ t. Object o) old new
  fails_then deeds answer more error o old mid new f l e d = record {
    by = λ go later r h.
        let t = later.heap.texts in
        f.by (λ x. more t x go) later r (subst (λ a. OnOk r (Follows meaning a mid later)) (sym (e t go)) (subst (λ owner. OnOk r (Follows meaning (Do (Create owner (error t)) throwing) mid later)) l.owner (d.by throwing later r h)));
  }

  pub fails_first : {A : Type 0} (deeds : Table → (A → Act) → Act) (answer : Table → A) (more : Table → A → Act → Act) (error : Table → Internals) (o : ObjId) (old mid new : Config S) → Does meaning deeds answer old mid → Later meaning old mid
      → ((t : Table) (act : Act) → more t (answer t) act ≡ Do (Create old.owner (error t)) throwing) → Does meaning (λ t go. Do (Create mid.owner (error t)) go) (λ t. o) mid new → FailsFirst meaning (λ t act. deeds t (λ x. more t x act)) (λ t. Object o) old new
  fails_first deeds answer more error o old mid new f l e d = record {
    by = λ act later r h.
        let t = later.heap.texts in
        f.by (λ x. more t x act) later r (subst (λ a. OnOk r (Follows meaning a mid later)) (sym (e t act)) (subst (λ owner. OnOk r (Follows meaning (Do (Create owner (error t)) throwing) mid later)) l.owner (d.by throwing later r h)));
  }

  pub fails_same : {A : Type 0} (deeds others : Table → (A → Act) → Act) (error : Table → Value) (old mid : Config S) → ((t : Table) (go : A → Act) → deeds t go ≡ others t go) → Fails meaning deeds error old mid → Fails meaning others error old mid
  fails_same deeds others error old mid e d = record { by = λ go later r h. subst (λ x. OnOk r (Follows meaning x old later)) (e later.heap.texts go) (d.by go later r h) }

  -- deeds whose answer leads on
  pub does_first : {A : Type 0} (deeds : Table → (A → Act) → Act) (answer : Table → A) (more : Table → A → Act → Act) (old mid new : Config S) → Does meaning deeds answer old mid → DoesFirst meaning (λ t. more t (answer t)) mid new → DoesFirst meaning (λ t act. deeds t (λ x. more t x act)) old new
  does_first deeds answer more old mid new f s = record { by = λ act later r h. f.by (λ x. more later.heap.texts x act) later r (s.by act later r h) }

  -- nothing is done
  pub first_at_once : (deeds : Table → Act → Act) (old : Config S) → ((t : Table) (act : Act) → deeds t act ≡ act) → DoesFirst meaning deeds old old
  first_at_once deeds old e = record { by = λ act later r h. subst (λ a. OnOk r (Follows meaning a old later)) (sym (e later.heap.texts act)) h }

  -- one deed, and nothing of its answer
  pub first_by : {A : Type 0} (deeds : Table → (A → Act) → Act) (answer : Table → A) (old mid : Config S) → Does meaning deeds answer old mid → DoesFirst meaning (λ t act. deeds t (λ x. act)) old mid
  first_by deeds answer old mid d = record { by = λ act later r h. d.by (λ x. act) later r h }

  -- a name or text is found, under which deeds are done by the frame
  pub does_with : {A B : Type 0} (f : Frame) (said : Table → A) (shown : Table → A) (deeds : Table → A → Env → (B → Act) → Act) (answer : Table → B) (old mid new : Config S) → Does meaning (λ t go. go (said t)) shown old mid → Later meaning old mid
      → Does meaning (λ t. deeds t (shown t) (env_in meaning mid t f)) answer mid new → Does meaning (λ t. deeds t (said t) (env_in meaning old t f)) answer old new
  does_with f said shown deeds answer old mid new n l d = record {
    by = λ go later r h.
        let t = later.heap.texts in
        n.by (λ x. deeds t x (env_in meaning old t f) go) later r (subst (λ e. OnOk r (Follows meaning (deeds t (shown t) e go) mid later))
        (env_later meaning old mid t f l) (d.by go later r h));
  }

  -- two steps without a deed
  pub quiet_then : {A B : Type 0} (a : Table → A) (x : Table → A) (b : Table → B) (y : Table → B) (old mid new : Config S) → Does meaning (λ t go. go (a t)) x old mid → Does meaning (λ t go. go (b t)) y mid new → Does meaning (λ t go. go (b t)) y old new
  quiet_then a x b y old mid new f s = record { by = λ go later r h. f.by (λ z. go (b later.heap.texts)) later r (s.by go later r h) }

  -- what was done without a deed, said of something else
  pub quiet_as : {A B : Type 0} (a : Table → A) (x : Table → A) (said shown : Table → B) (old mid : Config S) → Does meaning (λ t go. go (a t)) x old mid → ((t : Table) → Grows mid.heap.texts t → said t ≡ shown t) → Does meaning (λ t go. go (said t)) shown old mid
  quiet_as a x said shown old mid f e = by_follows (λ t go. go (said t)) shown old mid (λ go later g k.
      let t = later.heap.texts in
      f.by (λ z. go (said t)) later (Ok tt) (subst (λ z. Follows meaning (go z) mid later) (sym (e t g)) k))

-- of every answer
pub if_ok : {A E : Type 0} (P Q : A → Type 0) (r : Result A E) → ((v : A) → P v → Q v) → IfOk r P → IfOk r Q
if_ok P Q (Ok v) f h = f v h
if_ok P Q (Err e) f h = tt
