-- What is followed of deeds that are the same, or that run to the same.
use Rattle.std.proofs.Common.{◌≡◌, sym, ap, subst}
use Rattle.std.specs.Prelude.{Result, OnOk, Ok, Err}
use Rattle.wjs_base.specs.declared.ids.OutOfMemory.{OutOfMemory}
use Rattle.wjs_base.specs.Text.{Table, Grows}
use Rattle.wjs_store.specs.Meaning.{Meaning}
use Rattle.wjs_by_content.specs.Objects.{Arena}
use Rattle.wjs_meaning.specs.Deeds.{Act, Do, Look}
use Rattle.wjs_model.specs.declared.config.Config.{Config}
use Rattle.wjs_model.specs.Outside.{Sees}
use Rattle.wjs_frames.specs.Following.{Follows}
use Rattle.wjs_frames.specs.Doing.{Does}
use Rattle.wjs_frames.specs.Shortening.{Shortens}
use Rattle.wjs_frames.proofs.Shorter.{follows_shorter, follows_look}
pub use Rattle.wjs_heap_steps.proofs.Composing.{env_later}
pub use Rattle.wjs_heap_steps.proofs.Later.{later_same}

-- deeds that are the same where the texts have grown
pub follows_as : {S : Type 0} (meaning : S → Meaning) (done due : Act) (old new : Config S) (r : Result (Unit {0}) OutOfMemory) → (Grows old.heap.texts new.heap.texts → done ≡ due) → OnOk r (Follows meaning done old new) → OnOk r (Follows meaning due old new)
follows_as meaning done due old new (Ok x) same h = let P : Act → Type 0 = λ act. Follows meaning act old new in subst P (same h.keeps.stays.texts) h
follows_as meaning done due old new (Err x) same h = tt

-- a look after which the same deeds come, where the texts have grown, whatever further objects it finds
pub follows_found : {S : Type 0} (meaning : S → Meaning) (go : Arena → Act) (act : Act) (old new : Config S) (r : Result (Unit {0}) OutOfMemory) → (Grows old.heap.texts new.heap.texts → (arena : Arena) → Sees meaning old new.heap.texts arena → go arena ≡ act) → OnOk r (Follows meaning act old new) → OnOk r (Follows meaning (Do Look go) old new)
follows_found meaning go act old new (Ok x) same h = follows_look meaning go act old new (Ok x) (same h.keeps.stays.texts) h
follows_found meaning go act old new (Err x) same h = tt

-- deeds that come to the same in more turns than others that are the same where the texts have grown
pub follows_by : {S : Type 0} (meaning : S → Meaning) (long short done : Act) (old new : Config S) (r : Result (Unit {0}) OutOfMemory) → Shortens long short → OnOk r (Follows meaning done old new) → (Grows old.heap.texts new.heap.texts → done ≡ short) → OnOk r (Follows meaning long old new)
follows_by meaning long short done old new r shortens h same = follows_shorter meaning long short old new r shortens (follows_as meaning done short old new r same h)

module _ {S : Type 0} (meaning : S → Meaning) where
  -- what is the same where the texts have grown needs no deed
  pub does_same : {A : Type 0} (c : Config S) (due done : Table → A) → ((t : Table) → Grows c.heap.texts t → due t ≡ done t) → Does meaning (λ t go. go (due t)) done c c
  does_same c due done same = record { by = λ go later r h. follows_as meaning (go (done later.heap.texts)) (go (due later.heap.texts)) c later r (λ grows. ap go (sym (same later.heap.texts grows))) h }

  -- the answer may be said otherwise
  pub does_told : {A : Type 0} (old mid : Config S) (deeds : Table → (A → Act) → Act) (one two : Table → A) → Does meaning deeds one old mid → ((t : Table) → Grows mid.heap.texts t → two t ≡ one t) → Does meaning deeds two old mid
  does_told old mid deeds one two d same = record { by = λ go later r h. d.by go later r (follows_as meaning (go (two later.heap.texts)) (go (one later.heap.texts)) mid later r (λ grows. ap go (same later.heap.texts grows)) h) }

  -- and so may what is asked, where no deed is done for it
  pub does_as : {A : Type 0} (old mid : Config S) (one two : Table → A) (answer : Table → A) → Does meaning (λ t go. go (one t)) answer old mid → ((t : Table) → Grows old.heap.texts t → one t ≡ two t) → Does meaning (λ t go. go (two t)) answer old mid
  does_as old mid one two answer d same = record { by = λ go later r h. follows_as meaning (go (one later.heap.texts)) (go (two later.heap.texts)) old later r (λ grows. ap go (same later.heap.texts grows)) (d.by go later r h) }
