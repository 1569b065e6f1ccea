-- A source or a sink over a call: what is seen of it before and after.
use Rattle.std.specs.Prelude.{◌≡◌, ℕ, ◌<◌, List, ◌++◌, Option, IfSome, length}
use Rattle.std.specs.Io.KnownBytes.{Appends}
use Rattle.wjs_io.specs.Faults.{Rises}

-- what is seen of a source or a sink: the bytes that it has left or holds, where it tells them, and how often it has failed, up to 2^64 - 1
pub record Seen : Type 0 where
  pub bytes : Option (List ℕ)
  pub faults : ℕ

-- a source or a sink over a call
pub record Stream : Type 0 where
  pub before : Seen
  pub after : Seen

-- of what shows so much of itself
abbrev pub over : {T : Type 0} → (T → Seen) → T → T → Stream
over seen old new = record { before = seen old; after = seen new }

-- of these bytes, and these counts of faults
abbrev pub stream : Option (List ℕ) → Option (List ℕ) → ℕ → ℕ → Stream
stream before after faults_before faults_after = record {
  before = record { bytes = before; faults = faults_before };
  after = record { bytes = after; faults = faults_after };
}

-- its faults rose in the call
abbrev pub Failed : Stream → Type 0
Failed s = Rises s.before.faults s.after.faults

-- these bytes were left in the source
abbrev pub Had : Stream → List ℕ → Type 0
Had s bytes = IfSome s.before.bytes (λ left. left ≡ bytes)

-- the source gave exactly these bytes
abbrev pub Gave : Stream → List ℕ → Type 0
Gave s bytes = IfSome s.before.bytes (λ had. IfSome s.after.bytes (λ left. had ≡ bytes ++ left))

-- the sink got exactly these bytes
abbrev pub Got : Stream → List ℕ → Type 0
Got s bytes = Appends s.before.bytes s.after.bytes bytes

-- the sink got a prefix of these bytes
pub record GotPrefix (s : Stream) (bytes : List ℕ) : Type 0 where
  pub front : List ℕ
  pub rest : List ℕ
  pub whole : bytes ≡ front ++ rest
  pub got : Got s front

-- the sink got a prefix of these bytes that is shorter than they are
pub record GotLess (s : Stream) (bytes : List ℕ) : Type 0 where
  pub prefix : GotPrefix s bytes
  pub shorter : 0 < length prefix.rest

-- the sink failed before all of the bytes were written
pub record Stops (s : Stream) (bytes : List ℕ) : Type 0 where
  pub cause : Failed s
  pub wrote : GotLess s bytes
