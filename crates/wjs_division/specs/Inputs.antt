-- What a play's input is read as, and why it is none.
use Rattle.std.specs.Prelude.{◌≡◌, ℕ, ◌+◌, ◌<◌, ◌≤◌, List, [], ◌∷◌, take, length, slice_get, Some}
use Rattle.std.specs.Str.{IsUtf8}
use Rattle.wjs_meaning.specs.Trees.{Tree}
use Rattle.wjs_programs.specs.Programs.{IsProgram}
use Rattle.wjs_load.specs.declared.tokens.Refusal.{Refusal}
use Rattle.wjs_load.specs.declared.tokens.Refusal.TheVariants as refusals
use Rattle.wjs_load.specs.Loading.{Refuses}
use Rattle.wjs_division.specs.Division.{Part, parts_of, lines_before}
use Rattle.wjs_division.specs.declared.input.InputFault.{InputFault}
use Rattle.wjs_division.specs.declared.input.InputFault.TheVariants as faults

-- each part spells the program of its tree
abbrev pub ArePrograms : List Part → List Tree → Type 0
ArePrograms [] [] = Unit {0}
ArePrograms [] (t ∷ ts) = ⊥
ArePrograms (p ∷ ps) [] = ⊥
ArePrograms (p ∷ ps) (t ∷ ts) = IsProgram p.bytes t × ArePrograms ps ts

-- the line of a refusal is counted from so many lines further up
abbrev pub moved_down : ℕ → Refusal → Refusal
moved_down n refusals.NotUtf8 = refusals.NotUtf8
moved_down n (refusals.NotAToken line) = refusals.NotAToken (n + line)
moved_down n (refusals.Unexpected line) = refusals.Unexpected (n + line)
moved_down n refusals.NotAScript = refusals.NotAScript

-- a part is no script, for this reason, whose line is counted in the whole input
pub record RefusesPart (part : Part) (told : Refusal) : Type 0 where
  pub refusal : Refusal
  pub why : Refuses part.bytes refusal
  pub is : told ≡ moved_down (lines_before part) refusal

-- the first part that is no script, and why it is none
pub record IsRefusedAt (bytes : List ℕ) (told : Refusal) : Type 0 where
  pub place : ℕ
  pub part : Part
  pub at : slice_get (parts_of bytes) place ≡ Some part
  pub trees : List Tree
  pub before : ArePrograms (take place (parts_of bytes)) trees
  pub refuses : RefusesPart part told

-- the input is no text; it is, and has more than a thousand parts; or a part is no script. Want of memory is no reason
abbrev pub HasFault : List ℕ → InputFault → Type 0
HasFault bytes faults.NotUtf8 = IsUtf8 bytes → ⊥
HasFault bytes faults.TooMany = IsUtf8 bytes × (1000 < length (parts_of bytes))
HasFault bytes (faults.Refused refusal) = IsUtf8 bytes × (length (parts_of bytes) ≤ 1000) × IsRefusedAt bytes refusal
HasFault bytes faults.OutOfMemory = ⊥

-- when each fault comes; want of memory may come at any time
abbrev pub IsNoInput : List ℕ → InputFault → Type 0
IsNoInput bytes faults.OutOfMemory = Unit {0}
IsNoInput bytes faults.NotUtf8 = HasFault bytes faults.NotUtf8
IsNoInput bytes faults.TooMany = HasFault bytes faults.TooMany
IsNoInput bytes (faults.Refused refusal) = HasFault bytes (faults.Refused refusal)

-- it is text of at most a thousand parts, each the script of its tree
pub record IsInput (bytes : List ℕ) (trees : List Tree) : Type 0 where
  pub text : IsUtf8 bytes
  pub few : length (parts_of bytes) ≤ 1000
  pub programs : ArePrograms (parts_of bytes) trees

-- ---- what a part alone comes to

-- why a part is no script
abbrev pub IsNoPart : Part → InputFault → Type 0
IsNoPart part faults.OutOfMemory = Unit {0}
IsNoPart part (faults.Refused refusal) = RefusesPart part refusal
IsNoPart part faults.NotUtf8 = ⊥
IsNoPart part faults.TooMany = ⊥
