-- What holds of inputs of plays.
use Rattle.std.specs.Prelude.{◌≡◌, ℕ, ◌+◌, ◌≤◌, List, length, slice_get, Some}
use Rattle.std.specs.Str.{IsUtf8, chars}
use Rattle.wjs_lexer.specs.Places.{line_at}
use Rattle.wjs_meaning.specs.Trees.{Tree}
use Rattle.wjs_division.specs.Division.{Part, parts_of, lines_before}
use Rattle.wjs_division.specs.Inputs.{IsInput, HasFault}
use Rattle.wjs_division.specs.declared.input.InputFault.{InputFault}

-- bytes are the input of one list of programs at most
abbrev pub OneInput : Type 0
OneInput = (bytes : List ℕ) (ts us : List Tree) → IsInput bytes ts → IsInput bytes us → us ≡ ts

-- they are none for one reason at most
abbrev pub OneFault : Type 0
OneFault = (bytes : List ℕ) (f g : InputFault) → HasFault bytes f → HasFault bytes g → g ≡ f

-- and never both
abbrev pub InputOrFault : Type 0
InputOrFault = (bytes : List ℕ) (ts : List Tree) (f : InputFault) → IsInput bytes ts → HasFault bytes f → ⊥

-- a part of a text is a text
abbrev pub PartsAreTexts : Type 0
PartsAreTexts = (bytes : List ℕ) (place : ℕ) (p : Part) → IsUtf8 bytes → slice_get (parts_of bytes) place ≡ Some p → IsUtf8 p.front × IsUtf8 p.bytes

-- a place in a part is on the line of the whole text that is its line in the part, counted behind those that end before the part
abbrev pub LinesGoOn : Type 0
LinesGoOn = (bytes : List ℕ) (place : ℕ) (p : Part) (i : ℕ) → IsUtf8 bytes → slice_get (parts_of bytes) place ≡ Some p → i ≤ length (chars p.bytes) → line_at (chars bytes) (length (chars p.front) + i) ≡ lines_before p + line_at (chars p.bytes) i
