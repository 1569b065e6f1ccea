-- How a reserved word is found: among those that begin with its first character.
use Rattle.std.specs.Prelude.{◌≡◌, ℕ, ◌==◌, List, [], ◌∷◌, Option, Some, None, if◌then◌else◌}
use Rattle.wjs_tree.specs.declared.keys.Key.{Key}
use Rattle.wjs_tree.specs.declared.keys.Key.TheVariants as keys
use Rattle.wjs_tree.specs.Keys.{spelling}

-- the key is the one that the word spells, or the word spells none
abbrev pub IsKeyOf : List ℕ → Option Key → Type 0
IsKeyOf w None = (k : Key) → w ≡ spelling k → ⊥
IsKeyOf w (Some k) = w ≡ spelling k

-- the keys whose spelling begins with a character
abbrev pub keys_from : ℕ → List Key
keys_from c =
    if c == 97 then keys.Abstract ∷ [] else (
    if c == 98 then keys.Boolean ∷ keys.Break ∷ keys.Byte ∷ [] else (
    if c == 99 then keys.Case ∷ keys.Catch ∷ keys.Char ∷ keys.Class ∷ keys.Const ∷ keys.Continue ∷ [] else (
    if c == 100 then keys.Debugger ∷ keys.Default ∷ keys.Delete ∷ keys.Do ∷ keys.Double ∷ [] else (
    if c == 101 then keys.Else ∷ keys.Enum ∷ keys.Export ∷ keys.Extends ∷ [] else (
    if c == 102 then keys.False ∷ keys.Final ∷ keys.Finally ∷ keys.Float ∷ keys.For ∷ keys.Function ∷ [] else (
    if c == 103 then keys.Goto ∷ [] else (
    if c == 105 then keys.If ∷ keys.Implements ∷ keys.Import ∷ keys.In ∷ keys.Instanceof ∷ keys.Int ∷ keys.Interface ∷ [] else (
    if c == 108 then keys.Long ∷ [] else (
    if c == 110 then keys.Native ∷ keys.New ∷ keys.Null ∷ [] else (
    if c == 112 then keys.Package ∷ keys.Private ∷ keys.Protected ∷ keys.Public ∷ [] else (
    if c == 114 then keys.Return ∷ [] else (
    if c == 115 then keys.Short ∷ keys.Static ∷ keys.Super ∷ keys.Switch ∷ keys.Synchronized ∷ [] else (
    if c == 116 then keys.This ∷ keys.ThisWorld ∷ keys.Throw ∷ keys.Throws ∷ keys.Transient ∷ keys.True ∷ keys.Try ∷ keys.Typeof ∷ [] else (
    if c == 118 then keys.Var ∷ keys.Void ∷ keys.Volatile ∷ [] else (
    if c == 119 then keys.While ∷ keys.With ∷ [] else (
    []))))))))))))))))
