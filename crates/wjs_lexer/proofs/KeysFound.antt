-- The reserved word that a text spells.
use Rattle.std.proofs.Common.{◌≡◌, ℕ, Bool, true, false, ◌&&◌, ◌==◌, List, [], ◌∷◌, Option, Some, refl, sym, ap, ◌∙◌}
use Rattle.std.specs.List.{find}
use Rattle.wjs_tree.specs.declared.keys.Key.{Key}
use Rattle.wjs_tree.specs.declared.keys.Key.TheVariants as keys
use Rattle.wjs_tree.specs.Keys.{spelling}

abbrev all_keys : List Key
all_keys = keys.Break ∷ keys.Case ∷ keys.Catch ∷ keys.Continue ∷ keys.Default ∷ keys.Delete ∷ keys.Do ∷ keys.Else ∷ keys.Finally ∷ keys.For ∷ keys.Function ∷ keys.If ∷ keys.In ∷ keys.Instanceof ∷ keys.New ∷ keys.Return ∷ keys.Switch ∷ keys.This ∷ keys.Throw ∷ keys.Try ∷ keys.Typeof ∷ keys.Var ∷ keys.Void ∷ keys.While ∷ keys.With ∷ keys.Abstract ∷ keys.Boolean ∷ keys.Byte ∷ keys.Char ∷ keys.Class ∷ keys.Const ∷ keys.Debugger ∷ keys.Double ∷ keys.Enum ∷ keys.Export ∷ keys.Extends ∷ keys.Final ∷ keys.Float ∷ keys.Goto ∷ keys.Implements ∷ keys.Import ∷ keys.Int ∷ keys.Interface ∷ keys.Long ∷ keys.Native ∷ keys.Package ∷ keys.Private ∷ keys.Protected ∷ keys.Public ∷ keys.Short ∷ keys.Static ∷ keys.Super ∷ keys.Synchronized ∷ keys.Throws ∷ keys.Transient ∷ keys.Volatile ∷ keys.Null ∷ keys.True ∷ keys.False ∷ keys.ThisWorld ∷ []

abbrev same_text : List ℕ → List ℕ → Bool
same_text [] [] = true
same_text (x ∷ xs) (y ∷ ys) = (x == y) && same_text xs ys
same_text [] (y ∷ ys) = false
same_text (x ∷ xs) [] = false

abbrev key_by : List ℕ → Option Key
key_by w = find (λ k. same_text (spelling k) w) all_keys

reads_key : (k : Key) → key_by (spelling k) ≡ Some k
reads_key keys.Break = refl
reads_key keys.Case = refl
reads_key keys.Catch = refl
reads_key keys.Continue = refl
reads_key keys.Default = refl
reads_key keys.Delete = refl
reads_key keys.Do = refl
reads_key keys.Else = refl
reads_key keys.Finally = refl
reads_key keys.For = refl
reads_key keys.Function = refl
reads_key keys.If = refl
reads_key keys.In = refl
reads_key keys.Instanceof = refl
reads_key keys.New = refl
reads_key keys.Return = refl
reads_key keys.Switch = refl
reads_key keys.This = refl
reads_key keys.Throw = refl
reads_key keys.Try = refl
reads_key keys.Typeof = refl
reads_key keys.Var = refl
reads_key keys.Void = refl
reads_key keys.While = refl
reads_key keys.With = refl
reads_key keys.Abstract = refl
reads_key keys.Boolean = refl
reads_key keys.Byte = refl
reads_key keys.Char = refl
reads_key keys.Class = refl
reads_key keys.Const = refl
reads_key keys.Debugger = refl
reads_key keys.Double = refl
reads_key keys.Enum = refl
reads_key keys.Export = refl
reads_key keys.Extends = refl
reads_key keys.Final = refl
reads_key keys.Float = refl
reads_key keys.Goto = refl
reads_key keys.Implements = refl
reads_key keys.Import = refl
reads_key keys.Int = refl
reads_key keys.Interface = refl
reads_key keys.Long = refl
reads_key keys.Native = refl
reads_key keys.Package = refl
reads_key keys.Private = refl
reads_key keys.Protected = refl
reads_key keys.Public = refl
reads_key keys.Short = refl
reads_key keys.Static = refl
reads_key keys.Super = refl
reads_key keys.Synchronized = refl
reads_key keys.Throws = refl
reads_key keys.Transient = refl
reads_key keys.Volatile = refl
reads_key keys.Null = refl
reads_key keys.True = refl
reads_key keys.False = refl
reads_key keys.ThisWorld = refl

unwrapped : (a b : Key) → Some a ≡ Some b → a ≡ b
unwrapped a b e = cc

-- keys of one spelling are one
pub spelled_once : (a b : Key) → spelling a ≡ spelling b → a ≡ b
spelled_once a b e = unwrapped a b (sym (reads_key a) ∙ ap key_by e ∙ reads_key b)
