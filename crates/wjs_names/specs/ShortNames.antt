-- A name by its number, and whether it is a text.
use Rattle.std.specs.Prelude.{◌≡◌, ℕ, Bool, true, false, cond, refl}
use Rattle.wjs_base.specs.declared.values.Name.{Name}
use Rattle.wjs_base.specs.declared.values.Name.TheVariants.{Index, Text}
use Rattle.wjs_names.specs.declared.short_name.ShortName.TheInside.{Inside}

abbrev pub name_in : Bool → ℕ → Name
name_in is_text number = cond is_text (Text (record { 0 = number })) (Index number)

abbrev pub number_of : Name → ℕ
number_of (Index index) = index
number_of (Text text) = text.0

abbrev pub is_text_name : Name → Bool
is_text_name (Index index) = false
is_text_name (Text text) = true

number_back : (b : Bool) (n : ℕ) → number_of (name_in b n) ≡ n
number_back true n = refl
number_back false n = refl

text_back : (b : Bool) (n : ℕ) → is_text_name (name_in b n) ≡ b
text_back true n = refl
text_back false n = refl

-- the parts of a name give its parts back
pub inverse_is : (s : Inside) → (record { number = number_of (name_in s.is_text s.number); is_text = is_text_name (name_in s.is_text s.number) }) ≡ s
inverse_is s = let n = number_back s.is_text s.number in let b = text_back s.is_text s.number in λ i. record { number = n i; is_text = b i }
