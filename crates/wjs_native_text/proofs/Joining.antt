-- Texts of several values, one after another.
use Rattle.std.proofs.Common.{◌≡◌, ℕ, ◌+◌, ◌%◌, ◌<◌, ◌≤◌, Bool, true, false, List, [], ◌∷◌, ◌++◌, length, get_or, take, drop, refl, sym, ap, ◌∙◌, arith}
use Rattle.std.specs.Prelude.{map}
use Rattle.std.proofs.lemmas.Bool.{lt-ltb, le-ltb}
use Rattle.std.proofs.lemmas.List.{take_more, take-append-drop, map-append, append_assoc, append-nil, length-append}
use Rattle.wjs_base.specs.Text.{longest}
use Rattle.wjs_num.specs.Bits.{uint32}
use Rattle.wjs_by_content.specs.Values.{Text, Whole, Value, String}
use Rattle.wjs_meaning.specs.declared.trouble.Trouble.TheVariants.{TextTooLong}
use Rattle.wjs_meaning.specs.Deeds.{Env, Act, give}
use Rattle.wjs_meaning.specs.Errors.{throw, give_text}
use Rattle.wjs_meaning.specs.NativesOfObjects.{text_of, whole_of}
use Rattle.wjs_meaning.specs.NativesOfTexts.{joined}

-- a unit for each number
abbrev pub each_unit : List Value → List ℕ
each_unit vs = map (λ v. uint32 (whole_of v) % 65536) vs

pub unit_more : {A : Type 0} (f : A → Value) (xs : List A) (i : ℕ) (x : A) (units : List ℕ) (number : Whole) (unit : ℕ) → i < length xs → x ≡ get_or xs i x → each_unit (map f (take i xs)) ≡ units → whole_of (f x) ≡ number → unit ≡ uint32 number % 65536 → each_unit (map f (take (i + 1) xs)) ≡ units ++ unit ∷ []
unit_more f xs i x units number unit below is so en eu =
    ap (λ l. each_unit (map f l)) (take_more xs i x below)
    ∙ ap (λ y. each_unit (map f (take i xs ++ y ∷ []))) (sym is)
    ∙ ap each_unit (map-append f (take i xs) (x ∷ []))
    ∙ map-append (λ (v : Value). uint32 (whole_of v) % 65536) (map f (take i xs)) (f x ∷ [])
    ∙ ap (λ l. l ++ (uint32 (whole_of (f x)) % 65536) ∷ []) so
    ∙ ap (λ n. units ++ (uint32 n % 65536) ∷ []) en
    ∙ ap (λ u. units ++ u ∷ []) (sym eu)

pub joined-append : (vs ws : List Value) → joined (vs ++ ws) ≡ joined vs ++ joined ws
joined-append [] ws = refl
joined-append (v ∷ vs) ws = ap (λ l. text_of v ++ l) (joined-append vs ws) ∙ sym (append_assoc (text_of v) (joined vs) (joined ws))

pub joined_more : {A : Type 0} (f : A → Value) (xs : List A) (i : ℕ) (x : A) (start units more : Text) → i < length xs → x ≡ get_or xs i x → units ≡ start ++ joined (map f (take i xs)) → text_of (f x) ≡ more → units ++ more ≡ start ++ joined (map f (take (i + 1) xs))
joined_more f xs i x start units more below is so em =
    let now : joined (map f (take (i + 1) xs)) ≡ joined (map f (take i xs)) ++ more =
    ap (λ l. joined (map f l)) (take_more xs i x below)
    ∙ ap (λ y. joined (map f (take i xs ++ y ∷ []))) (sym is)
    ∙ ap joined (map-append f (take i xs) (x ∷ []))
    ∙ joined-append (map f (take i xs)) (f x ∷ [])
    ∙ ap (λ l. joined (map f (take i xs)) ++ l) (append-nil (text_of (f x)) ∙ em) in
    ap (λ u. u ++ more) so ∙ append_assoc start (joined (map f (take i xs))) more ∙ ap (λ l. start ++ l) (sym now)

-- what is given of a text that is too long
abbrev given_by : Text → Env → Bool → Act
given_by t env long = elim long as (λ b. Act) [ true ↦ throw TextTooLong env | false ↦ give (String t) ]

too_long : (t : Text) (env : Env) → longest < length t → give_text t env ≡ throw TextTooLong env
too_long t env h = ap (given_by t env) (lt-ltb longest (length t) h)

pub short_given : (t : Text) (env : Env) → length t ≤ longest → give_text t env ≡ give (String t)
short_given t env h = ap (given_by t env) (le-ltb longest (length t) h)

-- whatever stands behind it
pub still_too_long : (s t : Text) (env : Env) → longest < length s → give_text s env ≡ give_text (s ++ t) env
still_too_long s t env h =
    let all = length-append s t in
    too_long s env h ∙ sym (too_long (s ++ t) env (omega (arith, h, all)))

-- the first so many values, and the others
pub joined_parts : {A : Type 0} (f : A → Value) (xs : List A) (i : ℕ) → joined (map f xs) ≡ joined (map f (take i xs)) ++ joined (map f (drop i xs))
joined_parts f xs i =
    ap (λ l. joined (map f l)) (sym (take-append-drop i xs))
    ∙ ap joined (map-append f (take i xs) (drop i xs))
    ∙ joined-append (map f (take i xs)) (map f (drop i xs))
