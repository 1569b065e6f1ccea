-- The first entry of a part of a map.
use Rattle.std.proofs.Common.{◌≡◌, Bool, true, false, not, cond, ◌&&◌, List, [], ◌∷◌, filter, refl, ap, sym, ◌∙◌, Option, None, Some}
use Rattle.std.specs.Option.{option_map}
use Rattle.std.specs.Map.{lookup_entry}
use Rattle.std.specs.Map.Iter.{TakesFirst}

head : {X : Type 0} → List X → Option X
head [] = None
head (x ∷ xs) = Some x

head_cond : {X : Type 0} (b : Bool) (x : X) (xs : List X) → head (cond b (x ∷ xs) xs) ≡ cond b (Some x) (head xs)
unfolding head
head_cond true x xs = refl
head_cond false x xs = refl

-- the first that passes
head_filter : {K V : Type 0} (p : K → Bool) (es : List (K × V)) → head (filter (λ e. p e.0) es) ≡ lookup_entry p es
unfolding head
head_filter p [] = refl
head_filter p (e ∷ es) = head_cond (p e.0) e (filter (λ d. p d.0) es) ∙ ap (cond (p e.0) (Some e)) (head_filter p es)

tested : {K V : Type 0} (p q : K → Bool) (es : List (K × V)) → ((k : K) → p k ≡ q k) → lookup_entry p es ≡ lookup_entry q es
tested p q [] h = refl
tested p q (e ∷ es) h = ap (λ b. cond b (Some e) (lookup_entry p es)) (h e.0) ∙ ap (cond (q e.0) (Some e)) (tested p q es h)

taken : {A X : Type 0} (shows : A → X) (s : List X) (r : Option A) (t : List X) → TakesFirst shows s r t → option_map shows r ≡ head s
unfolding head
taken shows s None t h = sym (ap head h.0)
taken shows s (Some x) t h = sym (ap head h)

and_true : (b : Bool) → (b && not false) ≡ b
and_true true = refl
and_true false = refl

-- what `next` gives of the entries that pass
pub first_taken : {A K V : Type 0} (shows : A → K × V) (q : K → Bool) (es s t : List (K × V)) (r : Option A) → TakesFirst shows s r t → s ≡ filter (λ e. q e.0 && not false) es → option_map shows r ≡ lookup_entry q es
first_taken shows q es s t r h is =
    taken shows s r t h ∙ ap head is ∙ head_filter (λ k. q k && not false) es ∙ tested (λ k. q k && not false) q es (λ k. and_true (q k))
