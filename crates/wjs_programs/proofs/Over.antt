-- Nodes whose parts have lower numbers.
use Rattle.std.specs.Prelude.{◌≡◌, ℕ, suc, ◌-◌, ◌<◌, ◌≤◌, List, [], ◌∷◌, ◌++◌, length, Option, None, Some}
use Rattle.std.specs.List.{AllByRecursion}
use Rattle.std.proofs.Common.{refl, ap, subst, ◌∙◌, arith, length-append}
use Rattle.wjs_by_content.specs.Values.{Text}
use Rattle.wjs_meaning.specs.Trees.{Node, Place}
use Rattle.wjs_meaning.specs.Trees as node
use Rattle.wjs_programs.specs.Numbered.{Entry, below}

-- ---- lists

pub all_more : {X : Type 0} (P Q : X → Type 0) (xs : List X) → ((x : X) → P x → Q x) → AllByRecursion P xs → AllByRecursion Q xs
all_more P Q [] f a = tt
all_more P Q (x ∷ xs) f a = (f x a.0, all_more P Q xs f a.1)

all_both : {X : Type 0} (P : X → Type 0) (xs ys : List X) → AllByRecursion P xs → AllByRecursion P ys → AllByRecursion P (xs ++ ys)
all_both P [] ys a b = b
all_both P (x ∷ xs) ys a b = (a.0, all_both P xs ys a.1 b)

pub all_apart : {X : Type 0} (P : X → Type 0) (xs ys : List X) → AllByRecursion P (xs ++ ys) → AllByRecursion P xs × AllByRecursion P ys
all_apart P [] ys a = (tt, a)
all_apart P (x ∷ xs) ys a = let more = all_apart P xs ys a.1 in ((a.0, more.0), more.1)

-- ---- the parts of a node in which a target, or the names of `var`s, are looked for

abbrev pub option_part : Option ℕ → List ℕ
option_part None = []
option_part (Some s) = s ∷ []

abbrev pub handler_part : Option (Text × ℕ) → List ℕ
handler_part None = []
handler_part (Some h) = h.1 ∷ []

abbrev pub clause_parts : List (Option ℕ × List ℕ) → List ℕ
clause_parts [] = []
clause_parts (c ∷ clauses) = c.1 ++ clause_parts clauses

abbrev pub inner_parts : Node → List ℕ
inner_parts (node.Paren e) = e ∷ []
inner_parts (node.Block ss) = ss
inner_parts (node.If e s t) = s ∷ option_part t
inner_parts (node.DoWhile s e) = s ∷ []
inner_parts (node.While e s) = s ∷ []
inner_parts (node.For init t u s) = s ∷ []
inner_parts (node.ForIn t e s) = s ∷ []
inner_parts (node.ForVarIn name e s) = s ∷ []
inner_parts (node.Label name s) = s ∷ []
inner_parts (node.Switch e clauses) = clause_parts clauses
inner_parts (node.Try b handler f) = b ∷ (handler_part handler ++ option_part f)
inner_parts (node.Within e b) = b ∷ []
inner_parts n = []

-- a Paren and a Label stand right behind their part
abbrev pub IsNext : ℕ → Node → Type 0
IsNext k (node.Paren e) = k ≡ suc e
IsNext k (node.Label name s) = k ≡ suc s
IsNext k n = Unit {0}

-- the node of this number stands behind its parts
pub record IsOver (k : ℕ) (n : Node) : Type 0 where
  pub lower : AllByRecursion (λ (s : ℕ). s < k) (inner_parts n)
  pub next : IsNext k n

-- of entries of which the first has the number k
abbrev pub AreOver : ℕ → List Entry → Type 0
AreOver k [] = Unit {0}
AreOver k (e ∷ l) = IsOver k e.node × AreOver (k - 1) l

both_over : (k : ℕ) (l m : List Entry) → AreOver k l → AreOver (k - length l) m → AreOver k (l ++ m)
both_over k [] m a b = subst (λ (z : ℕ). AreOver z m) (let e : k - 0 ≡ k = omega arith in e) b
both_over k (e ∷ l) m a b = (a.0, both_over (k - 1) l m a.1 (subst (λ (z : ℕ). AreOver z m) (let e : k - suc (length l) ≡ k - 1 - length l = omega arith in e) b))

-- ---- parts of a program

-- Of a part of a program, or of a list of parts: the numbers of the parts, and their entries, of which the first has the number
-- k; they are as many as `others`, those of the same part from another number on.
pub record Falls (k : ℕ) (ids : List ℕ) (l others : List Entry) : Type 0 where
  pub low : AllByRecursion (λ (s : ℕ). (s ≤ k) × (0 < length l)) ids
  pub long : length l ≡ length others
  pub over : length l ≤ suc k → AreOver k l

pub nothing : (k : ℕ) → Falls k [] [] []
nothing k = record { low = tt; long = refl; over = λ fits. tt }

-- the numbers of the parts don't matter, or not all do
pub only : {k : ℕ} {ids few : List ℕ} {l others : List Entry} → ((P : ℕ → Type 0) → AllByRecursion P ids → AllByRecursion P few) → Falls k ids l others → Falls k few l others
only {k = k} {l = l} f p = record { low = f (λ (s : ℕ). (s ≤ k) × (0 < length l)) p.low; long = p.long; over = p.over }

-- a part and those behind it
pub both : {k : ℕ} {ids more : List ℕ} {l m others rest : List Entry} → Falls k ids l others → Falls (below k l) more m rest → Falls k (ids ++ more) (l ++ m) (others ++ rest)
both {k} {ids} {more} {l} {m} {others} {rest} p q = record {
  low = all_both _ ids more (all_more _ _ ids (λ s h. (h.0, (let lt = h.1 in let e = length-append l m in omega arith))) p.low)
      (all_more _ _ more (λ s h. ((let le : s ≤ k - length l = h.0 in omega arith), (let lt = h.1 in let e = length-append l m in omega arith))) q.low);
  long = length-append l m ∙ (let e = p.long in let f = q.long in let g = length-append others rest in omega arith);
  over = λ fits. (let e = length-append l m in both_over k l m (p.over (omega arith)) (q.over (omega arith)));
}

-- a node and its parts
pub node_over : {k : ℕ} {ids : List ℕ} {l others : List Entry} (n other : Node) (places elsewhere : List Place) → ((P : ℕ → Type 0) → AllByRecursion P ids → AllByRecursion P (inner_parts n)) → (length l ≤ k → IsNext k n) → Falls (k - 1) ids l others
    → Falls k (k ∷ []) (record { node = n; places = places } ∷ l) (record { node = other; places = elsewhere } ∷ others)
node_over {k} {ids} {l} {others} n other places elsewhere inner next p = record {
  low = ((omega arith, omega arith), tt);
  long = ap suc p.long;
  over = λ fits. (
    record {
      lower = inner (λ (s : ℕ). s < k) (all_more _ _ ids (λ s h. (let le = h.0 in let lt = h.1 in omega arith)) p.low);
      next = next (omega arith);
    },
    p.over (omega arith),
  );
}
