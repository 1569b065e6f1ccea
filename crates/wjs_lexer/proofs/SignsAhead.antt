-- The longest sign is reached character by character, since what begins a sign is a sign.
use Rattle.std.proofs.Common.{◌≡◌, ℕ, ◌+◌, ◌<◌, ◌⊎◌, inl, inr, Bool, true, false, cond, ◌==◌, refl, subst, arith, List, [], ◌∷◌, ◌++◌, Option, Some, None, length}
use Rattle.std.specs.Prelude.{slice_get}
use Rattle.wjs_base.proofs.Numbers.{equal_from_test}
use Rattle.wjs_lexer.proofs.Ranges.{same_char}
use Rattle.wjs_tree.specs.declared.signs.Sign.{Sign}
use Rattle.wjs_tree.specs.declared.signs.Sign.TheVariants as signs
use Rattle.wjs_tree.specs.Signs.{spelling}
use Rattle.wjs_lexer.specs.Signs.{Spells}
use Rattle.wjs_lexer.specs.SignSteps.{sign_of, longer, with_equals, with_plus, with_minus, with_less, with_greater, with_and, with_or}

abbrev pub bind : Option Sign → (Sign → Option Sign) → Option Sign
bind None f = None
bind (Some s) f = f s

-- the sign that a sign becomes with more characters
abbrev pub grown : Sign → List ℕ → Option Sign
grown s [] = Some s
grown s (x ∷ t) = bind (longer s x) (λ r. grown r t)

abbrev pub read : List ℕ → Option Sign
read [] = None
read (x ∷ t) = bind (sign_of x) (λ r. grown r t)

pub reads_spelling : (s : Sign) → read (spelling s) ≡ Some s
reads_spelling signs.OpenBrace = refl
reads_spelling signs.CloseBrace = refl
reads_spelling signs.OpenParen = refl
reads_spelling signs.CloseParen = refl
reads_spelling signs.OpenBracket = refl
reads_spelling signs.CloseBracket = refl
reads_spelling signs.Dot = refl
reads_spelling signs.Semicolon = refl
reads_spelling signs.Comma = refl
reads_spelling signs.Less = refl
reads_spelling signs.Greater = refl
reads_spelling signs.LessEqual = refl
reads_spelling signs.GreaterEqual = refl
reads_spelling signs.Equal = refl
reads_spelling signs.NotEqual = refl
reads_spelling signs.StrictEqual = refl
reads_spelling signs.StrictNotEqual = refl
reads_spelling signs.Plus = refl
reads_spelling signs.Minus = refl
reads_spelling signs.Multiply = refl
reads_spelling signs.Divide = refl
reads_spelling signs.Remainder = refl
reads_spelling signs.Increment = refl
reads_spelling signs.Decrement = refl
reads_spelling signs.ShiftLeft = refl
reads_spelling signs.ShiftRight = refl
reads_spelling signs.ShiftRightUnsigned = refl
reads_spelling signs.BitAnd = refl
reads_spelling signs.BitOr = refl
reads_spelling signs.BitXor = refl
reads_spelling signs.Not = refl
reads_spelling signs.BitNot = refl
reads_spelling signs.And = refl
reads_spelling signs.Or = refl
reads_spelling signs.Question = refl
reads_spelling signs.Colon = refl
reads_spelling signs.Assign = refl
reads_spelling signs.PlusAssign = refl
reads_spelling signs.MinusAssign = refl
reads_spelling signs.MultiplyAssign = refl
reads_spelling signs.DivideAssign = refl
reads_spelling signs.RemainderAssign = refl
reads_spelling signs.ShiftLeftAssign = refl
reads_spelling signs.ShiftRightAssign = refl
reads_spelling signs.ShiftRightUnsignedAssign = refl
reads_spelling signs.BitAndAssign = refl
reads_spelling signs.BitOrAssign = refl
reads_spelling signs.BitXorAssign = refl

pub positive : (s : Sign) → 0 < length (spelling s)
positive signs.OpenBrace = omega arith
positive signs.CloseBrace = omega arith
positive signs.OpenParen = omega arith
positive signs.CloseParen = omega arith
positive signs.OpenBracket = omega arith
positive signs.CloseBracket = omega arith
positive signs.Dot = omega arith
positive signs.Semicolon = omega arith
positive signs.Comma = omega arith
positive signs.Less = omega arith
positive signs.Greater = omega arith
positive signs.LessEqual = omega arith
positive signs.GreaterEqual = omega arith
positive signs.Equal = omega arith
positive signs.NotEqual = omega arith
positive signs.StrictEqual = omega arith
positive signs.StrictNotEqual = omega arith
positive signs.Plus = omega arith
positive signs.Minus = omega arith
positive signs.Multiply = omega arith
positive signs.Divide = omega arith
positive signs.Remainder = omega arith
positive signs.Increment = omega arith
positive signs.Decrement = omega arith
positive signs.ShiftLeft = omega arith
positive signs.ShiftRight = omega arith
positive signs.ShiftRightUnsigned = omega arith
positive signs.BitAnd = omega arith
positive signs.BitOr = omega arith
positive signs.BitXor = omega arith
positive signs.Not = omega arith
positive signs.BitNot = omega arith
positive signs.And = omega arith
positive signs.Or = omega arith
positive signs.Question = omega arith
positive signs.Colon = omega arith
positive signs.Assign = omega arith
positive signs.PlusAssign = omega arith
positive signs.MinusAssign = omega arith
positive signs.MultiplyAssign = omega arith
positive signs.DivideAssign = omega arith
positive signs.RemainderAssign = omega arith
positive signs.ShiftLeftAssign = omega arith
positive signs.ShiftRightAssign = omega arith
positive signs.ShiftRightUnsignedAssign = omega arith
positive signs.BitAndAssign = omega arith
positive signs.BitOrAssign = omega arith
positive signs.BitXorAssign = omega arith

-- the sign s up to n becomes r up to m
pub record Growth (cs : List ℕ) (s : Sign) (n : ℕ) (r : Sign) (m : ℕ) : Type 0 where
  pub more : List ℕ
  pub grows : grown s more ≡ Some r
  pub spells : Spells cs more n m

-- Each sign at i ends before n, or the sign s that was read up to n becomes it.
pub record Ahead (cs : List ℕ) (i : ℕ) (s : Sign) (n : ℕ) : Type 0 where
  pub all : (r : Sign) (m : ℕ) → Spells cs (spelling r) i m → (m < n) ⊎ Growth cs s n r m

grown_more : (s r more : Sign) (x : ℕ) (t : List ℕ) → grown s (x ∷ t) ≡ Some r → longer s x ≡ Some more → grown more t ≡ Some r
grown_more s r more x t h e = subst (λ (o : Option Sign). bind o (λ r'. grown r' t) ≡ Some r) e h

grown_none : (s r : Sign) (x : ℕ) (t : List ℕ) → grown s (x ∷ t) ≡ Some r → longer s x ≡ None → ⊥
grown_none s r x t h e = let z = subst (λ (o : Option Sign). bind o (λ r'. grown r' t) ≡ Some r) e h in cc

first_more : (r first : Sign) (x : ℕ) (t : List ℕ) → read (x ∷ t) ≡ Some r → sign_of x ≡ Some first → grown first t ≡ Some r
first_more r first x t h e = subst (λ (o : Option Sign). bind o (λ r'. grown r' t) ≡ Some r) e h

begins : (cs : List ℕ) (i ch : ℕ) (first r : Sign) (m : ℕ) (t : List ℕ) → slice_get cs i ≡ Some ch → sign_of ch ≡ Some first → read t ≡ Some r → Spells cs t i m
    → (m < i + 1) ⊎ Growth cs first (i + 1) r m
begins cs i ch first r m [] e f g h = cc
begins cs i ch first r m (x ∷ t) e f g h = inr (record { more = t; grows = first_more r first x t g (rw (same_char x ch _ h.0 e) f); spells = h.1 })

pub ahead_begin : (cs : List ℕ) (i ch : ℕ) (first : Sign) → slice_get cs i ≡ Some ch → sign_of ch ≡ Some first → Ahead cs i first (i + 1)
ahead_begin cs i ch first e f = record { all = λ r m h. begins cs i ch first r m (spelling r) e f (reads_spelling r) h }

goes : (cs : List ℕ) (n ch : ℕ) (s more r : Sign) (m : ℕ) (t : List ℕ) → slice_get cs n ≡ Some ch → longer s ch ≡ Some more → grown s t ≡ Some r → Spells cs t n m
    → (m < n + 1) ⊎ Growth cs more (n + 1) r m
goes cs n ch s more r m [] e f g h = inl (omega (arith, h))
goes cs n ch s more r m (x ∷ t) e f g h = inr (record { more = t; grows = grown_more s r more x t g (rw (same_char x ch _ h.0 e) f); spells = h.1 })

on : (cs : List ℕ) (n ch : ℕ) (s more r : Sign) (m : ℕ) → slice_get cs n ≡ Some ch → longer s ch ≡ Some more → (m < n) ⊎ Growth cs s n r m
    → (m < n + 1) ⊎ Growth cs more (n + 1) r m
on cs n ch s more r m e f (inl lt) = inl (omega arith)
on cs n ch s more r m e f (inr g) = goes cs n ch s more r m g.more e f g.grows g.spells

pub ahead_more : (cs : List ℕ) (i n ch : ℕ) (s more : Sign) → slice_get cs n ≡ Some ch → longer s ch ≡ Some more → Ahead cs i s n → Ahead cs i more (n + 1)
ahead_more cs i n ch s more e f a = record { all = λ r m h. on cs n ch s more r m e f (a.all r m h) }

-- the sign doesn't grow: its end, or a character that doesn't go on
pub record Stops (cs : List ℕ) (n : ℕ) (s : Sign) : Type 0 where
  pub at : (x : ℕ) → slice_get cs n ≡ Some x → longer s x ≡ None

ends : (cs : List ℕ) (n : ℕ) (s r : Sign) (m : ℕ) (t : List ℕ) → Stops cs n s → grown s t ≡ Some r → Spells cs t n m → (m < n) ⊎ ((m ≡ n) × (r ≡ s))
ends cs n s r m [] st g h = inr (h, cc)
ends cs n s r m (x ∷ t) st g h = absurd (grown_none s r x t g (st.at x h.0))

ends_all : (cs : List ℕ) (n : ℕ) (s r : Sign) (m : ℕ) → Stops cs n s → (m < n) ⊎ Growth cs s n r m → (m < n) ⊎ ((m ≡ n) × (r ≡ s))
ends_all cs n s r m st (inl lt) = inl lt
ends_all cs n s r m st (inr g) = ends cs n s r m g.more st g.grows g.spells

-- each sign is shorter, or this one
pub record Longest (cs : List ℕ) (i n : ℕ) (s : Sign) : Type 0 where
  pub all : (r : Sign) (m : ℕ) → Spells cs (spelling r) i m → (m < n) ⊎ ((m ≡ n) × (r ≡ s))

pub ahead_end : (cs : List ℕ) (i n : ℕ) (s : Sign) → Ahead cs i s n → Stops cs n s → Longest cs i n s
ahead_end cs i n s a st = record { all = λ r m h. ends_all cs n s r m st (a.all r m h) }

with_equals_spelling : (s r : Sign) → with_equals s ≡ Some r → spelling r ≡ spelling s ++ 61 ∷ []
with_equals_spelling signs.Less r h = let e : r ≡ signs.LessEqual = cc in rw e refl
with_equals_spelling signs.Greater r h = let e : r ≡ signs.GreaterEqual = cc in rw e refl
with_equals_spelling signs.Assign r h = let e : r ≡ signs.Equal = cc in rw e refl
with_equals_spelling signs.Not r h = let e : r ≡ signs.NotEqual = cc in rw e refl
with_equals_spelling signs.Equal r h = let e : r ≡ signs.StrictEqual = cc in rw e refl
with_equals_spelling signs.NotEqual r h = let e : r ≡ signs.StrictNotEqual = cc in rw e refl
with_equals_spelling signs.Plus r h = let e : r ≡ signs.PlusAssign = cc in rw e refl
with_equals_spelling signs.Minus r h = let e : r ≡ signs.MinusAssign = cc in rw e refl
with_equals_spelling signs.Multiply r h = let e : r ≡ signs.MultiplyAssign = cc in rw e refl
with_equals_spelling signs.Divide r h = let e : r ≡ signs.DivideAssign = cc in rw e refl
with_equals_spelling signs.Remainder r h = let e : r ≡ signs.RemainderAssign = cc in rw e refl
with_equals_spelling signs.ShiftLeft r h = let e : r ≡ signs.ShiftLeftAssign = cc in rw e refl
with_equals_spelling signs.ShiftRight r h = let e : r ≡ signs.ShiftRightAssign = cc in rw e refl
with_equals_spelling signs.ShiftRightUnsigned r h = let e : r ≡ signs.ShiftRightUnsignedAssign = cc in rw e refl
with_equals_spelling signs.BitAnd r h = let e : r ≡ signs.BitAndAssign = cc in rw e refl
with_equals_spelling signs.BitOr r h = let e : r ≡ signs.BitOrAssign = cc in rw e refl
with_equals_spelling signs.BitXor r h = let e : r ≡ signs.BitXorAssign = cc in rw e refl
with_equals_spelling s r h = cc

with_plus_spelling : (s r : Sign) → with_plus s ≡ Some r → spelling r ≡ spelling s ++ 43 ∷ []
with_plus_spelling signs.Plus r h = let e : r ≡ signs.Increment = cc in rw e refl
with_plus_spelling s r h = cc

with_minus_spelling : (s r : Sign) → with_minus s ≡ Some r → spelling r ≡ spelling s ++ 45 ∷ []
with_minus_spelling signs.Minus r h = let e : r ≡ signs.Decrement = cc in rw e refl
with_minus_spelling s r h = cc

with_less_spelling : (s r : Sign) → with_less s ≡ Some r → spelling r ≡ spelling s ++ 60 ∷ []
with_less_spelling signs.Less r h = let e : r ≡ signs.ShiftLeft = cc in rw e refl
with_less_spelling s r h = cc

with_greater_spelling : (s r : Sign) → with_greater s ≡ Some r → spelling r ≡ spelling s ++ 62 ∷ []
with_greater_spelling signs.Greater r h = let e : r ≡ signs.ShiftRight = cc in rw e refl
with_greater_spelling signs.ShiftRight r h = let e : r ≡ signs.ShiftRightUnsigned = cc in rw e refl
with_greater_spelling s r h = cc

with_and_spelling : (s r : Sign) → with_and s ≡ Some r → spelling r ≡ spelling s ++ 38 ∷ []
with_and_spelling signs.BitAnd r h = let e : r ≡ signs.And = cc in rw e refl
with_and_spelling s r h = cc

with_or_spelling : (s r : Sign) → with_or s ≡ Some r → spelling r ≡ spelling s ++ 124 ∷ []
with_or_spelling signs.BitOr r h = let e : r ≡ signs.Or = cc in rw e refl
with_or_spelling s r h = cc

chosen : {X : Type 0} (b : Bool) (x y z : X) → cond b x y ≡ z → ((b ≡ true) × (x ≡ z)) ⊎ ((b ≡ false) × (y ≡ z))
chosen true x y z h = inl (refl, h)
chosen false x y z h = inr (refl, h)

by_equals : (s r : Sign) (c : ℕ) (rest : Option Sign) → (rest ≡ Some r → spelling r ≡ spelling s ++ c ∷ []) → (((c == 61) ≡ true) × (with_equals s ≡ Some r)) ⊎ (((c == 61) ≡ false) × (rest ≡ Some r)) → spelling r ≡ spelling s ++ c ∷ []
by_equals s r c rest f (inl (e, h)) = rw (equal_from_test c 61 e) (with_equals_spelling s r h)
by_equals s r c rest f (inr (e, h)) = f h

by_plus : (s r : Sign) (c : ℕ) (rest : Option Sign) → (rest ≡ Some r → spelling r ≡ spelling s ++ c ∷ []) → (((c == 43) ≡ true) × (with_plus s ≡ Some r)) ⊎ (((c == 43) ≡ false) × (rest ≡ Some r)) → spelling r ≡ spelling s ++ c ∷ []
by_plus s r c rest f (inl (e, h)) = rw (equal_from_test c 43 e) (with_plus_spelling s r h)
by_plus s r c rest f (inr (e, h)) = f h

by_minus : (s r : Sign) (c : ℕ) (rest : Option Sign) → (rest ≡ Some r → spelling r ≡ spelling s ++ c ∷ []) → (((c == 45) ≡ true) × (with_minus s ≡ Some r)) ⊎ (((c == 45) ≡ false) × (rest ≡ Some r)) → spelling r ≡ spelling s ++ c ∷ []
by_minus s r c rest f (inl (e, h)) = rw (equal_from_test c 45 e) (with_minus_spelling s r h)
by_minus s r c rest f (inr (e, h)) = f h

by_less : (s r : Sign) (c : ℕ) (rest : Option Sign) → (rest ≡ Some r → spelling r ≡ spelling s ++ c ∷ []) → (((c == 60) ≡ true) × (with_less s ≡ Some r)) ⊎ (((c == 60) ≡ false) × (rest ≡ Some r)) → spelling r ≡ spelling s ++ c ∷ []
by_less s r c rest f (inl (e, h)) = rw (equal_from_test c 60 e) (with_less_spelling s r h)
by_less s r c rest f (inr (e, h)) = f h

by_greater : (s r : Sign) (c : ℕ) (rest : Option Sign) → (rest ≡ Some r → spelling r ≡ spelling s ++ c ∷ []) → (((c == 62) ≡ true) × (with_greater s ≡ Some r)) ⊎ (((c == 62) ≡ false) × (rest ≡ Some r)) → spelling r ≡ spelling s ++ c ∷ []
by_greater s r c rest f (inl (e, h)) = rw (equal_from_test c 62 e) (with_greater_spelling s r h)
by_greater s r c rest f (inr (e, h)) = f h

by_and : (s r : Sign) (c : ℕ) (rest : Option Sign) → (rest ≡ Some r → spelling r ≡ spelling s ++ c ∷ []) → (((c == 38) ≡ true) × (with_and s ≡ Some r)) ⊎ (((c == 38) ≡ false) × (rest ≡ Some r)) → spelling r ≡ spelling s ++ c ∷ []
by_and s r c rest f (inl (e, h)) = rw (equal_from_test c 38 e) (with_and_spelling s r h)
by_and s r c rest f (inr (e, h)) = f h

by_or : (s r : Sign) (c : ℕ) (rest : Option Sign) → (rest ≡ Some r → spelling r ≡ spelling s ++ c ∷ []) → (((c == 124) ≡ true) × (with_or s ≡ Some r)) ⊎ (((c == 124) ≡ false) × (rest ≡ Some r)) → spelling r ≡ spelling s ++ c ∷ []
by_or s r c rest f (inl (e, h)) = rw (equal_from_test c 124 e) (with_or_spelling s r h)
by_or s r c rest f (inr (e, h)) = f h

longer_spelling : (s r : Sign) (c : ℕ) → longer s c ≡ Some r → spelling r ≡ spelling s ++ c ∷ []
longer_spelling s r c h0 =
    by_equals s r c _ (λ h1. by_plus s r c _ (λ h2. by_minus s r c _ (λ h3. by_less s r c _ (λ h4. by_greater s r c _ (λ h5. by_and s r c _ (λ h6. by_or s r c _ (λ h7. cc) (chosen (c == 124) _ _ _ h6)) (chosen (c == 38) _ _ _ h5)) (chosen (c == 62) _ _ _ h4)) (chosen (c == 60) _ _ _ h3)) (chosen (c == 45) _ _ _ h2)) (chosen (c == 43) _ _ _ h1)) (chosen (c == 61) _ _ _ h0)

spells_push : (cs t : List ℕ) (i n c : ℕ) → Spells cs t i n → slice_get cs n ≡ Some c → Spells cs (t ++ c ∷ []) i (n + 1)
spells_push cs [] i n c h e = (rw (← h) e, rw h refl)
spells_push cs (x ∷ t) i n c h e = (h.0, spells_push cs t (i + 1) n c h.1 e)

pub spelled_more : (cs : List ℕ) (i n c : ℕ) (s r : Sign) → longer s c ≡ Some r → Spells cs (spelling s) i n → slice_get cs n ≡ Some c → Spells cs (spelling r) i (n + 1)
spelled_more cs i n c s r f h e = rw (longer_spelling s r c f) (spells_push cs (spelling s) i n c h e)

by_first : (s : Sign) (c k : ℕ) (first : Sign) (rest : Option Sign) → spelling first ≡ k ∷ [] → (rest ≡ Some s → spelling s ≡ c ∷ []) → (((c == k) ≡ true) × (Some first ≡ Some s)) ⊎ (((c == k) ≡ false) × (rest ≡ Some s)) → spelling s ≡ c ∷ []
by_first s c k first rest e f (inl (t, h)) = let z : s ≡ first = cc in rw (z, equal_from_test c k t) e
by_first s c k first rest e f (inr (t, h)) = f h

first_spelling_of : (s : Sign) (c : ℕ) → sign_of c ≡ Some s → spelling s ≡ c ∷ []
first_spelling_of s c h0 =
    by_first s c 123 signs.OpenBrace _ refl (λ h1. by_first s c 125 signs.CloseBrace _ refl (λ h2. by_first s c 40 signs.OpenParen _ refl (λ h3. by_first s c 41 signs.CloseParen _ refl (λ h4. by_first s c 91 signs.OpenBracket _ refl (λ h5. by_first s c 93 signs.CloseBracket _ refl (λ h6. by_first s c 46 signs.Dot _ refl (λ h7. by_first s c 59 signs.Semicolon _ refl (λ h8. by_first s c 44 signs.Comma _ refl (λ h9. by_first s c 60 signs.Less _ refl (λ h10. by_first s c 62 signs.Greater _ refl (λ h11. by_first s c 43 signs.Plus _ refl (λ h12. by_first s c 45 signs.Minus _ refl (λ h13. by_first s c 42 signs.Multiply _ refl (λ h14. by_first s c 47 signs.Divide _ refl (λ h15. by_first s c 37 signs.Remainder _ refl (λ h16. by_first s c 38 signs.BitAnd _ refl (λ h17. by_first s c 124 signs.BitOr _ refl (λ h18. by_first s c 94 signs.BitXor _ refl (λ h19. by_first s c 33 signs.Not _ refl (λ h20. by_first s c 126 signs.BitNot _ refl (λ h21. by_first s c 63 signs.Question _ refl (λ h22. by_first s c 58 signs.Colon _ refl (λ h23. by_first s c 61 signs.Assign _ refl (λ h24. cc) (chosen (c == 61) _ _ _ h23)) (chosen (c == 58) _ _ _ h22)) (chosen (c == 63) _ _ _ h21)) (chosen (c == 126) _ _ _ h20)) (chosen (c == 33) _ _ _ h19)) (chosen (c == 94) _ _ _ h18)) (chosen (c == 124) _ _ _ h17)) (chosen (c == 38) _ _ _ h16)) (chosen (c == 37) _ _ _ h15)) (chosen (c == 47) _ _ _ h14)) (chosen (c == 42) _ _ _ h13)) (chosen (c == 45) _ _ _ h12)) (chosen (c == 43) _ _ _ h11)) (chosen (c == 62) _ _ _ h10)) (chosen (c == 60) _ _ _ h9)) (chosen (c == 44) _ _ _ h8)) (chosen (c == 59) _ _ _ h7)) (chosen (c == 46) _ _ _ h6)) (chosen (c == 93) _ _ _ h5)) (chosen (c == 91) _ _ _ h4)) (chosen (c == 41) _ _ _ h3)) (chosen (c == 40) _ _ _ h2)) (chosen (c == 125) _ _ _ h1)) (chosen (c == 123) _ _ _ h0)

pub spelled_first : (cs : List ℕ) (i c : ℕ) (s : Sign) → sign_of c ≡ Some s → slice_get cs i ≡ Some c → Spells cs (spelling s) i (i + 1)
spelled_first cs i c s h e = rw (first_spelling_of s c h) (e, refl)

pub stops_at : (cs : List ℕ) (n c : ℕ) (s : Sign) → slice_get cs n ≡ Some c → longer s c ≡ None → Stops cs n s
stops_at cs n c s e h = record { at = λ x f. let k : x ≡ c = cc in rw k h }

pub stops_past : (cs : List ℕ) (n : ℕ) (s : Sign) → slice_get cs n ≡ None → Stops cs n s
stops_past cs n s e = record { at = λ x f. cc }
