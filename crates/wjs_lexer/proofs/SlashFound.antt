-- What was read is the comment or the sign that stands there, or none stands there.
use Rattle.std.proofs.Common.{◌≡◌, ℕ, ◌+◌, ◌<◌, ◌≤◌, ◌⊎◌, inl, inr, Bool, true, false, not, ◌||◌, ◌==◌, refl, subst, sym, ◌∙◌, ap, arith, List, [], ◌∷◌, Option, Some, None, length, get_or}
use Rattle.std.specs.Prelude.{slice_get, slice_range}
use Rattle.std.specs.List.{list_any}
use Rattle.std.proofs.lemmas.Bool.{cases_order}
use Rattle.std.proofs.lemmas.List.Folds.{list_any-append}
use Rattle.std.proofs.Math.Bool.{or-false}
use Rattle.wjs_base.proofs.Numbers.{test_from_equal, equals_itself}
use Rattle.wjs_tree.specs.declared.signs.Sign.{Sign}
use Rattle.wjs_tree.specs.declared.signs.Sign.TheVariants as signs
use Rattle.wjs_tree.specs.Signs.{spelling}
use Rattle.wjs_lexer.specs.declared.characters.Kind.TheVariants as kinds
use Rattle.wjs_lexer.specs.Characters.{is_line_end}
use Rattle.wjs_lexer.specs.KindSteps.{kind_of}
use Rattle.wjs_lexer.specs.Places.{AllPass, passes}
use Rattle.wjs_lexer.specs.Comments.{LineComment, BlockComment, Closes}
use Rattle.wjs_lexer.specs.Signs.{Spells, is_bound_to, IsSign}
use Rattle.wjs_lexer.specs.SignSteps.{sign_of}
use Rattle.wjs_lexer.specs.Cursors.{BeginsSign}
use Rattle.wjs_lexer.specs.Pieces.{Piece, line_comment, block_comment, sign, StandsAt, PieceAt, NoPieceAt}
use Rattle.wjs_lexer.proofs.Ranges.{clash, same_char, range_none, range_more}
use Rattle.wjs_lexer.proofs.KindLemmas.{fits, fits_kind, slash_kind, sign_first}
use Rattle.wjs_lexer.proofs.SignsAhead.{Longest, read, bind, reads_spelling, grown, positive}

-- the characters of two places that differ
differ : (a b : ℕ) → (a == b) ≡ false → a ≡ b → ⊥
differ a b t e = let f : (a == b) ≡ true = rw e (equals_itself b) in cc

pub record AsLine (cs : List ℕ) (i m : ℕ) (q : Piece) : Type 0 where
  pub is : q ≡ line_comment
  pub stands : LineComment cs i m

pub record AsBlock (cs : List ℕ) (i m : ℕ) (q : Piece) : Type 0 where
  pub lines : Bool
  pub is : q ≡ block_comment lines
  pub stands : BlockComment cs i m lines

pub record AsSign (cs : List ℕ) (i m : ℕ) (q : Piece) : Type 0 where
  pub which : Sign
  pub is : q ≡ sign which
  pub stands : IsSign cs i m which

-- what begins with a slash
slash_piece : (q : Piece) (cs : List ℕ) (i m : ℕ) → fits q kinds.Slash ≡ true → StandsAt cs i m q → AsLine cs i m q ⊎ (AsBlock cs i m q ⊎ AsSign cs i m q)
slash_piece line_comment cs i m f h = inl (record { is = refl; stands = h })
slash_piece (block_comment lines) cs i m f h = inr (inl (record { lines = lines; is = refl; stands = h }))
slash_piece (sign s) cs i m f h = inr (inr (record { which = s; is = refl; stands = h }))
slash_piece q cs i m f h = cc

-- what begins with another mark
mark_piece : (q : Piece) (cs : List ℕ) (i m : ℕ) → fits q kinds.Mark ≡ true → StandsAt cs i m q → AsSign cs i m q
mark_piece (sign s) cs i m f h = record { which = s; is = refl; stands = h }
mark_piece q cs i m f h = cc

at_slash : (cs : List ℕ) (i m : ℕ) (q : Piece) → slice_get cs i ≡ Some 47 → StandsAt cs i m q → AsLine cs i m q ⊎ (AsBlock cs i m q ⊎ AsSign cs i m q)
at_slash cs i m q e h = slash_piece q cs i m (fits_kind q cs i m 47 kinds.Slash e slash_kind h) h

-- the signs that begin with a slash
slash_signs : (s : Sign) → (get_or (spelling s) 0 0 == 47) ≡ true → (s ≡ signs.Divide) ⊎ (s ≡ signs.DivideAssign)
slash_signs signs.Divide h = inl refl
slash_signs signs.DivideAssign h = inr refl
slash_signs s h = cc

divide_next : (cs : List ℕ) (i m c : ℕ) → Spells cs (spelling signs.Divide) i m → slice_get cs (i + 1) ≡ Some c → is_bound_to signs.Divide c ≡ true → passes (is_bound_to signs.Divide) (slice_get cs m) ≡ false → ⊥
divide_next cs i m c h e b nx = let f : m ≡ i + 1 = h.1 in clash (is_bound_to signs.Divide) (slice_get cs m) (rw (f, e) b) nx

assign_next : (cs : List ℕ) (i m c : ℕ) → Spells cs (spelling signs.DivideAssign) i m → slice_get cs (i + 1) ≡ Some c → (61 == c) ≡ false → ⊥
assign_next cs i m c h e b = differ 61 c b (same_char 61 c (slice_get cs (i + 1)) h.1.0 e)

slash_sign : (s : Sign) (cs : List ℕ) (i m c : ℕ) → IsSign cs i m s → slice_get cs (i + 1) ≡ Some c → is_bound_to signs.Divide c ≡ true → (61 == c) ≡ false → (s ≡ signs.Divide) ⊎ (s ≡ signs.DivideAssign) → ⊥
slash_sign s cs i m c h e b n (inl k) = let g = subst (λ (r : Sign). IsSign cs i m r) k h in divide_next cs i m c g.spelled e b g.next
slash_sign s cs i m c h e b n (inr k) = let g = subst (λ (r : Sign). IsSign cs i m r) k h in assign_next cs i m c g.spelled e n

-- where a comment begins no sign stands
no_sign : (s : Sign) (cs : List ℕ) (i m c : ℕ) → slice_get cs i ≡ Some 47 → IsSign cs i m s → slice_get cs (i + 1) ≡ Some c → is_bound_to signs.Divide c ≡ true → (61 == c) ≡ false → ⊥
no_sign s cs i m c f h e b n = slash_sign s cs i m c h e b n (slash_signs s (test_from_equal (get_or (spelling s) 0 0) 47 (sym (sign_first s cs i m 47 f h.spelled))))

line_ends : (cs : List ℕ) (i n m : ℕ) (q : Piece) → i + 2 ≤ n → passes (λ x. not (is_line_end x)) (slice_get cs n) ≡ false
    → q ≡ line_comment → LineComment cs i m → AllPass (λ x. not (is_line_end x)) cs (i + 2) n → (m ≡ n) ⊎ ((m < n) ⊎ (n < m)) → (m < n) ⊎ ((m ≡ n) × (q ≡ line_comment))
line_ends cs i n m q lt s e h a (inl k) = inr (k, e)
line_ends cs i n m q lt s e h a (inr (inl k)) = inl k
line_ends cs i n m q lt s e h a (inr (inr k)) = absurd (clash (λ x. not (is_line_end x)) (slice_get cs n) (h.inside n lt k) s)

line_or : (cs : List ℕ) (i n m : ℕ) (q : Piece) → slice_get cs i ≡ Some 47 → slice_get cs (i + 1) ≡ Some 47 → i + 2 ≤ n → AllPass (λ x. not (is_line_end x)) cs (i + 2) n → passes (λ x. not (is_line_end x)) (slice_get cs n) ≡ false
    → AsLine cs i m q ⊎ (AsBlock cs i m q ⊎ AsSign cs i m q) → (m < n) ⊎ ((m ≡ n) × (q ≡ line_comment))
line_or cs i n m q e f lt a s (inl k) = line_ends cs i n m q lt s k.is k.stands a (cases_order m n)
line_or cs i n m q e f lt a s (inr (inl k)) = absurd (differ 47 42 refl (same_char 47 42 (slice_get cs (i + 1)) f k.stands.second))
line_or cs i n m q e f lt a s (inr (inr k)) = absurd (no_sign k.which cs i m 47 e k.stands f refl refl)

pub line_found : (cs : List ℕ) (i n : ℕ) → slice_get cs i ≡ Some 47 → slice_get cs (i + 1) ≡ Some 47 → i + 2 ≤ n → AllPass (λ x. not (is_line_end x)) cs (i + 2) n → passes (λ x. not (is_line_end x)) (slice_get cs n) ≡ false → PieceAt cs i n line_comment
line_found cs i n e f lt a s = record {
  stands = record { first = e; second = f; some = lt; inside = a; next = s };
  longest = λ m q h. line_or cs i n m q e f lt a s (at_slash cs i m q e h);
}

same_close : (cs : List ℕ) (i a b : ℕ) → i + 2 ≤ a → i + 2 ≤ b → Closes cs a → Closes cs b → ((k : ℕ) → i + 2 ≤ k → k < a → Closes cs k → ⊥) → ((k : ℕ) → i + 2 ≤ k → k < b → Closes cs k → ⊥) → (b ≡ a) ⊎ ((b < a) ⊎ (a < b)) → b ≡ a
same_close cs i a b x y ca cb na nb (inl e) = e
same_close cs i a b x y ca cb na nb (inr (inl lt)) = absurd (na b y lt cb)
same_close cs i a b x y ca cb na nb (inr (inr gt)) = absurd (nb a x gt ca)

block_same : (cs : List ℕ) (i n m : ℕ) (l r : Bool) (q : Piece) → BlockComment cs i n l → q ≡ block_comment r → BlockComment cs i m r → (m ≡ n) × (q ≡ block_comment l)
block_same cs i n m l r q h e k =
    let c : k.close ≡ h.close = same_close cs i h.close k.close h.some k.some h.closes k.closes h.before k.before (cases_order k.close h.close) in
    let f : m ≡ n = k.end ∙ ap (λ (x : ℕ). x + 2) c ∙ sym h.end in
    (f, e ∙ ap (λ (b : Bool). block_comment b) (k.holds ∙ ap (λ (j : ℕ). list_any is_line_end (slice_range cs i j)) f ∙ sym h.holds))

block_or : (cs : List ℕ) (i n m : ℕ) (l : Bool) (q : Piece) → BlockComment cs i n l → AsLine cs i m q ⊎ (AsBlock cs i m q ⊎ AsSign cs i m q) → (m < n) ⊎ ((m ≡ n) × (q ≡ block_comment l))
block_or cs i n m l q h (inl k) = absurd (differ 42 47 refl (same_char 42 47 (slice_get cs (i + 1)) h.second k.stands.second))
block_or cs i n m l q h (inr (inl k)) = inr (block_same cs i n m l k.lines q h k.is k.stands)
block_or cs i n m l q h (inr (inr k)) = absurd (no_sign k.which cs i m 42 h.first k.stands h.second refl refl)

pub block_found : (cs : List ℕ) (i n : ℕ) (l : Bool) → BlockComment cs i n l → PieceAt cs i n (block_comment l)
block_found cs i n l h = record {
  stands = h;
  longest = λ m q k. block_or cs i n m l q h (at_slash cs i m q h.first k);
}

unclosed_or : (cs : List ℕ) (i m : ℕ) (q : Piece) → slice_get cs i ≡ Some 47 → slice_get cs (i + 1) ≡ Some 42 → ((k : ℕ) → i + 2 ≤ k → Closes cs k → ⊥) → AsLine cs i m q ⊎ (AsBlock cs i m q ⊎ AsSign cs i m q) → ⊥
unclosed_or cs i m q e f n (inl k) = differ 42 47 refl (same_char 42 47 (slice_get cs (i + 1)) f k.stands.second)
unclosed_or cs i m q e f n (inr (inl k)) = n k.stands.close k.stands.some k.stands.closes
unclosed_or cs i m q e f n (inr (inr k)) = no_sign k.which cs i m 42 e k.stands f refl refl

pub unclosed : (cs : List ℕ) (i : ℕ) → slice_get cs i ≡ Some 47 → slice_get cs (i + 1) ≡ Some 42 → ((k : ℕ) → i + 2 ≤ k → Closes cs k → ⊥) → NoPieceAt cs i
unclosed cs i e f n = record { none = λ m q h. unclosed_or cs i m q e f n (at_slash cs i m q e h) }

twice : (b : Bool) → b ≡ ((b || is_line_end 42) || is_line_end 47)
twice true = refl
twice false = refl

-- whether a line ends in a comment that grows
pub any_more : (cs : List ℕ) (i n c : ℕ) (b : Bool) → i ≤ n → slice_get cs n ≡ Some c → b ≡ list_any is_line_end (slice_range cs i n) → (b || is_line_end c) ≡ list_any is_line_end (slice_range cs i (n + 1))
any_more cs i n c b le h e = rw (range_more cs i n c le h, list_any-append is_line_end (slice_range cs i n) (c ∷ []), ← e) (ap (λ (x : Bool). b || x) (sym (or-false (is_line_end c))))

pub opened : (cs : List ℕ) (i : ℕ) → slice_get cs i ≡ Some 47 → slice_get cs (i + 1) ≡ Some 42 → false ≡ list_any is_line_end (slice_range cs i (i + 2))
opened cs i e f =
    let a = any_more cs i i 47 false (omega arith) e (rw (range_none cs i) refl) in
    let b = any_more cs i (i + 1) 42 false (omega arith) f a in
    let k : i + 1 + 1 ≡ i + 2 = omega arith in
    b ∙ ap (λ (j : ℕ). list_any is_line_end (slice_range cs i j)) k

pub closed_holds : (cs : List ℕ) (i n : ℕ) (b : Bool) → i ≤ n → Closes cs n → b ≡ list_any is_line_end (slice_range cs i n) → b ≡ list_any is_line_end (slice_range cs i (n + 2))
closed_holds cs i n b le c e =
    let x = any_more cs i n 42 b le c.0 e in
    let y = any_more cs i (n + 1) 47 (b || is_line_end 42) (omega arith) c.1 x in
    let k : n + 1 + 1 ≡ n + 2 = omega arith in
    twice b ∙ y ∙ ap (λ (j : ℕ). list_any is_line_end (slice_range cs i j)) k

alone : (cs : List ℕ) (i m : ℕ) (q : Piece) → (slice_get cs (i + 1) ≡ Some 47 → ⊥) → (slice_get cs (i + 1) ≡ Some 42 → ⊥) → AsLine cs i m q ⊎ (AsBlock cs i m q ⊎ AsSign cs i m q) → AsSign cs i m q
alone cs i m q f g (inl k) = absurd (f k.stands.second)
alone cs i m q f g (inr (inl k)) = absurd (g k.stands.second)
alone cs i m q f g (inr (inr k)) = k

-- a sign, or nothing, begins with a mark
sign_or : (cs : List ℕ) (i m c : ℕ) (first : Sign) (q : Piece) → BeginsSign cs i c first → StandsAt cs i m q
    → (kind_of c ≡ kinds.Mark) ⊎ ((kind_of c ≡ kinds.Slash) × ((slice_get cs (i + 1) ≡ Some 47 → ⊥) × (slice_get cs (i + 1) ≡ Some 42 → ⊥))) → AsSign cs i m q
sign_or cs i m c first q b h (inl k) = mark_piece q cs i m (fits_kind q cs i m c kinds.Mark b.here k h) h
sign_or cs i m c first q b h (inr k) = alone cs i m q k.1.0 k.1.1 (slash_piece q cs i m (fits_kind q cs i m c kinds.Slash b.here k.0 h) h)

shorter_or : (n m : ℕ) (s r : Sign) (q : Piece) → q ≡ sign r → (m < n) ⊎ ((m ≡ n) × (r ≡ s)) → (m < n) ⊎ ((m ≡ n) × (q ≡ sign s))
shorter_or n m s r q e (inl k) = inl k
shorter_or n m s r q e (inr k) = inr (k.0, e ∙ ap (λ (x : Sign). sign x) k.1)

pub sign_found : (cs : List ℕ) (i n c : ℕ) (first s : Sign) → BeginsSign cs i c first → Spells cs (spelling s) i n → Longest cs i n s → passes (is_bound_to s) (slice_get cs n) ≡ false → PieceAt cs i n (sign s)
sign_found cs i n c first s b sp lg nx = record {
  stands = record { spelled = sp; next = nx };
  longest = λ m q h. let k = sign_or cs i m c first q b h b.mark in shorter_or n m s k.which q k.is (lg.all k.which m k.stands.spelled);
}

-- a sign that binds what stands behind it has one character
bound_short : (s : Sign) (cs : List ℕ) (i n : ℕ) (o : Option ℕ) → passes (is_bound_to s) o ≡ true → Spells cs (spelling s) i n → n ≡ i + 1
bound_short signs.Dot cs i n o h sp = sp.1
bound_short signs.Divide cs i n o h sp = sp.1
bound_short s cs i n None h sp = cc
bound_short s cs i n (Some c) h sp = cc

pub spells_length : (t : List ℕ) (cs : List ℕ) (i n : ℕ) → Spells cs t i n → n ≡ i + length t
spells_length [] cs i n h = omega (arith, h)
spells_length (x ∷ t) cs i n h = let k = spells_length t cs (i + 1) n h.1 in omega (arith, k)

no_shorter : (cs : List ℕ) (i n m : ℕ) (s r : Sign) → n ≡ i + 1 → IsSign cs i m r → passes (is_bound_to s) (slice_get cs n) ≡ true → (m < n) ⊎ ((m ≡ n) × (r ≡ s)) → ⊥
no_shorter cs i n m s r one h nx (inl lt) = let a = spells_length (spelling r) cs i m h.spelled in let b = positive r in omega (arith, a, b)
no_shorter cs i n m s r one h nx (inr k) = clash (is_bound_to s) (slice_get cs n) nx (subst (λ (x : Sign). passes (is_bound_to x) (slice_get cs n) ≡ false) k.1 (subst (λ (j : ℕ). passes (is_bound_to r) (slice_get cs j) ≡ false) k.0 h.next))

pub sign_bound : (cs : List ℕ) (i n c : ℕ) (first s : Sign) → BeginsSign cs i c first → Spells cs (spelling s) i n → Longest cs i n s → passes (is_bound_to s) (slice_get cs n) ≡ true → NoPieceAt cs i
sign_bound cs i n c first s b sp lg nx = record {
  none = λ m q h.
      let k = sign_or cs i m c first q b h b.mark in
      no_shorter cs i n m s k.which (bound_short s cs i n (slice_get cs n) nx sp) k.stands nx (lg.all k.which m k.stands.spelled);
}

first_sign : (cs : List ℕ) (i m c : ℕ) (r : Sign) (t : List ℕ) → slice_get cs i ≡ Some c → sign_of c ≡ None → read t ≡ Some r → Spells cs t i m → ⊥
first_sign cs i m c r [] e f g h = cc
first_sign cs i m c r (x ∷ t) e f g h =
    let a = h.0 in let k : c ≡ x = cc in
    let z = subst (λ (o : Option Sign). bind o (λ y. grown y t) ≡ Some r) (ap sign_of (sym k) ∙ f) g in cc

pub no_mark : (cs : List ℕ) (i c : ℕ) → slice_get cs i ≡ Some c → kind_of c ≡ kinds.Mark → sign_of c ≡ None → NoPieceAt cs i
no_mark cs i c e k f = record {
  none = λ m q h.
      let s = mark_piece q cs i m (fits_kind q cs i m c kinds.Mark e k h) h in
      first_sign cs i m c s.which (spelling s.which) e f (reads_spelling s.which) s.stands.spelled;
}
