-- A text has one reading.
use Rattle.std.proofs.Common.{◌≡◌, ℕ, ◌<◌, ◌⊎◌, inl, inr, Bool, true, false, ◌||◌, refl, subst, sym, ◌∙◌, ap, arith, List, ◌∷◌, length}
use Rattle.std.proofs.lemmas.Option.{slice_get_past}
use Rattle.wjs_lexer.specs.Places.{byte_at, line_at}
use Rattle.wjs_lexer.specs.Pieces.{Piece, PieceAt, NoPieceAt}
use Rattle.wjs_lexer.specs.Readings.{Placed, is_token, has_line, placed_at, Reads, done, skipping, taking, AreTokens, StopsAt}
use Rattle.wjs_lexer.proofs.SpacesFound.{none_at_end}

both_ways : (n m : ℕ) (p q : Piece) → (m < n) ⊎ ((m ≡ n) × (q ≡ p)) → (n < m) ⊎ ((n ≡ m) × (p ≡ q)) → (m ≡ n) × (q ≡ p)
both_ways n m p q (inl a) (inl b) = absurd (omega arith)
both_ways n m p q (inl a) (inr b) = let e = b.0 in absurd (omega (arith, e))
both_ways n m p q (inr a) b = a

one_piece : (cs : List ℕ) (i n m : ℕ) (p q : Piece) → PieceAt cs i n p → PieceAt cs i m q → (m ≡ n) × (q ≡ p)
one_piece cs i n m p q h k = both_ways n m p q (h.longest m q k.stands) (k.longest n p h.stands)

none_at : (cs : List ℕ) (i n stop : ℕ) (p : Piece) → i ≡ stop → NoPieceAt cs stop → PieceAt cs i n p → ⊥
none_at cs i n stop p e x h = let k = subst (λ (j : ℕ). PieceAt cs j n p) e h in x.none n p k.stands

no_token : (p q : Piece) → q ≡ p → is_token p ≡ false → is_token q ≡ true → ⊥
no_token p q e f g = let k = ap is_token e in cc

same_token : (cs : List ℕ) (i : ℕ) (after : Bool) (p q : Piece) (ts us : List Placed) → q ≡ p → us ≡ ts → placed_at cs i after q ∷ us ≡ placed_at cs i after p ∷ ts
same_token cs i after p q ts us e h = rw (e, h) refl

-- both readings end where no piece begins
pub one_reading : (cs : List ℕ) (stop halt i : ℕ) (after : Bool) (ts us : List Placed) → Reads cs stop i after ts → NoPieceAt cs stop → Reads cs halt i after us → NoPieceAt cs halt → (halt ≡ stop) × (us ≡ ts)
one_reading cs stop halt i after ts us (done a) x (done b) y = (sym b ∙ a, refl)
one_reading cs stop halt i after ts us (done a) x (skipping m q k f s) y = absurd (none_at cs i m stop q a x k)
one_reading cs stop halt i after ts us (done a) x (taking m q k f s) y = absurd (none_at cs i m stop q a x k)
one_reading cs stop halt i after ts us (skipping n p h e r) x (done b) y = absurd (none_at cs i n halt p b y h)
one_reading cs stop halt i after ts us (taking n p h e r) x (done b) y = absurd (none_at cs i n halt p b y h)
one_reading cs stop halt i after ts us (skipping n p h e r) x (skipping m q k f s) y =
    let o = one_piece cs i n m p q h k in
    let s1 = subst (λ (j : ℕ). Reads cs halt j (after || has_line q) us) o.0 s in
    let s2 = subst (λ (z : Piece). Reads cs halt n (after || has_line z) us) o.1 s1 in
    one_reading cs stop halt n (after || has_line p) ts us r x s2 y
one_reading cs stop halt i after ts us (skipping n p h e r) x (taking m q k f s) y = absurd (no_token p q (one_piece cs i n m p q h k).1 e f)
one_reading cs stop halt i after ts us (taking n p h e r) x (skipping m q k f s) y = absurd (no_token q p (sym (one_piece cs i n m p q h k).1) f e)
one_reading cs stop halt i after _ _ (taking {ts = ts} n p h e r) x (taking {ts = us} m q k f s) y =
    let o = one_piece cs i n m p q h k in
    let s1 = subst (λ (j : ℕ). Reads cs halt j false us) o.0 s in
    let z = one_reading cs stop halt n false ts us r x s1 y in
    (z.0, same_token cs i after p q ts us o.1 z.1)

end_none : (cs : List ℕ) → NoPieceAt cs (length cs)
end_none cs = none_at_end cs (length cs) (slice_get_past cs (length cs) (omega arith))

pub one_list : (cs : List ℕ) (from : ℕ) (ts us : List Placed) → AreTokens cs from ts → AreTokens cs from us → us ≡ ts
one_list cs from ts us r s = (one_reading cs (length cs) (length cs) from false ts us r (end_none cs) s (end_none cs)).1

pub one_fault : (cs : List ℕ) (from b l c m : ℕ) → StopsAt cs from b l → StopsAt cs from c m → (c ≡ b) × (m ≡ l)
one_fault cs from b l c m h k =
    let e = (one_reading cs h.stop k.stop from false h.before k.before h.reads h.none k.reads k.none).0 in
    (k.at_byte ∙ ap (λ (j : ℕ). byte_at cs j) e ∙ sym h.at_byte, k.at_line ∙ ap (λ (j : ℕ). line_at cs j) e ∙ sym h.at_line)

pub tokens_or_fault : (cs : List ℕ) (from b l : ℕ) (ts : List Placed) → AreTokens cs from ts → StopsAt cs from b l → ⊥
tokens_or_fault cs from b l ts r h =
    let e = (one_reading cs (length cs) h.stop from false ts h.before r (end_none cs) h.reads h.none).0 in
    let w = h.within in
    omega (arith, e, w)
