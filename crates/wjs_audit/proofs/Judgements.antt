-- Entries are judged in one way.
use Rattle.std.proofs.Common.{◌≡◌, ℕ, ◌⊎◌, inl, inr, ⊎_elim, List, [], ◌∷◌, ◌++◌, refl, ap, sym, subst, ◌∙◌, append_assoc, append-nil}
use Rattle.wjs_store.specs.Meaning.{Worlds}
use Rattle.wjs_store.specs.Run.{answer_in, after_in, after_all, answers_in}
use Rattle.wjs_store.specs.Fixed.{fresh}
use Rattle.wjs_audit.specs.declared.deed.Entry.{Entry}
use Rattle.wjs_audit.specs.Deeds.{action_of, answer_of_deed, actions_of, answers_of}
use Rattle.wjs_audit.specs.Right.{AreRight, WrongAt}
use Rattle.wjs_audit.proofs.Spellings.{head_is, tail_is}
use Rattle.wjs_audit.proofs.Machine.{right_more}

-- where all answers are right, each is
right_at : (F : Worlds) (front : List Entry) (e : Entry) (back : List Entry) → answers_in F (actions_of (front ++ e ∷ back)) ≡ answers_of (front ++ e ∷ back) → answer_in (after_all F (actions_of front)) (action_of e.deed) ≡ answer_of_deed e.deed
right_at F [] e back h = head_is (answer_in F (action_of e.deed)) (answer_of_deed e.deed) (answers_in (after_in F (action_of e.deed)) (actions_of back)) (answers_of back) h
right_at F (x ∷ front) e back h =
    let a = action_of x.deed in
    right_at (after_in F a) front e back (tail_is (answer_in F a) (answer_of_deed x.deed) (answers_in (after_in F a) (actions_of (front ++ e ∷ back))) (answers_of (front ++ e ∷ back)) h)

pub right_or_wrong : (entries : List Entry) (n : ℕ) → AreRight entries → WrongAt entries n → ⊥
right_or_wrong entries n right w = w.wrong (right_at fresh w.front w.entry w.back (subst AreRight w.whole right))

-- of two places in a list, one is in front of the other, or they are one
places : (xs : List Entry) (x : Entry) (us : List Entry) (ys : List Entry) (y : Entry) (bs : List Entry) → xs ++ x ∷ us ≡ ys ++ y ∷ bs
    → (x ≡ y) ⊎ (((mid : List Entry) × (ys ≡ xs ++ x ∷ mid)) ⊎ ((mid : List Entry) × (xs ≡ ys ++ y ∷ mid)))
places [] x us [] y bs e = inl (head_is x y us bs e)
places [] x us (z ∷ ys) y bs e = let h = head_is x z us (ys ++ y ∷ bs) e in inr (inl (ys, ap (λ u. u ∷ ys) (sym h)))
places (z ∷ xs) x us [] y bs e = let h = head_is z y (xs ++ x ∷ us) bs e in inr (inr (xs, ap (λ u. u ∷ xs) h))
places (z ∷ xs) x us (t ∷ ys) y bs e =
    let h = head_is z t (xs ++ x ∷ us) (ys ++ y ∷ bs) e in
    ⊎_elim
    (λ same. inl same)
    (⊎_elim (λ m. inr (inl (m.0, let back = sym h in λ i. back i ∷ m.1 i))) (λ m. inr (inr (m.0, λ i. h i ∷ m.1 i))))
    (places xs x us ys y bs (tail_is z t (xs ++ x ∷ us) (ys ++ y ∷ bs) e))

pub wrong_one : (entries : List Entry) (m n : ℕ) → WrongAt entries m → WrongAt entries n → m ≡ n
wrong_one entries m n v w =
    ⊎_elim
    (λ same. v.line ∙ ap (λ (e : Entry). e.line) same ∙ sym w.line)
    (⊎_elim
    (λ t. absurd (v.wrong (right_at fresh v.front v.entry t.0 (subst AreRight t.1 w.right))))
    (λ t. absurd (w.wrong (right_at fresh w.front w.entry t.0 (subst AreRight t.1 v.right)))))
    (places v.front v.entry v.back w.front w.entry w.back (sym v.whole ∙ w.whole))

-- answers are all right, or one of them is the first that is wrong: behind right ones the next is right too, as long as neither stands
module _ (entries : List Entry) (unright : ¬ (AreRight entries)) (unwrong : (n : ℕ) → ¬ (WrongAt entries n)) where
  goes_on : (front back : List Entry) → entries ≡ front ++ back → AreRight front → ⊥
  goes_on front [] e right = unright (subst AreRight (sym (e ∙ append-nil front)) right)
  goes_on front (x ∷ back) e right = unwrong x.line (record {
    front = front;
    entry = x;
    back = back;
    whole = e;
    right = right;
    line = refl;
    wrong = λ same. goes_on (front ++ x ∷ []) back (e ∙ sym (append_assoc front (x ∷ []) back)) (right_more front x right same);
  })

pub right_or_wrong_some : (entries : List Entry) → ¬ (AreRight entries) → ((n : ℕ) → ¬ (WrongAt entries n)) → ⊥
right_or_wrong_some entries unright unwrong = goes_on entries unright unwrong [] entries refl refl
