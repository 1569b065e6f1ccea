-- Expressions that grow to the right.
use Rattle.std.proofs.Common.{◌≡◌, ℕ, zero, suc, ◌+◌, ◌<◌, ◌≤◌, ◌⊎◌, inl, inr, min, Bool, true, false, List, [], ◌∷◌, Option, Some, None, refl, sym, ap, ◌∙◌, subst, arith}
use Rattle.std.proofs.lemmas.Bool.{cases_lt}
use Rattle.wjs_tree.specs.declared.tokens.Tok.{Tok}
use Rattle.wjs_tree.specs.declared.signs.Sign.TheVariants as signs
use Rattle.wjs_tree.specs.declared.keys.Key.TheVariants as keys
use Rattle.wjs_tree.specs.declared.operators.PrefixOperator.{PrefixOperator}
use Rattle.wjs_tree.specs.declared.operators.BinaryOperator.{BinaryOperator}
use Rattle.wjs_tree.specs.declared.operators.AssignOperator.{AssignOperator}
use Rattle.wjs_tree.specs.Operators.{prefix_token, binary_token, assign_token, binary_level, is_update, IsAllowed}
use Rattle.wjs_tree.specs.Trees.{Expr, Dot, At, Call, NewWith, NewBare, Postfix, Prefix, Binary, Cond, Assign, Comma}
use Rattle.wjs_tree.specs.Levels.{level, is_target, is_bare, ends_in_update}
use Rattle.wjs_tree.specs.Formed.{Shaped}
use Rattle.wjs_tree.specs.Ends.{HasToken, HasSign, HasKey}
use Rattle.wjs_tree.specs.Spelling.{Stands}
use Rattle.wjs_forms.specs.declared.class.Class.TheVariants as classes
use Rattle.wjs_forms.specs.declared.forms.Place.{Place}
use Rattle.wjs_forms.specs.declared.forms.Place.TheVariants as places
use Rattle.wjs_forms.specs.Table.{after_update}
use Rattle.wjs_forms.proofs.Runs.{class_here}
use Rattle.wjs_forms.proofs.Follows.{binary_low, binary_high}
use Rattle.wjs_forms.proofs.Endings.{is_suffix_class}
use Rattle.wjs_forms.proofs.Rests.{Rests, least, Reading, NoSuffix, Sealed, Whole, AssignFed, First, UnaryFed, Later, Updated, WantOver, WantNew}

pub weaken : (toks : List Tok) (b : Bool) (l k i : ℕ) (e : Expr) (n : ℕ) → k ≤ l → Reading toks b l i e n → Reading toks b k i e n
weaken toks b l k i e n h q = record { binds = (let g = q.binds in omega arith); formed = q.formed; stands = q.stands }

least_low : (b : Bool) → least b ≤ 1
least_low true = omega arith
least_low false = omega arith

-- an operand with an operator and a further operand behind it
pub record Appended (toks : List Tok) (b : Bool) (l i : ℕ) (u : Expr) (n : ℕ) : Type 0 where
  pub tree : Expr
  pub binds : l ≤ level tree
  pub formed : Shaped b tree
  pub stands : Stands toks tree i n
  pub no_target : is_target tree ≡ false
  pub last : ends_in_update tree ≡ ends_in_update u

module _ (toks : List Tok) (b : Bool) (op : BinaryOperator) (u : Expr) (m n : ℕ) (ok : IsAllowed b op) (sign : HasToken toks m (binary_token op)) (operand : Reading toks b 13 (m + 1) u n) where
  on_top : (a : Expr) (i : ℕ) → binary_level op ≤ level a → Shaped b a → Stands toks a i m → Appended toks b (min (level a) (binary_level op)) i u n
  on_top a i le f s = record {
    tree = Binary a op u;
    binds = omega arith;
    formed = (ok, le, (let h = operand.binds in let g = binary_low op in omega arith), f, operand.formed);
    stands = (m, s, sign, operand.stands);
    no_target = refl;
    last = refl;
  }

  append : (a : Expr) (i : ℕ) → 3 ≤ level a → Shaped b a → Stands toks a i m → Appended toks b (min (level a) (binary_level op)) i u n
  append (Binary x o y) i l f s =
      elim (cases_lt (binary_level o) (binary_level op)) [
        | inl lt ↦
            (let q = append y (s.0 + 1) (let h = f.2 in let g = binary_high o in omega arith) f.4 s.3 in
            record {
              tree = Binary x o q.tree;
              binds = omega arith;
              formed = (f.0, f.1, (let h = f.2 in let g = q.binds in omega arith), f.3, q.formed);
              stands = (s.0, s.1, s.2, q.stands);
              no_target = refl;
              last = q.last;
            })
        | inr le ↦ on_top (Binary x o y) i (omega arith) f s
      ]
  append (Cond c x y) i l f s = absurd (omega arith)
  append (Assign t o e) i l f s = absurd (omega arith)
  append (Comma x y) i l f s = absurd (omega arith)
  append (Dot e x) i l f s = on_top (Dot e x) i (let g = f.0 in let h = binary_low op in omega arith) f s
  append (At e x) i l f s = on_top (At e x) i (let g = f.0 in let h = binary_low op in omega arith) f s
  append a i l f s = on_top a i (let h = binary_low op in omega arith) f s

module _ (toks : List Tok) (r : Rests) where
  pub first_whole : (i : ℕ) → (f : First toks r i) → Sealed toks r f.end f.tree → Whole toks r i
  first_whole i f s = f.then f.tree i (weaken toks r.bars 1 (least r.single) i f.tree f.end (least_low r.single) f.reading) f.plain s

  -- an operand at a place, from what may stand behind it
  pub want_unary : (p : Place) (e : Expr) (j n : ℕ) → Reading toks r.bars 13 j e n → NoSuffix toks n e → UnaryFed toks r n → (p ≡ places.Whole → Sealed toks r n e) → (p ≡ places.Update → (is_target e ≡ true) × (16 ≤ level e)) → WantOver toks r p j
  want_unary places.Whole e j n q ns u s t = let w = u e j (weaken toks r.bars 13 3 j e n (omega arith) q) ns in first_whole j w.0 (w.1 (s refl))
  want_unary places.First e j n q ns u s t = (u e j (weaken toks r.bars 13 3 j e n (omega arith) q) ns).0
  want_unary places.Later e j n q ns u s t = record { tree = e; end = n; reading = q; plain = ns; then = u }
  want_unary places.Update e j n q ns u s t = record { tree = e; end = n; reading = record { binds = (t refl).1; formed = q.formed; stands = q.stands }; target = (t refl).0; plain = ns; then = u }

  pub not_update : (p : Place) → after_update p ≡ false → (P : Type 0) → p ≡ places.Update → P
  not_update places.Whole h P e = absurd (cc)
  not_update places.First h P e = absurd (cc)
  not_update places.Later h P e = absurd (cc)
  not_update places.Update h P e = absurd (cc)

  -- an operator before an operand
  pub prefix_later : (p : Place) (op : PrefixOperator) (i : ℕ) → after_update p ≡ false → is_update op ≡ false → HasToken toks i (prefix_token op) → Later toks r (i + 1) → WantOver toks r p i
  prefix_later p op i u f h y =
      want_unary p (Prefix op y.tree) i y.end
      (record { binds = omega arith; formed = (y.reading.binds, (λ g. let w : true ≡ false = sym g ∙ f in absurd (cc)), y.reading.formed); stands = (h, y.reading.stands) })
      y.plain y.then (λ q z c. refl) (not_update p u _)

  pub prefix_update : (p : Place) (op : PrefixOperator) (i : ℕ) → after_update p ≡ false → HasToken toks i (prefix_token op) → Updated toks r (i + 1) → WantOver toks r p i
  prefix_update p op i u h y =
      want_unary p (Prefix op y.tree) i y.end
      (record { binds = omega arith; formed = ((let g = y.reading.binds in omega arith), (λ g. y.target), y.reading.formed); stands = (h, y.reading.stands) })
      y.plain y.then (λ q z c. refl) (not_update p u _)

  -- an operator behind an operand
  pub operator_over : (op : BinaryOperator) (i : ℕ) → IsAllowed r.bars op → HasToken toks i (binary_token op) → Later toks r (i + 1) → UnaryFed toks r i
  operator_over op i ok h y a j q ns =
      let w = append toks r.bars op y.tree i y.end ok h y.reading a j q.binds q.formed q.stands in
      let v = y.then w.tree j (record { binds = (let g = q.binds in let k = binary_high op in let x = w.binds in omega arith); formed = w.formed; stands = w.stands }) (λ z. w.last ∙ y.plain z) in
      (v.0, λ s. v.1 (λ z c. w.no_target))

  -- `?`, an expression, `:` and a further one
  pub choice_over : (i c : ℕ) (a : Expr) → HasSign toks i signs.Question → Reading toks false 1 (i + 1) a c → HasSign toks c signs.Colon → First toks r (c + 1) → UnaryFed toks r i
  choice_over i c a h p d y e j q ns = (
    record {
      tree = Cond e a y.tree;
      end = y.end;
      reading = record { binds = omega arith; formed = (q.binds, p.binds, y.reading.binds, q.formed, p.formed, y.reading.formed); stands = (i, c, q.stands, h, p.stands, d, y.reading.stands) };
      plain = y.plain;
      then = y.then;
    },
    λ s z w. refl,
  )

  -- an assignment sign behind a target that is all of its assignment expression
  pub assign_over : (t : Expr) (op : AssignOperator) (j i : ℕ) → is_target t ≡ true → 15 ≤ level t → Shaped r.bars t → Stands toks t j i → HasToken toks i (assign_token op) → First toks r (i + 1) → First toks r j
  assign_over t op j i g l f s h y = record {
    tree = Assign t op y.tree;
    end = y.end;
    reading = record { binds = omega arith; formed = (g, l, y.reading.binds, f, y.reading.formed); stands = (i, s, h, y.reading.stands) };
    plain = y.plain;
    then = y.then;
  }

  -- an assignment is no target
  pub assigned : (t : Expr) (op : AssignOperator) (j i : ℕ) (g : is_target t ≡ true) (l : 15 ≤ level t) (f : Shaped r.bars t) (s : Stands toks t j i) (h : HasToken toks i (assign_token op)) (y : First toks r (i + 1)) → is_target (assign_over t op j i g l f s h y).tree ≡ false
  unfolding assign_over
  assigned t op j i g l f s h y = refl

  -- the token behind the operand belongs to what comes behind the expression
  pub part_over : (i : ℕ) → AssignFed toks r i → UnaryFed toks r i
  part_over i f e j q ns = (record { tree = e; end = i; reading = weaken toks r.bars 3 1 j e i (omega arith) q; plain = ns; then = f }, λ s. s)

  pub closed_over : (i : ℕ) → ((e : Expr) → NoSuffix toks i e → Sealed toks r i e → r.fed e i) → UnaryFed toks r i
  closed_over i f = part_over i (λ e j q ns s. record { tree = e; end = i; reading = q; then = f e ns s })

  -- a comma and a further assignment expression
  pub comma_over : (i : ℕ) → r.single ≡ false → HasSign toks i signs.Comma → First toks r (i + 1) → UnaryFed toks r i
  comma_over i o h y = part_over i (λ e j q ns s.
      y.then (Comma e y.tree) j
      (record { binds = subst (λ (z : Bool). least z ≤ 0) (sym o) (omega arith); formed = (y.reading.binds, q.formed, y.reading.formed); stands = (i, q.stands, h, y.reading.stands) })
      y.plain (λ z c. refl))

  -- behind `new`s: the operand ends, and with it each of them
  pub bare_new : (k : ℕ) (p : Place) (e : Expr) (j n : ℕ) → after_update p ≡ false → UnaryFed toks r n → (is_suffix_class (class_here toks n) ≡ true → ⊥) → (17 ≤ level e) ⊎ (is_bare e ≡ true) → Shaped r.bars e → Stands toks e j n
      → (i : ℕ) → j ≡ i + 1 → HasKey toks i keys.New → WantNew toks r p k i
  bare_new zero p e j n u f ns l g s i q h =
      want_unary p (NewBare e) i n (record { binds = omega arith; formed = (l, g); stands = (h, subst (λ (z : ℕ). Stands toks e z n) q s) }) (λ z. absurd (ns z)) f (λ z w c. refl) (not_update p u _)
  bare_new (suc k) p e j n u f ns l g s i q h = λ i' q' h'.
      bare_new k p (NewBare e) i n u f ns (inr refl) (l, g) (h, subst (λ (z : ℕ). Stands toks e z n) q s) i' q' h'
