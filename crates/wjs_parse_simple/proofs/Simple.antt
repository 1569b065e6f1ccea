-- Statements without statements in them.
use Rattle.std.proofs.Common.{◌≡◌, ℕ, ◌+◌, ◌-◌, ◌<◌, ◌≤◌, ◌⊎◌, inl, inr, true, false, List, [], ◌∷◌, length, Option, Some, None, refl, sym, ap, ◌∙◌, subst, arith}
use Rattle.std.specs.Prelude.{slice_get}
use Rattle.wjs_base.specs.declared.ids.TextId.{TextId}
use Rattle.wjs_base.specs.declared.ids.NodeId.{NodeId}
use Rattle.wjs_tree.specs.declared.tokens.Token.{Token}
use Rattle.wjs_tree.specs.declared.tokens.Token.TheVariants as tokens
use Rattle.wjs_tree.specs.declared.signs.Sign.{Sign}
use Rattle.wjs_tree.specs.declared.signs.Sign.TheVariants as signs
use Rattle.wjs_tree.specs.declared.keys.Key.{Key}
use Rattle.wjs_tree.specs.declared.keys.Key.TheVariants as keys
use Rattle.wjs_tree.specs.declared.tokens.Tok.{Tok}
use Rattle.wjs_tree.specs.declared.node.Node.{Node}
use Rattle.wjs_tree.specs.declared.node.Node.TheVariants as nodes
use Rattle.wjs_tree.specs.declared.node.End.{End}
use Rattle.wjs_tree.specs.declared.node.End.TheVariants as ends
use Rattle.wjs_tree.specs.Trees.{Expr, Absent, Present, Stmt, Block, Empty, ExprStmt, IfElse, Continue, Break, Return, Throw}
use Rattle.wjs_tree.specs.Levels.{starts_with_brace}
use Rattle.wjs_tree.specs.Height.{stmt_height}
use Rattle.wjs_tree.specs.Spelling.{Stands, LabelStands}
use Rattle.wjs_tree.specs.Ends.{token_at, HasToken, IsJoined, is_joined, Complete, CanInsert, Ends}
use Rattle.wjs_tree.specs.Shows.{Keeps, Has}
use Rattle.wjs_tree.proofs.Kept.{kept}
use Rattle.wjs_parse_expr.proofs.Readings.{same_token, token_within}
use Rattle.wjs_parse_expr.proofs.Unaries.{begins}
use Rattle.wjs_parse_expr.proofs.Beginnings.{can_begin}
use Rattle.wjs_parse_simple.specs.declared.kind.Kind.TheVariants as kinds
use Rattle.wjs_parse_simple.specs.declared.parts.Valued.{Valued}
use Rattle.wjs_parse_simple.specs.declared.parts.Ended.{Ended}
use Rattle.wjs_parse_simple.specs.Kinds.{kind_of, kind_of_stmt}
use Rattle.wjs_parse_simple.specs.Readings.{StmtReading, Stops, ValueForm}
use Rattle.wjs_parse_simple.specs.Answers.{KindIs, FindsStmt, FindsValue, LabelAnswers, behind_label}
use Rattle.wjs_parse_simple.proofs.Ending.{one_end}
use Rattle.wjs_parse_simple.proofs.Starts.{is_brace, opening}
use Rattle.wjs_parse_simple.proofs.Forms.{told, of_kind}

-- no statement is of no kind
pub nothing_none : (toks : List Tok) (room i : ℕ) → KindIs toks i kinds.Nothing → (u : Stmt) (m : ℕ) → StmtReading toks room i u m → Stops toks m u → ⊥
nothing_none toks room i k u m r s = nay u (of_kind toks room i _ k u m r s)
  where
    nay : (u : Stmt) → kind_of_stmt u ≡ kinds.Nothing → ⊥
    nay (Block body) h = cc
    nay _ h = cc

-- every statement has a height
pub some_room : (u : Stmt) (toks : List Tok) (i m : ℕ) → StmtReading toks 0 i u m → ⊥
some_room u toks i m r = high u r.height
  where
    high : (u : Stmt) → stmt_height u ≤ 0 → ⊥
    high (Block body) h = omega arith
    high (IfElse e a b) h = omega arith
    high _ h = omega arith

-- ---- `;`

only_empty : (toks : List Tok) (room i : ℕ) (u : Stmt) (m : ℕ) → kind_of_stmt u ≡ kinds.Empty → StmtReading toks room i u m → (u ≡ Empty) × (m ≡ i + 1)
only_empty toks room i Empty m k r = (refl, r.stands.1)
only_empty toks room i _ m k r = cc

pub empty_found : (toks : List Tok) (room i : ℕ) (ns : List Node) (node : NodeId) → 0 < room → KindIs toks i kinds.Empty → Has ns node nodes.Empty → FindsStmt toks room i ns (record { node = node; next = i + 1; is_open = false })
empty_found toks room i ns node below k has = record {
  stmt = Empty;
  used = node.0 ∷ [];
  shows = (has, refl);
  is_open = refl;
  reading = record { formed = tt; height = omega arith; stands = (told toks i _ k, refl) };
  only = λ u m r s. only_empty toks room i u m (of_kind toks room i _ k u m r s) r;
}

-- ---- an expression

record PlainForm (toks : List Tok) (room i : ℕ) (u : Stmt) (n : ℕ) : Type 0 where
  value : Expr
  end : End
  is : u ≡ ExprStmt value end
  form : ValueForm toks (room - 1) i value end n

only_plain : (toks : List Tok) (room i : ℕ) (u : Stmt) (m : ℕ) → kind_of_stmt u ≡ kinds.Plain → StmtReading toks room i u m → PlainForm toks room i u m
only_plain toks room i (ExprStmt e end) m k r = record {
  value = e;
  end = end;
  is = refl;
  form = record { place = r.stands.0; reading = record { level = omega arith; formed = r.formed.1; height = (let h = r.height in omega arith); stands = r.stands.1 }; ends = r.stands.2 };
}
only_plain toks room i _ m k r = absurd cc

plain_sign : (s : Sign) (b : Option Token) → kind_of (Some (tokens.Sign s)) b ≡ kinds.Plain → is_brace (tokens.Sign s) ≡ false
plain_sign signs.OpenBrace b h = cc
plain_sign _ b h = refl

plain_key : (k : Key) (b : Option Token) → kind_of (Some (tokens.Key k)) b ≡ kinds.Plain → is_brace (tokens.Key k) ≡ false
plain_key keys.Function b h = cc
plain_key _ b h = refl

plain_brace : (t : Token) (b : Option Token) → kind_of (Some t) b ≡ kinds.Plain → is_brace t ≡ false
plain_brace (tokens.Sign s) b h = plain_sign s b h
plain_brace (tokens.Key k) b h = plain_key k b h
plain_brace (tokens.Word x) b h = refl
plain_brace (tokens.Text x) b h = refl
plain_brace (tokens.Number x) b h = refl

no_brace : (toks : List Tok) (i m : ℕ) (e : Expr) → KindIs toks i kinds.Plain → Stands toks e i m → starts_with_brace e ≡ false
no_brace toks i m e k s =
    let o = opening toks e i m s in
    sym o.brace ∙ plain_brace o.token (token_at toks (i + 1)) (sym (ap (λ z. kind_of z (token_at toks (i + 1))) o.stands) ∙ k)

pub plain_found : (toks : List Tok) (room i : ℕ) (ns new : List Node) (p : Valued) (node : NodeId) → 0 < room → KindIs toks i kinds.Plain → FindsValue toks (room - 1) i ns p → Keeps ns new → Has new node (nodes.Expr p.node p.end)
    → FindsStmt toks room i new (record { node = node; next = p.next; is_open = false })
plain_found toks room i ns new p node below k f keeps has = record {
  stmt = ExprStmt f.tree p.end;
  used = node.0 ∷ f.used;
  shows = (p.node, f.used, has, refl, kept ns new keeps f.tree p.node f.used f.shows);
  is_open = refl;
  reading = record { formed = (no_brace toks i f.form.place f.tree k f.form.reading.stands, f.form.reading.formed); height = (let h = f.form.reading.height in omega arith); stands = (f.form.place, f.form.reading.stands, f.form.ends) };
  only = λ u m r s.
      (let x = only_plain toks room i u m (of_kind toks room i _ k u m r s) r in
      let a = f.only x.value x.end m x.form in
      ((let b = x.is in let c = a.0 in let d = a.1 in cc), a.2));
}

pub plain_none : (toks : List Tok) (room i : ℕ) → KindIs toks i kinds.Plain → ((u : Expr) (end : End) (m : ℕ) → ValueForm toks (room - 1) i u end m → ⊥) → (u : Stmt) (m : ℕ) → StmtReading toks room i u m → Stops toks m u → ⊥
plain_none toks room i k none u m r s = let x = only_plain toks room i u m (of_kind toks room i _ k u m r s) r in none x.value x.end m x.form

-- ---- `throw`

record ThrowForm (toks : List Tok) (room i : ℕ) (u : Stmt) (n : ℕ) : Type 0 where
  value : Expr
  end : End
  is : u ≡ Throw value end
  joined : IsJoined toks (i + 1)
  form : ValueForm toks (room - 1) (i + 1) value end n

only_throw : (toks : List Tok) (room i : ℕ) (u : Stmt) (m : ℕ) → kind_of_stmt u ≡ kinds.Throw → StmtReading toks room i u m → ThrowForm toks room i u m
only_throw toks room i (Throw e end) m k r = record {
  value = e;
  end = end;
  is = refl;
  joined = r.stands.2;
  form = record { place = r.stands.0; reading = record { level = omega arith; formed = r.formed; height = (let h = r.height in omega arith); stands = r.stands.3 }; ends = r.stands.4 };
}
only_throw toks room i _ m k r = absurd cc

pub throw_found : (toks : List Tok) (room i : ℕ) (ns new : List Node) (p : Valued) (node : NodeId) → 0 < room → KindIs toks i kinds.Throw → IsJoined toks (i + 1) → FindsValue toks (room - 1) (i + 1) ns p → Keeps ns new → Has new node (nodes.Throw p.node p.end)
    → FindsStmt toks room i new (record { node = node; next = p.next; is_open = false })
throw_found toks room i ns new p node below k joined f keeps has = record {
  stmt = Throw f.tree p.end;
  used = node.0 ∷ f.used;
  shows = (p.node, f.used, has, refl, kept ns new keeps f.tree p.node f.used f.shows);
  is_open = refl;
  reading = record { formed = f.form.reading.formed; height = (let h = f.form.reading.height in omega arith); stands = (f.form.place, told toks i _ k, joined, f.form.reading.stands, f.form.ends) };
  only = λ u m r s.
      (let x = only_throw toks room i u m (of_kind toks room i _ k u m r s) r in
      let a = f.only x.value x.end m x.form in
      ((let b = x.is in let c = a.0 in let d = a.1 in cc), a.2));
}

pub throw_none : (toks : List Tok) (room i : ℕ) → KindIs toks i kinds.Throw → ((u : Expr) (end : End) (m : ℕ) → ValueForm toks (room - 1) (i + 1) u end m → ⊥) → (u : Stmt) (m : ℕ) → StmtReading toks room i u m → Stops toks m u → ⊥
throw_none toks room i k none u m r s = let x = only_throw toks room i u m (of_kind toks room i _ k u m r s) r in none x.value x.end m x.form

pub throw_apart : (toks : List Tok) (room i : ℕ) → KindIs toks i kinds.Throw → (is_joined (slice_get toks (i + 1)) ≡ false) → (u : Stmt) (m : ℕ) → StmtReading toks room i u m → Stops toks m u → ⊥
throw_apart toks room i k apart u m r s = let x = only_throw toks room i u m (of_kind toks room i _ k u m r s) r in let j = x.joined in cc

-- ---- `return`

-- no end stands before a token on the line
joined_end : (toks : List Tok) (i n : ℕ) (t : Token) (end : End) → HasToken toks i t → IsJoined toks i → (t ≡ tokens.Sign signs.Semicolon → ⊥) → (t ≡ tokens.Sign signs.CloseBrace → ⊥) → Ends toks Complete end i n → ⊥
joined_end toks i n t ends.Written h j a b d = a (same_token _ t _ h d.0)
joined_end toks i n t ends.Inserted h j a b d = inserted d.0
  where
    inserted : CanInsert toks Complete i → ⊥
    inserted (inl none) = cc
    inserted (inr (inl brace)) = b (same_token _ t _ h brace)
    inserted (inr (inr o)) = let q = o.after_line in cc

no_begin : (t x : Token) → can_begin t ≡ true → can_begin x ≡ false → t ≡ x → ⊥
no_begin t x a b e = let z : can_begin t ≡ can_begin x = ap can_begin e in cc

value_end : (toks : List Tok) (i m n : ℕ) (e : Expr) (end : End) → Stands toks e i m → IsJoined toks i → Ends toks Complete end i n → ⊥
value_end toks i m n e end s j d =
    let b = begins toks e i m s in
    joined_end toks i n b.0 end b.1 j (no_begin b.0 (tokens.Sign signs.Semicolon) b.2 refl) (no_begin b.0 (tokens.Sign signs.CloseBrace) b.2 refl) d

-- without a value or with one
abbrev ReturnForm : List Tok → ℕ → ℕ → Stmt → ℕ → Type 0
ReturnForm toks room i u n = ((end : End) × (u ≡ Return Absent end) × Ends toks Complete end (i + 1) n) ⊎ ((e : Expr) × (end : End) × (u ≡ Return (Present e) end) × IsJoined toks (i + 1) × ValueForm toks (room - 1) (i + 1) e end n)

only_return : (toks : List Tok) (room i : ℕ) (u : Stmt) (m : ℕ) → kind_of_stmt u ≡ kinds.Return → StmtReading toks room i u m → ReturnForm toks room i u m
only_return toks room i (Return Absent end) m k r = inl (end, refl, r.stands.1)
only_return toks room i (Return (Present e) end) m k r =
    inr (e, end, refl, r.stands.2, record { place = r.stands.0; reading = record { level = omega arith; formed = r.formed; height = (let h = r.height in omega arith); stands = r.stands.3 }; ends = r.stands.4 })
only_return toks room i _ m k r = absurd cc

pub bare_return : (toks : List Tok) (room i : ℕ) (new : List Node) (e : Ended) (node : NodeId) → 0 < room → KindIs toks i kinds.Return → Ends toks Complete e.end (i + 1) e.next → Has new node (nodes.Return None e.end)
    → FindsStmt toks room i new (record { node = node; next = e.next; is_open = false })
bare_return toks room i new e node below k d has = record {
  stmt = Return Absent e.end;
  used = node.0 ∷ [];
  shows = (None, [], has, refl, (refl, refl));
  is_open = refl;
  reading = record { formed = tt; height = omega arith; stands = (told toks i _ k, d) };
  only = λ u m r s. one u m (only_return toks room i u m (of_kind toks room i _ k u m r s) r);
}
  where
    one : (u : Stmt) (m : ℕ) → ReturnForm toks room i u m → (u ≡ Return Absent e.end) × (m ≡ e.next)
    one u m (inl x) = let a = one_end toks Complete (i + 1) m e.next x.0 e.end x.2 d in (x.1 ∙ ap (Return Absent) a.0, a.1)
    one u m (inr x) = absurd (value_end toks (i + 1) x.4.place e.next x.0 e.end x.4.reading.stands x.3 d)

pub return_found : (toks : List Tok) (room i : ℕ) (ns new : List Node) (p : Valued) (node : NodeId) → 0 < room → KindIs toks i kinds.Return → ((end : End) (n : ℕ) → Ends toks Complete end (i + 1) n → ⊥) → IsJoined toks (i + 1) → FindsValue toks (room - 1) (i + 1) ns p → Keeps ns new
    → Has new node (nodes.Return (Some p.node) p.end) → FindsStmt toks room i new (record { node = node; next = p.next; is_open = false })
return_found toks room i ns new p node below k open_end joined f keeps has = record {
  stmt = Return (Present f.tree) p.end;
  used = node.0 ∷ f.used;
  shows = (Some p.node, f.used, has, refl, (p.node, refl, kept ns new keeps f.tree p.node f.used f.shows));
  is_open = refl;
  reading = record { formed = f.form.reading.formed; height = (let h = f.form.reading.height in omega arith); stands = (f.form.place, told toks i _ k, joined, f.form.reading.stands, f.form.ends) };
  only = λ u m r s. one u m (only_return toks room i u m (of_kind toks room i _ k u m r s) r);
}
  where
    one : (u : Stmt) (m : ℕ) → ReturnForm toks room i u m → (u ≡ Return (Present f.tree) p.end) × (m ≡ p.next)
    one u m (inl x) = absurd (open_end x.0 m x.2)
    one u m (inr x) = let a = f.only x.0 x.1 m x.4 in ((let b = x.2 in let c = a.0 in let d = a.1 in cc), a.2)

pub return_none : (toks : List Tok) (room i : ℕ) → KindIs toks i kinds.Return → ((end : End) (n : ℕ) → Ends toks Complete end (i + 1) n → ⊥) → ((u : Expr) (end : End) (m : ℕ) → IsJoined toks (i + 1) → ValueForm toks (room - 1) (i + 1) u end m → ⊥)
    → (u : Stmt) (m : ℕ) → StmtReading toks room i u m → Stops toks m u → ⊥
return_none toks room i k open_end none u m r s = one (only_return toks room i u m (of_kind toks room i _ k u m r s) r)
  where
    one : ReturnForm toks room i u m → ⊥
    one (inl x) = open_end x.0 m x.2
    one (inr x) = none x.0 x.1 m x.3 x.4

-- ---- `continue` and `break`

label_stands : (toks : List Tok) (i : ℕ) (l : Option TextId) → LabelAnswers toks i l → LabelStands toks l i (behind_label l i)
label_stands toks i None a = refl
label_stands toks i (Some x) a = (a.0, a.1, refl)

-- the label before an end is the one that is read
same_label : (toks : List Tok) (i : ℕ) (l : Option TextId) → LabelAnswers toks i l → (l' : Option TextId) (m n : ℕ) (end : End) → LabelStands toks l' i m → Ends toks Complete end m n → (l' ≡ l) × (m ≡ behind_label l i)
same_label toks i None a None m n end s d = (refl, s)
same_label toks i (Some x) a (Some y) m n end s d = (let e : tokens.Word y ≡ tokens.Word x = same_token _ _ _ s.0 a.0 in let z : y ≡ x = cc in ap Some z, s.2)
same_label toks i None a (Some y) m n end s d = absurd (a y s.0 s.1)
same_label toks i (Some x) a None m n end s d = absurd (joined_end toks i n (tokens.Word x) end a.0 a.1 (λ q. cc) (λ q. cc) (subst (λ (z : ℕ). Ends toks Complete end z n) s d))

-- a jump, by its label and end
record JumpForm (toks : List Tok) (form : Option TextId → End → Stmt) (i : ℕ) (u : Stmt) (n : ℕ) : Type 0 where
  label : Option TextId
  end : End
  place : ℕ
  is : u ≡ form label end
  stands : LabelStands toks label (i + 1) place
  ends : Ends toks Complete end place n

only_continue : (toks : List Tok) (room i : ℕ) (u : Stmt) (m : ℕ) → kind_of_stmt u ≡ kinds.Continue → StmtReading toks room i u m → JumpForm toks Continue i u m
only_continue toks room i (Continue label end) m k r = record { label = label; end = end; place = r.stands.0; is = refl; stands = r.stands.2; ends = r.stands.3 }
only_continue toks room i _ m k r = absurd cc

only_break : (toks : List Tok) (room i : ℕ) (u : Stmt) (m : ℕ) → kind_of_stmt u ≡ kinds.Break → StmtReading toks room i u m → JumpForm toks Break i u m
only_break toks room i (Break label end) m k r = record { label = label; end = end; place = r.stands.0; is = refl; stands = r.stands.2; ends = r.stands.3 }
only_break toks room i _ m k r = absurd cc

module _ (toks : List Tok) (room i : ℕ) (l : Option TextId) (a : LabelAnswers toks (i + 1) l) where
  same_jump : (form : Option TextId → End → Stmt) (e : Ended) → Ends toks Complete e.end (behind_label l (i + 1)) e.next → (u : Stmt) (m : ℕ) → JumpForm toks form i u m → (u ≡ form l e.end) × (m ≡ e.next)
  same_jump form e d u m x =
      let s = same_label toks (i + 1) l a x.label x.place m x.end x.stands x.ends in
      let b = one_end toks Complete (behind_label l (i + 1)) m e.next x.end e.end (subst (λ (z : ℕ). Ends toks Complete x.end z m) s.1 x.ends) d in
      ((let c = x.is in let f = s.0 in let g = b.0 in cc), b.1)

  no_jump : (form : Option TextId → End → Stmt) → ((end : End) (n : ℕ) → Ends toks Complete end (behind_label l (i + 1)) n → ⊥) → (u : Stmt) (m : ℕ) → JumpForm toks form i u m → ⊥
  no_jump form none u m x =
      let s = same_label toks (i + 1) l a x.label x.place m x.end x.stands x.ends in
      none x.end m (subst (λ (z : ℕ). Ends toks Complete x.end z m) s.1 x.ends)

  pub continue_found : (new : List Node) (e : Ended) (node : NodeId) → 0 < room → KindIs toks i kinds.Continue → Ends toks Complete e.end (behind_label l (i + 1)) e.next → Has new node (nodes.Continue l e.end)
      → FindsStmt toks room i new (record { node = node; next = e.next; is_open = false })
  continue_found new e node below k d has = record {
    stmt = Continue l e.end;
    used = node.0 ∷ [];
    shows = (has, refl);
    is_open = refl;
    reading = record { formed = tt; height = omega arith; stands = (behind_label l (i + 1), told toks i _ k, label_stands toks (i + 1) l a, d) };
    only = λ u m r s. same_jump Continue e d u m (only_continue toks room i u m (of_kind toks room i _ k u m r s) r);
  }

  pub continue_none : KindIs toks i kinds.Continue → ((end : End) (n : ℕ) → Ends toks Complete end (behind_label l (i + 1)) n → ⊥) → (u : Stmt) (m : ℕ) → StmtReading toks room i u m → Stops toks m u → ⊥
  continue_none k none u m r s = no_jump Continue none u m (only_continue toks room i u m (of_kind toks room i _ k u m r s) r)

  pub break_found : (new : List Node) (e : Ended) (node : NodeId) → 0 < room → KindIs toks i kinds.Break → Ends toks Complete e.end (behind_label l (i + 1)) e.next → Has new node (nodes.Break l e.end)
      → FindsStmt toks room i new (record { node = node; next = e.next; is_open = false })
  break_found new e node below k d has = record {
    stmt = Break l e.end;
    used = node.0 ∷ [];
    shows = (has, refl);
    is_open = refl;
    reading = record { formed = tt; height = omega arith; stands = (behind_label l (i + 1), told toks i _ k, label_stands toks (i + 1) l a, d) };
    only = λ u m r s. same_jump Break e d u m (only_break toks room i u m (of_kind toks room i _ k u m r s) r);
  }

  pub break_none : KindIs toks i kinds.Break → ((end : End) (n : ℕ) → Ends toks Complete end (behind_label l (i + 1)) n → ⊥) → (u : Stmt) (m : ℕ) → StmtReading toks room i u m → Stops toks m u → ⊥
  break_none k none u m r s = no_jump Break none u m (only_break toks room i u m (of_kind toks room i _ k u m r s) r)

-- a label ends within the tokens
pub label_within : (toks : List Tok) (i : ℕ) (l : Option TextId) → i ≤ length toks → LabelAnswers toks i l → (i ≤ behind_label l i) × (behind_label l i ≤ length toks)
label_within toks i None le a = (omega arith, omega arith)
label_within toks i (Some x) le a = let w = token_within toks i (tokens.Word x) a.0 in (omega arith, omega arith)
