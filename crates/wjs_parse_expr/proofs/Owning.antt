-- Nodes of a tree that are its own.
use Rattle.std.proofs.Common.{◌≡◌, ℕ, ◌<◌, ◌≤◌, ◌⊎◌, inl, inr, ⊎_elim, List, [], ◌∷◌, ◌++◌, length, Some, refl, sym, subst, arith}
use Rattle.wjs_base.specs.declared.ids.NodeId.{NodeId}
use Rattle.wjs_tree.specs.declared.tokens.Tok.{Tok}
use Rattle.wjs_tree.specs.declared.node.Node.{Node}
use Rattle.wjs_tree.specs.Trees.{Expr}
use Rattle.wjs_tree.specs.Shows.{Shows, Keeps}
use Rattle.wjs_tree.specs.Used.{IsUsed, IsOnce}
use Rattle.wjs_tree.proofs.Using.{used_cases, once_both}
use Rattle.wjs_tree.proofs.Kept.{kept, keeps_both, keeps_self}
use Rattle.wjs_tree.proofs.Within.{within}
use Rattle.wjs_tree.proofs.OneUse.{same_use}
use Rattle.wjs_parse_expr.specs.declared.functions.Functions.{Functions}
use Rattle.wjs_parse_expr.specs.Table.{entry_at, Holds, IsOfEntry, Owns}
use Rattle.wjs_parse_expr.specs.Answers.{Origin, Begun, from}

entry_moved : (functions : Functions) (a b : List Node) (i j i' j' n : ℕ) → Keeps a b → i' ≤ i → j ≤ j' → IsOfEntry functions a i j n → IsOfEntry functions b i' j' n
entry_moved functions a b i j i' j' n k le le' e = record {
  place = e.place;
  node = e.node;
  ends = e.ends;
  entry = e.entry;
  begins = (let h = e.begins in omega arith);
  within = (let h = e.within in omega arith);
  tree = e.tree;
  used = e.used;
  shows = kept a b k e.tree e.node e.used e.shows;
  is_used = e.is_used;
}

-- a node of an entry was there
entry_below : (functions : Functions) (ns : List Node) (i j n : ℕ) → IsOfEntry functions ns i j n → n < length ns
entry_below functions ns i j n e = within ns e.tree e.node e.used e.shows n e.is_used

-- the same nodes after more nodes are there, within more tokens
pub own_wide : (functions : Functions) (start mid new : List Node) (at at' j j' : ℕ) (us : List ℕ) → Keeps mid new → at' ≤ at → j ≤ j' → Owns functions start mid at j us → Owns functions start new at' j' us
own_wide functions start mid new at at' j j' us k le le' o = record {
  once = o.once;
  each = λ n u. ⊎_elim (λ f. inl (f.0, (let a = f.1 in let b = k.longer in omega arith))) (λ e. inr (entry_moved functions mid new at j at' j' n k le le' e)) (o.each n u);
}

pub own_later : (functions : Functions) (start mid new : List Node) (at j j' : ℕ) (us : List ℕ) → Keeps mid new → j ≤ j' → Owns functions start mid at j us → Owns functions start new at j' us
own_later functions start mid new at j j' us k le o = own_wide functions start mid new at at j j' us k (omega arith) le o

pub own_none : (functions : Functions) (start new : List Node) (at next : ℕ) → Owns functions start new at next []
own_none functions start new at next = record { once = tt; each = λ n u. absurd u }

module _ (toks : List Tok) (functions : Functions) (start : List Node) (place room : ℕ) (held : Holds toks functions place room start) where
  entry_old : (ns : List Node) (i j n : ℕ) → Keeps start ns → IsOfEntry functions ns i j n → IsOfEntry functions start i j n
  entry_old ns i j n k e =
      let f = held.entries e.place e.node e.ends e.entry in
      record {
        place = e.place;
        node = e.node;
        ends = e.ends;
        entry = e.entry;
        begins = e.begins;
        within = e.within;
        tree = f.tree;
        used = f.used;
        shows = f.shows;
        is_used = subst (λ us. IsUsed us n) (same_use ns e.tree f.tree e.node e.used f.used e.shows (kept start ns k f.tree e.node f.used f.shows)) e.is_used;
      }

  early : (ns : List Node) (i j n : ℕ) → Keeps start ns → IsOfEntry functions ns i j n → n < length start
  early ns i j n k e = entry_below functions start i j n (entry_old ns i j n k e)

  entries_apart : (a b : List Node) (i j k l n : ℕ) → Keeps start a → Keeps start b → j ≤ k → IsOfEntry functions a i j n → IsOfEntry functions b k l n → ⊥
  entries_apart a b i j k l n ka kb le e f =
      let p = entry_old a i j n ka e in
      let q = entry_old b k l n kb f in
      let h = p.within in
      let g = q.begins in
      held.apart p.place q.place p.node q.node p.ends q.ends p.entry q.entry (omega arith) p.tree q.tree p.used q.used p.shows q.shows n p.is_used q.is_used

  -- one node on top
  pub own_top : (mid new : List Node) (at j j' : ℕ) (node : NodeId) (us : List ℕ) → Keeps start mid → Keeps mid new → node.0 ≡ length mid → node.0 < length new → j ≤ j'
      → Owns functions start mid at j us → Owns functions start new at j' (node.0 ∷ us)
  own_top mid new at j j' node us k l is lt le o = record {
    once = (λ u. ⊎_elim (λ f. (let a = f.1 in omega arith)) (λ e. (let a = early mid at j node.0 k e in let b = k.longer in omega arith)) (o.each node.0 u), o.once);
    each = λ n u. ⊎_elim (λ e. inl (subst (λ m. length start ≤ m) (sym e) (let b = k.longer in omega arith), subst (λ m. m < length new) (sym e) lt)) (λ h. (own_later functions start mid new at j j' us l le o).each n h) u;
  }

  -- two parts whose tokens don't meet
  pub own_both : (old new : List Node) (at j i next : ℕ) (us vs : List ℕ) → Keeps start old → Keeps old new → at ≤ i → j ≤ i → j ≤ next → Owns functions start old at j us → Owns functions old new i next vs
      → Owns functions start new at next (us ++ vs)
  own_both old new at j i next us vs k l ai ji jn a b = record {
    once = once_both us vs a.once b.once (λ n u v. apart n (a.each n u) (b.each n v));
    each = λ n u. ⊎_elim (λ h. (own_later functions start old new at j next us l jn a).each n h) (λ h. right n (b.each n h)) (used_cases us vs n u);
  }
    where
      kn : Keeps start new
      kn = keeps_both start old new k l

      right : (n : ℕ) → ((length old ≤ n) × (n < length new)) ⊎ IsOfEntry functions new i next n → ((length start ≤ n) × (n < length new)) ⊎ IsOfEntry functions new at next n
      right n (inl f) = inl ((let x = f.0 in let y = k.longer in omega arith), f.1)
      right n (inr e) = inr (entry_moved functions new new i next at next n (keeps_self new) ai (omega arith) e)

      apart : (n : ℕ) → ((length start ≤ n) × (n < length old)) ⊎ IsOfEntry functions old at j n → ((length old ≤ n) × (n < length new)) ⊎ IsOfEntry functions new i next n → ⊥
      apart n (inl f) (inl g) = let x = f.1 in let y = g.0 in omega arith
      apart n (inl f) (inr e) = let x = f.0 in let y = early new i next n kn e in omega arith
      apart n (inr e) (inl g) = let x = early old at j n k e in let y = g.0 in let z = k.longer in omega arith
      apart n (inr e) (inr f) = entries_apart old new at j i next n k kn ji e f

  -- two parts under a node
  pub own_under : (old mid new : List Node) (at j i k next : ℕ) (node : NodeId) (us vs : List ℕ) → Keeps start old → Keeps old mid → Keeps mid new → node.0 ≡ length mid → node.0 < length new → at ≤ i → j ≤ i → j ≤ k → k ≤ next
      → Owns functions start old at j us → Owns functions old mid i k vs → Owns functions start new at next (node.0 ∷ (us ++ vs))
  own_under old mid new at j i k next node us vs s l m is lt ai ji jk kn a b =
      own_top mid new at k next node (us ++ vs) (keeps_both start old mid s l) m is lt kn (own_both old mid at j i k us vs s l ai ji jk a b)

-- a node without parts
pub own_leaf : (functions : Functions) (old new : List Node) (at next : ℕ) (node : NodeId) → node.0 ≡ length old → node.0 < length new → Owns functions old new at next (node.0 ∷ [])
own_leaf functions old new at next node is lt = record {
  once = (λ u. u, tt);
  each = λ n u. ⊎_elim (λ e. inl (omega arith, subst (λ m. m < length new) (sym e) lt)) (λ h. absurd h) u;
}

-- the nodes of an entry
pub own_entry : (functions : Functions) (ns : List Node) (at : ℕ) (node : NodeId) (next : ℕ) (t : Expr) (us : List ℕ) → entry_at functions at ≡ Some (node, next) → Shows ns t node us → IsOnce us → Owns functions ns ns at next us
own_entry functions ns at node next t us e shows once = record {
  once = once;
  each = λ n u. inr (record { place = at; node = node; ends = next; entry = e; begins = omega arith; within = omega arith; tree = t; used = us; shows = shows; is_used = u });
}

pub begun : (toks : List Tok) (functions : Functions) (start ns : List Node) (at next place room : ℕ) → Holds toks functions place room start → Keeps start ns → at ≤ next → Begun functions (from toks functions start at) ns next
begun toks functions start ns at next place room h k le = record { place = place; room = room; same = refl; held = h; keeps = k; before = le }

module _ (functions : Functions) (o : Origin) (old : List Node) (j : ℕ) (b : Begun functions o old j) where
  -- a left part under a node
  pub own_left : (new : List Node) (next : ℕ) (node : NodeId) (us : List ℕ) → Keeps old new → node.0 ≡ length old → node.0 < length new → j ≤ next
      → Owns o.functions o.start old o.at j us → Owns o.functions o.start new o.at next (node.0 ∷ us)
  own_left new next node us l is lt le own = own_top o.toks o.functions o.start b.place b.room b.held old new o.at j next node us b.keeps l is lt le own

  -- a left part and what is read behind it, under a node
  pub own_pair : (mid new : List Node) (i k next : ℕ) (node : NodeId) (us vs : List ℕ) → Keeps old mid → Keeps mid new → node.0 ≡ length mid → node.0 < length new → j ≤ i → j ≤ k → k ≤ next
      → Owns o.functions o.start old o.at j us → Owns functions old mid i k vs → Owns o.functions o.start new o.at next (node.0 ∷ (us ++ vs))
  own_pair mid new i k next node us vs l m is lt ji jk kn own other =
      own_under o.toks o.functions o.start b.place b.room b.held old mid new o.at j i k next node us vs b.keeps l m is lt (let h = b.before in omega arith) ji jk kn own (subst (λ z. Owns z old mid i k vs) b.same other)
