-- The table of functions for the one who reads them from the last to the first.
use Rattle.std.proofs.Common.{◌≡◌, ℕ, ◌+◌, ◌<◌, ◌≤◌, ⊎_elim, Bool, true, false, List, length, Option, Some, None, ◌==◌, if◌then◌else◌, refl, ◌∙◌, subst, sym, arith}
use Rattle.std.proofs.lemmas.Bool.{cases_lt, eqb-true}
use Rattle.wjs_base.specs.declared.ids.NodeId.{NodeId}
use Rattle.wjs_tree.specs.declared.tokens.Token.TheVariants as tokens
use Rattle.wjs_tree.specs.declared.keys.Key.TheVariants as keys
use Rattle.wjs_tree.specs.declared.tokens.Tok.{Tok}
use Rattle.wjs_tree.specs.declared.node.Node.{Node}
use Rattle.wjs_tree.specs.Trees.{Expr, Function}
use Rattle.wjs_tree.specs.Ends.{HasKey}
use Rattle.wjs_tree.specs.Spelling.{Stands}
use Rattle.wjs_tree.specs.Shows.{Shows, Keeps}
use Rattle.wjs_tree.specs.Used.{AreApart}
use Rattle.wjs_tree.proofs.OneUse.{same_use}
use Rattle.wjs_parse_expr.specs.declared.functions.Functions.{Functions}
use Rattle.wjs_parse_expr.specs.declared.found.Found.{Found}
use Rattle.wjs_parse_expr.specs.Readings.{FunctionReading, is_function}
use Rattle.wjs_parse_expr.specs.Table.{entry_at, IsEntry, MayBegin, Holds, Owns}
use Rattle.wjs_parse_expr.proofs.Entries.{held}
use Rattle.wjs_parse_expr.proofs.Adding.{own_apart, added_holds}
use Rattle.wjs_parse_expr.proofs.Readings.{token_within}
use Rattle.wjs_parse_simple.specs.Made.{ExprMade}
use Rattle.wjs_parse.specs.Answers.{FindsFunction, AreBehind}

-- A place where no function may begin, or none is read, needs no entry.
pub holds_before : (toks : List Tok) (functions : Functions) (place room : ℕ) (ns : List Node) → (MayBegin toks place → (u : Expr) (m : ℕ) → FunctionReading toks place u m → ⊥) → Holds toks functions (place + 1) room ns → Holds toks functions place room ns
holds_before toks functions place room ns none h = record {
  entries = h.entries;
  complete = λ p u m le b r. ⊎_elim (λ lt. h.complete p u m (omega arith) b r) (λ ge. absurd (let e : p ≡ place = omega arith in none (subst (λ (z : ℕ). MayBegin toks z) e b) u m (subst (λ (z : ℕ). FunctionReading toks z u m) e r))) (cases_lt place p);
  apart = h.apart;
  low = h.low;
}

-- where its key doesn't stand, no function is read
pub keyless : (toks : List Tok) (place : ℕ) → (HasKey toks place keys.Function → ⊥) → (u : Expr) (m : ℕ) → FunctionReading toks place u m → ⊥
keyless toks place nay u m r = nay (key u r.is r.reading.stands)
  where
    key : (u : Expr) → is_function u ≡ true → Stands toks u place m → HasKey toks place keys.Function
    key (Function x y z) h s = s.3
    key _ h s = cc

-- A function that is read, and made of nodes of its own, joins the table, which then holds from its place on.
pub holds_with : (toks : List Tok) (old new : Functions) (place : ℕ) (start ns : List Node) (p : Found) → Holds toks old (place + 1) 200 start → Keeps start ns
    → ((q : ℕ) (node : NodeId) (ends : ℕ) → entry_at old q ≡ Some (node, ends) → place < q) → ((q : ℕ) → entry_at new q ≡ (if place == q then Some (p.node, p.next) else entry_at old q))
    → (f : FindsFunction toks place ns p) → Owns old start ns (place + 1) p.next f.used → Holds toks new place 200 ns
holds_with toks old new place start ns p h k later put f own =
    added_holds toks old new place p.next 200 ns p.node (held toks old (place + 1) (place + 1) 200 200 start ns h k (omega arith) (omega arith)) later put entry behind
  where
    entry : IsEntry toks ns place p.node p.next
    entry = record { tree = f.tree; used = f.used; shows = f.shows; once = own.once; reading = f.reading; only = f.only }

    behind : (q : ℕ) (node' : NodeId) (ends : ℕ) → entry_at old q ≡ Some (node', ends) → p.next ≤ q → (t u : Expr) (us vs : List ℕ) → Shows ns t p.node us → Shows ns u node' vs → AreApart us vs
    behind q node' ends e le t u us vs s z =
        let a : AreApart f.used vs = own_apart toks old (place + 1) 200 start ns h k (place + 1) p.next f.used own q node' ends e le u vs z in
        subst (λ (w : List ℕ). AreApart w vs) (sym (same_use ns t f.tree p.node us f.used s f.shows)) a

-- behind the last token no function is read, so an empty table holds there
pub holds_last : (toks : List Tok) (functions : Functions) (ns : List Node) → ((q : ℕ) → entry_at functions q ≡ None) → Holds toks functions (length toks) 200 ns
holds_last toks functions ns none = record {
  entries = λ q node next e. absurd (let h = none q in cc);
  complete = λ q u m le b r. absurd (no_key q le (key u q m r.is r.reading.stands));
  apart = λ q q' node node' next next' e f le t u us vs s z. absurd (let h = none q in cc);
  low = omega arith;
}
  where
    no_key : (q : ℕ) → length toks ≤ q → HasKey toks q keys.Function → ⊥
    no_key q le k = let w = token_within toks q (tokens.Key keys.Function) k in omega arith

    key : (u : Expr) (q m : ℕ) → is_function u ≡ true → Stands toks u q m → HasKey toks q keys.Function
    key (Function x y z) q m h s = s.3
    key _ q m h s = cc

-- a function that was read, with the nodes that it is made of
pub holds_more : (toks : List Tok) (old new : Functions) (place : ℕ) (start ns : List Node) (p : Found) → Holds toks old (place + 1) 200 start
    → AreBehind old (place + 1) → ((q : ℕ) → entry_at new q ≡ (if place == q then Some (p.node, p.next) else entry_at old q))
    → FindsFunction toks place ns p → ExprMade old start ns (place + 1) p.node p.next → Holds toks new place 200 ns
holds_more toks old new place start ns p h later put f o =
    let e : o.used ≡ f.used = same_use ns o.tree f.tree p.node o.used f.used o.shows f.shows in
    holds_with toks old new place start ns p h o.span.keeps (λ q node ends g. (let k = later q node ends g in omega arith)) put f
    (subst (λ (z : List ℕ). Owns old start ns (place + 1) p.next z) e o.span.own)

pub behind_more : (old new : Functions) (place : ℕ) (node : NodeId) (next : ℕ) → AreBehind old (place + 1) → ((q : ℕ) → entry_at new q ≡ (if place == q then Some (node, next) else entry_at old q)) → AreBehind new place
behind_more old new place node next later put q node' ends e = pick (place == q) refl (sym (put q) ∙ e)
  where
    pick : (b : Bool) → (place == q) ≡ b → (if b then Some (node, next) else entry_at old q) ≡ Some (node', ends) → place ≤ q
    pick true g h = let k : place ≡ q = eqb-true place q g in omega arith
    pick false g h = let k = later q node' ends h in omega arith

pub behind_less : (functions : Functions) (place : ℕ) → AreBehind functions (place + 1) → AreBehind functions place
behind_less functions place later q node ends e = let k = later q node ends e in omega arith

pub behind_none : (functions : Functions) (place : ℕ) → ((q : ℕ) → entry_at functions q ≡ None) → AreBehind functions place
behind_none functions place none q node ends e = absurd (let h = none q in cc)

some_entry : (o : Option (NodeId × ℕ)) → ((node : NodeId) (ends : ℕ) → o ≡ Some (node, ends) → ⊥) → o ≡ None
some_entry None nay = refl
some_entry (Some (node, ends)) nay = absurd (nay node ends refl)

-- no function begins before them all
pub no_entry : (functions : Functions) (place : ℕ) → AreBehind functions (place + 1) → entry_at functions place ≡ None
no_entry functions place later = some_entry (entry_at functions place) (λ node ends e. (let k = later place node ends e in omega arith))
