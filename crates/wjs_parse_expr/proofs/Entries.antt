-- Functions that are read already.
use Rattle.std.proofs.Common.{◌≡◌, ℕ, ◌+◌, ◌<◌, ◌≤◌, inl, length, Bool, true, false, List, [], ◌∷◌, ◌++◌, Option, Some, None, refl, ap, subst, arith}
use Rattle.std.specs.Prelude.{IsSome}
use Rattle.wjs_base.specs.declared.ids.NodeId.{NodeId}
use Rattle.wjs_tree.specs.declared.tokens.Token.TheVariants as tokens
use Rattle.wjs_tree.specs.declared.signs.Sign.TheVariants as signs
use Rattle.wjs_tree.specs.declared.keys.Key.TheVariants as keys
use Rattle.wjs_tree.specs.declared.tokens.Tok.{Tok}
use Rattle.wjs_tree.specs.declared.node.Node.{Node}
use Rattle.wjs_tree.specs.Trees.{Expr, Function}
use Rattle.wjs_tree.specs.Levels.{is_target}
use Rattle.wjs_tree.specs.Height.{height}
use Rattle.wjs_tree.specs.Formed.{WellFormed}
use Rattle.wjs_tree.specs.Ends.{HasKey}
use Rattle.wjs_tree.specs.Spelling.{Stands}
use Rattle.wjs_tree.specs.Children.{AreBelow, OptionBelow, ItemsBelow, PropertiesBelow}
use Rattle.wjs_tree.specs.declared.node.Property.{Property}
use Rattle.wjs_tree.specs.Shows.{Shows, Keeps}
use Rattle.wjs_tree.proofs.Kept.{kept}
use Rattle.wjs_tree.proofs.Forward.{forward}
use Rattle.wjs_parse_expr.specs.declared.functions.Functions.{Functions}
use Rattle.wjs_parse_expr.specs.declared.parts.Part.{Part}
use Rattle.wjs_parse_expr.specs.Readings.{Reading, FunctionReading, is_function}
use Rattle.wjs_parse_expr.specs.Table.{entry_at, IsEntry, AreEntriesApart, MayBegin, Holds}
use Rattle.wjs_tree.specs.Used.{IsUsed}
use Rattle.wjs_tree.proofs.OneUse.{same_use}
use Rattle.wjs_parse_expr.proofs.Owning.{own_entry}
use Rattle.std.specs.declared.result.Result.{Result}
use Rattle.std.specs.declared.result.Result.TheVariants.{Ok, Err}
use Rattle.std.proofs.lemmas.Option.{slice_get_within}
use Rattle.wjs_base.specs.declared.ids.OutOfMemory.{OutOfMemory}
use Rattle.wjs_parse_expr.specs.Answers.{from, Nothing, Finds, Adds, PartEnds}
use Rattle.wjs_parse_expr.proofs.Readings.{token_within, shows_within}
use Rattle.wjs_parse_expr.proofs.Primaries.{closed}

entry_kept : (toks : List Tok) (a b : List Node) (p : ℕ) (node : NodeId) (next : ℕ) → Keeps a b → IsEntry toks a p node next → IsEntry toks b p node next
entry_kept toks a b p node next k e = record { tree = e.tree; used = e.used; shows = kept a b k e.tree node e.used e.shows; once = e.once; reading = e.reading; only = e.only }

-- what an entry is made of is what it was made of before
entry_same : (toks : List Tok) (functions : Functions) (at room : ℕ) (a b : List Node) (h : Holds toks functions at room a) → Keeps a b → (p : ℕ) (node : NodeId) (next : ℕ) (e : entry_at functions p ≡ Some (node, next))
    → (t : Expr) (us : List ℕ) → Shows b t node us → us ≡ (h.entries p node next e).used
entry_same toks functions at room a b h k p node next e t us s =
    let f = h.entries p node next e in same_use b t f.tree node us f.used s (kept a b k f.tree node f.used f.shows)

entries_apart : (toks : List Tok) (functions : Functions) (at room : ℕ) (a b : List Node) → Holds toks functions at room a → Keeps a b → AreEntriesApart functions b
entries_apart toks functions at room a b h k p q node node' next next' e e' le t u us vs s z n x y =
    let f = h.entries p node next e in
    let g = h.entries q node' next' e' in
    h.apart p q node node' next next' e e' le f.tree g.tree f.used g.used f.shows g.shows n
    (subst (λ w. IsUsed w n) (entry_same toks functions at room a b h k p node next e t us s) x) (subst (λ w. IsUsed w n) (entry_same toks functions at room a b h k q node' next' e' u vs z) y)

-- what holds of the functions holds at later places, of lower trees and of more nodes
pub held : (toks : List Tok) (functions : Functions) (at at' room room' : ℕ) (a b : List Node) → Holds toks functions at room a → Keeps a b → at ≤ at' → room' ≤ room → Holds toks functions at' room' b
held toks functions at at' room room' a b h k le lo = record {
  entries = λ p node next e. entry_kept toks a b p node next k (h.entries p node next e);
  complete = λ p u m q b r. h.complete p u m (omega arith) b r;
  apart = λ p q node node' next next' e e' le t u us vs s z. entries_apart toks functions at room a b h k p q node node' next next' e e' le t u us vs s z;
  low = (let l = h.low in omega arith);
}

function_formed : (b c : Bool) (t : Expr) → is_function t ≡ true → WellFormed b t → WellFormed c t
function_formed b c (Function x y z) h w = w
function_formed b c _ h w = cc

function_target : (t : Expr) → is_function t ≡ true → false ≡ is_target t
function_target (Function x y z) h = refl
function_target _ h = cc

function_within : (toks : List Tok) (t : Expr) (i n : ℕ) → is_function t ≡ true → Stands toks t i n → n ≤ length toks
function_within toks (Function x y z) i n h s = let w = token_within toks s.2 (tokens.Sign signs.CloseBrace) s.10 in let e = s.11 in omega arith
function_within toks _ i n h s = cc

-- a function that is read where its key stands
as_function : (toks : List Tok) (functions : Functions) (no_in : Bool) (at room : ℕ) (ns : List Node) → Holds toks functions at room ns → HasKey toks at keys.Function
    → (u : Expr) (m : ℕ) → Reading toks 18 no_in room at u m → FunctionReading toks at u m
as_function toks functions no_in at room ns h key u m r =
    let is : is_function u ≡ true = closed toks no_in room at _ key u m r in
    record { is = is; reading = record { level = r.level; formed = function_formed no_in false u is r.formed; height = (let q = r.height in let l = h.low in omega arith); stands = r.stands } }

pub function_found : (toks : List Tok) (functions : Functions) (no_in : Bool) (at room : ℕ) (ns : List Node) (node : NodeId) (next tall : ℕ) → Holds toks functions at room ns → HasKey toks at keys.Function
    → entry_at functions at ≡ Some (node, next) → ((t : Expr) (used : List ℕ) → Shows ns t node used → tall ≡ height t) → tall ≤ room
    → Finds (from toks functions ns at) toks 18 no_in room at ns (record { node = node; next = next; is_target = false })
function_found toks functions no_in at room ns node next tall h key e heights low =
    let f = h.entries at node next e in
    let t : tall ≡ height f.tree = heights f.tree f.used f.shows in
    record {
      tree = f.tree;
      part = record { used = f.used; shows = f.shows; own = own_entry functions ns at node next f.tree f.used e f.shows f.once; is_target = function_target f.tree f.reading.is };
      best = record {
        reading = record { level = f.reading.reading.level; formed = function_formed false no_in f.tree f.reading.is f.reading.reading.formed; height = omega arith; stands = f.reading.reading.stands };
        longest = λ u m r. inl (f.only u m (as_function toks functions no_in at room ns h key u m r));
      };
    }

pub function_high : (toks : List Tok) (functions : Functions) (no_in : Bool) (at room : ℕ) (ns : List Node) (node : NodeId) (next tall : ℕ) → Holds toks functions at room ns → HasKey toks at keys.Function
    → entry_at functions at ≡ Some (node, next) → ((t : Expr) (used : List ℕ) → Shows ns t node used → tall ≡ height t) → room < tall → Nothing toks 18 no_in room at
function_high toks functions no_in at room ns node next tall h key e heights high =
    let f = h.entries at node next e in
    let t : tall ≡ height f.tree = heights f.tree f.used f.shows in
    record {
      none = λ u m r.
          (let s = f.only u m (as_function toks functions no_in at room ns h key u m r) in
          let g : height u ≡ height f.tree = ap height s.0 in
          let q = r.height in omega arith);
    }

not_none : {A : Type 0} (o : Option A) → o ≡ None → IsSome o → ⊥
not_none None e h = cc
not_none (Some x) e h = cc

pub function_none : (toks : List Tok) (functions : Functions) (no_in : Bool) (at room : ℕ) (ns : List Node) → Holds toks functions at room ns → MayBegin toks at → HasKey toks at keys.Function → entry_at functions at ≡ None → Nothing toks 18 no_in room at
function_none toks functions no_in at room ns h b key e = record {
  none = λ u m r. not_none (entry_at functions at) e (h.complete at u m (omega arith) b (as_function toks functions no_in at room ns h key u m r));
}

-- where an entry ends, and that its node is there
pub entry_ends : (toks : List Tok) (functions : Functions) (at room : ℕ) (ns : List Node) (node : NodeId) (next : ℕ) → Holds toks functions at room ns → entry_at functions at ≡ Some (node, next)
    → (at < next) × (next ≤ length toks) × (node.0 < length ns)
entry_ends toks functions at room ns node next h e =
    let f = h.entries at node next e in
    (forward toks f.tree at next f.reading.reading.stands, function_within toks f.tree at next f.reading.is f.reading.reading.stands, shows_within ns f.tree node f.used f.shows)

-- where a leaf ends, and that its node is there
pub leaf_ends : (toks : List Tok) (i : ℕ) (old ns : List Node) (node : Node) (target : Bool) → i < length toks → (r : Result (Option Part) OutOfMemory) → Adds old ns node (i + 1) target r → PartEnds toks i ns r
leaf_ends toks i old ns node target lt (Ok (Some p)) a = let q = a.1 in (omega arith, omega arith, slice_get_within ns p.node.0 node a.0)
leaf_ends toks i old ns node target lt (Ok None) a = tt
leaf_ends toks i old ns node target lt (Err e) a = tt

-- nodes of a list stay there where nodes are added, and one more is put last
pub below_more : (n m : ℕ) (list : List NodeId) → n ≤ m → AreBelow n list → AreBelow m list
below_more n m [] le h = tt
below_more n m (a ∷ rest) le h = ((let q = h.0 in omega arith), below_more n m rest le h.1)

pub below_last : (n m : ℕ) (list : List NodeId) (a : NodeId) → n ≤ m → a.0 < m → AreBelow n list → AreBelow m (list ++ a ∷ [])
below_last n m [] a le lt h = (lt, tt)
below_last n m (x ∷ rest) a le lt h = ((let q = h.0 in omega arith), below_last n m rest a le lt h.1)

option_more : (n m : ℕ) (o : Option NodeId) → n ≤ m → OptionBelow n o → OptionBelow m o
option_more n m None le h = tt
option_more n m (Some a) le h = omega arith

pub items_last_below : (n m : ℕ) (list : List (Option NodeId)) (o : Option NodeId) → n ≤ m → OptionBelow m o → ItemsBelow n list → ItemsBelow m (list ++ o ∷ [])
items_last_below n m [] o le lt h = (lt, tt)
items_last_below n m (x ∷ rest) o le lt h = (option_more n m x le h.0, items_last_below n m rest o le lt h.1)

pub properties_last_below : (n m : ℕ) (list : List Property) (p : Property) → n ≤ m → p.value.0 < m → PropertiesBelow n list → PropertiesBelow m (list ++ p ∷ [])
properties_last_below n m [] p le lt h = (lt, tt)
properties_last_below n m (x ∷ rest) p le lt h = ((let q = h.0 in omega arith), properties_last_below n m rest p le lt h.1)

-- without a key `function` an empty table is complete
pub empty_holds : (toks : List Tok) (functions : Functions) (at : ℕ) (ns : List Node) → ((p : ℕ) → entry_at functions p ≡ None) → ((i : ℕ) → HasKey toks i keys.Function → ⊥) → Holds toks functions at 200 ns
empty_holds toks functions at ns none no_key = record {
  entries = λ p node next e. absurd (let q = none p in cc);
  apart = λ p q node node' next next' e f le t u us vs s z. absurd (let h = none p in cc);
  complete = λ p u m le b r. absurd (no_key p (function_key u p m r.is r.reading.stands));
  low = omega arith;
}
  where
    function_key : (u : Expr) (p m : ℕ) → is_function u ≡ true → Stands toks u p m → HasKey toks p keys.Function
    function_key (Function x y z) p m h s = s.3
    function_key _ p m h s = cc
