-- Nodes are visited from the last to the first; each has its mark before it is visited.
use Rattle.std.specs.Prelude.{◌≡◌, ℕ, ◌+◌, ◌<◌, ◌≤◌, ◌⊎◌, List, [], ◌∷◌, length, set, replicate, Option, Some, None}
use Rattle.std.proofs.Common.{refl, sym, ap, subst, ◌∙◌, inl, inr, arith, get_or, ⊎_elim, length-set}
use Rattle.std.proofs.lemmas.Bool.{cases_eq, cases_lt}
use Rattle.std.proofs.lemmas.List.{get_or-set_same, get_or-replicate, get_or_past, length-replicate}
use Rattle.std.proofs.lemmas.Option.{same_Some, slice_get_within}
use Rattle.wjs_base.specs.declared.ids.TextId.{TextId}
use Rattle.wjs_base.specs.declared.ids.NodeId.{NodeId}
use Rattle.wjs_tree.specs.declared.node.Node.{Node}
use Rattle.wjs_tree.specs.declared.node.Node.TheVariants as nodes
use Rattle.wjs_tree.specs.Trees.{Elements}
use Rattle.wjs_tree.specs.Shows.{Has}
use Rattle.wjs_tree.specs.Children.{ChildrenBelow}
use Rattle.wjs_tree.specs.Used.{IsOnce}
use Rattle.wjs_scope.specs.declared.levels.Level.{Level}
use Rattle.wjs_scope.specs.Declarations.{elements_of}
use Rattle.wjs_tree.specs.Forms.{AreElements}
use Rattle.wjs_scope.specs.Scopes.{Scope, with_own_name, own_name, in_function}
use Rattle.wjs_scope.specs.Nesting.{Side, Around, Caught, Inside, plain_parts, parts, IsAmong, Enters, StandsIn}
use Rattle.wjs_scope.specs.Levels.{Nests}
use Rattle.wjs_scope.specs.Marks.{number_on, marked_parts}
use Rattle.wjs_scope.specs.Places.{IsScript}
use Rattle.wjs_scope.specs.Visits.{HasElements, HasRoom, Begins, mark_of}
use Rattle.wjs_scope.proofs.Standing.{Stands, AsScript, Splits, left_on}
use Rattle.wjs_scope.proofs.Splitting.{split, node_of}
use Rattle.wjs_scope.proofs.Apart.{AreSeparate, AllSeparate, Found, found, separate, within_part}
use Rattle.wjs_scope.proofs.Below.{part_below}
use Rattle.wjs_scope.proofs.Visiting.{among_side, try_sides}
use Rattle.wjs_scope.proofs.Marking.{AllDifferent, parts_length, parts_others, parts_in, parts_only, set_only}

-- a node that is marked and not yet visited: it stands for a tree, within scopes that leave room for those that begin in it
pub record Waits (ns : List Node) (levels : List Level) (i : NodeId) (at : ℕ) : Type 0 where
  pub room : ℕ
  pub used : List ℕ
  pub scopes : List Scope
  pub stands : Stands ns room i used
  pub once : (rest : List ℕ) → used ≡ i.0 ∷ rest → IsOnce rest
  pub nests : Nests levels at scopes
  pub fits : length scopes + (room + room) ≤ 400

-- the part has the number under which its scopes stand
abbrev pub PartDone : List Node → Option TextId → List (Option ℕ) → List Level → Node → List Scope → NodeId × Side → Type 0
PartDone ns arguments marks levels node scopes p = (inner : ℕ) × (mark_of marks p.0 ≡ Some inner) × ((within : List Scope) → Enters ns arguments node p.1 scopes within → Nests levels inner within)

-- a node that has been visited: each of its parts has its mark
pub record Done (ns : List Node) (arguments : Option TextId) (marks : List (Option ℕ)) (levels : List Level) (i : NodeId) (at : ℕ) : Type 0 where
  pub scopes : List Scope
  pub nests : Nests levels at scopes
  pub few : length scopes ≤ 400
  pub each : (node : Node) → Has ns i node → (p : NodeId × Side) → IsAmong (parts node) p → PartDone ns arguments marks levels node scopes p

-- the nodes from this number on have been visited
pub record Walked (ns : List Node) (arguments : Option TextId) (body : NodeId) (marks : List (Option ℕ)) (levels : List Level) (left : ℕ) : Type 0 where
  pub long : length marks ≡ body.0 + 1
  pub low : left ≤ body.0 + 1
  pub top : mark_of marks body ≡ Some 0
  pub waiting : (i : NodeId) (at : ℕ) → i.0 < left → mark_of marks i ≡ Some at → Waits ns levels i at
  pub apart : (i j : NodeId) (a b : ℕ) → i.0 < left → j.0 < left → (i.0 ≡ j.0 → ⊥) → mark_of marks i ≡ Some a → mark_of marks j ≡ Some b → AreSeparate ns i j
  pub done : (i : NodeId) (at : ℕ) → left ≤ i.0 → mark_of marks i ≡ Some at → Done ns arguments marks levels i at

same_id : (i j : NodeId) → i.0 ≡ j.0 → i ≡ j
same_id i j e = let f : ℕ → NodeId = λ n. record { 0 = n } in ap f e

itself : (ns : List Node) (i : NodeId) → StandsIn ns i i
itself ns i = ([], refl)

flipped : (ns : List Node) (i j : NodeId) → AreSeparate ns i j → AreSeparate ns j i
flipped ns i j f x a b = f x b a

-- separate parts have different numbers
different : (ns : List Node) (list : List (NodeId × Side)) → AllSeparate ns list → AllDifferent list
different ns [] h = tt
different ns (p ∷ more) h = (λ q among e. h.0 q among p.0 (itself ns p.0) (subst (λ (z : NodeId). StandsIn ns q.0 z) (same_id q.0 p.0 e) (itself ns q.0)), different ns more h.1)

two_parts : (ns : List Node) (list : List (NodeId × Side)) (p q : NodeId × Side) → AllSeparate ns list → IsAmong list p → IsAmong list q → (p.0.0 ≡ q.0.0 → ⊥) → AreSeparate ns p.0 q.0
two_parts ns [] p q h a b other = elim a [ ]
two_parts ns (r ∷ more) p q h (inl a) (inl b) other = absurd (other (ap (λ (z : NodeId × Side). z.0.0) a ∙ sym (ap (λ (z : NodeId × Side). z.0.0) b)))
two_parts ns (r ∷ more) p q h (inl a) (inr b) other = subst (λ (z : NodeId × Side). AreSeparate ns z.0 q.0) (sym a) (h.0 q b)
two_parts ns (r ∷ more) p q h (inr a) (inl b) other = subst (λ (z : NodeId × Side). AreSeparate ns p.0 z.0) (sym b) (flipped ns r.0 p.0 (h.0 p a))
two_parts ns (r ∷ more) p q h (inr a) (inr b) other = two_parts ns more p q h.1 a b other

-- the elements that stand inside a function
inside_body : (ns : List Node) (node : Node) (p : NodeId × Side) → HasElements ns node → IsAmong (parts node) p → p.1 ≡ Inside → (t : Elements) × AreElements ns t (elements_of node)
inside_body ns (nodes.Function name formals list) p h a e = (h.0, h.1)
inside_body ns (nodes.FunctionDecl x formals list) p h a e = (h.0, h.1)
inside_body ns (nodes.Try b c o) p h a e = ⊎_elim (λ s. absurd (cc)) (λ s. absurd (let q = s.2 in cc)) (try_sides b c o p a)
inside_body ns node p h a e = absurd (let s = among_side Around (plain_parts node) p a in cc)

own_length : (name : Option TextId) (scopes : List Scope) → length (with_own_name name scopes) ≤ length scopes + 1
own_length None scopes = omega arith
own_length (Some x) scopes = omega arith

-- there are scopes around each part, and there is room for those that begin in it
pub record Entered (ns : List Node) (arguments : Option TextId) (node : Node) (side : Side) (scopes : List Scope) (room : ℕ) : Type 0 where
  pub within : List Scope
  pub enters : Enters ns arguments node side scopes within
  pub fits : length within + (left_on side room + left_on side room) ≤ 400

entered : (ns : List Node) (arguments : Option TextId) (node : Node) (side : Side) (scopes : List Scope) (room : ℕ) → (side ≡ Inside → (t : Elements) × AreElements ns t (elements_of node)) → 1 ≤ room → length scopes + (room + room) ≤ 400
    → Entered ns arguments node side scopes room
entered ns arguments node Around scopes room f some fits = record { within = scopes; enters = refl; fits = fits }
entered ns arguments node (Caught x) scopes room f some fits = record { within = (x ∷ []) ∷ scopes; enters = refl; fits = omega arith }
entered ns arguments node Inside scopes room f some fits =
    let t = f refl in
    let long = own_length (own_name node) scopes in
    record { within = in_function ns arguments node t.0 scopes; enters = (t.0, t.1, refl); fits = omega arith }

-- a node that has no mark is passed over
pub passed : (ns : List Node) (arguments : Option TextId) (body : NodeId) (marks : List (Option ℕ)) (levels : List Level) (left k : ℕ) → left ≡ k + 1 → get_or marks k None ≡ None → Walked ns arguments body marks levels left → Walked ns arguments body marks levels k
passed ns arguments body marks levels left k e none w = record {
  long = w.long;
  low = (let l = w.low in omega arith);
  top = w.top;
  waiting = λ i at lt m. w.waiting i at (omega arith) m;
  apart = λ i j a b li lj other mi mj. w.apart i j a b (omega arith) (omega arith) other mi mj;
  done = λ i at le m. elim (cases_eq k i.0) [ inl same ↦ absurd (let n : get_or marks i.0 None ≡ None = subst (λ z. get_or marks z None ≡ None) same none in cc) | inr other ↦ w.done i at (omega arith) m ];
}

-- what is known of a node before it is visited
pub before : (ns : List Node) (arguments : Option TextId) (body : NodeId) (marks : List (Option ℕ)) (levels : List Level) (left : ℕ) (i : NodeId) (at : ℕ) → left ≡ i.0 + 1 → mark_of marks i ≡ Some at → Walked ns arguments body marks levels left
    → (node : Node) → Has ns i node → HasElements ns node × HasRoom levels at
before ns arguments body marks levels left i at e m w node has =
    let wait = w.waiting i at (omega arith) m in
    let fits = wait.fits in
    let here = split ns wait.room (omega arith) i wait.used wait.stands node has in
    let some = here.some in
    (here.elements, (wait.scopes, wait.nests, omega arith))

-- a node is visited
module _ (ns : List Node) (arguments : Option TextId) (body : NodeId) (marks : List (Option ℕ)) (levels : List Level) (left : ℕ) (w : Walked ns arguments body marks levels left) (i : NodeId) (at : ℕ) (next : left ≡ i.0 + 1) (mark : mark_of marks i ≡ Some at)
    (node : Node) (has : Has ns i node) (below : ChildrenBelow i.0 node) (new : List (Option ℕ)) (after : List Level) (inner : ℕ) (marks_are : new ≡ marked_parts marks at inner (parts node)) (begins : Begins ns arguments node at inner levels after) where
  wait : Waits ns levels i at
  wait = w.waiting i at (omega arith) mark

  small : wait.room ≤ 200
  small = let f = wait.fits in omega arith

  here : Splits ns wait.room i wait.used node
  here = split ns wait.room small i wait.used wait.stands node has

  rest_once : IsOnce here.rest
  rest_once = wait.once here.rest here.is

  all_separate : AllSeparate ns (parts node)
  all_separate = separate ns wait.room small (parts node) here.rest here.each rest_once

  part : (p : NodeId × Side) → IsAmong (parts node) p → Found ns wait.room p here.rest
  part p a = found ns wait.room (parts node) p here.rest here.each a

  -- what has a mark and is not visited is no part
  fresh : (j : NodeId) (b : ℕ) (p : NodeId × Side) → mark_of marks j ≡ Some b → IsAmong (parts node) p → p.0.0 ≡ j.0 → ⊥
  fresh j b p m a e =
      let lower = part_below i.0 node below p a in
      w.apart i j at b (omega arith) (omega arith) (λ z. omega arith) mark m j (within_part ns i node p j has a (subst (λ (z : NodeId). StandsIn ns p.0 z) (same_id p.0 j e) (itself ns p.0))) (itself ns j)

  -- a mark stays
  kept : (j : NodeId) (b : ℕ) → mark_of marks j ≡ Some b → mark_of new j ≡ Some b
  kept j b m = subst (λ z. mark_of z j ≡ Some b) (sym marks_are) (parts_others marks at inner (parts node) j.0 (λ p a e. fresh j b p m a e) ∙ m)

  -- a mark is an old one, or that of a part
  marks_of : (j : NodeId) (b : ℕ) → mark_of new j ≡ Some b → (mark_of marks j ≡ Some b) ⊎ ((p : NodeId × Side) × IsAmong (parts node) p × (p.0.0 ≡ j.0) × (b ≡ number_on p.1 at inner))
  marks_of j b m = parts_only marks at inner (parts node) j.0 b (subst (λ z. mark_of z j ≡ Some b) marks_are m)

  part_waits : (p : NodeId × Side) → IsAmong (parts node) p → Waits ns after p.0 (number_on p.1 at inner)
  part_waits p a =
      let own = part p a in
      let in_it = entered ns arguments node p.1 wait.scopes wait.room (λ e. inside_body ns node p here.elements a e) here.some wait.fits in
      record {
        room = left_on p.1 wait.room;
        used = own.own;
        scopes = in_it.within;
        stands = own.stands;
        once = λ rest e. (subst IsOnce e (own.once rest_once)).1;
        nests = begins.opens p wait.scopes in_it.within a wait.nests in_it.enters;
        fits = in_it.fits;
      }

  still_waits : (j : NodeId) (b : ℕ) → Waits ns levels j b → Waits ns after j b
  still_waits j b h = record { room = h.room; used = h.used; scopes = h.scopes; stands = h.stands; once = h.once; nests = begins.stays b h.scopes h.nests; fits = h.fits }

  waits : (j : NodeId) (b : ℕ) → j.0 < i.0 → mark_of new j ≡ Some b → Waits ns after j b
  waits j b lt m = elim (marks_of j b m) [
    | inl old ↦ still_waits j b (w.waiting j b (omega arith) old)
    | inr f ↦ subst (λ (z : NodeId). Waits ns after z b) (same_id f.0.0 j f.2) (subst (λ z. Waits ns after f.0.0 z) (sym f.3) (part_waits f.0 f.1))
  ]

  from_part : (p : NodeId × Side) (j : NodeId) (b : ℕ) → IsAmong (parts node) p → j.0 < i.0 → mark_of marks j ≡ Some b → AreSeparate ns p.0 j
  from_part p j b a lt m x s t = w.apart i j at b (omega arith) (omega arith) (λ z. omega arith) mark m x (within_part ns i node p x has a s) t

  stay_apart : (j k : NodeId) (a b : ℕ) → j.0 < i.0 → k.0 < i.0 → (j.0 ≡ k.0 → ⊥) → mark_of new j ≡ Some a → mark_of new k ≡ Some b → AreSeparate ns j k
  stay_apart j k a b lj lk other mj mk = elim (marks_of j a mj) [
    | inl old ↦ elim (marks_of k b mk) [
      | inl too ↦ w.apart j k a b (omega arith) (omega arith) other old too
      | inr g ↦ subst (λ (z : NodeId). AreSeparate ns j z) (same_id g.0.0 k g.2) (flipped ns g.0.0 j (from_part g.0 j a g.1 lj old))
    ]
    | inr f ↦ subst (λ (z : NodeId). AreSeparate ns z k) (same_id f.0.0 j f.2) (elim (marks_of k b mk) [
      | inl too ↦ from_part f.0 k b f.1 lk too
      | inr g ↦ subst (λ (z : NodeId). AreSeparate ns f.0.0 z) (same_id g.0.0 k g.2) (two_parts ns (parts node) f.0 g.0 all_separate f.1 g.1 (λ e. other (sym f.2 ∙ e ∙ g.2)))
    ])
  ]

  part_mark : (p : NodeId × Side) → IsAmong (parts node) p → mark_of new p.0 ≡ Some (number_on p.1 at inner)
  part_mark p a =
      let lower = part_below i.0 node below p a in
      let long = w.long in
      let low = w.low in
      subst (λ z. mark_of z p.0 ≡ Some (number_on p.1 at inner)) (sym marks_are) (parts_in marks at inner (parts node) p (different ns (parts node) all_separate) a (omega arith))

  part_done : (p : NodeId × Side) → IsAmong (parts node) p → PartDone ns arguments new after node wait.scopes p
  part_done p a = (number_on p.1 at inner, part_mark p a, λ within h. begins.opens p wait.scopes within a wait.nests h)

  now_done : Done ns arguments new after i at
  now_done = record {
    scopes = wait.scopes;
    nests = begins.stays at wait.scopes wait.nests;
    few = (let f = wait.fits in omega arith);
    each = λ other h p a.
        (let same : node ≡ other = same_Some node other (sym has ∙ h) in
        subst (λ (z : Node). PartDone ns arguments new after z wait.scopes p) same (part_done p (subst (λ (z : Node). IsAmong (parts z) p) (sym same) a)));
  }

  still_done : (j : NodeId) (b : ℕ) → Done ns arguments marks levels j b → Done ns arguments new after j b
  still_done j b d = record {
    scopes = d.scopes;
    nests = begins.stays b d.scopes d.nests;
    few = d.few;
    each = λ other h p a. (let q = d.each other h p a in (q.0, kept p.0 q.0 q.1, λ within e. begins.stays q.0 within (q.2 within e)));
  }

  all_done : (j : NodeId) (b : ℕ) → i.0 ≤ j.0 → mark_of new j ≡ Some b → Done ns arguments new after j b
  all_done j b le m = elim (marks_of j b m) [
    | inl old ↦ elim (cases_eq i.0 j.0) [
      | inl e ↦ (let ij = same_id i j e in let same : at ≡ b = same_Some at b (sym mark ∙ ap (mark_of marks) ij ∙ old) in subst (λ (z : NodeId). Done ns arguments new after z b) ij (subst (λ z. Done ns arguments new after i z) same now_done))
      | inr other ↦ still_done j b (w.done j b (omega arith) old)
    ]
    | inr f ↦ absurd (let lower = part_below i.0 node below f.0 f.1 in let e = f.2 in omega arith)
  ]

  pub visited : Walked ns arguments body new after i.0
  visited = record {
    long = ap length marks_are ∙ parts_length marks at inner (parts node) ∙ w.long;
    low = (let l = w.low in omega arith);
    top = kept body 0 w.top;
    waiting = waits;
    apart = stay_apart;
    done = all_done;
  }

-- before the first visit the script's body alone is marked
begun : (ns : List Node) (arguments : Option TextId) (body : NodeId) (marks : List (Option ℕ)) (levels : List Level) (used : List ℕ) → length marks ≡ body.0 + 1 → mark_of marks body ≡ Some 0 → ((j : NodeId) (b : ℕ) → mark_of marks j ≡ Some b → (j.0 ≡ body.0) × (b ≡ 0))
    → Stands ns 200 body used → ((rest : List ℕ) → used ≡ body.0 ∷ rest → IsOnce rest) → Walked ns arguments body marks levels (body.0 + 1)
begun ns arguments body marks levels used long top only stands once = record {
  long = long;
  low = omega arith;
  top = top;
  waiting = λ j b lt m.
      (let o = only j b m in
      subst (λ (z : NodeId). Waits ns levels z b) (sym (same_id j body o.0)) (record { room = 200; used = used; scopes = []; stands = stands; once = once; nests = o.1; fits = omega arith }));
  apart = λ i j a b li lj other mi mj. absurd (other ((only i a mi).0 ∙ sym (only j b mj).0));
  done = λ j b le m. absurd (let e = (only j b m).0 in omega arith);
}

-- a marked node is there
pub within : (ns : List Node) (arguments : Option TextId) (body : NodeId) (marks : List (Option ℕ)) (levels : List Level) (left : ℕ) (i : NodeId) (at : ℕ) → left ≡ i.0 + 1 → mark_of marks i ≡ Some at → Walked ns arguments body marks levels left → i.0 < length ns
within ns arguments body marks levels left i at e m w = let wait = w.waiting i at (omega arith) m in let node = node_of ns wait.room i wait.used wait.stands in slice_get_within ns i.0 node.0 node.1

abbrev bare : Option ℕ
bare = None

unmarked : (n j : ℕ) → get_or (replicate n bare) j bare ≡ bare
unmarked n j = elim (cases_lt j n) [ inl lt ↦ get_or-replicate n j bare bare lt | inr le ↦ get_or_past (replicate n bare) j bare (let long = length-replicate n bare in omega arith) ]

pub started : (ns : List Node) (arguments : Option TextId) (body : NodeId) (old new : List (Option ℕ)) (levels : List Level) → IsScript ns body → old ≡ replicate (body.0 + 1) None → new ≡ set old body.0 (Some 0) → Walked ns arguments body new levels (length new)
started ns arguments body old new levels script empty e =
    let long : length old ≡ body.0 + 1 = ap length empty ∙ length-replicate (body.0 + 1) None in
    let same : length new ≡ body.0 + 1 = ap length e ∙ length-set old body.0 (Some 0) ∙ long in
    let only : (j : NodeId) (b : ℕ) → mark_of new j ≡ Some b → (j.0 ≡ body.0) × (b ≡ 0) = λ j b m. elim (set_only old body.0 j.0 0 b (subst (λ z. mark_of z j ≡ Some b) e m)) [
      | inl f ↦ absurd (let none : get_or old j.0 None ≡ None = ap (λ z. get_or z j.0 None) empty ∙ unmarked (body.0 + 1) j.0 in cc)
      | inr f ↦ f
    ] in
    subst (Walked ns arguments body new levels) (sym same)
    (begun ns arguments body new levels (body.0 ∷ script.used) same (ap (λ z. mark_of z body) e ∙ get_or-set_same old body.0 (Some 0) None (omega arith)) only
    (AsScript script.list script.has (script.tree, script.used, refl, script.shows, script.low) (omega arith)) (λ rest q. let same_rest : script.used ≡ rest = cc in subst IsOnce same_rest script.once))
