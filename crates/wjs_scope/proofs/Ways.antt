-- Where all nodes have been visited, each node to which a way leads has the mark of its scopes.
use Rattle.std.specs.Prelude.{◌≡◌, ℕ, List, [], ◌∷◌, Option, Some}
use Rattle.std.proofs.Common.{refl, sym, subst, arith}
use Rattle.std.proofs.lemmas.Option.{slice_get_within}
use Rattle.wjs_base.specs.declared.ids.TextId.{TextId}
use Rattle.wjs_base.specs.declared.ids.NodeId.{NodeId}
use Rattle.wjs_tree.specs.declared.node.Node.{Node}
use Rattle.wjs_tree.specs.Shows.{Has}
use Rattle.wjs_scope.specs.declared.levels.Level.{Level}
use Rattle.wjs_scope.specs.Scopes.{Scope}
use Rattle.wjs_scope.specs.Nesting.{Side, Enters, Leads, LeadsTo}
use Rattle.wjs_scope.specs.Levels.{Nests}
use Rattle.wjs_scope.specs.Visits.{AreNested, mark_of}
use Rattle.wjs_scope.proofs.Opening.{one_nest}
use Rattle.wjs_scope.proofs.Nested.{Walked}

module _ (ns : List Node) (arguments : Option TextId) (body : NodeId) (marks : List (Option ℕ)) (levels : List Level) (w : Walked ns arguments body marks levels 0) where
  by_scopes : (way : List (NodeId × Side)) (i : NodeId) (scopes : List Scope) (at : ℕ) (j : NodeId) (within : List Scope) → mark_of marks i ≡ Some at → Nests levels at scopes → Leads ns arguments i scopes way j within → (inner : ℕ) × (mark_of marks j ≡ Some inner) × Nests levels inner within
  by_scopes [] i scopes at j within m n h = (at, subst (λ (z : NodeId). mark_of marks z ≡ Some at) (sym h.0) m, subst (Nests levels at) (sym h.1) n)
  by_scopes (p ∷ way) i scopes at j within m n h =
      let d = w.done i at (omega arith) m in
      let same = one_nest levels at scopes d.scopes n d.nests in
      let part = d.each h.0 h.2 p h.3 in
      by_scopes way p.0 h.1 part.0 j within part.1 (part.2 h.1 (subst (λ z. Enters ns arguments h.0 p.1 z h.1) same h.4)) h.5

  by_parts : (way : List (NodeId × Side)) (i : NodeId) (at : ℕ) (j : NodeId) → mark_of marks i ≡ Some at → LeadsTo ns i way j → (inner : ℕ) × (mark_of marks j ≡ Some inner)
  by_parts [] i at j m h = (at, subst (λ (z : NodeId). mark_of marks z ≡ Some at) (sym h) m)
  by_parts (p ∷ way) i at j m h = let d = w.done i at (omega arith) m in let part = d.each h.0 h.1 p h.2 in by_parts way p.0 part.0 j part.1 h.3

  pub all_nested : (node : Node) → Has ns body node → AreNested ns arguments body marks levels
  all_nested node has = record {
    within = (let long = w.long in let lt = slice_get_within ns body.0 node has in omega arith);
    nests = λ i at m. (let d = w.done i at (omega arith) m in (d.scopes, d.nests, d.few));
    right = λ i scopes h. by_scopes h.0 body [] 0 i scopes w.top refl h.1;
    each = λ i h. by_parts h.0 body 0 i w.top h.1;
  }
