use Rattle.std.proofs.Common.{◌≡◌, ◌==◌, List, [], sym, ap, ◌∙◌, subst, eqb-true, length}
use Rattle.std.specs.Prelude.{Result, Ok, Err, OnOk, OnErr}
use Rattle.std.proofs.lemmas.List.{nil_from_length}
use Rattle.std.proofs.lemmas.Bool.{false≢true}
use Rattle.std.proofs.lemmas.Result.{on_ok_weaker}
use Rattle.wjs_arena.specs.Entries.{Objects, Entry, IsArena, NoOwnerInCommon, WorldsAreOwn, joined}
use Rattle.wjs_arena.specs.Kept.{owned_objects, IsKept}
use Rattle.wjs_arena.proofs.TakenOut.{joined_none, joined_is, no_world, kept_joined}
use Rattle.wjs_arena.proofs.arena.Arena.put.Goals as goal

-- by how a call ended
by_result : {A E P Q Q' R R' : Type 0} (r : Result A E) → OnOk r Q → OnOk r Q' → OnErr r R → OnErr r R' → (Q → Q' → P) → (R → R' → P) → P
by_result (Ok x) q q' e e' f g = f q q'
by_result (Err x) q q' e e' f g = g e e'

pub returns-then-is_empty-clause-ok : goal.returns-then-is_empty-clause-ok
returns-then-is_empty-clause-ok c =
    let own = c.owned.inside in
    let none : own.rows.items ≡ [] = nil_from_length own.rows.items (eqb-true (length own.rows.items) 0 (ap (λ (l : List Entry). length l == 0) (sym c.as_slice.ensures.value) ∙ sym c.is_empty.ensures ∙ c.if-is_empty.true)) in
    joined_none c.args.self.now own.owner own.rows.items none ∙ ap (joined c.args.self.now) c.owned.view_is

pub put_owned-requires : goal.put_owned-requires
put_owned-requires c =
    let own = c.owned.inside in
    let some : own.rows.items ≡ [] → ⊥ = λ e. false≢true (sym c.if-is_empty.false ∙ c.is_empty.ensures ∙ ap (λ (l : List Entry). length l == 0) (c.as_slice.ensures.value ∙ e)) in
    let apart = subst (λ (m : Objects). NoOwnerInCommon m (owned_objects own.owner own.rows.items)) (sym c.self.view_is)
    (subst (NoOwnerInCommon c.args.self.now) (sym c.owned.view_is) c.requires.apart) in
    no_world c.self.inside.rows own.owner own.rows.items some apart c.self.inside.worlds c.self.invariant (subst WorldsAreOwn (sym c.self.view_is) c.requires.worlds)

pub invariant_of-self : goal.invariant_of-self
invariant_of-self c =
    let own = c.owned.inside in
    let m = c.self.inside.rows in
    let some : own.rows.items ≡ [] → ⊥ = λ e. false≢true (sym c.if-is_empty.false ∙ c.is_empty.ensures ∙ ap (λ (l : List Entry). length l == 0) (c.as_slice.ensures.value ∙ e)) in
    let apart = subst (λ (z : Objects). NoOwnerInCommon z (owned_objects own.owner own.rows.items)) (sym c.self.view_is)
    (subst (NoOwnerInCommon c.args.self.now) (sym c.owned.view_is) c.requires.apart) in
    let arena = subst (λ (z : Objects). IsArena (joined z (owned_objects own.owner own.rows.items))) (sym c.self.view_is)
    (subst (λ (z : Objects). IsArena (joined c.args.self.now z)) (sym c.owned.view_is) c.requires.arena) in
    let e = c.put_owned.ensures in
    by_result c.put_owned.result e.rows e.worlds e.rows_err e.worlds_err
    (λ rows worlds. kept_joined m own.owner own.rows.items some apart c.put_owned.new.rows c.self.inside.worlds c.put_owned.new.worlds own.worlds c.self.invariant
    (subst WorldsAreOwn (sym c.self.view_is) c.requires.worlds) c.owned.invariant arena
    (joined_is m own.owner own.rows.items some apart c.put_owned.new.rows rows) worlds)
    (λ rows worlds. subst (λ z. IsKept z c.put_owned.new.worlds) (sym rows) (subst (λ z. IsKept m z) (sym worlds) c.self.invariant))

pub returns-clause-ok : goal.returns-clause-ok
returns-clause-ok c =
    let own = c.owned.inside in
    let some : own.rows.items ≡ [] → ⊥ = λ e. false≢true (sym c.if-is_empty.false ∙ c.is_empty.ensures ∙ ap (λ (l : List Entry). length l == 0) (c.as_slice.ensures.value ∙ e)) in
    let apart = subst (λ (m : Objects). NoOwnerInCommon m (owned_objects own.owner own.rows.items)) (sym c.self.view_is)
    (subst (NoOwnerInCommon c.args.self.now) (sym c.owned.view_is) c.requires.apart) in
    on_ok_weaker c.put_owned.result (λ rows. joined_is c.self.inside.rows own.owner own.rows.items some apart c.put_owned.new.rows rows
    ∙ (λ i. joined (c.self.view_is i) (c.owned.view_is i))) c.put_owned.ensures.rows
