use Rattle.std.proofs.Common.{◌<◌, ◌↔◌, ◌∷◌, sym, ap, ◌∙◌, subst, IsTrue}
use Rattle.std.specs.FinMap as map
use Rattle.wjs_base.specs.declared.ids.ObjId.{ObjId}
use Rattle.wjs_arena.specs.Entries.{has, next_number}
use Rattle.wjs_arena.proofs.Owners.{serials_objects, at_found, zero_first, owned, counted}
use Rattle.wjs_arena.proofs.rows.Rows.list.Goals as goal

pub returns-then-owner-eq0-clause-objects : goal.returns-then-owner-eq0-clause-objects
returns-then-owner-eq0-clause-objects c =
    let all = (0, c.self.inside.first) ∷ c.self.inside.owners.entries in
    let there = at_found (λ rows. rows.items) all c.args.owner c.self.inside.first (zero_first (λ rows. rows.items) c.self.inside.first c.self.inside.owners.entries c.args.owner c.if-owner-eq0.true) ∙ sym c.as_slice.ensures.value in
    λ id o. ap (λ m. map.get m id) (sym c.self.view_is) ∙ owned (λ rows. rows.items) all c.args.owner c.as_slice.result.now there id o

pub returns-then-owner-eq0-clause-count : goal.returns-then-owner-eq0-clause-count
returns-then-owner-eq0-clause-count c =
    let all = (0, c.self.inside.first) ∷ c.self.inside.owners.entries in
    let there = at_found (λ rows. rows.items) all c.args.owner c.self.inside.first (zero_first (λ rows. rows.items) c.self.inside.first c.self.inside.owners.entries c.args.owner c.if-owner-eq0.true) ∙ sym c.as_slice.ensures.value in
    counted (λ rows. rows.items) all c.args.owner c.as_slice.result.now there ∙ ap (λ m. (next_number m c.args.owner).serial) c.self.view_is

pub returns-then-owner-eq0-clause-serials : goal.returns-then-owner-eq0-clause-serials
returns-then-owner-eq0-clause-serials c = subst (λ m. (id : ObjId) → IsTrue (has m id) ↔ (id.serial < (next_number m id.owner).serial)) c.self.view_is (serials_objects (λ rows. rows.items) ((0, c.self.inside.first) ∷ c.self.inside.owners.entries))
