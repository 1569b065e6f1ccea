use Rattle.std.proofs.Common.{◌<◌, ◌↔◌, ◌∷◌, [], sym, ap, ◌∙◌, subst, IsTrue}
use Rattle.std.specs.Option.{option_copied}
use Rattle.std.specs.FinMap as map
use Rattle.wjs_base.specs.declared.ids.ObjId.{ObjId}
use Rattle.wjs_arena.specs.Entries.{has, next_number}
use Rattle.wjs_arena.proofs.Owners.{serials_objects, at_found, at_missing, others_after, owned, counted}
use Rattle.wjs_arena.proofs.rows.Rows.list_of_another.Goals as goal

pub returns-in-Some-clause-objects : goal.returns-in-Some-clause-objects
returns-in-Some-clause-objects c =
    let all = (0, c.self.inside.first) ∷ c.self.inside.owners.entries in
    let there = at_found (λ rows. rows.items) all c.args.owner c.in-Some.rows.now (others_after (λ rows. rows.items) c.self.inside.first c.self.inside.owners.entries c.args.owner c.requires ∙ sym c.get.ensures.value ∙ ap option_copied c.in-Some.is) ∙ sym c.as_slice.ensures.value in
    λ id o. ap (λ m. map.get m id) (sym c.self.view_is) ∙ owned (λ rows. rows.items) all c.args.owner c.as_slice.result.now there id o

pub returns-in-Some-clause-count : goal.returns-in-Some-clause-count
returns-in-Some-clause-count c =
    let all = (0, c.self.inside.first) ∷ c.self.inside.owners.entries in
    let there = at_found (λ rows. rows.items) all c.args.owner c.in-Some.rows.now (others_after (λ rows. rows.items) c.self.inside.first c.self.inside.owners.entries c.args.owner c.requires ∙ sym c.get.ensures.value ∙ ap option_copied c.in-Some.is) ∙ sym c.as_slice.ensures.value in
    counted (λ rows. rows.items) all c.args.owner c.as_slice.result.now there ∙ ap (λ m. (next_number m c.args.owner).serial) c.self.view_is

pub returns-in-Some-clause-serials : goal.returns-in-Some-clause-serials
returns-in-Some-clause-serials c = subst (λ m. (id : ObjId) → IsTrue (has m id) ↔ (id.serial < (next_number m id.owner).serial)) c.self.view_is (serials_objects (λ rows. rows.items) ((0, c.self.inside.first) ∷ c.self.inside.owners.entries))

pub returns-in-None-clause-objects : goal.returns-in-None-clause-objects
returns-in-None-clause-objects c =
    let all = (0, c.self.inside.first) ∷ c.self.inside.owners.entries in
    let there = at_missing (λ rows. rows.items) all c.args.owner (others_after (λ rows. rows.items) c.self.inside.first c.self.inside.owners.entries c.args.owner c.requires ∙ sym c.get.ensures.value ∙ ap option_copied c.in-None.is) in
    λ id o. ap (λ m. map.get m id) (sym c.self.view_is) ∙ owned (λ rows. rows.items) all c.args.owner [] there id o

pub returns-in-None-clause-count : goal.returns-in-None-clause-count
returns-in-None-clause-count c =
    let all = (0, c.self.inside.first) ∷ c.self.inside.owners.entries in
    let there = at_missing (λ rows. rows.items) all c.args.owner (others_after (λ rows. rows.items) c.self.inside.first c.self.inside.owners.entries c.args.owner c.requires ∙ sym c.get.ensures.value ∙ ap option_copied c.in-None.is) in
    counted (λ rows. rows.items) all c.args.owner [] there ∙ ap (λ m. (next_number m c.args.owner).serial) c.self.view_is

pub returns-in-None-clause-serials : goal.returns-in-None-clause-serials
returns-in-None-clause-serials c = subst (λ m. (id : ObjId) → IsTrue (has m id) ↔ (id.serial < (next_number m id.owner).serial)) c.self.view_is (serials_objects (λ rows. rows.items) ((0, c.self.inside.first) ∷ c.self.inside.owners.entries))
