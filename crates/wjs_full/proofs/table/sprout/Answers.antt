use Rattle.std.proofs.Common.{◌≡◌, ◌<◌, ℕ, ap, sym, ◌∙◌, subst, ◌++◌, ◌∷◌, [], length, slice_get}
use Rattle.std.specs.Option.{option_map}
use Rattle.wjs_full.specs.Rows.{world_in, worlds_in}
use Rattle.wjs_store.specs.State.{child_of, find_world, count_of}
use Rattle.wjs_full.proofs.Tables.{sprout_more, sprout_none}
use Rattle.wjs_full.proofs.table.sprout.Goals as goal

pub returns-in-None-clause-after : goal.returns-in-None-clause-after
returns-in-None-clause-after c = sprout_none (worlds_in c.args.table.now.items) c.args.world c.args.owner c.args.strict (ap (λ t. find_world (worlds_in t) c.args.world) (sym c.as_slice-2.ensures.value) ∙ c.in-None.ensures.found)

pub returns-in_ok-push-in-Some-clause-after : goal.returns-in_ok-push-in-Some-clause-after
returns-in_ok-push-in-Some-clause-after c =
    let t = c.args.table.now.items in
    let e : c.as_slice-2.result.now ≡ t = c.as_slice-2.ensures.value in
    let n : c.next_serial.result ≡ count_of c.args.owner (worlds_in t) = c.next_serial.ensures ∙ ap (λ s. count_of c.args.owner (worlds_in s)) c.as_slice.ensures.value in
    let pushed : c.push.new.self.items ≡ t ++ c.in_ok-child-in-Some.child ∷ [] = c.in_ok-push-in-Some.ensures.items in
    let child = c.in_ok-child-in-Some.ensures ∙ ap (λ (k : ℕ). child_of (world_in c.index.result.now) (record { owner = c.args.owner; serial = k }) c.args.strict) n in
    let found : find_world (worlds_in t) c.args.world ≡ option_map world_in (slice_get t c.in-Some.place) = subst (λ s. find_world (worlds_in s) c.args.world ≡ option_map world_in (slice_get s c.in-Some.place)) e c.in-Some.ensures.found in
    let bound : c.in-Some.place < length t = subst (λ s. c.in-Some.place < length s) e c.in-Some.ensures.bound in
    ap worlds_in pushed ∙ sprout_more t c.args.world c.args.owner c.args.strict c.in-Some.place c.index.result.now c.index.result.now c.in_ok-child-in-Some.child found bound c.index.ensures child
