use Rattle.std.proofs.Common.{ap, ◌∙◌, is_some}
use Rattle.std.specs.Option.{option_and_then}
use Rattle.std.specs.FinMap as map
use Rattle.wjs_store.specs.Meaning.{Meaning}
use Rattle.wjs_store.specs.Naming.{plain}
use Rattle.wjs_store.specs.State.{World}
use Rattle.wjs_session.specs.Stores.{worlds_in}
use Rattle.wjs_session.proofs.Worlds.{found_at, parent_some}
use Rattle.wjs_session.proofs.session.Session.abandon.Goals as goal

pub reset-requires : goal.reset-requires
reset-requires c =
    let F = worlds_in c.args.self.shared in
    let k = c.args.self.kept c.requires in
    record {
      live = (c.args.self.works c.requires).0;
      there = k.child.there;
      parent = ap (λ o. is_some (option_and_then (λ (x : World plain). x.parent) o)) (found_at F c.args.self.world k.child.there)
          ∙ parent_some F c.args.self.world k.shared k.child;
      leaf = k.child.leaf;
    }

pub returns : goal.returns
returns c = record { worlds = ap (λ (m : Meaning). m.full map.empty) c.reset.ensures; works = ap (λ (m : Meaning). m.spent) c.reset.ensures }
