use Rattle.std.proofs.Common.{ap, ◌∙◌, is_some}
use Rattle.std.specs.Option.{option_and_then, is_none}
use Rattle.wjs_store.specs.Naming.{plain}
use Rattle.wjs_store.specs.State.{World}
use Rattle.wjs_session.specs.Stores.{worlds_in}
use Rattle.wjs_session.proofs.Worlds.{found_at, parent_some}
use Rattle.wjs_session.proofs.EndLaws.{none_from, agrees_is}
use Rattle.wjs_session.proofs.session.Session.agrees.Goals as goal

pub commit_check-requires-clause-parent : goal.commit_check-requires-clause-parent
commit_check-requires-clause-parent c =
    let F = worlds_in c.args.self.now.shared in
    let k = c.args.self.now.kept c.requires in
    ap (λ o. is_some (option_and_then (λ (x : World plain). x.parent) o)) (found_at F c.args.self.now.world k.child.there) ∙ parent_some F c.args.self.now.world k.shared k.child

pub returns-clause-agrees : goal.returns-clause-agrees
returns-clause-agrees c =
    let k = c.args.self.now.kept c.requires in
    agrees_is (worlds_in c.args.self.now.shared) c.args.self.now.world k.shared k.child c.is_none.result (none_from c.commit_check.result c.is_none.result c.is_none.ensures ∙ ap is_none c.commit_check.ensures)

pub returns-clause-told : goal.returns-clause-told
returns-clause-told c = c.args.self.now.marks c.requires
