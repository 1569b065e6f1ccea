use Rattle.std.proofs.Common.{◌+◌, length, ap, ◌∙◌}
use Rattle.wjs_meaning.specs.Start.{first_objects}
use Rattle.wjs_meaning.specs.Table.{natives, first_native}
use Rattle.wjs_start.proofs.Blueprinting.{all_built}
use Rattle.wjs_start.proofs.blueprints.blueprints.Goals as goal

pub returns-clause-built : goal.returns-clause-built
returns-clause-built c = λ declared. all_built declared c.push_natives.new.list.items c.in_ok-list.list.items c.first_blueprints.result c.natives.result.now natives (first_objects declared) _ first_native (c.in_ok-push_natives.ensures.built declared) c.in_ok-list.ensures.items (c.first_blueprints.ensures.built declared) (ap length c.in_ok-list.ensures.items ∙ c.first_blueprints.ensures.many) c.natives.ensures

pub returns-clause-many : goal.returns-clause-many
returns-clause-many c =
    c.in_ok-push_natives.ensures.many
    ∙ ap (λ n. n + length c.natives.result.now) (ap length c.in_ok-list.ensures.items ∙ c.first_blueprints.ensures.many)
    ∙ ap (λ ks. first_native + length ks) c.natives.ensures
