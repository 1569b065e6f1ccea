use Rattle.std.proofs.Common.{rules, ◌≡◌, ◌∙◌, ap, Option, Some, [], ◌∷◌}
use Rattle.clap.specs.Words.{Rule, new_rule, rule_of}
use Rattle.clap.specs.declared.builder.value_parser.ValueParser.{ValueParser}
use Rattle.clap.specs.declared.builder.arg.Arg.{Arg}
use Rattle.clap.specs.declared.builder.action.ArgAction.TheVariants.{Set}
use Rattle.wjs_options.proofs.command.option.Goals as goal

pub returns : goal.returns
returns c =
    let given : c.value_parser.result.value_parser ≡ Some c.args.parser = search rules in
    let long : rule_of c.long.result ≡ record (rule_of c.new.result) { long = Some c.args.id.now } = ap rule_of c.long.ensures in
    let action : rule_of c.action.result ≡ record (rule_of c.long.result) { action = Some Set } = ap rule_of c.action.ensures in
    let parser : rule_of c.value_parser.result ≡ record (rule_of c.action.result) { parser = c.value_parser.result.value_parser } = ap rule_of c.value_parser.ensures.others in
    let default : rule_of c.default_value.result ≡ record (rule_of c.value_parser.result) { defaults = c.args.otherwise.now ∷ [] } = ap rule_of c.default_value.ensures in
    let active : rule_of c.action.result ≡ record (new_rule c.args.id.now) { long = Some c.args.id.now; action = Some Set } =
    action ∙ ap (λ (r : Rule). record r { action = Some Set }) (long ∙ ap (λ (r : Rule). record r { long = Some c.args.id.now }) c.new.ensures.rule) in
    let parsed : rule_of c.value_parser.result ≡ record (new_rule c.args.id.now) { long = Some c.args.id.now; action = Some Set; parser = Some c.args.parser } =
    parser ∙ (ap (λ (p : Option ValueParser). record (rule_of c.action.result) { parser = p }) given
    ∙ ap (λ (r : Rule). record r { parser = Some c.args.parser }) active) in
    let global = λ (a : Arg). a.global in
    record {
      rule = default ∙ ap (λ (r : Rule). record r { defaults = c.args.otherwise.now ∷ [] }) parsed;
      local = ap global c.default_value.ensures ∙ (ap global c.value_parser.ensures.others ∙ (ap global c.action.ensures ∙ (ap global c.long.ensures ∙ c.new.ensures.optional.1)));
    }
