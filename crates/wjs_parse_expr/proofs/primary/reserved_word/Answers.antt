use Rattle.std.proofs.Common.{false, sym, ◌∙◌, subst}
use Rattle.wjs_tree.specs.declared.tokens.Token.TheVariants as tokens
use Rattle.wjs_tree.specs.declared.keys.Key.{Key}
use Rattle.wjs_tree.specs.declared.node.Node.TheVariants as nodes
use Rattle.wjs_tree.specs.Ends.{HasKey}
use Rattle.wjs_parse_expr.proofs.Readings.{token_within}
use Rattle.wjs_parse_expr.proofs.Entries.{leaf_ends}
use Rattle.wjs_parse_expr.proofs.Primaries.{this_found, world_found, null_found, bool_found, no_key, this_key, world_key, null_key, bool_key, function_key}
use Rattle.wjs_parse_expr.proofs.primary.reserved_word.Goals as goal

pub returns-in-This-clause-answer : goal.returns-in-This-clause-answer
returns-in-This-clause-answer c = this_found c.args.functions.now c.args.nodes.now c.args.toks.now c.args.no_in c.args.room c.args.at c.add_leaf.new.nodes c.requires.below (subst (λ (k : Key). HasKey c.args.toks.now c.args.at k) (this_key c.args.key (sym c.kind_of.ensures ∙ c.in-This.is)) c.requires.key) c.add_leaf.result c.add_leaf.ensures.adds

pub returns-in-This-clause-ends : goal.returns-in-This-clause-ends
returns-in-This-clause-ends c = leaf_ends c.args.toks.now c.args.at c.args.nodes.now c.add_leaf.new.nodes nodes.This false (token_within c.args.toks.now c.args.at (tokens.Key c.args.key) c.requires.key) c.add_leaf.result c.add_leaf.ensures.adds

pub returns-in-ThisWorld-clause-answer : goal.returns-in-ThisWorld-clause-answer
returns-in-ThisWorld-clause-answer c = world_found c.args.functions.now c.args.nodes.now c.args.toks.now c.args.no_in c.args.room c.args.at c.add_leaf-in-ThisWorld.new.nodes c.requires.below (subst (λ (k : Key). HasKey c.args.toks.now c.args.at k) (world_key c.args.key (sym c.kind_of.ensures ∙ c.in-ThisWorld.is)) c.requires.key) c.add_leaf-in-ThisWorld.result c.add_leaf-in-ThisWorld.ensures.adds

pub returns-in-ThisWorld-clause-ends : goal.returns-in-ThisWorld-clause-ends
returns-in-ThisWorld-clause-ends c = leaf_ends c.args.toks.now c.args.at c.args.nodes.now c.add_leaf-in-ThisWorld.new.nodes nodes.ThisWorld false (token_within c.args.toks.now c.args.at (tokens.Key c.args.key) c.requires.key) c.add_leaf-in-ThisWorld.result c.add_leaf-in-ThisWorld.ensures.adds

pub returns-in-Null-clause-answer : goal.returns-in-Null-clause-answer
returns-in-Null-clause-answer c = null_found c.args.functions.now c.args.nodes.now c.args.toks.now c.args.no_in c.args.room c.args.at c.add_leaf-in-Null.new.nodes c.requires.below (subst (λ (k : Key). HasKey c.args.toks.now c.args.at k) (null_key c.args.key (sym c.kind_of.ensures ∙ c.in-Null.is)) c.requires.key) c.add_leaf-in-Null.result c.add_leaf-in-Null.ensures.adds

pub returns-in-Null-clause-ends : goal.returns-in-Null-clause-ends
returns-in-Null-clause-ends c = leaf_ends c.args.toks.now c.args.at c.args.nodes.now c.add_leaf-in-Null.new.nodes nodes.Null false (token_within c.args.toks.now c.args.at (tokens.Key c.args.key) c.requires.key) c.add_leaf-in-Null.result c.add_leaf-in-Null.ensures.adds

pub returns-in-Bool-clause-answer : goal.returns-in-Bool-clause-answer
returns-in-Bool-clause-answer c = bool_found c.args.functions.now c.args.nodes.now c.args.toks.now c.args.no_in c.args.room c.args.at c.add_leaf-in-Bool.new.nodes c.requires.below c.in-Bool.b (subst (λ (k : Key). HasKey c.args.toks.now c.args.at k) (bool_key c.args.key c.in-Bool.b (sym c.kind_of.ensures ∙ c.in-Bool.is)) c.requires.key) c.add_leaf-in-Bool.result c.add_leaf-in-Bool.ensures.adds

pub returns-in-Bool-clause-ends : goal.returns-in-Bool-clause-ends
returns-in-Bool-clause-ends c =
    leaf_ends c.args.toks.now c.args.at c.args.nodes.now c.add_leaf-in-Bool.new.nodes (nodes.Bool c.in-Bool.b) false (token_within c.args.toks.now c.args.at (tokens.Key c.args.key) c.requires.key) c.add_leaf-in-Bool.result c.add_leaf-in-Bool.ensures.adds

pub function_expression-requires-clause-key : goal.function_expression-requires-clause-key
function_expression-requires-clause-key c = subst (λ (k : Key). HasKey c.args.toks.now c.args.at k) (function_key c.args.key (sym c.kind_of.ensures ∙ c.in-Function.is)) c.requires.key

pub returns-in-Other-clause-answer : goal.returns-in-Other-clause-answer
returns-in-Other-clause-answer c = no_key c.args.toks.now c.args.no_in c.args.room c.args.at c.args.key c.requires.key (sym c.kind_of.ensures ∙ c.in-Other.is)
