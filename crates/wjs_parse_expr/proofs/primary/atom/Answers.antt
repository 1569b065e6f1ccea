use Rattle.std.proofs.Common.{false}
use Rattle.wjs_tree.specs.declared.tokens.Token.TheVariants as tokens
use Rattle.wjs_tree.specs.declared.node.Node.TheVariants as nodes
use Rattle.wjs_parse_expr.proofs.Readings.{token_within}
use Rattle.wjs_parse_expr.proofs.Entries.{leaf_ends}
use Rattle.wjs_parse_expr.proofs.Primaries.{name_found, number_found, text_found}
use Rattle.wjs_parse_expr.proofs.primary.atom.Goals as goal

pub returns-in-Some-Word-clause-answer : goal.returns-in-Some-Word-clause-answer
returns-in-Some-Word-clause-answer c = name_found c.args.functions.now c.args.nodes.now c.args.toks.now c.args.no_in c.args.room c.args.at c.add_leaf.new.nodes c.requires.below c.in-Some-Word.text (let e = c.in-Some-Word.field-0-is in let g = c.in-Some-Word.is in let z = c.token_at.ensures in cc) c.add_leaf.result c.add_leaf.ensures.adds

pub returns-in-Some-Number-clause-answer : goal.returns-in-Some-Number-clause-answer
returns-in-Some-Number-clause-answer c = number_found c.args.functions.now c.args.nodes.now c.args.toks.now c.args.no_in c.args.room c.args.at c.add_leaf-in-Some-Number.new.nodes c.requires.below c.in-Some-Number.value (let e = c.in-Some-Number.field-0-is in let g = c.in-Some-Number.is in let z = c.token_at.ensures in cc) c.add_leaf-in-Some-Number.result c.add_leaf-in-Some-Number.ensures.adds

pub returns-in-Some-Number-clause-ends : goal.returns-in-Some-Number-clause-ends
returns-in-Some-Number-clause-ends c = leaf_ends c.args.toks.now c.args.at c.args.nodes.now c.add_leaf-in-Some-Number.new.nodes (nodes.Number c.in-Some-Number.value) false (token_within c.args.toks.now c.args.at (tokens.Number c.in-Some-Number.value) (let e = c.in-Some-Number.field-0-is in let g = c.in-Some-Number.is in let z = c.token_at.ensures in cc)) c.add_leaf-in-Some-Number.result c.add_leaf-in-Some-Number.ensures.adds

pub returns-in-Some-Text-clause-answer : goal.returns-in-Some-Text-clause-answer
returns-in-Some-Text-clause-answer c = text_found c.args.functions.now c.args.nodes.now c.args.toks.now c.args.no_in c.args.room c.args.at c.add_leaf-in-Some-Text.new.nodes c.requires.below c.in-Some-Text.text (let e = c.in-Some-Text.field-0-is in let g = c.in-Some-Text.is in let z = c.token_at.ensures in cc) c.add_leaf-in-Some-Text.result c.add_leaf-in-Some-Text.ensures.adds

pub returns-in-Some-Text-clause-ends : goal.returns-in-Some-Text-clause-ends
returns-in-Some-Text-clause-ends c = leaf_ends c.args.toks.now c.args.at c.args.nodes.now c.add_leaf-in-Some-Text.new.nodes (nodes.Text c.in-Some-Text.text) false (token_within c.args.toks.now c.args.at (tokens.Text c.in-Some-Text.text) (let e = c.in-Some-Text.field-0-is in let g = c.in-Some-Text.is in let z = c.token_at.ensures in cc)) c.add_leaf-in-Some-Text.result c.add_leaf-in-Some-Text.ensures.adds
