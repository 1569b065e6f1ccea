use Rattle.wjs_load.proofs.Faults.{refused_so}
use Rattle.wjs_load.proofs.Loaded.{read_known, read_spelled, read_placed}
use Rattle.wjs_load.proofs.units.load.Goals as goal

pub returns-clause-ok : goal.returns-clause-ok
returns-clause-ok c = read_spelled c.args.bytes.now c.tokens.new.texts c.in_ok-toks.toks.items c.in_ok-toks.ensures.ok c.tokens.ensures.table c.read.result c.read.ensures

pub returns-clause-known : goal.returns-clause-known
returns-clause-known c = read_known c.args.bytes.now c.tokens.new.texts c.in_ok-toks.toks.items c.in_ok-toks.ensures.ok c.read.result c.read.ensures

pub returns-clause-places : goal.returns-clause-places
returns-clause-places c = read_placed c.args.bytes.now c.tokens.new.texts c.in_ok-toks.toks.items c.in_ok-toks.ensures.ok c.read.result c.read.ensures

pub returns-clause-err : goal.returns-clause-err
returns-clause-err c = refused_so c.args.bytes.now c.tokens.new.texts c.in_ok-toks.toks.items c.tokens.ensures.table c.in_ok-toks.ensures.ok c.read.result c.read.ensures
