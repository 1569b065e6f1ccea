use Rattle.std.proofs.Common.{Some, ap, sym, ◌∙◌}
use Rattle.wjs_names.proofs.Basics.{if_ok}
use Rattle.wjs_layers.specs.Shorts.{apart_of, content_in, read_by}
use Rattle.wjs_layers.proofs.touched.mark_after.Goals as goal

pub returns-in-Read-clause-read : goal.returns-in-Read-clause-read
returns-in-Read-clause-read c = if_ok c.mark_read.result (λ mark e now.
    e now ∙ ap Some c.content.ensures ∙ ap (λ m. read_by m (content_in c.args.kept) (apart_of c.args.before.now c.args.slot)) (sym c.in-Read.is)) c.mark_read.ensures.read

pub returns-in-Written-clause-read : goal.returns-in-Written-clause-read
returns-in-Written-clause-read c = λ now. ap (λ m. read_by m (content_in c.args.kept) (apart_of c.args.before.now c.args.slot)) (sym c.in-Written.is)

pub returns-in-Filled-clause-read : goal.returns-in-Filled-clause-read
returns-in-Filled-clause-read c = λ now. ap (λ m. read_by m (content_in c.args.kept) (apart_of c.args.before.now c.args.slot)) (sym c.in-Filled.is)

pub returns-in-Changed-clause-read : goal.returns-in-Changed-clause-read
returns-in-Changed-clause-read c = λ now. ap (λ m. read_by m (content_in c.args.kept) (apart_of c.args.before.now c.args.slot)) (sym c.in-Changed.is)
