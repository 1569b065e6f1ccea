use Rattle.wjs_start.proofs.Declares.{names_together}
use Rattle.wjs_start.proofs.script.script_names.Goals as goal

pub returns-clause-are : goal.returns-clause-are
returns-clause-are c = λ t table known.
    let d = c.in_ok-declared.declared in
    names_together t c.args.script.now c.in_ok-names.names.items c.extend_from_slice.new.self.items c.functions.result.now d.functions c.variables.result.now d.variables c.in_ok-extend_from_slice.ensures.items c.functions.ensures c.variables.ensures (c.in_ok-names.ensures.are t) (c.in_ok-declared.ensures.functions t) (c.in_ok-declared.ensures.variables t table known)
