use Rattle.wjs_parts.proofs.Openings.{names_behind, found_behind}
use Rattle.wjs_parts.proofs.starts.add_names.Goals as goal

pub returns-clause-are : goal.returns-clause-are
returns-clause-are c = λ t table known. names_behind t c.args.part.now c.args.names.now.items c.in_ok-more.more.items c.as_slice.result.now c.extend_from_slice.new.self.items c.in_ok-extend_from_slice.ensures.items c.as_slice.ensures.value (c.in_ok-more.ensures.are t table known)

pub returns-clause-found : goal.returns-clause-found
returns-clause-found c = λ t known there. found_behind t c.args.names.now.items c.in_ok-more.more.items c.as_slice.result.now c.extend_from_slice.new.self.items c.in_ok-extend_from_slice.ensures.items c.as_slice.ensures.value there (c.in_ok-more.ensures.found t known)
