use Rattle.wjs_direct_lines.proofs.Updating.{conversion_does, conversion_found, conversion_later}
use Rattle.wjs_direct_lines.proofs.updates.converted.Goals as goal

pub returns-clause-later : goal.returns-clause-later
returns-clause-later g c =
    let s = c.stop_holding-end.new in
    let k = c.waits_holding.new in
    conversion_later g.S.WorldStore.meaning c.args.config.now s.config k.config c.args.frame.now c.args.node c.args.fix c.args.operator c.args.reference c.args.old c.stop_holding-end.result s.stops.waits s.stops.top c.waits_holding.result k.stops.waits k.stops.top
    c.requires.base c.stop_holding-end.ensures.same c.waits_holding.ensures.same c.stop_holding-end.ensures.stops c.waits_holding.ensures.waits

pub returns-clause-found : goal.returns-clause-found
returns-clause-found g c =
    let s = c.stop_holding-end.new in
    let k = c.waits_holding.new in
    conversion_found g.S.WorldStore.meaning c.args.config.now s.config k.config c.args.frame.now c.args.node c.args.fix c.args.operator c.args.reference c.args.old c.stop_holding-end.result s.stops.waits s.stops.top c.waits_holding.result k.stops.waits k.stops.top
    c.requires.base c.stop_holding-end.ensures.same c.waits_holding.ensures.same c.stop_holding-end.ensures.stops c.waits_holding.ensures.waits c.requires.there c.requires.node c.requires.reference c.requires.old

pub returns-clause-does : goal.returns-clause-does
returns-clause-does g c =
    let s = c.stop_holding-end.new in
    let k = c.waits_holding.new in
    conversion_does g.S.WorldStore.meaning c.args.config.now s.config k.config c.args.frame.now c.args.node c.args.fix c.args.operator c.args.reference c.args.old c.stop_holding-end.result s.stops.waits s.stops.top c.waits_holding.result k.stops.waits k.stops.top
    c.requires.base c.stop_holding-end.ensures.same c.waits_holding.ensures.same c.stop_holding-end.ensures.stops c.waits_holding.ensures.waits
