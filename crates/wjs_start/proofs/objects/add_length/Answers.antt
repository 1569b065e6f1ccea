use Rattle.wjs_start.proofs.Underneath.{length_added}
use Rattle.wjs_start.proofs.objects.add_length.Goals as goal

pub returns : goal.returns
returns c = λ t arena before knows h. length_added t arena c.args.known.now c.args.fixed.now.items c.push.new.self.items c.whole.result c.in-Some.length c.args.length before c.in-Some.is c.in_ok-push.ensures.items (c.whole.ensures t) knows h
