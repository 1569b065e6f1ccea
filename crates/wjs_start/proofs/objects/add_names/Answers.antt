use Rattle.wjs_start.proofs.Underneath.{flags_on, flags_all}
use Rattle.wjs_start.proofs.objects.add_names.Goals as goal

pub loop-name-preserved : goal.loop-name-preserved
loop-name-preserved c = λ t before texts names h. flags_on t c.args.names.now texts c.args.attributes names c.loop-name.flags.items c.push.new.self.items before c.loop-name.name-index _ c.loop-name-test.true c.in_ok-push.ensures.items (c.loop-name.invariant t before texts names h)

pub returns : goal.returns
returns c = λ t before texts names h. flags_all t c.args.names.now texts c.args.attributes names c.loop-name.flags.items before c.loop-name.name-index c.loop-name-test.false (c.loop-name.invariant t before texts names h)
