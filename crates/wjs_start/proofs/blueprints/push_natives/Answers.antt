use Rattle.wjs_start.proofs.Blueprinting.{pushed}
use Rattle.wjs_start.proofs.blueprints.push_natives.Goals as goal

pub loop-native-preserved : goal.loop-native-preserved
loop-native-preserved c = pushed c.args.list.now.items c.loop-native.list.items c.push.new.self.items c.native_blueprint.result c.args.natives.now c.loop-native.native-index _ c.requires c.loop-native-test.true c.in_ok-push.ensures.items c.native_blueprint.ensures.built c.native_blueprint.ensures.buildable c.loop-native.invariant
