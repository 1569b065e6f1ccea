use Rattle.wjs_base.proofs.TextLaws.{Grows-trans}
use Rattle.wjs_start.specs.declared.names.Word.{Word}
use Rattle.wjs_start.proofs.Naming.{names_on, names_all}
use Rattle.wjs_start.proofs.names.name_numbers.Goals as goal

pub loop-word-preserved : goal.loop-word-preserved
loop-word-preserved c = record {
  grows = Grows-trans c.args.texts.now c.loop-word.texts c.name_number.new.texts c.loop-word.invariant.grows c.in_ok-name.ensures.grows;
  table = c.in_ok-name.ensures.table;
  are = λ t g. names_on (λ (w : Word). w.ascii.now) t c.args.words.now c.loop-word.word-index _ c.loop-word.names.items c.push.new.self.items c.in_ok-name.name c.loop-word-test.true c.in_ok-push.ensures.items (c.loop-word.invariant.are t (Grows-trans c.loop-word.texts c.name_number.new.texts t c.in_ok-name.ensures.grows g)) (c.in_ok-name.ensures.is t g);
}

pub returns-clause-are : goal.returns-clause-are
returns-clause-are c = λ t g. names_all (λ (w : Word). w.ascii.now) t c.args.words.now c.loop-word.word-index c.loop-word.names.items c.loop-word-test.false (c.loop-word.invariant.are t g)
