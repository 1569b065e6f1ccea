use Rattle.wjs_by_content.proofs.Growth.{text_grows, name_grows, slot_grows, value_grows, worlds_grow}
use Rattle.wjs_by_content.proofs.laws.contents_stay.Goals as goal

pub returns : goal.returns
returns c = λ old new g. record {
  texts = text_grows old new g;
  names = name_grows old new g;
  slots = slot_grows old new g;
  values = value_grows old new g;
  worlds = worlds_grow old new g;
}
