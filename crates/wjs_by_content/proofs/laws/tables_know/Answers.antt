use Rattle.wjs_by_content.proofs.Known.{text_known, text_known_is_there, name_known, name_known_is_name}
use Rattle.wjs_by_content.proofs.laws.tables_know.Goals as goal

pub returns : goal.returns
returns c = λ texts table. record {
  ids = λ id. (text_known_is_there texts id, text_known texts table id);
  names = λ n. (name_known_is_name texts n, name_known texts table n);
}
