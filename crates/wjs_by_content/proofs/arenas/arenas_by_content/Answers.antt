use Rattle.wjs_by_content.proofs.ArenaMaps.{object_found, prototype_same, scope_same, depth_same, chain_same, number_same, created_same}
use Rattle.wjs_by_content.proofs.arenas.arenas_by_content.Goals as goal

pub returns : goal.returns
returns c = λ texts objects. record {
  found = object_found texts objects;
  prototypes = prototype_same texts objects;
  scopes = scope_same texts objects;
  depths = depth_same texts objects;
  chains = chain_same texts objects;
  numbers = number_same texts objects;
  creations = created_same texts objects;
}
