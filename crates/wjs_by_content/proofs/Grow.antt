-- Names that grow keep the names of what is known.
use Rattle.std.proofs.Common.{◌≡◌, true, List, [], ◌∷◌, refl, ap, map as each, Option, None, Some}
use Rattle.std.specs.Option.{option_map}
use Rattle.std.specs.FinMap as map
use Rattle.std.specs.FinMap.{FinMap}
use Rattle.wjs_store.specs.Naming.{Naming}
use Rattle.wjs_store.specs.State.{World, State}
use Rattle.wjs_by_content.proofs.RenamedKnown.{entries_hold}
use Rattle.wjs_by_content.specs.Rename.{renamed}
use Rattle.wjs_by_content.specs.Renamed.{Grows, Holds, Known, Knows, KnowsContent, Names, named_state, named_world}

each_same : {A B : Type 0} (f g : A → B) (xs : List A) → Holds (λ x. f x ≡ g x) xs → each f xs ≡ each g xs
each_same f g [] h = refl
each_same f g (x ∷ xs) h = λ i. h.0 i ∷ each_same f g xs h.1 i

module _ {K V J W : Type 0} {n : Naming K V} {m : Naming J W} (r t : Names n m) (g : Grows r t) where
  map_grows : {X Y : Type 0} (f h : X → Y) (a : FinMap n.cmp X) → ((s : K) (v : X) → map.get a s ≡ Some v → (r.knows s ≡ true) × (f v ≡ h v)) → renamed {S = m.cmp} t.slot f a ≡ renamed {S = m.cmp} r.slot h a
  map_grows {X} {Y} f h a k = ap (map.from_entries {R = m.cmp}) (each_same (λ e. (t.slot e.0, f e.1)) (λ e. (r.slot e.0, h e.1)) (map.entries a)
      (entries_hold n.total n.exact (λ s v. ◌≡◌ {A = J × Y} (t.slot s, f v) (r.slot s, h v)) a (λ s v q. let e = k s v q in λ i. ((g.slot s e.0).1 i, e.1 i))))

  pub content_grows : (c : Option V) → KnowsContent r c → (KnowsContent t c) × (option_map t.value c ≡ option_map r.value c)
  content_grows None k = (tt, refl)
  content_grows (Some v) k = let e = g.value v k in (e.0, ap (λ z. Some z) e.1)

  knows_grows : (x : World n) → Knows r x → Knows t x
  knows_grows x k = record {
    copy = λ s v q. let e = k.copy s v q in ((g.slot s e.0).0, (g.value v e.1).0);
    first = λ s c q. let e = k.first s c q in ((g.slot s e.0).0, (content_grows c e.1).0);
    written = λ s u q. (g.slot s (k.written s u q)).0;
  }

  world_grows : (x : World n) → Knows r x → named_world t x ≡ named_world r x
  world_grows x k =
      let copies = map_grows t.value r.value x.copy (λ s v q. let e = k.copy s v q in (e.0, (g.value v e.1).1)) in
      let firsts = map_grows (option_map t.value) (option_map r.value) x.first (λ s c q. let e = k.first s c q in (e.0, (content_grows c e.1).1)) in
      let writtens = map_grows (λ (u : Unit {0}). u) (λ (u : Unit {0}). u) x.written (λ s u q. (k.written s u q, refl)) in
      λ i. record { id = x.id; parent = x.parent; strict = x.strict; copy = copies i; first = firsts i; written = writtens i; closed = x.closed }

  pub known_grows : (F : State n) → Known r F → Known t F
  known_grows [] k = tt
  known_grows (x ∷ F) k = (knows_grows x k.0, known_grows F k.1)

  -- a known state keeps its names
  pub named_grows : (F : State n) → Known r F → named_state t F ≡ named_state r F
  named_grows [] k = refl
  named_grows (x ∷ F) k = λ i. world_grows x k.0 i ∷ named_grows F k.1 i
