-- Names that are given for the known slots and values only, as the texts of a table. On states that have no others, the machine under these names does the same.
use Rattle.std.proofs.Common.{◌≡◌, ℕ, Bool, true, false, cond, List, [], ◌∷◌, refl, ap, sym, ◌∙◌, subst, map as each, Option, None, Some, is_some, Ordering, IsPermutation}
use Rattle.std.specs.Option.{option_map}
use Rattle.std.specs.Ordering.{eq_by_cmp, is_eq}
use Rattle.std.specs.Cmp.{IsTotalOrder, tied_itself}
use Rattle.std.specs.List.{list_any}
use Rattle.std.specs.FinMap as map
use Rattle.std.specs.FinMap.{FinMap, IsAntisymmetric}
use Rattle.std.proofs.lemmas.Bool.{true≢false}
use Rattle.std.proofs.lemmas.List.Sorted.{IsPermutation-map, IsPermutation-trans, IsPermutation-sym}
use Rattle.wjs_base.specs.declared.ids.WorldId.{WorldId}
use Rattle.wjs_base.specs.declared.ids.ObjId.{ObjId}
use Rattle.wjs_base.proofs.Booleans.{by_bool}
use Rattle.wjs_store.proofs.Marks.{key_is}
use Rattle.wjs_store.specs.Naming.{Naming}
use Rattle.wjs_store.specs.State.{World, State, Act, read, write, list, sprout, commit, after, answer_to, content_at, slots_at, next_id, verdict_at, fails}
use Rattle.wjs_by_content.proofs.Maps.{get_renamed, find_renamed, find_from, comes_renamed, same_renamed}
use Rattle.wjs_by_content.proofs.Keys.{Apart, firsts, sorted_apart, found_first}
use Rattle.wjs_by_content.proofs.Padded.{Padded, new, un, new_is, pad, pad_known, known_of_new, un_pad, padded, padding, among}
use Rattle.wjs_by_content.proofs.Steps.{content_alike}
use Rattle.wjs_by_content.proofs.Actions.{fails_alike, next_alike, slots_alike, verdict_alike}
use Rattle.wjs_by_content.proofs.Whole.{after_alike}
use Rattle.wjs_by_content.specs.Rename.{renamed, shape}
use Rattle.wjs_by_content.proofs.Renaming.{renamed_act, renamed_state, renamed_world}
use Rattle.wjs_by_content.specs.Renamed.{Holds, Known, KnownAct, Knows, KnowsContent, NamedReply, Names, named_act, named_state, named_world}

-- ---- each element of a list, each entry of a map

each_agree : {A B C : Type 0} (f : B → C) (g : A → B) (h : A → C) (xs : List A) → Holds (λ x. f (g x) ≡ h x) xs → each f (each g xs) ≡ each h xs
each_agree f g h [] e = refl
each_agree f g h (x ∷ xs) e = λ i. e.0 i ∷ each_agree f g h xs e.1 i

module _ {K X : Type 0} {R : K → K → Ordering} (total : IsTotalOrder R) (exact : IsAntisymmetric R) (P : K → X → Type 0) where
  later : (e : K × X) (es : List (K × X)) → list_any (eq_by_cmp R e.0) (firsts es) ≡ false → (k : K) (v : X) → map.find R k es ≡ Some v → map.find R k (e ∷ es) ≡ Some v
  later e es a k v q = by_bool (eq_by_cmp R k e.0)
      (λ t. absurd (true≢false (sym (ap (λ c. list_any (eq_by_cmp R c) (firsts es)) (sym (key_is exact k e.0 t)) ∙ sym (found_first R k es) ∙ ap is_some q) ∙ a)))
      (λ t. ap (λ b. cond b (Some e.1) (map.find R k es)) t ∙ q)

  holds_from : (es : List (K × X)) → Apart R es → ((k : K) (v : X) → map.find R k es ≡ Some v → P k v) → Holds (λ (e : K × X). P e.0 e.1) es
  holds_from [] a h = tt
  holds_from (e ∷ es) a h = (h e.0 e.1 (ap (λ o. cond (is_eq o) (Some e.1) (map.find R e.0 es)) (tied_itself total e.0)), holds_from es a.1 (λ k v q. h k v (later e es a.0 k v q)))

  pub entries_hold : (m : FinMap R X) → ((k : K) (v : X) → map.get m k ≡ Some v → P k v) → Holds (λ (e : K × X). P e.0 e.1) (map.entries m)
  entries_hold m h = holds_from (map.entries m) (sorted_apart R (map.entries m) (map.entries_sorted m)) (λ k v q. h k v (map.get-entries m k ∙ q))

-- ---- maps that are renamed twice, and maps with one renaming

pub map_tells : {X Y : Type 0} (h : X → Y) → ((a b : X) → h a ≡ h b → a ≡ b) → (o p : Option X) → option_map h o ≡ option_map h p → o ≡ p
map_tells h tell None None e = refl
map_tells h tell None (Some b) e = cc
map_tells h tell (Some a) None e = cc
map_tells h tell (Some a) (Some b) e = let q : h a ≡ h b = cc in ap (λ x. Some x) (tell a b q)

some_of : {X Y : Type 0} (h : X → Y) (o : Option X) (z : Y) → option_map h o ≡ Some z → (w : X) × (z ≡ h w)
some_of h None z e = cc
some_of h (Some w) z e = let q : h w ≡ z = cc in (w, sym q)

module _ {J L : Type 0} {S : J → J → Ordering} {Q : L → L → Ordering} (st : IsTotalOrder S) (se : IsAntisymmetric S) (qt : IsTotalOrder Q) (qe : IsAntisymmetric Q) (e : J → L) (tell : (a b : J) → e a ≡ e b → a ≡ b) where
  made_renamed : {Y Z : Type 0} (h : Y → Z) (es : List (J × Y)) → renamed {S = Q} e h (map.from_entries {R = S} es) ≡ map.from_entries {R = Q} (each (λ x. (e x.0, h x.1)) es)
  made_renamed h es = same_renamed st se qt qe e tell _ _ (comes_renamed st se qt qe e tell h (map.from_entries {R = S} es))
      (λ q i. find_from st se qt qe e tell h es q (ap is_some (sym (map.get-from_entries qt (each (λ x. (e x.0, h x.1)) es) q)) ∙ i))
      (λ k. get_renamed st se qt qe e tell h (map.from_entries {R = S} es) k ∙ ap (option_map h) (map.get-from_entries st es k)
      ∙ sym (map.get-from_entries qt (each (λ x. (e x.0, h x.1)) es) (e k) ∙ find_renamed st se qt qe e tell h es k))

  renamed_tells : {Y Z : Type 0} (h : Y → Z) → ((a b : Y) → h a ≡ h b → a ≡ b) → (a b : FinMap S Y) → renamed {S = Q} e h a ≡ renamed e h b → a ≡ b
  renamed_tells h htell a b i = map.same_map st se a b (λ q. map_tells h htell (map.get a q) (map.get b q) (sym (get_renamed st se qt qe e tell h a q) ∙ ap (λ m. map.get m (e q)) i ∙ get_renamed st se qt qe e tell h b q))

-- ---- back from padded names

un_new : {J K : Type 0} (f : K → J) (d : Option J) → option_map (un f) (option_map (λ w. new w) d) ≡ d
un_new f None = refl
un_new f (Some w) = refl

un_old : {J K : Type 0} (known : K → Bool) (f : K → J) (c : Option K) → option_map (un f) (option_map (pad known f) c) ≡ option_map f c
un_old known f None = refl
un_old known f (Some v) = ap (λ z. Some z) (un_pad known f v)

un_both : {J K : Type 0} (known : K → Bool) (f : K → J) (c : Option K) (d : Option J) → option_map (pad known f) c ≡ option_map (λ w. new w) d → d ≡ option_map f c
un_both known f c d e = sym (un_new f d) ∙ ap (option_map (un f)) (sym e) ∙ un_old known f c

unpads : {J K : Type 0} (known : K → Bool) (f : K → J) (ks : List K) → each (un f) (each (pad known f) ks) ≡ each f ks
unpads known f [] = refl
unpads known f (k ∷ ks) = λ i. un_pad known f k i ∷ unpads known f ks i

unnews : {J K : Type 0} (f : K → J) (js : List J) → each (un f) (each (λ j. new j) js) ≡ js
unnews f [] = refl
unnews f (j ∷ js) = ap (λ us. j ∷ us) (unnews f js)

-- ---- known worlds

module _ {K V J W : Type 0} {n : Naming K V} {m : Naming J W} (r : Names n m) where
  -- ---- a known state, named and then padded

  shows_map : {X Y Z : Type 0} (g : X → Y) (h : Y → Z) (p : X → Z) (a : FinMap n.cmp X) → ((s : K) (v : X) → map.get a s ≡ Some v → (r.knows s ≡ true) × (p v ≡ h (g v))) → renamed {S = (padded n m).cmp} (λ j. new j) h (renamed {S = m.cmp} r.slot g a) ≡ renamed {S = (padded n m).cmp} (pad r.knows r.slot) p a
  shows_map {X} {Y} {Z} g h p a k = made_renamed m.total m.exact (padded n m).total (padded n m).exact (λ j. new j) (new_is r.slot) h (each (λ e. (r.slot e.0, g e.1)) (map.entries a))
      ∙ ap (map.from_entries {R = (padded n m).cmp}) (each_agree (λ x. (new x.0, h x.1)) (λ e. (r.slot e.0, g e.1)) (λ e. (pad r.knows r.slot e.0, p e.1)) (map.entries a)
      (entries_hold n.total n.exact (λ s v. ◌≡◌ {A = Padded J K × Z} (new (r.slot s), h (g v)) (pad r.knows r.slot s, p v)) a
      (λ s v q. let f = k s v q in λ i. (sym (pad_known r.knows r.slot s f.0) i, sym f.1 i))))

  content_shows : (c : Option V) → KnowsContent r c → option_map (pad r.knows_value r.value) c ≡ option_map (λ w. new w) (option_map r.value c)
  content_shows None k = refl
  content_shows (Some v) k = ap (λ z. Some z) (pad_known r.knows_value r.value v k)

  shows_world : (x : World n) → Knows r x → renamed_world (among r) (named_world r x) ≡ renamed_world (padding r) x
  shows_world x k =
      let copies = shows_map r.value (λ w. new w) (pad r.knows_value r.value) x.copy (λ s v q. let f = k.copy s v q in (f.0, pad_known r.knows_value r.value v f.1)) in
      let firsts = shows_map (option_map r.value) (option_map (λ w. new w)) (option_map (pad r.knows_value r.value)) x.first (λ s c q. let f = k.first s c q in (f.0, content_shows c f.1)) in
      let writtens = shows_map (λ (u : Unit {0}). u) (λ (u : Unit {0}). u) (λ (u : Unit {0}). u) x.written (λ s u q. (k.written s u q, refl)) in
      λ i. record { id = x.id; parent = x.parent; strict = x.strict; copy = copies i; first = firsts i; written = writtens i; closed = x.closed }

  pub shows : (F : State n) → Known r F → renamed_state (among r) (named_state r F) ≡ renamed_state (padding r) F
  shows [] k = refl
  shows (x ∷ F) k = λ i. shows_world x k.0 i ∷ shows F k.1 i

  -- ---- a state is known by its padded names

  world_tells : (x y : World m) → renamed_world (among r) x ≡ renamed_world (among r) y → x ≡ y
  world_tells x y e =
      let copies = renamed_tells m.total m.exact (padded n m).total (padded n m).exact (λ j. new j) (new_is r.slot) (λ w. new w) (new_is r.value) x.copy y.copy (ap (λ (z : World (padded n m)). z.copy) e) in
      let firsts = renamed_tells m.total m.exact (padded n m).total (padded n m).exact (λ j. new j) (new_is r.slot) (option_map (λ w. new w)) (map_tells (λ w. new w) (new_is r.value)) x.first y.first (ap (λ (z : World (padded n m)). z.first) e) in
      let writtens = renamed_tells m.total m.exact (padded n m).total (padded n m).exact (λ j. new j) (new_is r.slot) (λ (u : Unit {0}). u) (λ a b q. q) x.written y.written (ap (λ (z : World (padded n m)). z.written) e) in
      λ i. record { id = (e i).id; parent = (e i).parent; strict = (e i).strict; copy = copies i; first = firsts i; written = writtens i; closed = (e i).closed }

  state_tells : (F G : State m) → renamed_state (among r) F ≡ renamed_state (among r) G → F ≡ G
  state_tells [] [] e = refl
  state_tells [] (y ∷ G) e = cc
  state_tells (x ∷ F) [] e = cc
  state_tells (x ∷ F) (y ∷ G) e =
      let h : renamed_world (among r) x ≡ renamed_world (among r) y = cc in
      let t : renamed_state (among r) F ≡ renamed_state (among r) G = cc in
      λ i. world_tells x y h i ∷ state_tells F G t i

  -- ---- what has a name in each place is known

  from_map : {X Y Z : Type 0} (p : X → Z) (h : Y → Z) (a : FinMap n.cmp X) (b : FinMap m.cmp Y) → renamed {S = (padded n m).cmp} (pad r.knows r.slot) p a ≡ renamed {S = (padded n m).cmp} (λ j. new j) h b → (s : K) (v : X) → map.get a s ≡ Some v → (r.knows s ≡ true) × ((w : Y) × (p v ≡ h w))
  from_map p h a b e s v q =
      let k = pad r.knows r.slot s in
      let here = ap (λ m. map.get m k) (sym e) ∙ get_renamed n.total n.exact (padded n m).total (padded n m).exact (padding r).slot (padding r).slots_tell p a s ∙ ap (option_map p) q in
      let from = comes_renamed m.total m.exact (padded n m).total (padded n m).exact (λ j. new j) (new_is r.slot) h b k (ap is_some here) in (
        known_of_new r.knows r.slot s from.0 from.1,
        some_of h (map.get b from.0) (p v) (sym (get_renamed m.total m.exact (padded n m).total (padded n m).exact (λ j. new j) (new_is r.slot) h b from.0) ∙ ap (map.get (renamed {S = (padded n m).cmp} (λ j. new j) h b)) (sym from.1) ∙ here),
      )

  content_known : (c : Option V) (d : Option W) → option_map (pad r.knows_value r.value) c ≡ option_map (λ w. new w) d → KnowsContent r c
  content_known None d e = tt
  content_known (Some v) None e = cc
  content_known (Some v) (Some w) e = let q : pad r.knows_value r.value v ≡ new w = cc in known_of_new r.knows_value r.value v w q

  knows_from : (x : World n) (y : World m) → renamed_world (padding r) x ≡ renamed_world (among r) y → Knows r x
  knows_from x y e = record {
    copy = λ s v q.
        let f = from_map (pad r.knows_value r.value) (λ w. new w) x.copy y.copy (ap (λ (z : World (padded n m)). z.copy) e) s v q in
        (f.0, known_of_new r.knows_value r.value v f.1.0 f.1.1);
    first = λ s c q.
        let f = from_map (option_map (pad r.knows_value r.value)) (option_map (λ w. new w)) x.first y.first (ap (λ (z : World (padded n m)). z.first) e) s c q in
        (f.0, content_known c f.1.0 f.1.1);
    written = λ s u q. (from_map (λ (u : Unit {0}). u) (λ (u : Unit {0}). u) x.written y.written (ap (λ (z : World (padded n m)). z.written) e) s u q).0;
  }

  known_from : (F : State n) (G : State m) → renamed_state (padding r) F ≡ renamed_state (among r) G → Known r F
  known_from [] G e = tt
  known_from (x ∷ F) [] e = cc
  known_from (x ∷ F) (y ∷ G) e =
      let h : renamed_world (padding r) x ≡ renamed_world (among r) y = cc in
      let t : renamed_state (padding r) F ≡ renamed_state (among r) G = cc in
      (knows_from x y h, known_from F G t)

  -- ---- the law

  act_shows : (a : Act K V) → KnownAct r a → renamed_act (padding r) a ≡ renamed_act (among r) (named_act r a)
  act_shows (read w s) k = ap (λ z. read w z) (pad_known r.knows r.slot s k)
  act_shows (write w s c) k = λ i. write w (pad_known r.knows r.slot s k.0 i) (content_shows c k.1 i)
  act_shows (list w o) k = refl
  act_shows (sprout w owner strict) k = refl
  act_shows (commit w) k = refl

  shown : (F : State n) (a : Act K V) → Known r F → KnownAct r a → renamed_state (padding r) (after F a) ≡ renamed_state (among r) (after (named_state r F) (named_act r a))
  shown F a f k =
      after_alike (padding r) F a
      ∙ (λ i. after (sym (shows F f) i) (act_shows a k i))
      ∙ sym (after_alike (among r) (named_state r F) (named_act r a))

  -- what an action leaves is known
  pub known_after : (F : State n) (a : Act K V) → Known r F → KnownAct r a → Known r (after F a)
  known_after F a f k = known_from (after F a) (after (named_state r F) (named_act r a)) (shown F a f k)

  -- the named state does the named action
  pub named_after : (F : State n) (a : Act K V) → Known r F → KnownAct r a → named_state r (after F a) ≡ after (named_state r F) (named_act r a)
  named_after F a f k = state_tells _ _ (shows (after F a) (known_after F a f k) ∙ shown F a f k)

  -- ---- the answers

  pub named_content : (F : State n) (w : WorldId) (s : K) → Known r F → r.knows s ≡ true → content_at (named_state r F) w (r.slot s) ≡ option_map r.value (content_at F w s)
  named_content F w s f k = un_both r.knows_value r.value (content_at F w s) (content_at (named_state r F) w (r.slot s))
      (sym (content_alike (padding r) F w s) ∙ (λ i. content_at (sym (shows F f) i) w (pad_known r.knows r.slot s k i)) ∙ content_alike (among r) (named_state r F) w (r.slot s))

  pub named_slots : (F : State n) (w : WorldId) (o : ObjId) → Known r F → IsPermutation (each r.slot (slots_at F w o)) (slots_at (named_state r F) w o)
  named_slots F w o f =
      let ss = slots_at F w o in
      let ts = slots_at (named_state r F) w o in
      let there = slots_alike (padding r) F w o in
      let here = subst (λ G. IsPermutation (each (λ j. new j) ts) (slots_at G w o)) (shows F f) (slots_alike (among r) (named_state r F) w o) in
      let both = IsPermutation-trans _ _ _ there (IsPermutation-sym _ _ here) in
      let bare = IsPermutation-map (un r.slot) (each (pad r.knows r.slot) ss) (each (λ j. new j) ts) both in
      subst (λ us. IsPermutation us ts) (unpads r.knows r.slot ss) (subst (IsPermutation (each (un r.slot) (each (pad r.knows r.slot) ss))) (unnews r.slot ts) bare)

  named_next : (F : State n) → Known r F → (owner : ℕ) → next_id (named_state r F) owner ≡ next_id F owner
  named_next F f owner = sym (next_alike (among r) (named_state r F) owner) ∙ ap (λ G. next_id G owner) (shows F f) ∙ next_alike (padding r) F owner

  pub named_verdict : (F : State n) (w : WorldId) → Known r F → shape (verdict_at (named_state r F) w) ≡ shape (verdict_at F w)
  named_verdict F w f = sym (verdict_alike (among r) (named_state r F) w) ∙ ap (λ G. shape (verdict_at G w)) (shows F f) ∙ verdict_alike (padding r) F w

  pub named_answer : (F : State n) (a : Act K V) → Known r F → KnownAct r a → NamedReply r (answer_to F a) (answer_to (named_state r F) (named_act r a))
  named_answer F (read w s) f k = named_content F w s f k
  named_answer F (write w s c) f k = tt
  named_answer F (list w o) f k = named_slots F w o f
  named_answer F (sprout w owner strict) f k = named_next F f owner
  named_answer F (commit w) f k = named_verdict F w f

  -- the check of a commit fails at the same slots
  pub named_fails : (x p : World n) (s : K) → Knows r x → Knows r p → r.knows s ≡ true → fails (named_world r x) (named_world r p) (r.slot s) ≡ fails x p s
  named_fails x p s kx kp k = sym (fails_alike (among r) (named_world r x) (named_world r p) (r.slot s)) ∙ (λ i. fails (shows_world x kx i) (shows_world p kp i) (sym (pad_known r.knows r.slot s k) i)) ∙ fails_alike (padding r) x p s
