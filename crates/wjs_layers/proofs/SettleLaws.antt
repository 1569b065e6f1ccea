-- The parts of a commit, one after another.
use Rattle.std.proofs.Common.{◌≡◌, ℕ, ◌+◌, ◌<◌, Bool, true, false, cond, ◌||◌, T, List, [], ◌∷◌, length, drop, get_or, Option, None, Some, is_some, unwrap_or, slice_get, map as each, filter, fold, refl, ap, sym, ◌∙◌, subst, suc, zero}
use Rattle.std.specs.Ordering.{is_lt, eq_by_cmp, is_eq}
use Rattle.std.specs.Cmp.{tied_itself}
use Rattle.std.specs.List.{list_any}
use Rattle.std.specs.Option.{option_map, option_and_then}
use Rattle.std.specs.FinMap as map
use Rattle.std.specs.FinMap.{FinMap}
use Rattle.std.specs.FinMap.Entries.{below_all, is_sorted}
use Rattle.std.proofs.lemmas.Bool.{true≢false, false≢true, or_right}
use Rattle.std.proofs.lemmas.List.{drop_more}
use Rattle.std.proofs.lemmas.Option.{same_Some}
use Rattle.wjs_base.specs.declared.ids.ObjId.{ObjId}
use Rattle.wjs_base.specs.declared.ids.WorldId.{WorldId}
use Rattle.wjs_base.specs.declared.values.Slot.{Slot}
use Rattle.wjs_base.specs.declared.values.Value.{Value}
use Rattle.wjs_base.specs.Order.{slot_cmp, slot_total, slot_exact}
use Rattle.wjs_base.proofs.Booleans.{by_bool, left_true, right_true}
use Rattle.wjs_base.proofs.Options.{by_option, no_none}
use Rattle.wjs_base.proofs.Orders.{not_self}
use Rattle.wjs_store.specs.Naming.{plain}
use Rattle.wjs_store.specs.State.{World, State, find_world, same_world, is_touched, after_write, write_at, write_all, moves, reads_of, hand_entries, hand_objects, clear_marks, at_world, settle, fails, fault_in, after_commit}
use Rattle.wjs_store.proofs.Ascending.{same_listed}
use Rattle.wjs_store.proofs.Marks.{key_is}
use Rattle.wjs_store.proofs.Writes.{found_id, write_id}
use Rattle.wjs_store.proofs.Commits.{agree_read, no_fault, reached1, reached_settle, fx3}
use Rattle.wjs_store.proofs.Parents.{pair_found, commit_moves}
use Rattle.wjs_layers.specs.declared.maps.Row.{Row}
use Rattle.wjs_layers.specs.declared.layer.Spot.{Spot}
use Rattle.wjs_layers.specs.declared.layer.Layer.{Layer}
use Rattle.wjs_layers.specs.Moves.{handed_by, handed, handed_rows, ReadsAgree, written_rows, closed_all}
use Rattle.wjs_layers.specs.Sparse.{now_of, read_of, mark_of, full_of, place_of, Keeps, AreKept, IsSparse, IsAt, StandFor}
use Rattle.wjs_layers.proofs.Places.{place_each}
use Rattle.wjs_layers.proofs.Puts.{stand_by}
use Rattle.wjs_layers.proofs.Entries.{below_at}
use Rattle.wjs_layers.proofs.ListLaws.{at_id}

-- ---- entries

-- an entry is what its map has there
find_entry : (es : List (Slot × Row)) (i : ℕ) (e : Slot × Row) → T (is_sorted slot_cmp es) → slice_get es i ≡ Some e → map.find slot_cmp e.0 es ≡ Some e.1
find_entry [] i e h s = no_none e s
find_entry (d ∷ ds) zero e h s =
    let is = same_Some d e s in
    ap (λ (z : Slot × Row). map.find slot_cmp z.0 (d ∷ ds)) (sym is) ∙ ap (λ o. cond (is_eq o) (Some d.1) (map.find slot_cmp d.0 ds)) (tied_itself slot_total d.0) ∙ ap (λ (z : Slot × Row). Some z.1) is
find_entry (d ∷ ds) (suc i) e h s =
    let lt = below_at slot_total d.0 ds i e (left_true (below_all slot_cmp d.0 ds) (is_sorted slot_cmp ds) h) s in
    let apart : eq_by_cmp slot_cmp e.0 d.0 ≡ false = by_bool (eq_by_cmp slot_cmp e.0 d.0) (λ b. absurd (true≢false (sym lt ∙ ap (λ k. is_lt (slot_cmp d.0 k)) (key_is slot_exact e.0 d.0 b) ∙ not_self slot_total d.0))) (λ b. b) in
    ap (λ b. cond b (Some d.1) (map.find slot_cmp e.0 ds)) apart ∙ find_entry ds i e (right_true (below_all slot_cmp d.0 ds) (is_sorted slot_cmp ds) h) s

pub entry_is : (rows : FinMap slot_cmp Row) (i : ℕ) (e : Slot × Row) → slice_get (map.entries rows) i ≡ Some e → map.get rows e.0 ≡ Some e.1
entry_is rows i e s = map.get-entries rows e.0 ∙ find_entry (map.entries rows) i e (map.entries_sorted rows) s

pub filter_id : (p : Slot → Bool) (ks : List Slot) → ((k : Slot) → list_any (eq_by_cmp slot_cmp k) ks ≡ true → p k ≡ true) → filter p ks ≡ ks
filter_id p [] f = refl
filter_id p (k ∷ ks) f =
    ap (λ b. cond b (k ∷ filter p ks) (filter p ks)) (f k (ap (λ o. is_eq o || list_any (eq_by_cmp slot_cmp k) ks) (tied_itself slot_total k)))
    ∙ ap (λ xs. k ∷ xs) (filter_id p ks (λ q e. f q (or_right (eq_by_cmp slot_cmp q k) (list_any (eq_by_cmp slot_cmp q) ks) e)))

-- the keys of a map of marks are those rows that have the mark
pub mark_keys : {V : Type 0} (m : FinMap slot_cmp V) (rows : FinMap slot_cmp Row) → ((t : Slot) → is_some (map.get m t) ≡ true → is_some (map.get rows t) ≡ true) → map.keys m ≡ filter (λ s. is_some (map.get m s)) (map.keys rows)
mark_keys m rows f =
    let p : Slot → Bool = λ s. is_some (map.get m s) in
    sym (filter_id p (map.keys m) (λ k e. map.contains_key-keys m k ∙ e))
    ∙ same_listed slot_total slot_exact p m rows (λ t y. y ∙ sym (f t y))

-- ---- the reads

abbrev one_read : World plain → Slot × Option Value → World plain
one_read z e = cond (is_touched z e.0) z (record z { first = map.insert z.first e.0 e.1 })

reads_on : (x : World plain) (es : List (Slot × Row)) (y : World plain) → ((i : ℕ) (e : Slot × Row) → slice_get es i ≡ Some e → map.get x.first e.0 ≡ read_of e.1) → fold handed y es ≡ fold one_read y (each (λ s. (s, unwrap_or (map.get x.first s) None)) (filter (λ s. is_some (map.get x.first s)) (each (λ (e : Slot × Row). e.0) es)))
reads_on x [] y f = refl
reads_on x (e ∷ es) y f =
    let pair : Slot → Slot × Option Value = λ s. (s, unwrap_or (map.get x.first s) None) in
    let p : Slot → Bool = λ s. is_some (map.get x.first s) in
    let ks = filter p (each (λ (e : Slot × Row). e.0) es) in
    let rest : (z : World plain) → fold handed z es ≡ fold one_read z (each pair ks) = λ z. reads_on x es z (λ i d s. f (suc i) d s) in
    let here : map.get x.first e.0 ≡ read_of e.1 = f zero e refl in
    by_option (map.get x.first e.0)
    (λ n.
    ap (λ o. fold handed (handed_by o y e.0) es) (sym here ∙ n)
    ∙ rest y
    ∙ sym (ap (λ b. fold one_read y (each pair (cond b (e.0 ∷ ks) ks))) (ap is_some n)))
    (λ v n.
    ap (λ o. fold handed (handed_by o y e.0) es) (sym here ∙ n)
    ∙ rest (one_read y (e.0, v))
    ∙ ap (λ d. fold one_read (one_read y (e.0, d)) (each pair ks)) (sym (ap (λ o. unwrap_or o None) n))
    ∙ sym (ap (λ b. fold one_read y (each pair (cond b (e.0 ∷ ks) ks))) (ap is_some n)))

module _ (r : Layer) (x : World plain) (k : Keeps r x) where
  pub row_there : {V : Type 0} (f : Row → Option V) (t : Slot) → is_some (option_and_then f (map.get r.rows t)) ≡ true → is_some (map.get r.rows t) ≡ true
  row_there f t h = by_option (map.get r.rows t) (λ e. absurd (false≢true (sym (ap (λ o. is_some (option_and_then f o)) e) ∙ h))) (λ a e. ap is_some e)

  -- the rows' reads are the world's
  reads_are : (y : World plain) → handed_rows (map.entries r.rows) y ≡ hand_entries (reads_of x) y
  reads_are y = ap (λ z. cond (is_some y.parent) z y) (
      reads_on x (map.entries r.rows) y (λ i e s. k.first e.0 ∙ ap (option_and_then read_of) (entry_is r.rows i e s))
      ∙ ap (λ ks. fold one_read y (each (λ s. (s, unwrap_or (map.get x.first s) None)) ks)) (sym (mark_keys x.first r.rows (λ t h. row_there read_of t (sym (ap is_some (k.first t)) ∙ h)))))

  -- ---- the writes

  writes_on : (w : WorldId) (es : List (Slot × Row)) (F : State plain) → ((i : ℕ) (e : Slot × Row) → slice_get es i ≡ Some e → map.get r.rows e.0 ≡ Some e.1) → written_rows w es F ≡ write_all w (each (λ s. (s, map.get x.copy s)) (filter (λ s. is_some (map.get x.written s)) (each (λ (e : Slot × Row). e.0) es))) F
  writes_on w [] F f = refl
  writes_on w (e ∷ es) F f =
      let pair : Slot → Slot × Option Value = λ s. (s, map.get x.copy s) in
      let p : Slot → Bool = λ s. is_some (map.get x.written s) in
      let ks = filter p (each (λ (e : Slot × Row). e.0) es) in
      let rest : (G : State plain) → written_rows w es G ≡ write_all w (each pair ks) G = λ G. writes_on w es G (λ i d s. f (suc i) d s) in
      let row = f zero e refl in
      let mark : map.get x.written e.0 ≡ mark_of e.1 = k.written e.0 ∙ ap (option_and_then mark_of) row in
      by_bool e.1.written
      (λ b.
      ap (λ c. written_rows w es (cond c (after_write F w e.0 (now_of e.1)) F)) b
      ∙ rest (after_write F w e.0 (now_of e.1))
      ∙ ap (λ d. write_all w (each pair ks) (after_write F w e.0 d)) (sym (k.now e.0 e.1 row))
      ∙ sym (ap (λ c. write_all w (each pair (cond c (e.0 ∷ ks) ks)) F) (ap is_some mark ∙ ap (λ c. is_some (mark_by c)) b)))
      (λ b.
      ap (λ c. written_rows w es (cond c (after_write F w e.0 (now_of e.1)) F)) b
      ∙ rest F
      ∙ sym (ap (λ c. write_all w (each pair (cond c (e.0 ∷ ks) ks)) F) (ap is_some mark ∙ ap (λ c. is_some (mark_by c)) b)))
    where
      mark_by : Bool → Option (Unit {0})
      mark_by c = cond c (Some tt) None

  writes_are : (w : WorldId) (F : State plain) → written_rows w (map.entries r.rows) F ≡ write_all w (moves x) F
  writes_are w F =
      writes_on w (map.entries r.rows) F (λ i e s. entry_is r.rows i e s)
      ∙ ap (λ ks. write_all w (each (λ s. (s, map.get x.copy s)) ks) F) (sym (mark_keys x.written r.rows (λ t h. row_there mark_of t (sym (ap is_some (k.written t)) ∙ h))))

-- ---- the listed objects

closes_on : (os : List ObjId) (y : World plain) (b : Bool) → is_some y.parent ≡ b → closed_all os y ≡ cond b (fold (λ z o. record z { closed = map.insert z.closed o tt }) y os) y
closes_on [] y true e = refl
closes_on [] y false e = refl
closes_on (o ∷ os) y true e = ap (closed_all os) (ap (λ b. cond b (record y { closed = map.insert y.closed o tt }) y) e) ∙ closes_on os (record y { closed = map.insert y.closed o tt }) true e
closes_on (o ∷ os) y false e = ap (closed_all os) (ap (λ b. cond b (record y { closed = map.insert y.closed o tt }) y) e) ∙ closes_on os y false e

closes_are : (os : List ObjId) (y : World plain) → closed_all os y ≡ hand_objects os y
closes_are os y = closes_on os y (is_some y.parent) refl

-- ---- places

pub written_more : (w : WorldId) (rows : List (Slot × Row)) (i : ℕ) (e : Slot × Row) (F G Z : State plain) → i < length rows → e ≡ get_or rows i e → G ≡ cond e.1.written (after_write F w e.0 (now_of e.1)) F → written_rows w (drop i rows) F ≡ Z → written_rows w (drop (i + 1) rows) G ≡ Z
written_more w rows i e F G Z l is h k = ap (written_rows w (drop (i + 1) rows)) h ∙ ap (λ ss. written_rows w ss F) (ap (λ d. d ∷ drop (i + 1) rows) is ∙ sym (drop_more rows i e l)) ∙ k

pub write_places : (F : State plain) (w : WorldId) (s : Slot) (c : Option Value) (v : WorldId) → place_of (after_write F w s c) v ≡ place_of F v
unfolding after_write
write_places F w s c v = place_each (write_at F w s c) (write_id F w s c) F v

-- ---- a commit that passes

module _ (layers : List Layer) (h : IsSparse layers) (at : Spot) (here : IsAt layers at) (r : Layer) (s : slice_get layers at.place ≡ Some r) (a : Spot) (up : r.above ≡ Some a) (x y : World plain) (fx : find_world (full_of layers) at.world ≡ Some x) (fy : find_world (full_of layers) a.world ≡ Some y) (ok : fault_in x y ≡ None) where
  kx : Keeps r x
  kx = h.kept.at at.world at.place x r here fx s

  xid : x.id ≡ at.world
  xid = found_id (full_of layers) at.world x fx

  yid : y.id ≡ a.world
  yid = found_id (full_of layers) a.world y fy

  fx' : find_world (full_of layers) x.id ≡ Some x
  fx' = ap (find_world (full_of layers)) xid ∙ fx

  fy' : find_world (full_of layers) y.id ≡ Some y
  fy' = ap (find_world (full_of layers)) yid ∙ fy

  ux : x.parent ≡ Some y.id
  ux = kx.parent ∙ ap (option_map (λ (b : Spot). b.world)) up ∙ ap (λ i. Some i) (sym yid)

  clean : (t : Slot) → fails x y t ≡ false
  clean = no_fault x y ok

  pub reads_agree : ReadsAgree (map.entries r.rows) y
  reads_agree i e c g f = agree_read x y e.0 c (clean e.0) (kx.first e.0 ∙ ap (option_and_then read_of) (entry_is r.rows i e g) ∙ f)

  -- after the reads
  pub handed_stand : (l1 : List Layer) → AreKept l1 (at_world a.world (handed_rows (map.entries r.rows)) (full_of layers)) → StandFor l1 (at_world y.id (hand_entries (reads_of x)) (full_of layers))
  handed_stand l1 k = stand_by l1 (at_world y.id (hand_entries (reads_of x)) (full_of layers)) (reached1 (full_of layers) x y h.reached fx' ux fy' clean)
      (subst (λ (f : World plain → World plain). AreKept l1 (at_world y.id f (full_of layers))) (λ i z. reads_are r x kx z i)
      (subst (λ j. AreKept l1 (at_world j (handed_rows (map.entries r.rows)) (full_of layers))) (sym yid) k))

  pub handed_state : at_world a.world (handed_rows (map.entries r.rows)) (full_of layers) ≡ at_world y.id (hand_entries (reads_of x)) (full_of layers)
  handed_state = ap (λ (f : World plain → World plain). at_world a.world f (full_of layers)) (λ i z. reads_are r x kx z i) ∙ ap (λ j. at_world j (hand_entries (reads_of x)) (full_of layers)) (sym yid)

  module _ (l2 : List Layer) (e2 : full_of l2 ≡ written_rows a.world (map.entries r.rows) (at_world y.id (hand_entries (reads_of x)) (full_of layers))) where
    third : at_world a.world (closed_all (map.keys r.closed)) (full_of l2) ≡ at_world y.id (hand_objects (map.keys x.closed)) (write_all y.id (moves x) (at_world y.id (hand_entries (reads_of x)) (full_of layers)))
    third =
        let F1 = at_world y.id (hand_entries (reads_of x)) (full_of layers) in
        ap (at_world a.world (closed_all (map.keys r.closed))) (e2 ∙ writes_are r x kx a.world F1)
        ∙ ap (λ (f : World plain → World plain). at_world a.world f (write_all a.world (moves x) F1)) (λ i z. closes_are (map.keys r.closed) z i)
        ∙ ap (λ (os : List ObjId). at_world a.world (hand_objects os) (write_all a.world (moves x) F1)) (ap (λ c. map.keys c) (sym kx.closed))
        ∙ ap (λ j. at_world j (hand_objects (map.keys x.closed)) (write_all j (moves x) F1)) (sym yid)

    -- the child is as it was
    pub parent_still : (z : World plain) → find_world (at_world a.world (closed_all (map.keys r.closed)) (full_of l2)) at.world ≡ Some z → is_some z.parent ≡ true
    parent_still z f =
        let e : x ≡ z = same_Some x z (sym (fx3 (full_of layers) x y h.reached fx' ux fy' clean) ∙ ap (λ G. find_world G x.id) (sym third) ∙ ap (find_world (at_world a.world (closed_all (map.keys r.closed)) (full_of l2))) xid ∙ f) in
        ap (λ (v : World plain). is_some v.parent) (sym e) ∙ ap is_some ux

    -- after all
    pub settled_stand : (l4 : List Layer) → AreKept l4 (at_world at.world clear_marks (at_world a.world (closed_all (map.keys r.closed)) (full_of l2))) → StandFor l4 (after_commit (full_of layers) at.world)
    settled_stand l4 k =
        let k5 = subst (λ j. AreKept l4 (at_world j clear_marks (at_world y.id (hand_objects (map.keys x.closed)) (write_all y.id (moves x) (at_world y.id (hand_entries (reads_of x)) (full_of layers)))))) (sym xid) (subst (λ G. AreKept l4 (at_world at.world clear_marks G)) third k) in
        let st = stand_by l4 (settle x y.id (full_of layers)) (reached_settle (full_of layers) x y h.reached fx' ux fy' clean) k5 in
        subst (StandFor l4) (commit_moves (full_of layers) at.world x y (pair_found (full_of layers) at.world x fx y.id y ux fy') (sym ok)).1 st

-- ---- places stay

pub at_places : (w : WorldId) (f : World plain → World plain) → ((x : World plain) → (f x).id ≡ x.id) → (F : State plain) (v : WorldId) → place_of (at_world w f F) v ≡ place_of F v
at_places w f ids F v = place_each (λ x. cond (same_world x.id w) (f x) x) (at_id w f ids) F v

pub row_places : (b : Bool) (w : WorldId) (s : Slot) (c : Option Value) (F : State plain) (v : WorldId) → place_of (cond b (after_write F w s c) F) v ≡ place_of F v
row_places true w s c F v = write_places F w s c v
row_places false w s c F v = refl

pub written_places : (w : WorldId) (es : List (Slot × Row)) (F : State plain) (v : WorldId) → place_of (written_rows w es F) v ≡ place_of F v
written_places w [] F v = refl
written_places w (e ∷ es) F v = written_places w es (cond e.1.written (after_write F w e.0 (now_of e.1)) F) v ∙ row_places e.1.written w e.0 (now_of e.1) F v
