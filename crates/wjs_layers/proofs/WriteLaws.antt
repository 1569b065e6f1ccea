-- A write of a slot.
use Rattle.std.proofs.Common.{◌≡◌, Bool, true, false, cond, not, ◌&&◌, ◌||◌, List, [], ◌∷◌, refl, ap, sym, ◌∙◌, subst, Option, None, Some, is_some, slice_get, set, map as each}
use Rattle.std.specs.Option.{option_map, option_map_or, option_and_then}
use Rattle.std.specs.Ordering.{eq_by_cmp, is_eq}
use Rattle.std.specs.Cmp.{tied_itself}
use Rattle.std.specs.FinMap as map
use Rattle.std.specs.FinMap.{FinMap}
use Rattle.std.proofs.lemmas.Bool.{true≢false, false≢true, and_parts, not-true, or_parts}
use Rattle.std.proofs.lemmas.Option.{same_Some}
use Rattle.wjs_base.specs.declared.ids.WorldId.{WorldId}
use Rattle.wjs_base.specs.declared.values.Slot.{Slot}
use Rattle.wjs_base.specs.declared.values.Value.{Value}
use Rattle.wjs_base.specs.declared.values.Content.{Content}
use Rattle.wjs_base.specs.declared.values.Content.TheVariants.{Absent, Present}
use Rattle.wjs_base.specs.Order.{slot_cmp, slot_total, slot_exact}
use Rattle.wjs_base.proofs.Booleans.{by_bool}
use Rattle.wjs_base.proofs.Options.{by_option, some_tested, no_none, with_some}
use Rattle.wjs_store.specs.Naming.{plain}
use Rattle.wjs_store.specs.Shown.{content_of}
use Rattle.wjs_store.specs.State.{World, State, find_world, same_world, is_touched, is_below, has_row, write_in, write_at, after_write, put, content_at}
use Rattle.wjs_store.specs.Reached.{IsReached}
use Rattle.wjs_store.proofs.Marks.{key_is}
use Rattle.wjs_store.proofs.Writes.{write_id, get_put, get_none, found_id, same_self, reached_write}
use Rattle.wjs_store.proofs.Commits.{local_find}
use Rattle.wjs_layers.specs.declared.maps.Row.{Row}
use Rattle.wjs_layers.specs.declared.layer.Spot.{Spot}
use Rattle.wjs_layers.specs.declared.layer.Layer.{Layer}
use Rattle.wjs_layers.specs.declared.layer.Look.TheVariants.{Closed, Untouched, Nowhere}
use Rattle.wjs_layers.specs.Keyed.{rewritten}
use Rattle.wjs_layers.specs.Look.{Looked, Puts, read_after, first_row_of}
use Rattle.wjs_layers.specs.Shorts.{row_written}
use Rattle.wjs_layers.specs.Sparse.{now_of, read_of, mark_of, full_of, Keeps, IsSparse, IsAt, StandFor}
use Rattle.wjs_layers.proofs.Places.{find_top, find_rest, find_nil}
use Rattle.wjs_layers.proofs.Full.{row_some, row_none, closed_same}
use Rattle.wjs_layers.proofs.Changes.{kept_set}
use Rattle.wjs_layers.proofs.Looks.{content_above}
use Rattle.wjs_layers.proofs.Marked.{none_over}
use Rattle.wjs_layers.proofs.Puts.{keeps_put, stand_by, set_same}

-- ---- below

below_top : (w : WorldId) (s : Slot) (y : World plain) (older : State plain) (d : WorldId) → same_world y.id d ≡ true → is_below w s (y ∷ older) d ≡ (not (is_touched y s) && option_map_or (λ p. same_world p w || is_below w s older p) y.parent false)
unfolding is_below
below_top w s y older d e = ap (λ b. cond b (not (is_touched y s) && option_map_or (λ p. same_world p w || is_below w s older p) y.parent false) (is_below w s older d)) e

below_rest : (w : WorldId) (s : Slot) (y : World plain) (older : State plain) (d : WorldId) → same_world y.id d ≡ false → is_below w s (y ∷ older) d ≡ is_below w s older d
unfolding is_below
below_rest w s y older d e = ap (λ b. cond b (not (is_touched y s) && option_map_or (λ p. same_world p w || is_below w s older p) y.parent false) (is_below w s older d)) e

-- a world that a write reaches from above is untouched at the slot, and has a parent
below_open : (w : WorldId) (s : Slot) (F : State plain) (d : WorldId) (x : World plain) → find_world F d ≡ Some x → is_below w s F d ≡ true → (is_touched x s ≡ false) × (is_some x.parent ≡ true)
below_open w s [] d x f b = no_none x (sym (find_nil d) ∙ f)
below_open w s (y ∷ older) d x f b = by_bool (same_world y.id d)
    (λ e.
    let is : y ≡ x = same_Some y x (sym (find_top y older d e) ∙ f) in
    let p = and_parts (not (is_touched y s)) (option_map_or (λ p. same_world p w || is_below w s older p) y.parent false) (sym (below_top w s y older d e) ∙ b) in
    (ap (λ (z : World plain). is_touched z s) (sym is) ∙ not-true (is_touched y s) p.0, ap (λ (z : World plain). is_some z.parent) (sym is) ∙ some_tested (λ p. same_world p w || is_below w s older p) y.parent p.1))
    (λ e. below_open w s older d x (sym (find_rest y older d e) ∙ f) (sym (below_rest w s y older d e) ∙ b))

-- a layer without a row of the slot keeps the world whatever is at the slot
keeps_below : (q : Layer) (x : World plain) (s : Slot) (c : Option Value) → Keeps q x → is_touched x s ≡ false → is_some x.parent ≡ true → Keeps q (record x { copy = put x.copy s c })
keeps_below q x s c k u p =
    let v = or_parts (has_row x s) (map.contains_key x.closed s.object) u in
    let some_above : is_some q.above ≡ true = by_option q.above (λ e. absurd (false≢true (sym (ap is_some (k.parent ∙ ap (option_map (λ (a : Spot). a.world)) e)) ∙ p))) (λ a e. ap is_some e) in
    record {
      id = k.id;
      parent = k.parent;
      strict = k.strict;
      closed = k.closed;
      first = k.first;
      written = k.written;
      now = λ t row h. by_bool (eq_by_cmp slot_cmp t s)
          (λ e. absurd (true≢false (sym (row_some q x k t row some_above h) ∙ ap (has_row x) (key_is slot_exact t s e) ∙ v.0)))
          (λ e. get_put slot_total x.copy s c t ∙ ap (λ b. cond b c (map.get x.copy t)) e ∙ k.now t row h);
      marked = k.marked;
      present = k.present;
      bare = λ t e h. absurd (false≢true (sym (ap is_some e) ∙ some_above));
    }

module _ (layers : List Layer) (h : IsSparse layers) (at : Spot) (here : IsAt layers at) (r : Layer) (s : slice_get layers at.place ≡ Some r) (q : Slot) (c : Option Value) where
  abbrev state : State plain
  state = full_of layers

  at_it : (x : World plain) → find_world (full_of layers) at.world ≡ Some x → write_at (full_of layers) at.world q c x ≡ write_in q c x
  at_it x f = ap (λ b. cond b (write_in q c x) (cond (is_below at.world q (full_of layers) x.id) (record x { copy = put x.copy q c }) x)) (ap (λ j. same_world j at.world) (found_id (full_of layers) at.world x f) ∙ same_self at.world)

  elsewhere : (v : WorldId) (x : World plain) (l : Layer) → same_world v at.world ≡ false → find_world (full_of layers) v ≡ Some x → Keeps l x → Keeps l (write_at (full_of layers) at.world q c x)
  elsewhere v x l b f k =
      let id = found_id (full_of layers) v x f in
      let apart : write_at (full_of layers) at.world q c x ≡ cond (is_below at.world q (full_of layers) v) (record x { copy = put x.copy q c }) x =
      ap (λ z. cond z (write_in q c x) (cond (is_below at.world q (full_of layers) x.id) (record x { copy = put x.copy q c }) x)) (ap (λ j. same_world j at.world) id ∙ b)
      ∙ ap (λ j. cond (is_below at.world q (full_of layers) j) (record x { copy = put x.copy q c }) x) id in
      subst (Keeps l) (sym apart) (by_bool {P = Keeps l (cond (is_below at.world q (full_of layers) v) (record x { copy = put x.copy q c }) x)} (is_below at.world q (full_of layers) v)
      (λ e. let o = below_open at.world q (full_of layers) v x f e in subst (λ z. Keeps l (cond z (record x { copy = put x.copy q c }) x)) (sym e) (keeps_below l x q c k o.0 o.1))
      (λ e. subst (λ z. Keeps l (cond z (record x { copy = put x.copy q c }) x)) (sym e) k))

  -- the row that the write leaves was put in
  pub write_by : (o : Option Row) → ((x : World plain) → find_world (full_of layers) at.world ≡ Some x → Puts r q o x (write_in q c x)) → StandFor (set layers at.place (record r { rows = put r.rows q o })) (after_write (full_of layers) at.world q c)
  unfolding after_write
  write_by o p = stand_by (set layers at.place (record r { rows = put r.rows q o })) (each (write_at (full_of layers) at.world q c) (full_of layers)) (reached_write (full_of layers) at.world q c h.reached)
      (kept_set layers (full_of layers) h.kept at.world at.place r (record r { rows = put r.rows q o }) (write_at (full_of layers) at.world q c) (write_id (full_of layers) at.world q c) here s refl
      (λ x f k. subst (Keeps (record r { rows = put r.rows q o })) (sym (at_it x f)) (keeps_put r q o x (write_in q c x) k (p x f)))
      elsewhere)

-- ---- the row

get_cond : {V : Type 0} (b : Bool) (m : FinMap slot_cmp V) (s : Slot) (v : V) → map.get (cond b (map.insert m s v) m) s ≡ cond b (Some v) (map.get m s)
get_cond true m s v = map.get-insert slot_total m s v s ∙ ap (λ o. cond (is_eq o) (Some v) (map.get m s)) (tied_itself slot_total s)
get_cond false m s v = refl

get_apart : {V : Type 0} (b : Bool) (m : FinMap slot_cmp V) (s : Slot) (v : V) (t : Slot) → eq_by_cmp slot_cmp t s ≡ false → map.get (cond b (map.insert m s v) m) t ≡ map.get m t
get_apart true m s v t e = map.get-insert slot_total m s v t ∙ ap (λ z. cond z (Some v) (map.get m t)) e
get_apart false m s v t e = refl

put_here : (m : FinMap slot_cmp Value) (s : Slot) (c : Option Value) → map.get (put m s c) s ≡ c
put_here m s c = get_put slot_total m s c s ∙ ap (λ o. cond (is_eq o) c (map.get m s)) (tied_itself slot_total s)

put_apart : (m : FinMap slot_cmp Value) (s : Slot) (c : Option Value) (t : Slot) → eq_by_cmp slot_cmp t s ≡ false → map.get (put m s c) t ≡ map.get m t
put_apart m s c t e = get_put slot_total m s c t ∙ ap (λ b. cond b c (map.get m t)) e

or_true : (b : Bool) → (b || true) ≡ true
or_true true = refl
or_true false = refl

-- a world with a parent
pub puts_marked : (r : Layer) (x : World plain) (s : Slot) (read : Option Content) (content : Content) → Keeps r x → is_some r.above ≡ true → option_map content_of read ≡ read_after x s → Puts r s (Some (record { read = read; now = content; written = true })) x (write_in s (content_of content) x)
puts_marked r x s read content k u h =
    let row : Row = record { read = read; now = content; written = true } in
    let b = is_some x.parent && (not (has_row x s) && (map.contains_key x.closed s.object || x.strict)) in
    let p : is_some x.parent ≡ true = by_option r.above (λ e. absurd (false≢true (sym (ap is_some e) ∙ u))) (λ a e. ap is_some (k.parent ∙ ap (option_map (λ (a : Spot). a.world)) e)) in
    record {
      id = refl;
      parent = refl;
      strict = refl;
      closed = refl;
      first_here = get_cond b x.first s (map.get x.copy s) ∙ sym h;
      written_here = get_cond (is_some x.parent) x.written s tt ∙ ap (λ z. cond z (Some tt) (map.get x.written s)) p;
      copy_here = put_here x.copy s (content_of content);
      first_other = get_apart b x.first s (map.get x.copy s);
      written_other = get_apart (is_some x.parent) x.written s tt;
      copy_other = put_apart x.copy s (content_of content);
      marked = λ w e. let z : row ≡ w = cc in ap (λ (w : Row). is_some w.read || w.written) (sym z) ∙ or_true (is_some read) ∙ sym u;
      present = λ w v e. absurd (true≢false (sym u ∙ ap is_some v));
    }

first_read : (content : Content) → option_and_then read_of (first_row_of content) ≡ None
first_read Absent = refl
first_read (Present v) = refl

first_mark : (content : Content) → option_and_then mark_of (first_row_of content) ≡ None
first_mark Absent = refl
first_mark (Present v) = refl

first_now : (content : Content) → option_and_then now_of (first_row_of content) ≡ content_of content
first_now Absent = refl
first_now (Present v) = refl

first_bare : (content : Content) (row : Row) → first_row_of content ≡ Some row → ((is_some row.read || row.written) ≡ false) × (is_some (now_of row) ≡ true)
first_bare Absent row e = no_none row e
first_bare (Present v) row e =
    let z : record { read = None; now = Present v; written = false } ≡ row = same_Some (record { read = None; now = Present v; written = false }) row e in
    (ap (λ (w : Row). is_some w.read || w.written) (sym z), ap (λ (w : Row). is_some (now_of w)) (sym z))

-- the first world
pub puts_first : (F : State plain) (w : WorldId) (r : Layer) (x : World plain) (s : Slot) (content : Content) → IsReached F → find_world F w ≡ Some x → Keeps r x → r.above ≡ None → Puts r s (first_row_of content) x (write_in s (content_of content) x)
puts_first F w r x s content hr f k u =
    let l = local_find F w x hr f in
    let n : x.parent ≡ None = k.parent ∙ ap (option_map (λ (a : Spot). a.world)) u in
    let p : is_some x.parent ≡ false = ap is_some n in
    let b = not (has_row x s) && (map.contains_key x.closed s.object || x.strict) in
    record {
      id = refl;
      parent = refl;
      strict = refl;
      closed = refl;
      first_here = get_cond (is_some x.parent && b) x.first s (map.get x.copy s) ∙ ap (λ z. cond (z && b) (Some (map.get x.copy s)) (map.get x.first s)) p ∙ get_none x.first s (l.no_first n) ∙ sym (first_read content);
      written_here = get_cond (is_some x.parent) x.written s tt ∙ ap (λ z. cond z (Some tt) (map.get x.written s)) p ∙ get_none x.written s (l.no_written n) ∙ sym (first_mark content);
      copy_here = put_here x.copy s (content_of content) ∙ sym (first_now content);
      first_other = get_apart (is_some x.parent && b) x.first s (map.get x.copy s);
      written_other = get_apart (is_some x.parent) x.written s tt;
      copy_other = put_apart x.copy s (content_of content);
      marked = λ w e. (first_bare content w e).0 ∙ sym (ap is_some u);
      present = λ w v e. (first_bare content w e).1;
    }

-- ---- the recorded read

module _ (layers : List Layer) (h : IsSparse layers) (at : Spot) (here : IsAt layers at) (r : Layer) (s : slice_get layers at.place ≡ Some r) (q : Slot) (up : is_some r.above ≡ true) (x : World plain) (f : find_world (full_of layers) at.world ≡ Some x) where
  kept_x : Keeps r x
  kept_x = h.kept.at at.world at.place x r here f s

  parent_x : is_some x.parent ≡ true
  parent_x = by_option r.above
      (λ e. absurd (false≢true (sym (ap is_some e) ∙ up)))
      (λ a e. ap is_some (kept_x.parent ∙ ap (option_map (λ (a : Spot). a.world)) e))

  open_first : read_after x q ≡ cond (not (has_row x q) && (map.contains_key x.closed q.object || x.strict)) (Some (map.get x.copy q)) (map.get x.first q)
  open_first = ap (λ b. cond (b && (not (has_row x q) && (map.contains_key x.closed q.object || x.strict))) (Some (map.get x.copy q)) (map.get x.first q)) parent_x

  before_kept : (row : Row) → map.get r.rows q ≡ Some row → option_map content_of row.read ≡ read_after x q
  before_kept row e = sym (open_first ∙ ap (λ b. cond (not b && (map.contains_key x.closed q.object || x.strict)) (Some (map.get x.copy q)) (map.get x.first q)) (row_some r x kept_x q row up e) ∙ kept_x.first q ∙ ap (option_and_then read_of) e)

  bare_first : map.get r.rows q ≡ None → (b : Bool) → map.contains_key r.closed q.object ≡ b → read_after x q ≡ cond (b || r.strict) (Some (map.get x.copy q)) None
  bare_first e b c =
      open_first
      ∙ ap (λ z. cond (not z && (map.contains_key x.closed q.object || x.strict)) (Some (map.get x.copy q)) (map.get x.first q)) (row_none r x kept_x q e)
      ∙ ap (λ z. cond (z || x.strict) (Some (map.get x.copy q)) (map.get x.first q)) (closed_same r x kept_x q ∙ c)
      ∙ ap (λ z. cond (b || z) (Some (map.get x.copy q)) (map.get x.first q)) kept_x.strict
      ∙ ap (λ o. cond (b || r.strict) (Some (map.get x.copy q)) o) (kept_x.first q ∙ ap (option_and_then read_of) e)

  pub before_closed : Looked r q Closed → Some None ≡ read_after x q
  before_closed e = sym (bare_first e.0 true e.1 ∙ ap (λ o. Some o) ((local_find (full_of layers) at.world x h.reached f).absent q (closed_same r x kept_x q ∙ e.1) (row_none r x kept_x q e.0)))

  pub before_plain : (a : Spot) → Looked r q (Untouched a) → r.strict ≡ false → None ≡ read_after x q
  before_plain a e n = sym (bare_first e.0 false e.1 ∙ ap (λ b. cond b (Some (map.get x.copy q)) None) n)

  pub before_strict : (a : Spot) (found : Content) → Looked r q (Untouched a) → r.strict ≡ true → content_of found ≡ content_at (full_of layers) a.world q → Some (content_of found) ≡ read_after x q
  before_strict a found e n c = sym (bare_first e.0 false e.1 ∙ ap (λ b. cond b (Some (map.get x.copy q)) None) n ∙ ap (λ o. Some o) (sym (ap (option_and_then (λ (y : World plain). map.get y.copy q)) f) ∙ content_above layers h at here r s q a e.0 e.1 e.2 ∙ sym c))

  pub before_nowhere : Looked r q Nowhere → None ≡ read_after x q
  before_nowhere e = absurd (false≢true (sym (ap is_some e.1) ∙ up))

-- ---- a write over a row

module _ (layers : List Layer) (h : IsSparse layers) (at : Spot) (here : IsAt layers at) (r : Layer) (s : slice_get layers at.place ≡ Some r) (q : Slot) (content : Content) where
  pub over_row : is_some r.above ≡ true → is_some (map.get r.rows q) ≡ true → StandFor (set layers at.place (record r { rows = rewritten r.rows q content })) (after_write (full_of layers) at.world q (content_of content))
  over_row up there = with_some (map.get r.rows q) there (λ row e.
      subst (λ rows. StandFor (set layers at.place (record r { rows = rows })) (after_write (full_of layers) at.world q (content_of content)))
      (sym (ap (λ o. option_map_or (λ (w : Row). map.insert r.rows q (row_written w.read content)) o r.rows) e))
      (write_by layers h at here r s q (content_of content) (Some (row_written row.read content))
      (λ x f. puts_marked r x q row.read content (h.kept.at at.world at.place x r here f s) up (before_kept layers h at here r s q up x f row e))))

  -- without a row all stays
  pub over_none : map.get r.rows q ≡ None → set layers at.place (record r { rows = rewritten r.rows q content }) ≡ layers
  over_none e = ap (λ rows. set layers at.place (record r { rows = rows })) (sym (none_over r.rows q content e)) ∙ set_same layers at.place r s
