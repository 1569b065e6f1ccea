-- What is handed to a layer is handed to its world.
use Rattle.std.proofs.Common.{◌≡◌, ℕ, ◌+◌, ◌<◌, Bool, true, false, cond, ◌||◌, List, [], ◌∷◌, length, take, get_or, Option, None, Some, is_some, fold, refl, ap, sym, ◌∙◌, subst}
use Rattle.std.specs.Option.{option_map, option_and_then}
use Rattle.std.specs.Ordering.{is_eq}
use Rattle.std.specs.Cmp.{tied_itself}
use Rattle.std.specs.FinMap as map
use Rattle.std.proofs.lemmas.Bool.{true≢false, false≢true, or_parts}
use Rattle.std.proofs.lemmas.List.{take_more}
use Rattle.std.proofs.lemmas.List.Sums.{fold_push}
use Rattle.std.proofs.lemmas.Option.{same_Some}
use Rattle.wjs_base.specs.declared.ids.ObjId.{ObjId}
use Rattle.wjs_base.specs.declared.values.Slot.{Slot}
use Rattle.wjs_base.specs.declared.values.Value.{Value}
use Rattle.wjs_base.specs.declared.values.Content.{Content}
use Rattle.wjs_base.specs.Order.{slot_cmp, slot_total}
use Rattle.wjs_base.proofs.Options.{by_option, no_none}
use Rattle.wjs_store.specs.Naming.{plain}
use Rattle.wjs_store.specs.Shown.{content_of}
use Rattle.wjs_store.specs.State.{World, is_touched, close_in, put, clear_marks}
use Rattle.wjs_layers.specs.declared.maps.Row.{Row}
use Rattle.wjs_layers.specs.declared.layer.Spot.{Spot}
use Rattle.wjs_layers.specs.declared.layer.Layer.{Layer}
use Rattle.wjs_layers.specs.Look.{Puts, closed_layer}
use Rattle.wjs_layers.specs.Moves.{handed_by, handed, handed_rows, closed_all, cleared}
use Rattle.wjs_layers.specs.Sparse.{read_of, mark_of, Keeps}
use Rattle.wjs_layers.proofs.Full.{row_some, row_none, closed_same}
use Rattle.wjs_layers.proofs.Puts.{keeps_put}
use Rattle.wjs_layers.proofs.ListLaws.{close_id, keeps_close, closed_above}

module _ (r : Layer) (y : World plain) (k : Keeps r y) where
  pub above_some : is_some y.parent ≡ true → is_some r.above ≡ true
  above_some p = by_option r.above (λ e. absurd (false≢true (sym (ap is_some (k.parent ∙ ap (option_map (λ (a : Spot). a.world)) e)) ∙ p))) (λ a e. ap is_some e)

  parent_none : r.above ≡ None → is_some y.parent ≡ false
  parent_none e = ap is_some (k.parent ∙ ap (option_map (λ (a : Spot). a.world)) e)

  -- in a world with a parent, what has a row or is closed is touched
  touched_is : (s : Slot) → is_some y.parent ≡ true → is_touched y s ≡ (is_some (map.get r.rows s) || map.contains_key r.closed s.object)
  touched_is s p =
      ap (λ b. b || map.contains_key y.closed s.object) (by_option (map.get r.rows s)
      (λ e. row_none r y k s e ∙ sym (ap is_some e))
      (λ row e. row_some r y k s row (above_some p) e ∙ sym (ap is_some e)))
      ∙ ap (λ b. is_some (map.get r.rows s) || b) (closed_same r y k s)

  pub hand_none : (s : Slot) (row : Row) → row.read ≡ None → Keeps r (handed y (s, row))
  hand_none s row e = subst (λ o. Keeps r (handed_by (option_map content_of o) y s)) (sym e) k

  pub hand_touched : (s : Slot) (row : Row) (read : Content) → is_some y.parent ≡ true → row.read ≡ Some read → (is_some (map.get r.rows s) || map.contains_key r.closed s.object) ≡ true → Keeps r (handed y (s, row))
  hand_touched s row read p e t =
      subst (λ o. Keeps r (handed_by (option_map content_of o) y s)) (sym e)
      (subst (λ b. Keeps r (cond b y (record y { first = map.insert y.first s (content_of read) }))) (sym (touched_is s p ∙ t)) k)

  pub hand_new : (s : Slot) (row : Row) (read : Content) → is_some y.parent ≡ true → row.read ≡ Some read → (is_some (map.get r.rows s) || map.contains_key r.closed s.object) ≡ false → map.get y.copy s ≡ content_of read → Keeps (record r { rows = put r.rows s (Some (record { read = Some read; now = read; written = false })) }) (handed y (s, row))
  hand_new s row read p e t c =
      let new : Row = record { read = Some read; now = read; written = false } in
      let v = or_parts (is_some (map.get r.rows s)) (map.contains_key r.closed s.object) t in
      let none : map.get r.rows s ≡ None = by_option (map.get r.rows s) (λ z. z) (λ a z. absurd (true≢false (sym (ap is_some z) ∙ v.0))) in
      let z : World plain = record y { first = map.insert y.first s (content_of read) } in
      let puts : Puts r s (Some new) y z = record {
        id = refl;
        parent = refl;
        strict = refl;
        closed = refl;
        first_here = map.get-insert slot_total y.first s (content_of read) s ∙ ap (λ o. cond (is_eq o) (Some (content_of read)) (map.get y.first s)) (tied_itself slot_total s);
        written_here = k.written s ∙ ap (option_and_then mark_of) none;
        copy_here = c;
        first_other = λ q b. map.get-insert slot_total y.first s (content_of read) q ∙ ap (λ d. cond d (Some (content_of read)) (map.get y.first q)) b;
        written_other = λ q b. refl;
        copy_other = λ q b. refl;
        marked = λ w q. let is : new ≡ w = same_Some new w q in ap (λ (w : Row). is_some w.read || w.written) (sym is) ∙ sym (above_some p);
        present = λ w u q. absurd (false≢true (sym (parent_none u) ∙ p));
      } in
      subst (λ o. Keeps (record r { rows = put r.rows s (Some new) }) (handed_by (option_map content_of o) y s)) (sym e)
      (subst (λ b. Keeps (record r { rows = put r.rows s (Some new) }) (cond b y z)) (sym (touched_is s p ∙ t))
      (keeps_put r s (Some new) y z k puts))

-- ---- one after another

handed_parent : (y : World plain) (e : Slot × Row) → (handed y e).parent ≡ y.parent
handed_parent y e = by_read (read_of e.1)
  where
    by_touched : (b : Bool) (c : Option Value) → (cond b y (record y { first = map.insert y.first e.0 c })).parent ≡ y.parent
    by_touched true c = refl
    by_touched false c = refl

    by_read : (o : Option (Option Value)) → (handed_by o y e.0).parent ≡ y.parent
    by_read None = refl
    by_read (Some c) = by_touched (is_touched y e.0) c

handed_copy : (y : World plain) (e : Slot × Row) → (handed y e).copy ≡ y.copy
handed_copy y e = by_read (read_of e.1)
  where
    by_touched : (b : Bool) (c : Option Value) → (cond b y (record y { first = map.insert y.first e.0 c })).copy ≡ y.copy
    by_touched true c = refl
    by_touched false c = refl

    by_read : (o : Option (Option Value)) → (handed_by o y e.0).copy ≡ y.copy
    by_read None = refl
    by_read (Some c) = by_touched (is_touched y e.0) c

pub all_parent : (es : List (Slot × Row)) (y : World plain) → (fold handed y es).parent ≡ y.parent
all_parent [] y = refl
all_parent (e ∷ es) y = all_parent es (handed y e) ∙ handed_parent y e

pub all_copy : (es : List (Slot × Row)) (y : World plain) → (fold handed y es).copy ≡ y.copy
all_copy [] y = refl
all_copy (e ∷ es) y = all_copy es (handed y e) ∙ handed_copy y e

-- a world without parent is handed nothing
pub handed_first : (r : Layer) (y : World plain) (rows : List (Slot × Row)) → Keeps r y → is_some r.above ≡ false → Keeps r (handed_rows rows y)
handed_first r y rows k e = subst (λ b. Keeps r (cond b (fold handed y rows) y)) (sym (parent_none r y k (by_option r.above (λ z. z) (λ a z. absurd (true≢false (sym (ap is_some z) ∙ e)))))) k

pub handed_else : (r q : Layer) (y : World plain) (rows : List (Slot × Row)) → Keeps r y → is_some r.above ≡ true → Keeps q (fold handed y rows) → Keeps q (handed_rows rows y)
handed_else r q y rows k e h =
    let p : is_some y.parent ≡ true = by_option r.above (λ z. absurd (false≢true (sym (ap is_some z) ∙ e))) (λ a z. ap is_some (k.parent ∙ ap (option_map (λ (a : Spot). a.world)) z)) in
    subst (λ b. Keeps q (cond b (fold handed y rows) y)) (sym p) h

pub parent_some : (r : Layer) (y : World plain) → Keeps r y → is_some r.above ≡ true → is_some y.parent ≡ true
parent_some r y k e = by_option r.above (λ z. absurd (false≢true (sym (ap is_some z) ∙ e))) (λ a z. ap is_some (k.parent ∙ ap (option_map (λ (a : Spot). a.world)) z))

-- ---- the marks are emptied

pub keeps_cleared : (r : Layer) (x : World plain) → Keeps r x → is_some x.parent ≡ true → Keeps (cleared r) (clear_marks x)
keeps_cleared r x k p = record {
  id = k.id;
  parent = k.parent;
  strict = k.strict;
  closed = refl;
  first = λ s. map.get-empty slot_cmp s ∙ sym (ap (option_and_then read_of) (map.get-empty slot_cmp s));
  written = λ s. map.get-empty slot_cmp s ∙ sym (ap (option_and_then mark_of) (map.get-empty slot_cmp s));
  now = λ s row h. no_none row (sym (map.get-empty slot_cmp s) ∙ h);
  marked = λ s row h. no_none row (sym (map.get-empty slot_cmp s) ∙ h);
  present = λ s row u h. no_none row (sym (map.get-empty slot_cmp s) ∙ h);
  bare = λ s u h. absurd (false≢true (sym (parent_none r x k u) ∙ p));
}

-- ---- numbers stay

handed_id : (y : World plain) (e : Slot × Row) → (handed y e).id ≡ y.id
handed_id y e = by_read (read_of e.1)
  where
    by_touched : (b : Bool) (c : Option Value) → (cond b y (record y { first = map.insert y.first e.0 c })).id ≡ y.id
    by_touched true c = refl
    by_touched false c = refl

    by_read : (o : Option (Option Value)) → (handed_by o y e.0).id ≡ y.id
    by_read None = refl
    by_read (Some c) = by_touched (is_touched y e.0) c

all_id : (es : List (Slot × Row)) (y : World plain) → (fold handed y es).id ≡ y.id
all_id [] y = refl
all_id (e ∷ es) y = all_id es (handed y e) ∙ handed_id y e

pub rows_id : (es : List (Slot × Row)) (y : World plain) → (handed_rows es y).id ≡ y.id
rows_id es y = by_parent (is_some y.parent)
  where
    by_parent : (b : Bool) → (cond b (fold handed y es) y).id ≡ y.id
    by_parent true = all_id es y
    by_parent false = refl

pub closes_id : (os : List ObjId) (y : World plain) → (closed_all os y).id ≡ y.id
closes_id [] y = refl
closes_id (o ∷ os) y = closes_id os (close_in o y) ∙ close_id o y

-- ---- one object more

pub closes_more : (os : List ObjId) (i : ℕ) (d : ObjId) (r q : Layer) (y : World plain) → i < length os → q ≡ closed_layer (get_or os i d) r → Keeps r (closed_all (take i os) y) → Keeps q (closed_all (take (i + 1) os) y)
closes_more os i d r q y l e k =
    let more : closed_all (take (i + 1) os) y ≡ close_in (get_or os i d) (closed_all (take i os) y) = ap (λ xs. closed_all xs y) (take_more os i d l) ∙ fold_push (λ (z : World plain) (o : ObjId). close_in o z) y (take i os) (get_or os i d) in
    subst (Keeps q) (sym more) (subst (λ z. Keeps z (close_in (get_or os i d) (closed_all (take i os) y))) (sym e) (keeps_close (get_or os i d) r (closed_all (take i os) y) k))

pub above_more : (o : ObjId) (r q : Layer) → q ≡ closed_layer o r → q.above ≡ r.above
above_more o r q e = ap (λ (z : Layer). z.above) e ∙ closed_above o r
