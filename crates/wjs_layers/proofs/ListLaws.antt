-- A listing: the reads of an object's present slots, and its mark.
use Rattle.std.proofs.Common.{◌≡◌, ℕ, Bool, true, false, cond, List, [], ◌∷◌, Some, is_some, slice_get, get_or, set, drop, length, ◌+◌, ◌<◌, map as each, refl, ap, sym, ◌∙◌, subst}
use Rattle.std.specs.Option.{option_map, option_map_or}
use Rattle.std.specs.FinMap as map
use Rattle.std.proofs.lemmas.List.{drop_more}
use Rattle.std.proofs.lemmas.Option.{same_Some}
use Rattle.wjs_base.specs.declared.ids.ObjId.{ObjId}
use Rattle.wjs_base.specs.declared.ids.WorldId.{WorldId}
use Rattle.wjs_base.specs.declared.values.Slot.{Slot}
use Rattle.wjs_base.proofs.Booleans.{by_bool}
use Rattle.wjs_base.proofs.Options.{by_option}
use Rattle.wjs_store.specs.Naming.{plain}
use Rattle.wjs_store.specs.State.{World, State, find_world, same_world, read_in, read_all, close_in, list_in, slots_in, slots_at, after_read, after_list, at_world}
use Rattle.wjs_store.specs.Reached.{IsReached}
use Rattle.wjs_store.proofs.Keeps.{reached_list}
use Rattle.wjs_store.proofs.Marks.{marks_read, marks_at}
use Rattle.wjs_store.proofs.Writes.{same_self, world_is, not_older}
use Rattle.wjs_layers.specs.declared.layer.Spot.{Spot}
use Rattle.wjs_layers.specs.declared.layer.Layer.{Layer}
use Rattle.wjs_layers.specs.Look.{closed_layer}
use Rattle.wjs_layers.specs.Sparse.{full_of, place_of, Keeps, AreKept, IsSparse, IsAt, StandFor, after_reads}
use Rattle.wjs_layers.proofs.Places.{find_top, find_rest, place_each}
use Rattle.wjs_layers.proofs.Changes.{kept_set}
use Rattle.wjs_layers.proofs.Puts.{stand_by, at_one, at_other}

-- ---- changes that agree at each world of a state

find_own : (x : World plain) (older : State plain) → find_world (x ∷ older) x.id ≡ Some x
find_own x older = find_top x older x.id (same_self x.id)

has_own : (F : State plain) (g h : World plain → World plain) → IsReached F → ((x : World plain) → find_world F x.id ≡ Some x → g x ≡ h x) → each g F ≡ each h F
has_own [] g h r f = refl
has_own (x ∷ older) g h r f =
    ap (λ y. y ∷ each g older) (f x (find_own x older))
    ∙ ap (λ ys. h x ∷ ys) (has_own older g h r.1 (λ y e. f y (find_rest x older y.id (not_older x older y.id r (ap is_some e)) ∙ e)))

-- ---- the reads

two_at : (w : WorldId) (f g : World plain → World plain) (ids : (x : World plain) → (f x).id ≡ x.id) (x : World plain) → cond (same_world (cond (same_world x.id w) (f x) x).id w) (g (cond (same_world x.id w) (f x) x)) (cond (same_world x.id w) (f x) x) ≡ cond (same_world x.id w) (g (f x)) x
two_at w f g ids x = by_bool (same_world x.id w)
    (λ e. ap (λ b. cond (same_world (cond b (f x) x).id w) (g (cond b (f x) x)) (cond b (f x) x)) e ∙ ap (λ j. cond (same_world j w) (g (f x)) (f x)) (ids x) ∙ ap (λ b. cond b (g (f x)) (f x)) e ∙ sym (ap (λ b. cond b (g (f x)) x) e))
    (λ e. ap (λ b. cond (same_world (cond b (f x) x).id w) (g (cond b (f x) x)) (cond b (f x) x)) e ∙ ap (λ b. cond b (g x) x) e ∙ sym (ap (λ b. cond b (g (f x)) x) e))

at_then : (w : WorldId) (f g : World plain → World plain) (ids : (x : World plain) → (f x).id ≡ x.id) (F : State plain) → at_world w g (at_world w f F) ≡ at_world w (λ x. g (f x)) F
at_then w f g ids [] = refl
at_then w f g ids (x ∷ F) = ap (λ y. y ∷ at_world w g (at_world w f F)) (two_at w f g ids x) ∙ ap (λ ys. cond (same_world x.id w) (g (f x)) x ∷ ys) (at_then w f g ids F)

at_same : (w : WorldId) (F : State plain) → at_world w (λ x. x) F ≡ F
at_same w [] = refl
at_same w (x ∷ F) = ap (λ y. y ∷ at_world w (λ x. x) F) (cond_same (same_world x.id w) x) ∙ ap (λ ys. x ∷ ys) (at_same w F)
  where
    cond_same : {A : Type 0} (b : Bool) (a : A) → cond b a a ≡ a
    cond_same true a = refl
    cond_same false a = refl

reads_at : (w : WorldId) (ss : List Slot) (F : State plain) → after_reads w ss F ≡ at_world w (read_all ss) F
unfolding after_read
reads_at w [] F = sym (at_same w F)
reads_at w (s ∷ ss) F = reads_at w ss (after_read F w s) ∙ at_then w (read_in s) (read_all ss) (λ x. (marks_read s x).id) F

all_id : (ss : List Slot) (x : World plain) → (read_all ss x).id ≡ x.id
all_id [] x = refl
all_id (s ∷ ss) x = all_id ss (read_in s x) ∙ (marks_read s x).id

-- the reads of the present slots and the mark are the listing
list_is : (F : State plain) (w : WorldId) (o : ObjId) (x : World plain) → IsReached F → find_world F w ≡ Some x → at_world w (close_in o) (after_reads w (slots_at F w o) F) ≡ after_list F w o
unfolding after_list
list_is F w o x r f =
    let ss = slots_at F w o in
    let here : ss ≡ slots_in o x = ap (λ d. option_map_or (slots_in o) d []) f in
    ap (at_world w (close_in o)) (reads_at w ss F)
    ∙ at_then w (read_all ss) (close_in o) (all_id ss) F
    ∙ has_own F (λ y. cond (same_world y.id w) (close_in o (read_all ss y)) y) (λ y. cond (same_world y.id w) (list_in o y) y) r
    (λ y e. by_bool (same_world y.id w)
    (λ b.
    let is : x ≡ y = same_Some x y (sym f ∙ ap (find_world F) (sym (world_is y.id w b)) ∙ e) in
    ap (λ c. cond c (close_in o (read_all ss y)) y) b ∙ ap (λ ts. close_in o (read_all ts y)) (here ∙ ap (slots_in o) is) ∙ sym (ap (λ c. cond c (list_in o y) y) b))
    (λ b. ap (λ c. cond c (close_in o (read_all ss y)) y) b ∙ sym (ap (λ c. cond c (list_in o y) y) b)))

-- the reads of what is left, after one more
pub reads_more : (w : WorldId) (slots : List Slot) (i : ℕ) (d : Slot) (F G Z : State plain) → i < length slots → G ≡ after_read F w (get_or slots i d) → after_reads w (drop i slots) F ≡ Z → after_reads w (drop (i + 1) slots) G ≡ Z
reads_more w slots i d F G Z l e h = ap (after_reads w (drop (i + 1) slots)) e ∙ ap (λ ss. after_reads w ss F) (sym (drop_more slots i d l)) ∙ h

-- places stay
pub read_places : (F : State plain) (w : WorldId) (s : Slot) (v : WorldId) → place_of (after_read F w s) v ≡ place_of F v
unfolding after_read
read_places F w s v = place_each (λ x. cond (same_world x.id w) (read_in s x) x) (λ x. (marks_at w (read_in s) (marks_read s) x).id) F v

-- ---- the mark

pub keeps_close : (o : ObjId) (r : Layer) (x : World plain) → Keeps r x → Keeps (closed_layer o r) (close_in o x)
keeps_close o r x k = by_option r.above
    (λ e.
    let p : is_some x.parent ≡ false = ap is_some (k.parent ∙ ap (option_map (λ (a : Spot). a.world)) e) in
    subst (λ b. Keeps (cond b (record r { closed = map.insert r.closed o tt }) r) (close_in o x)) (sym (ap is_some e))
    (subst (λ b. Keeps r (cond b (record x { closed = map.insert x.closed o tt }) x)) (sym p) k))
    (λ a e.
    let p : is_some x.parent ≡ true = ap is_some (k.parent ∙ ap (option_map (λ (a : Spot). a.world)) e) in
    subst (λ b. Keeps (cond b (record r { closed = map.insert r.closed o tt }) r) (close_in o x)) (sym (ap is_some e))
    (subst (λ b. Keeps (record r { closed = map.insert r.closed o tt }) (cond b (record x { closed = map.insert x.closed o tt }) x)) (sym p)
    (record { id = k.id; parent = k.parent; strict = k.strict; closed = ap (λ c. map.insert c o tt) k.closed; first = k.first; written = k.written; now = k.now; marked = k.marked; present = k.present; bare = k.bare })))

pub close_id : (o : ObjId) (x : World plain) → (close_in o x).id ≡ x.id
close_id o x = by_one (is_some x.parent)
  where
    by_one : (b : Bool) → (cond b (record x { closed = map.insert x.closed o tt }) x).id ≡ x.id
    by_one true = refl
    by_one false = refl

pub at_id : (w : WorldId) (f : World plain → World plain) → ((x : World plain) → (f x).id ≡ x.id) → (x : World plain) → (cond (same_world x.id w) (f x) x).id ≡ x.id
at_id w f h x = by_one (same_world x.id w)
  where
    by_one : (b : Bool) → (cond b (f x) x).id ≡ x.id
    by_one true = h x
    by_one false = refl

pub closed_above : (o : ObjId) (r : Layer) → (closed_layer o r).above ≡ r.above
closed_above o r = by_one (is_some r.above)
  where
    by_one : (b : Bool) → (cond b (record r { closed = map.insert r.closed o tt }) r).above ≡ r.above
    by_one true = refl
    by_one false = refl

-- one world's layer and the world itself are changed alike
pub kept_at : (layers : List Layer) (F : State plain) (k : AreKept layers F) (at : Spot) (here : place_of F at.world ≡ Some at.place) (r r' : Layer) (s : slice_get layers at.place ≡ Some r) (up : r'.above ≡ r.above) (f : World plain → World plain) (ids : (x : World plain) → (f x).id ≡ x.id) → ((x : World plain) → find_world F at.world ≡ Some x → Keeps r x → Keeps r' (f x)) → AreKept (set layers at.place r') (at_world at.world f F)
kept_at layers F k at here r r' s up f ids one =
    kept_set layers F k at.world at.place r r' (λ x. cond (same_world x.id at.world) (f x) x) (at_id at.world f ids) here s up
    (λ x e q. subst (Keeps r') (sym (at_one F at.world f x e)) (one x e q))
    (λ v x l b e q. subst (Keeps l) (sym (at_other F at.world f v x b e)) q)

pub close_by : (layers : List Layer) (h : IsSparse layers) (at : Spot) (here : IsAt layers at) (r : Layer) (s : slice_get layers at.place ≡ Some r) (o : ObjId) → AreKept (set layers at.place (closed_layer o r)) (at_world at.world (close_in o) (full_of layers))
close_by layers h at here r s o = kept_at layers (full_of layers) h.kept at here r (closed_layer o r) s (closed_above o r) (close_in o) (close_id o) (λ x e k. keeps_close o r x k)

pub list_by : (layers : List Layer) (F : State plain) (w : WorldId) (o : ObjId) (x : World plain) → IsReached F → find_world F w ≡ Some x → AreKept layers (at_world w (close_in o) (after_reads w (slots_at F w o) F)) → StandFor layers (after_list F w o)
list_by layers F w o x r f k = stand_by layers (after_list F w o) (reached_list F w o r) (subst (AreKept layers) (list_is F w o x r f) k)
