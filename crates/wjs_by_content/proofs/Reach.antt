-- A renaming keeps what holds in a reached state.
use Rattle.std.proofs.Common.{◌≡◌, suc, true, false, [], ◌∷◌, length, refl, ap, sym, ◌∙◌, subst, Option, None, Some, is_some}
use Rattle.std.specs.Option.{option_map, option_and_then}
use Rattle.std.specs.FinMap as map
use Rattle.std.specs.FinMap.{FinMap}
use Rattle.std.proofs.lemmas.Bool.{false≢true}
use Rattle.wjs_base.specs.declared.ids.WorldId.{WorldId}
use Rattle.wjs_base.proofs.Options.{some_map}
use Rattle.wjs_store.specs.Naming.{Naming}
use Rattle.wjs_store.specs.State.{World, State, has_row, is_touched, has_world, content_at}
use Rattle.wjs_store.specs.Reached.{Fits, IsReached}
use Rattle.wjs_by_content.specs.Rename.{renamed}
use Rattle.wjs_by_content.proofs.Renaming.{Renaming, renamed_world, renamed_state}
use Rattle.wjs_by_content.specs.Renamed.{Names, Known, named_state}
use Rattle.wjs_by_content.proofs.Maps.{get_renamed, comes_renamed}
use Rattle.wjs_by_content.proofs.Steps.{has_written, row_alike, touched_alike, copy_alike, find_alike, content_alike}
use Rattle.wjs_by_content.proofs.Actions.{count_alike, empty_alike}
use Rattle.wjs_by_content.proofs.Padded.{padding, among}
use Rattle.wjs_by_content.proofs.RenamedKnown.{map_tells, shows}

-- where one of the two is present there is a p, from which they are equal
same_if : {A P : Type 0} (a b : Option A) → (is_some a ≡ true → P) → (is_some b ≡ true → P) → (P → a ≡ b) → a ≡ b
same_if None None f g h = refl
same_if None (Some y) f g h = h (g refl)
same_if (Some x) b f g h = h (f refl)

which : {X Y : Type 0} (h : X → Y) (o : Option X) (z : Y) → option_map h o ≡ Some z → (w : X) × ((o ≡ Some w) × (z ≡ h w))
which h None z e = cc
which h (Some w) z e = let q : h w ≡ z = cc in (w, (refl, sym q))

none_back : {X Y : Type 0} (h : X → Y) (o : Option X) → option_map h o ≡ None → o ≡ None
none_back h None e = refl
none_back h (Some w) e = cc

module _ {K V J W : Type 0} {n : Naming K V} {m : Naming J W} (r : Renaming n m) where
  came : {X Y : Type 0} (g : X → Y) (a : FinMap n.cmp X) (t : J) → is_some (map.get (renamed {S = m.cmp} r.slot g a) t) ≡ true → (k : K) × (t ≡ r.slot k)
  came g a t h = comes_renamed n.total n.exact m.total m.exact r.slot r.slots_tell g a t h

  got : {X Y : Type 0} (g : X → Y) (a : FinMap n.cmp X) (k : K) → map.get (renamed {S = m.cmp} r.slot g a) (r.slot k) ≡ option_map g (map.get a k)
  got g a k = get_renamed n.total n.exact m.total m.exact r.slot r.slots_tell g a k

  has_alike : (F : State n) (w : WorldId) → has_world (renamed_state r F) w ≡ has_world F w
  has_alike F w = ap is_some (find_alike r F w) ∙ some_map (renamed_world r) _

  length_alike : (F : State n) → length (renamed_state r F) ≡ length F
  length_alike [] = refl
  length_alike (x ∷ F) = ap suc (length_alike F)

  found_came : (o : Option (World n)) (t : J) → is_some (option_and_then (λ (x : World m). map.get x.copy t) (option_map (renamed_world r) o)) ≡ true → (k : K) × (t ≡ r.slot k)
  found_came None t h = absurd (false≢true h)
  found_came (Some x) t h = came r.value x.copy t h

  content_came : (F : State n) (w : WorldId) (t : J) → is_some (content_at (renamed_state r F) w t) ≡ true → (k : K) × (t ≡ r.slot k)
  content_came F w t h = found_came _ t (ap (λ o. is_some (option_and_then (λ (x : World m). map.get x.copy t) o)) (sym (find_alike r F w)) ∙ h)

  len_alike : {X Y : Type 0} (g : X → Y) (a : FinMap n.cmp X) → map.len a ≡ 0 → map.len (renamed {S = m.cmp} r.slot g a) ≡ 0
  len_alike {X} {Y} g a h = ap map.len (ap (renamed {S = m.cmp} r.slot g) (map.empty_of_len a h) ∙ empty_alike r g) ∙ map.len-empty m.cmp Y

  len_back : {X Y : Type 0} (g : X → Y) (a : FinMap n.cmp X) → map.len (renamed {S = m.cmp} r.slot g a) ≡ 0 → map.len a ≡ 0
  len_back {X} {Y} g a h = ap map.len (map.same_map n.total n.exact a map.empty (λ q. none_back g (map.get a q) (sym (got g a q) ∙ ap (λ c. map.get c (r.slot q)) (map.empty_of_len (renamed {S = m.cmp} r.slot g a) h) ∙ map.get-empty m.cmp (r.slot q)) ∙ sym (map.get-empty n.cmp q))) ∙ map.len-empty n.cmp X

  fits_renamed : (x : World n) (older : State n) → Fits x older → Fits (renamed_world r x) (renamed_state r older)
  fits_renamed x older f =
      let y = renamed_world r x in
      record {
        serial = f.serial ∙ sym (count_alike r x.id.owner older);
        parent_older = λ p e. has_alike older p ∙ f.parent_older p e;
        alone = λ e. length_alike older ∙ f.alone e;
        inherits = λ p t e u. same_if (map.get y.copy t) (content_at (renamed_state r older) p t) (came r.value x.copy t) (content_came older p t) (λ k.
            let open_k : is_touched x k.0 ≡ false = sym (touched_alike r x k.0) ∙ ap (is_touched y) (sym k.1) ∙ u in
            ap (map.get y.copy) k.1 ∙ copy_alike r x k.0 ∙ ap (option_map r.value) (f.inherits p k.0 e open_k) ∙ sym (content_alike r older p k.0) ∙ ap (content_at (renamed_state r older) p) (sym k.1));
        kept = λ t c e w.
            let k = came (option_map r.value) x.first t (ap is_some e) in
            let d = which (option_map r.value) (map.get x.first k.0) c (sym (got (option_map r.value) x.first k.0) ∙ ap (map.get y.first) (sym k.1) ∙ e) in
            let unwritten : map.contains_key x.written k.0 ≡ false = sym (has_written r x k.0) ∙ ap (map.contains_key y.written) (sym k.1) ∙ w in
            ap (map.get y.copy) k.1 ∙ copy_alike r x k.0 ∙ ap (option_map r.value) (f.kept k.0 d.0 d.1.0 unwritten) ∙ sym d.1.1;
        absent = λ t cl row. same_if (map.get y.copy t) None (came r.value x.copy t) (λ e. absurd (false≢true e)) (λ k.
            ap (map.get y.copy) k.1 ∙ copy_alike r x k.0
            ∙ ap (option_map r.value) (f.absent k.0 (sym (ap (map.contains_key x.closed) (ap m.object k.1 ∙ r.object k.0)) ∙ cl) (sym (row_alike r x k.0) ∙ ap (has_row y) (sym k.1) ∙ row)));
        no_first = λ e. len_alike (option_map r.value) x.first (f.no_first e);
        no_written = λ e. len_alike (λ u. u) x.written (f.no_written e);
        no_closed = f.no_closed;
      }

  fits_back : (x : World n) (older : State n) → Fits (renamed_world r x) (renamed_state r older) → Fits x older
  fits_back x older f = record {
    serial = f.serial ∙ count_alike r x.id.owner older;
    parent_older = λ p e. sym (has_alike older p) ∙ f.parent_older p e;
    alone = λ e. sym (length_alike older) ∙ f.alone e;
    inherits = λ p s e u. map_tells r.value r.values_tell (map.get x.copy s) (content_at older p s) (sym (copy_alike r x s) ∙ f.inherits p (r.slot s) e (touched_alike r x s ∙ u) ∙ content_alike r older p s);
    kept = λ s c e w. map_tells r.value r.values_tell (map.get x.copy s) c (sym (copy_alike r x s) ∙ f.kept (r.slot s) (option_map r.value c) (got (option_map r.value) x.first s ∙ ap (option_map (option_map r.value)) e) (has_written r x s ∙ w));
    absent = λ s cl row. map_tells r.value r.values_tell (map.get x.copy s) None (sym (copy_alike r x s) ∙ f.absent (r.slot s) (ap (map.contains_key x.closed) (r.object s) ∙ cl) (row_alike r x s ∙ row));
    no_first = λ e. len_back (option_map r.value) x.first (f.no_first e);
    no_written = λ e. len_back (λ (u : Unit {0}). u) x.written (f.no_written e);
    no_closed = f.no_closed;
  }

  reached_renamed : (F : State n) → IsReached F → IsReached (renamed_state r F)
  reached_renamed [] h = h
  reached_renamed (x ∷ older) h = (fits_renamed x older h.0, reached_renamed older h.1)

  reached_back : (F : State n) → IsReached (renamed_state r F) → IsReached F
  reached_back [] h = h
  reached_back (x ∷ older) h = (fits_back x older h.0, reached_back older h.1)

-- a known reached state is reached under its names too
pub named_reached : {K V J W : Type 0} {n : Naming K V} {m : Naming J W} (r : Names n m) (F : State n) → Known r F → IsReached F → IsReached (named_state r F)
named_reached r F k h = reached_back (among r) (named_state r F) (subst IsReached (sym (shows r F k)) (reached_renamed (padding r) F h))
