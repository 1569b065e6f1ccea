-- The sizes of marks, from the rows.
use Rattle.std.proofs.Common.{◌≡◌, ℕ, ◌+◌, Bool, true, false, cond, List, [], ◌∷◌, ◌++◌, length, Option, None, Some, is_some, filter, map as each, slice_get, refl, ap, sym, ◌∙◌, arith, suc, zero}
use Rattle.std.specs.Option.{option_map, option_and_then, is_none}
use Rattle.std.proofs.lemmas.Bool.{true≢false}
use Rattle.std.specs.FinMap as map
use Rattle.std.specs.FinMap.{FinMap}
use Rattle.wjs_base.specs.declared.values.Slot.{Slot}
use Rattle.wjs_base.specs.Order.{slot_cmp}
use Rattle.wjs_base.proofs.Options.{some_map}
use Rattle.wjs_store.specs.Naming.{plain}
use Rattle.wjs_store.specs.State.{World}
use Rattle.wjs_store.specs.Shown.{content_of, counts_of, Counts}
use Rattle.wjs_store.specs.declared.store.Counts.{Counts as Numbers}
use Rattle.wjs_layers.specs.declared.maps.Row.{Row}
use Rattle.wjs_layers.specs.declared.layer.Spot.{Spot}
use Rattle.wjs_layers.specs.declared.layer.Layer.{Layer}
use Rattle.wjs_layers.specs.Marks.{reads_in, writes_in}
use Rattle.wjs_layers.specs.Sparse.{read_of, mark_of, full_of, Keeps, IsSparse, IsAt}
use Rattle.wjs_layers.proofs.Looks.{world_at, keeps_at}
use Rattle.wjs_layers.proofs.SettleLaws.{entry_is, mark_keys, row_there}
use Rattle.wjs_layers.proofs.Full.{some_mark}
use Rattle.wjs_layers.proofs.Works.{length_if, length_each}

pub not_none : {A : Type 0} (o : Option A) → is_none o ≡ false → is_some o ≡ true
not_none None e = absurd (true≢false e)
not_none (Some a) e = refl

pub reads_push : (xs : List (Slot × Row)) (e : Slot × Row) → reads_in (xs ++ e ∷ []) ≡ reads_in xs + cond (is_some e.1.read) 1 0
reads_push [] e = omega arith
reads_push (x ∷ xs) e = let h : reads_in (xs ++ e ∷ []) ≡ reads_in xs + cond (is_some e.1.read) 1 0 = reads_push xs e in omega arith

pub writes_push : (xs : List (Slot × Row)) (e : Slot × Row) → writes_in (xs ++ e ∷ []) ≡ writes_in xs + cond e.1.written 1 0
writes_push [] e = omega arith
writes_push (x ∷ xs) e = let h : writes_in (xs ++ e ∷ []) ≡ writes_in xs + cond e.1.written 1 0 = writes_push xs e in omega arith

reads_length : (p : Slot → Bool) (es : List (Slot × Row)) → ((i : ℕ) (e : Slot × Row) → slice_get es i ≡ Some e → p e.0 ≡ is_some e.1.read) → length (filter p (each (λ (e : Slot × Row). e.0) es)) ≡ reads_in es
reads_length p [] f = refl
reads_length p (e ∷ es) f = length_if (p e.0) e.0 (filter p (each (λ (e : Slot × Row). e.0) es)) ∙ ap (λ b. cond b 1 0 + length (filter p (each (λ (e : Slot × Row). e.0) es))) (f zero e refl) ∙ ap (λ m. cond (is_some e.1.read) 1 0 + m) (reads_length p es (λ i d s. f (suc i) d s))

writes_length : (p : Slot → Bool) (es : List (Slot × Row)) → ((i : ℕ) (e : Slot × Row) → slice_get es i ≡ Some e → p e.0 ≡ e.1.written) → length (filter p (each (λ (e : Slot × Row). e.0) es)) ≡ writes_in es
writes_length p [] f = refl
writes_length p (e ∷ es) f = length_if (p e.0) e.0 (filter p (each (λ (e : Slot × Row). e.0) es)) ∙ ap (λ b. cond b 1 0 + length (filter p (each (λ (e : Slot × Row). e.0) es))) (f zero e refl) ∙ ap (λ m. cond e.1.written 1 0 + m) (writes_length p es (λ i d s. f (suc i) d s))

len_keys : {V : Type 0} (m : FinMap slot_cmp V) → map.len m ≡ length (map.keys m)
len_keys m = map.len-entries m ∙ sym (length_each (λ e. e.0) (map.entries m))

module _ (r : Layer) (x : World plain) (k : Keeps r x) where
  len_reads : map.len x.first ≡ reads_in (map.entries r.rows)
  len_reads = len_keys x.first ∙ ap length (mark_keys x.first r.rows (λ t h. row_there r x k read_of t (sym (ap is_some (k.first t)) ∙ h)))
      ∙ reads_length (λ s. is_some (map.get x.first s)) (map.entries r.rows) (λ i e s. ap is_some (k.first e.0 ∙ ap (option_and_then read_of) (entry_is r.rows i e s)) ∙ some_map content_of e.1.read)

  len_writes : map.len x.written ≡ writes_in (map.entries r.rows)
  len_writes = len_keys x.written ∙ ap length (mark_keys x.written r.rows (λ t h. row_there r x k mark_of t (sym (ap is_some (k.written t)) ∙ h)))
      ∙ writes_length (λ s. is_some (map.get x.written s)) (map.entries r.rows) (λ i e s. ap is_some (k.written e.0 ∙ ap (option_and_then mark_of) (entry_is r.rows i e s)) ∙ some_mark e.1.written)

pub counts_at : (layers : List Layer) (h : IsSparse layers) (at : Spot) (here : IsAt layers at) (r : Layer) (s : slice_get layers at.place ≡ Some r) (c : Numbers) → c.reads ≡ reads_in (map.entries r.rows) → c.writes ≡ writes_in (map.entries r.rows) → c.closed ≡ map.len r.closed → Counts (full_of layers) at.world c
counts_at layers h at here r s c a b d =
    let x = world_at layers h at here r s in
    let k = keeps_at layers h at here r s in
    let e = len_reads r x.0 k ∙ sym a in
    let f = len_writes r x.0 k ∙ sym b in
    let g = ap map.len k.closed ∙ sym d in
    let is : counts_of x.0 ≡ c = (λ i. record { reads = e i; writes = f i; closed = g i }) in
    ap (option_map counts_of) x.1 ∙ ap (λ n. Some n) is
