-- An arena by content is as deep, has the same objects and answers the same as the one by number.
use Rattle.std.proofs.Common.{◌≡◌, ℕ, zero, suc, ◌+◌, Bool, true, false, cond, ◌&&◌, ◌==◌, T, List, [], ◌∷◌, length, map as each, Option, None, Some, refl, ap, sym, ◌∙◌, subst, Ordering}
use Rattle.std.specs.Prelude.{max}
use Rattle.std.specs.Option.{option_map, option_map_or, option_and_then}
use Rattle.std.specs.Ordering.{is_lt}
use Rattle.std.specs.FinMap as map
use Rattle.std.specs.FinMap.{FinMap}
use Rattle.std.specs.FinMap.Entries.{below_all}
use Rattle.std.proofs.lemmas.List.{length-map}
use Rattle.wjs_base.specs.declared.ids.ObjId.{ObjId}
use Rattle.wjs_base.specs.Order.{obj_cmp, obj_total, obj_exact}
use Rattle.wjs_base.specs.Text.{Table}
use Rattle.wjs_by_content.specs.Rename.{renamed}
use Rattle.wjs_by_content.proofs.Maps.{get_renamed, renamed_insert}
use Rattle.wjs_arena.specs.declared.object.Object.{Object as NumberedObject}
use Rattle.wjs_arena.specs.Entries as numbered
use Rattle.wjs_arena.specs.Entries.{Entry as NumberedEntry, Objects}
use Rattle.wjs_arena.specs.Chains.{chain_from}
use Rattle.wjs_arena.specs.Chains as numbered_chain
use Rattle.wjs_arena.specs.declared.class.Class.TheVariants as class
use Rattle.wjs_by_content.specs.Objects.{Entry, object_of, object_at, depth_at, depth_of, next_number, entry_of, created, chain_of, chain}
use Rattle.wjs_by_content.specs.Tables.{object_in, entry_in, arena_in}

-- ---- a map with other values under the same keys

module _ {X Y : Type 0} (g : X → Y) where
  below_same : (k : ObjId) (es : List (ObjId × X)) → below_all obj_cmp k (each (λ e. (e.0, g e.1)) es) ≡ below_all obj_cmp k es
  below_same k [] = refl
  below_same k (e ∷ es) = ap (λ b. is_lt (obj_cmp k e.0) && b) (below_same k es)

  sorted_same : (es : List (ObjId × X)) → map.is_sorted obj_cmp (each (λ e. (e.0, g e.1)) es) ≡ map.is_sorted obj_cmp es
  sorted_same [] = refl
  sorted_same (e ∷ es) = λ i. below_same e.0 es i && sorted_same es i

  entries_in : (m : FinMap obj_cmp X) → map.entries (renamed {S = obj_cmp} (λ o. o) g m) ≡ each (λ e. (e.0, g e.1)) (map.entries m)
  entries_in m =
      let es = each (λ (e : ObjId × X). (e.0, g e.1)) (map.entries m) in
      let rises : T (map.is_sorted obj_cmp es) = subst (λ b. T b) (sym (sorted_same (map.entries m))) (map.entries_sorted m) in
      ap map.entries (map.same_map obj_total obj_exact (map.from_entries {R = obj_cmp} es) (map.from_sorted {R = obj_cmp} es) (λ q. map.get-from_entries obj_total es q ∙ sym (map.get-from_sorted obj_cmp es q rises)))
      ∙ map.entries-from_sorted obj_cmp es rises

  get_in : (m : FinMap obj_cmp X) (o : ObjId) → map.get (renamed {S = obj_cmp} (λ o. o) g m) o ≡ option_map g (map.get m o)
  get_in m o = get_renamed obj_total obj_exact obj_total obj_exact (λ o. o) (λ a b e. e) g m o

  len_in : (m : FinMap obj_cmp X) → map.len (renamed {S = obj_cmp} (λ o. o) g m) ≡ map.len m
  len_in m = map.len-entries (renamed {S = obj_cmp} (λ o. o) g m) ∙ ap (λ (es : List (ObjId × Y)). length es) (entries_in m) ∙ length-map (map.entries m) (λ (e : ObjId × X). (e.0, g e.1)) ∙ sym (map.len-entries m)

  where_none : (b : Bool) (x : Option X) → option_map g (cond b x None) ≡ cond b (option_map g x) None
  where_none true x = refl
  where_none false x = refl

  retain_in : (m : FinMap obj_cmp X) (p : ObjId → Bool) → renamed {S = obj_cmp} (λ o. o) g (map.retain_keys m p) ≡ map.retain_keys (renamed {S = obj_cmp} (λ o. o) g m) p
  retain_in m p =
      let alike : (q x : ObjId) → obj_cmp q x ≡ Ordering.Equal → p x ≡ p q = λ q x t. ap p (sym (obj_exact q x t)) in
      map.same_map obj_total obj_exact (renamed {S = obj_cmp} (λ o. o) g (map.retain_keys m p)) (map.retain_keys (renamed {S = obj_cmp} (λ o. o) g m) p) (λ q.
      get_in (map.retain_keys m p) q ∙ ap (option_map g) (map.get-retain_keys m p q (alike q)) ∙ where_none (p q) (map.get m q)
      ∙ ap (λ (x : Option Y). cond (p q) x None) (sym (get_in m q)) ∙ sym (map.get-retain_keys (renamed {S = obj_cmp} (λ o. o) g m) p q (alike q)))

-- ---- the arena

module _ (texts : Table) (objects : Objects) where
  pub object_found : (o : ObjId) → map.get (arena_in texts objects) o ≡ option_map (entry_in texts) (map.get objects o)
  object_found o = get_in (entry_in texts) objects o

  prototype_if : (x : Option NumberedEntry) → (option_map_or (λ (e : Entry). e.object) (option_map (entry_in texts) x) (object_of class.Plain None)).prototype ≡ option_and_then (λ (e : NumberedEntry). e.object.prototype) x
  prototype_if None = refl
  prototype_if (Some e) = refl

  scope_if : (x : Option NumberedEntry) → (option_map_or (λ (e : Entry). e.object) (option_map (entry_in texts) x) (object_of class.Plain None)).scope ≡ option_and_then (λ (e : NumberedEntry). e.object.scope) x
  scope_if None = refl
  scope_if (Some e) = refl

  depth_if : (x : Option NumberedEntry) → option_map_or (λ (e : Entry). e.depth) (option_map (entry_in texts) x) 0 ≡ option_map_or (λ (e : NumberedEntry). e.depth) x 0
  depth_if None = refl
  depth_if (Some e) = refl

  pub prototype_same : (o : ObjId) → (object_at (arena_in texts objects) o).prototype ≡ numbered.prototype_of objects o
  prototype_same o = ap (λ (x : Option Entry). (option_map_or (λ (e : Entry). e.object) x (object_of class.Plain None)).prototype) (object_found o) ∙ prototype_if (map.get objects o)

  pub scope_same : (o : ObjId) → (object_at (arena_in texts objects) o).scope ≡ numbered.scope_of objects o
  scope_same o = ap (λ (x : Option Entry). (option_map_or (λ (e : Entry). e.object) x (object_of class.Plain None)).scope) (object_found o) ∙ scope_if (map.get objects o)

  pub depth_same : (o : ObjId) → depth_at (arena_in texts objects) o ≡ numbered.depth_at objects o
  depth_same o = ap (λ (x : Option Entry). option_map_or (λ (e : Entry). e.depth) x 0) (object_found o) ∙ depth_if (map.get objects o)

  depth_of_same : (o : Option ObjId) → depth_of (arena_in texts objects) o ≡ numbered.depth_of objects o
  depth_of_same None = refl
  depth_of_same (Some o) = depth_same o

  pub number_same : (owner : ℕ) → next_number (arena_in texts objects) owner ≡ numbered.next_number objects owner
  number_same owner =
      let e = ap map.len (sym (retain_in (entry_in texts) objects (λ o. o.owner == owner))) ∙ len_in (entry_in texts) (map.retain_keys objects (λ o. o.owner == owner)) in
      λ i. record { owner = owner; serial = e i }

  pub chain_of_same : (n : ℕ) (o : Option ObjId) → chain_of n (arena_in texts objects) o ≡ chain_from n objects o
  unfolding chain_from
  chain_of_same zero o = refl
  chain_of_same (suc n) None = refl
  chain_of_same (suc n) (Some o) = ap (λ (os : List ObjId). o ∷ os) (ap (chain_of n (arena_in texts objects)) (prototype_same o) ∙ chain_of_same n (numbered.prototype_of objects o))

  pub chain_same : (o : ObjId) → chain (arena_in texts objects) o ≡ numbered_chain.chain objects o
  chain_same o = ap (λ (n : ℕ). chain_of n (arena_in texts objects) (Some o)) (depth_same o) ∙ chain_of_same (numbered.depth_at objects o) (Some o)

  -- a created object
  pub created_same : (owner : ℕ) (x : NumberedObject) → arena_in texts (numbered.created objects owner x) ≡ created (arena_in texts objects) owner (object_in texts x)
  created_same owner x =
      let deep : entry_in texts (numbered.entry_over objects x) ≡ entry_of (arena_in texts objects) (object_in texts x) =
      λ i. record { object = object_in texts x; depth = max (sym (depth_of_same x.prototype) i) (sym (depth_of_same x.scope) i) + 1 } in
      renamed_insert obj_total obj_exact obj_total obj_exact (λ o. o) (λ a b e. e) (entry_in texts) objects (numbered.next_number objects owner) (numbered.entry_over objects x)
      ∙ (λ i. map.insert (arena_in texts objects) (sym (number_same owner) i) (deep i))
