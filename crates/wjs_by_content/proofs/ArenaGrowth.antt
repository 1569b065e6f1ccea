-- A known arena stays as it is by content while the table grows.
use Rattle.std.proofs.Common.{◌≡◌, Bool, true, List, [], ◌∷◌, Option, None, Some, refl, sym, ◌∙◌}
use Rattle.std.specs.Option.{option_map}
use Rattle.std.specs.FinMap as map
use Rattle.wjs_base.specs.declared.ids.ObjId.{ObjId}
use Rattle.wjs_base.specs.declared.values.Name.{Name}
use Rattle.wjs_base.specs.Order.{obj_total, obj_exact}
use Rattle.wjs_base.specs.Text.{Table, Grows}
use Rattle.wjs_arena.specs.declared.object.Object.{Object as NumberedObject}
use Rattle.wjs_arena.specs.Entries.{Entry as NumberedEntry, Objects}
use Rattle.wjs_by_content.specs.Tables.{value_in, under_in, object_in, entry_in, arena_in, knows_value, KnowsUnder, KnowsObject, KnowsArena}
use Rattle.wjs_by_content.proofs.ArenaMaps.{object_found}
use Rattle.wjs_by_content.proofs.Growth.{name_grows, value_grows}

module _ (old new : Table) (g : Grows old new) where
  under_grows : {A B : Type 0} (knows more : A → Bool) (f h : A → B) → ((x : A) → knows x ≡ true → (more x ≡ true) × (h x ≡ f x)) → (xs : List (Name × A)) → KnowsUnder old knows xs → KnowsUnder new more xs × (under_in new h xs ≡ under_in old f xs)
  under_grows knows more f h same [] k = (tt, refl)
  under_grows knows more f h same (x ∷ xs) k =
      let n = name_grows old new g x.0 (k.0).0 in
      let v = same x.1 (k.0).1 in
      let rest = under_grows knows more f h same xs k.1 in
      (((n.0, v.0), rest.0), λ i. (n.1 i, v.1 i) ∷ rest.1 i)

  object_grows : (x : NumberedObject) → KnowsObject old x → KnowsObject new x × (object_in new x ≡ object_in old x)
  object_grows x k =
      let p = value_grows old new g x.primitive k.primitive in
      let f = under_grows (knows_value old) (knows_value new) (value_in old) (value_in new) (value_grows old new g) x.fixed k.fixed in
      let fl = under_grows (λ f. true) (λ f. true) (λ f. f) (λ f. f) (λ f e. (e, refl)) x.flags k.flags in (
        record { primitive = p.0; fixed = f.0; flags = fl.0 },
        λ i. record {
          class = x.class;
          prototype = x.prototype;
          scope = x.scope;
          code = x.code;
          primitive = p.1 i;
          world = x.world;
          fixed = f.1 i;
          flags = fl.1 i;
          all_kept = x.all_kept;
        },
      )

  module _ (objects : Objects) (k : KnowsArena old objects) where
    entry_grows : (o : ObjId) (x : Option NumberedEntry) → map.get objects o ≡ x → option_map (entry_in new) x ≡ option_map (entry_in old) x
    entry_grows o None e = refl
    entry_grows o (Some x) e = let s = (object_grows x.object (k o x e)).1 in λ i. Some (record { object = s i; depth = x.depth })

    pub arena_grows : KnowsArena new objects × (arena_in new objects ≡ arena_in old objects)
    arena_grows = (
      λ o x e. (object_grows x.object (k o x e)).0,
      map.same_map obj_total obj_exact (arena_in new objects) (arena_in old objects) (λ o. object_found new objects o ∙ entry_grows o (map.get objects o) refl ∙ sym (object_found old objects o)),
    )
