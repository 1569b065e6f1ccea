-- Fixed properties, attributes and the World object by content are those by number, where the names are known.
use Rattle.std.proofs.Common.{◌≡◌, ℕ, Bool, true, false, cond, List, [], ◌∷◌, Option, None, Some, refl, ap, ◌∙◌}
use Rattle.std.specs.Prelude.{unwrap_or, is_some, ◌||◌}
use Rattle.std.specs.Bool.{Decides}
use Rattle.std.specs.Cmp.{unsigned_Decides}
use Rattle.std.specs.Option.{option_map, option_map_or, option_and_then}
use Rattle.std.specs.FinMap as map
use Rattle.std.proofs.lemmas.Bool.Decides.{same_from_decides}
use Rattle.wjs_base.specs.declared.ids.ObjId.{ObjId}
use Rattle.wjs_base.specs.declared.ids.TextId.{TextId}
use Rattle.wjs_base.specs.declared.values.Name.{Name}
use Rattle.wjs_base.specs.declared.values.Name.TheVariants as name
use Rattle.wjs_base.specs.Text.{Table}
use Rattle.wjs_base.proofs.Options.{some_map}
use Rattle.wjs_arena.specs.declared.class.Class.TheVariants as class
use Rattle.wjs_arena.specs.declared.object.Object.{Object as NumberedObject}
use Rattle.wjs_arena.specs.AtName as numbered
use Rattle.wjs_arena.specs.Chains as numbered_chain
use Rattle.wjs_arena.specs.Entries.{Entry as NumberedEntry, Objects}
use Rattle.wjs_by_content.specs.Values.{same_text, text_Decides}
use Rattle.wjs_by_content.specs.Objects.{Entry, at_name, object_of, fixed, flags_in, flags, none_fixed, is_puttable, no_flags, hidden_kept_flags, listed_flags}
use Rattle.wjs_by_content.specs.Tables.{name_in, value_in, under_in, object_in, entry_in, arena_in, knows_name, knows_value, KnowsUnder, KnowsObject, KnowsArena}
use Rattle.wjs_by_content.specs.Telling.{names_tell}
use Rattle.wjs_by_content.proofs.ArenaMaps.{object_found, chain_same}

name_Decides : (a b : Name) → Decides (numbered.same_name a b) (a ≡ b)
name_Decides (name.Index m) (name.Index n) =
    let d = unsigned_Decides m n in
    (λ e. ap (λ (i : ℕ). name.Index i) (d.0 e), λ h. let e : m ≡ n = cc in d.1 e)
name_Decides (name.Text a) (name.Text b) =
    let d = unsigned_Decides a.0 b.0 in
    (λ e. ap (λ (i : ℕ). name.Text (record { 0 = i })) (d.0 e), λ h. let e : a ≡ b = cc in d.1 (ap (λ (i : TextId). i.0) e))
name_Decides (name.Index m) (name.Text b) = (λ e. cc, λ e. cc)
name_Decides (name.Text a) (name.Index n) = (λ e. cc, λ e. cc)

found_if : {A B : Type 0} (f : A → B) (b : Bool) (x : A) (o : Option A) → cond b (Some (f x)) (option_map f o) ≡ option_map f (cond b (Some x) o)
found_if f true x o = refl
found_if f false x o = refl

same_itself : {A : Type 0} (d : A) (o : Option A) → unwrap_or (option_map (λ x. x) o) d ≡ unwrap_or o d
same_itself d None = refl
same_itself d (Some x) = refl

module _ (texts : Table) where
  pub same_names : (a b : Name) → knows_name texts a ≡ true → knows_name texts b ≡ true → same_text (name_in texts a) (name_in texts b) ≡ numbered.same_name a b
  same_names a b k l =
      let d = text_Decides (name_in texts a) (name_in texts b) in
      same_from_decides (same_text (name_in texts a) (name_in texts b)) (numbered.same_name a b) ((λ e. names_tell texts a b k l (d.0 e)), (λ e. d.1 (ap (name_in texts) e))) (name_Decides a b)

  at_same : {A B : Type 0} (knows : A → Bool) (f : A → B) (xs : List (Name × A)) (n : Name) → KnowsUnder texts knows xs → knows_name texts n ≡ true → at_name (under_in texts f xs) (name_in texts n) ≡ option_map f (numbered.at_name xs n)
  at_same knows f [] n k l = refl
  at_same knows f (x ∷ xs) n k l =
      (λ i. cond (same_names x.0 n (k.0).0 l i) (Some (f x.1)) (at_same knows f xs n k.1 l i))
      ∙ found_if f (numbered.same_name x.0 n) x.1 (numbered.at_name xs n)

  listed_same : (x : NumberedObject) (n : Name) → KnowsObject texts x → knows_name texts n ≡ true → listed_flags (object_in texts x) (name_in texts n) ≡ numbered_chain.listed_flags x n
  listed_same x n k l = ap (λ o. unwrap_or o no_flags) (at_same (λ f. true) (λ f. f) x.flags n k.flags l) ∙ same_itself no_flags (numbered.at_name x.flags n)

  flags_in_same : (x : NumberedObject) (n : Name) → KnowsObject texts x → knows_name texts n ≡ true → flags_in (object_in texts x) (name_in texts n) ≡ numbered_chain.flags_in x n
  flags_in_same x n k l =
      let is = ap is_some (at_same (knows_value texts) (value_in texts) x.fixed n k.fixed l) ∙ some_map (value_in texts) (numbered.at_name x.fixed n) in
      let f = listed_same x n k l in
      λ i. cond (is i) hidden_kept_flags (record { hidden = (f i).hidden; kept = x.all_kept || (f i).kept })

  module _ (objects : Objects) (k : KnowsArena texts objects) where
    fixed_if : (o : ObjId) (x : Option NumberedEntry) → map.get objects o ≡ x → (n : Name) → knows_name texts n ≡ true
        → at_name (option_map_or (λ (e : Entry). e.object) (option_map (entry_in texts) x) (object_of class.Plain None)).fixed (name_in texts n) ≡ option_map (value_in texts) (option_and_then (λ (e : NumberedEntry). numbered.at_name e.object.fixed n) x)
    fixed_if o None e n l = refl
    fixed_if o (Some x) e n l = at_same (knows_value texts) (value_in texts) x.object.fixed n (k o x e).fixed l

    pub fixed_same : (o : ObjId) (n : Name) → knows_name texts n ≡ true → fixed (arena_in texts objects) o (name_in texts n) ≡ option_map (value_in texts) (numbered_chain.fixed objects o n)
    fixed_same o n l =
        ap (λ (x : Option Entry). at_name (option_map_or (λ (e : Entry). e.object) x (object_of class.Plain None)).fixed (name_in texts n)) (object_found texts objects o)
        ∙ fixed_if o (map.get objects o) refl n l

    flags_if : (o : ObjId) (x : Option NumberedEntry) → map.get objects o ≡ x → (n : Name) → knows_name texts n ≡ true
        → flags_in (option_map_or (λ (e : Entry). e.object) (option_map (entry_in texts) x) (object_of class.Plain None)) (name_in texts n) ≡ option_map_or (λ (e : NumberedEntry). numbered_chain.flags_in e.object n) x no_flags
    flags_if o None e n l = refl
    flags_if o (Some x) e n l = flags_in_same x.object n (k o x e) l

    pub flags_same : (o : ObjId) (n : Name) → knows_name texts n ≡ true → flags (arena_in texts objects) o (name_in texts n) ≡ numbered_chain.flags objects o n
    flags_same o n l =
        ap (λ (x : Option Entry). flags_in (option_map_or (λ (e : Entry). e.object) x (object_of class.Plain None)) (name_in texts n)) (object_found texts objects o)
        ∙ flags_if o (map.get objects o) refl n l

    none_same : (os : List ObjId) (n : Name) → knows_name texts n ≡ true → none_fixed (arena_in texts objects) os (name_in texts n) ≡ numbered_chain.none_fixed objects os n
    none_same [] n l = refl
    none_same (o ∷ os) n l =
        let is = ap is_some (fixed_same o n l) ∙ some_map (value_in texts) (numbered_chain.fixed objects o n) in
        λ i. cond (is i) false (none_same os n l i)

    pub puttable_same : (o : ObjId) (n : Name) → knows_name texts n ≡ true → is_puttable (arena_in texts objects) o (name_in texts n) ≡ numbered_chain.is_puttable objects o n
    puttable_same o n l = ap (λ (os : List ObjId). none_fixed (arena_in texts objects) os (name_in texts n)) (chain_same texts objects o) ∙ none_same (numbered_chain.chain objects o) n l
