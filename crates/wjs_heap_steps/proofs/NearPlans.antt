-- Plans that write only what is near answer by what is near, and keep worlds that hold no more.
use Rattle.std.proofs.Common.{◌≡◌, ℕ, zero, suc, ◌+◌, ◌-◌, Bool, true, false, not, ◌||◌, ◌++◌, List, [], ◌∷◌, Option, None, Some, refl, subst, filter, map as each}
use Rattle.std.specs.Prelude.{is_some, is_none, nat_le, nat_lt}
use Rattle.std.specs.List.{list_any}
use Rattle.wjs_base.specs.declared.ids.ObjId.{ObjId}
use Rattle.wjs_base.specs.declared.ids.WorldId.{WorldId}
use Rattle.wjs_store.specs.State.{State, after_read, after_write, after_list, content_at}
use Rattle.wjs_by_content.specs.Renamed.{Holds}
use Rattle.wjs_by_content.specs.Values.{Text, Value, Object, whole, same_text}
use Rattle.wjs_by_content.specs.Names.{Slot, slot, content, length_name, index_of, index_name}
use Rattle.wjs_by_content.specs.Objects.{Arena, object_at, depth_at, chain_of, chain, fixed, is_hidden, is_kept, is_puttable, is_array}
use Rattle.wjs_by_content.specs.Plans.{Plan, Gives, Reads, Writes, Lists, answer_of, worlds_after, names_at, then_plan}
use Rattle.wjs_by_content.specs.declared.answers.PutAnswer.{PutAnswer}
use Rattle.wjs_by_content.specs.Properties.{get_along, get, has, length_of, length_of_value, put_index, cut_each, is_index_within, cut_listed, cut, put_length, put_slot, put_in_array, put, delete, visits_along, visits}
use Rattle.wjs_props.proofs.Kept.{Within, within_read, within_write, within_list}

module _ (near : ObjId → Type 0) where
  -- the object that a value is, if it is one
  abbrev pub Near : Value → Type 0
  Near (Object o) = near o
  Near v = Unit {0}

  abbrev pub NearContent : Option Value → Type 0
  NearContent None = Unit {0}
  NearContent (Some v) = Near v

  -- what a present slot and its content name
  abbrev pub NearSlot : Slot → Value → Type 0
  NearSlot s v = near s.object × Near v

  -- the plan writes only what is near, and its answer is as said, where only what is near is found
  abbrev pub Reaches : {A : Type 0} → (A → Type 0) → Plan A → Type 0
  Reaches P (Gives a) = P a
  Reaches P (Reads s go) = (c : Option Value) → NearContent c → Reaches P (go c)
  Reaches P (Writes s c go) = (near s.object × NearContent c) × Reaches P go
  Reaches P (Lists o go) = (names : List Text) → Reaches P (go names)

  found_near : (F : State content) (w : WorldId) (s : Slot) → Within NearSlot F → NearContent (content_at F w s)
  found_near F w s h = by (content_at F w s) refl
    where
      by : (c : Option Value) → content_at F w s ≡ c → NearContent c
      by None e = tt
      by (Some v) e = (h w s v e).1

  of_some : (c : Option Value) (v : Value) → NearContent c → c ≡ Some v → Near v
  of_some None v h e = absurd (cc)
  of_some (Some u) v h e = let q : u ≡ v = cc in subst Near q h

  pub reached : {A : Type 0} (P : A → Type 0) (p : Plan A) (w : WorldId) (F : State content) → Reaches P p → Within NearSlot F → P (answer_of p w F) × Within NearSlot (worlds_after p w F)
  reached P (Gives a) w F r h = (r, h)
  reached P (Reads s go) w F r h = reached P (go (content_at F w s)) w (after_read F w s) (r (content_at F w s) (found_near F w s h)) (within_read NearSlot F w s h)
  reached P (Writes s c go) w F r h = reached P go w (after_write F w s c) r.1 (within_write NearSlot F w s c (λ v e. (r.0.0, of_some c v r.0.1 e)) h)
  reached P (Lists o go) w F r h = reached P (go (names_at F w o)) w (after_list F w o) (r (names_at F w o)) (within_list NearSlot F w o h)

  reaches_then : {A B : Type 0} (P : A → Type 0) (Q : B → Type 0) (go : A → Plan B) → ((a : A) → P a → Reaches Q (go a)) → (p : Plan A) → Reaches P p → Reaches Q (then_plan p go)
  reaches_then P Q go k (Gives a) r = k a r
  reaches_then P Q go k (Reads s next) r = λ c n. reaches_then P Q go k (next c) (r c n)
  reaches_then P Q go k (Writes s c next) r = (r.0, reaches_then P Q go k next r.1)
  reaches_then P Q go k (Lists o next) r = λ names. reaches_then P Q go k (next names) (r names)

  abbrev pub Any : {A : Type 0} → A → Type 0
  Any a = Unit {0}

  -- ---- along the prototypes

  -- what a near object names is near
  pub record Closed (arena : Arena) : Type 0 where
    pub prototypes : (o p : ObjId) → near o → (object_at arena o).prototype ≡ Some p → near p
    pub fixed_values : (o : ObjId) (name : Text) (v : Value) → near o → fixed arena o name ≡ Some v → Near v

  module _ (arena : Arena) (closed : Closed arena) where
    near_chain : (n : ℕ) (o : Option ObjId) → ((p : ObjId) → o ≡ Some p → near p) → Holds near (chain_of n arena o)
    near_chain zero o h = tt
    near_chain (suc n) None h = tt
    near_chain (suc n) (Some o) h = (h o refl, near_chain n (object_at arena o).prototype (λ p e. closed.prototypes o p (h o refl) e))

    one : (o p : ObjId) → near o → Some o ≡ Some p → near p
    one o p h e = let q : o ≡ p = cc in subst near q h

    chain_near : (o : ObjId) → near o → Holds near (chain arena o)
    chain_near o h = near_chain (depth_at arena o) (Some o) (λ p e. one o p h e)

    get_from : (os : List ObjId) (name : Text) → Holds near os → Reaches NearContent (get_along os arena name)
    get_from [] name h = tt
    get_from (o ∷ os) name h = by (get_along os arena name) (get_from os name h.1) (fixed arena o name) refl
      where
        found : (p : Plan (Option Value)) → Reaches NearContent p → (c : Option Value) → NearContent c → Reaches NearContent (elim c [ Some v ↦ Gives (Some v) | None ↦ p ])
        found p r None n = r
        found p r (Some v) n = n

        by : (p : Plan (Option Value)) → Reaches NearContent p → (r : Option Value) → fixed arena o name ≡ r → Reaches NearContent (elim r [ Some v ↦ Gives (Some v) | None ↦ Reads (slot o name) (λ found. elim found [ Some v ↦ Gives (Some v) | None ↦ p ]) ])
        by p r None e = found p r
        by p r (Some v) e = closed.fixed_values o name v h.0 e

    pub get_reaches : (o : ObjId) (name : Text) → near o → Reaches NearContent (get arena o name)
    get_reaches o name h = get_from (chain arena o) name (chain_near o h)

    pub has_reaches : (o : ObjId) (name : Text) → near o → Reaches Any (has arena o name)
    has_reaches o name h = reaches_then NearContent Any (λ found. Gives (is_some found)) (λ a n. tt) (get arena o name) (get_reaches o name h)

    slots_near : (o : ObjId) (names : List Text) → near o → Holds (λ s. near s.object) (each (slot o) names)
    slots_near o [] h = tt
    slots_near o (x ∷ xs) h = (h, slots_near o xs h)

    both_near : (xs ys : List Slot) → Holds (λ s. near s.object) xs → Holds (λ s. near s.object) ys → Holds (λ s. near s.object) (xs ++ ys)
    both_near [] ys h k = k
    both_near (x ∷ xs) ys h k = (h.0, both_near xs ys h.1 k)

    visits_from : (os : List ObjId) (seen : List Text) → Holds near os → Reaches (Holds (λ s. near s.object)) (visits_along os arena seen)
    visits_from [] seen h = tt
    visits_from (o ∷ os) seen h = λ names. reaches_then (Holds (λ s. near s.object)) (Holds (λ s. near s.object)) _
        (λ visits n. both_near (each (slot o) (filter (λ name. not (is_hidden arena o name || list_any (same_text name) seen)) names)) visits (slots_near o _ h.0) n)
        (visits_along os arena (seen ++ names ++ each (λ x. x.0) (object_at arena o).fixed)) (visits_from os _ h.1)

    pub visits_reaches : (o : ObjId) → near o → Reaches (Holds (λ s. near s.object)) (visits arena o)
    visits_reaches o h = visits_from (chain arena o) [] (chain_near o h)

  -- ---- writes

  module _ (o : ObjId) (h : near o) where
    index_reaches : (i : ℕ) (v : Value) → Near v → Reaches Any (put_index o i v)
    index_reaches i v n = λ old k. ((h, n), by (nat_lt i (length_of old)))
      where
        by : (b : Bool) → Reaches Any (elim b [ true ↦ Gives PutAnswer.Done | false ↦ Writes (slot o length_name) (Some (whole (i + 1))) (Gives PutAnswer.Done) ])
        by true = tt
        by false = ((h, tt), tt)

    cut_each_reaches : (k n : ℕ) → Reaches Any (cut_each k n o)
    cut_each_reaches zero n = tt
    cut_each_reaches (suc k) n = by (cut_each k (n + 1) o) (cut_each_reaches k (n + 1))
      where
        by : (p : Plan (Unit {0})) → Reaches Any p → (c : Option Value) → NearContent c → Reaches Any (elim c [ None ↦ p | Some v ↦ Writes (slot o (index_name n)) None p ])
        by p r None e = r
        by p r (Some v) e = ((h, tt), r)

    cut_listed_reaches : (names : List Text) (n m : ℕ) → Reaches Any (cut_listed names n m o)
    cut_listed_reaches [] n m = tt
    cut_listed_reaches (name ∷ names) n m = by (cut_listed names n m o) (cut_listed_reaches names n m) (is_index_within n m (index_of name))
      where
        by : (p : Plan (Unit {0})) → Reaches Any p → (b : Bool) → Reaches Any (elim b [ true ↦ Writes (slot o name) None p | false ↦ p ])
        by p r true = ((h, tt), r)
        by p r false = r

    cut_reaches : (n m : ℕ) → Reaches Any (cut n m o)
    cut_reaches n m = by (nat_le (m - n) 64)
      where
        by : (b : Bool) → Reaches Any (elim b [ true ↦ cut_each (m - n) n o | false ↦ Lists o (λ names. cut_listed names n m o) ])
        by true = cut_each_reaches (m - n) n
        by false = λ names. cut_listed_reaches names n m

    length_reaches : (n : Option ℕ) → Reaches Any (put_length o n)
    length_reaches None = tt
    length_reaches (Some n) = λ old k. reaches_then Any Any _ (λ a e. ((h, tt), tt)) (cut n (length_of old) o) (cut_reaches n (length_of old))

    array_reaches : (name : Text) (v : Value) → Near v → Reaches Any (put_in_array o name v)
    array_reaches name v n = by (index_of name)
      where
        other : (b : Bool) → Reaches Any (elim b [ true ↦ put_length o (length_of_value v) | false ↦ put_slot o name v ])
        other true = length_reaches (length_of_value v)
        other false = ((h, n), tt)

        by : (r : Option ℕ) → Reaches Any (elim r [ Some i ↦ put_index o i v | None ↦ elim (same_text name length_name) [ true ↦ put_length o (length_of_value v) | false ↦ put_slot o name v ] ])
        by None = other (same_text name length_name)
        by (Some i) = index_reaches i v n

    pub put_reaches : (arena : Arena) (name : Text) (v : Value) → Near v → Reaches Any (put arena o name v)
    put_reaches arena name v n = by (is_puttable arena o name)
      where
        other : (b : Bool) → Reaches Any (elim b [ true ↦ put_in_array o name v | false ↦ put_slot o name v ])
        other true = array_reaches name v n
        other false = ((h, n), tt)

        by : (b : Bool) → Reaches Any (elim b [ false ↦ Gives PutAnswer.Ignored | true ↦ elim (is_array arena o) [ true ↦ put_in_array o name v | false ↦ put_slot o name v ] ])
        by false = tt
        by true = other (is_array arena o)

    pub delete_reaches : (arena : Arena) (name : Text) → Reaches Any (delete arena o name)
    delete_reaches arena name = by (is_some (fixed arena o name))
      where
        kept : (b : Bool) → Reaches Any (elim b [ true ↦ Reads (slot o name) (λ found. Gives (is_none found)) | false ↦ Writes (slot o name) None (Gives true) ])
        kept true = λ c n. tt
        kept false = ((h, tt), tt)

        by : (b : Bool) → Reaches Any (elim b [ true ↦ Gives false | false ↦ elim (is_kept arena o name) [ true ↦ Reads (slot o name) (λ found. Gives (is_none found)) | false ↦ Writes (slot o name) None (Gives true) ] ])
        by true = tt
        by false = kept (is_kept arena o name)
