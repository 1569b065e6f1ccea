-- Two objects that are made at once, of which the first may name the second.
use Rattle.std.proofs.Common.{◌≡◌, ℕ, ◌+◌, ◌<◌, [], ◌++◌, Bool, true, false, cond, ◌⊎◌, inl, inr, Option, None, Some, refl, sym, ap, ◌∙◌, subst, append-nil, IsTrue, arith}
use Rattle.std.specs.Prelude.{is_some}
use Rattle.std.specs.Option.{option_and_then}
use Rattle.std.specs.FinMap as map
use Rattle.std.specs.Ordering.{eq_by_cmp}
use Rattle.std.specs.Cmp.{Equal-is}
use Rattle.wjs_base.specs.declared.ids.ObjId.{ObjId}
use Rattle.wjs_base.specs.declared.ids.WorldId.{WorldId}
use Rattle.wjs_base.specs.Order.{obj_cmp, obj_total, obj_exact}
use Rattle.wjs_base.specs.Text.{Table, Grows}
use Rattle.wjs_base.proofs.TextLaws.{Grows-refl}
use Rattle.wjs_store.specs.Meaning.{Meaning}
use Rattle.wjs_arena.specs.declared.object.Code.TheVariants as code
use Rattle.wjs_arena.specs.declared.object.Object.{Object}
use Rattle.wjs_arena.specs.Entries.{Objects, Entry, IsArena, IsThere, Keeps, has, created as numbered_created, next_number as number_of_next, entry_over, scope_of}
use Rattle.wjs_arena.proofs.Owners.{key_itself}
use Rattle.wjs_by_content.specs.Objects.{Internals, created, next_number}
use Rattle.wjs_by_content.specs.Tables.{arena_in, object_in}
use Rattle.wjs_by_content.proofs.ArenaMaps.{number_same, created_same}
use Rattle.wjs_heap.specs.Heap.{HasNamed, IsHeap}
use Rattle.wjs_heap.specs.Means.{parts}
use Rattle.wjs_heap.proofs.Growing.{value_stays_there, named_stays_there}
use Rattle.wjs_meaning.specs.Deeds.{St, Do, Create, interp}
use Rattle.wjs_meaning.specs.Programs.{eval}
use Rattle.wjs_model.specs.declared.config.Config.{Config}
use Rattle.wjs_model.specs.Rest.{turns_act}
use Rattle.wjs_model.specs.Outside.{beside}
use Rattle.wjs_model.specs.Configurations.{state_in}
use Rattle.wjs_model.proofs.Beside.{number_beside, created_beside}
use Rattle.wjs_model.specs.Apart.{NamesNear}
use Rattle.wjs_model.specs.Soundness.{Base}
use Rattle.wjs_model.specs.Standing.{FunctionStands}
use Rattle.wjs_model.proofs.Standing.{code_kept}
use Rattle.wjs_frames.specs.Doing.{Does}
use Rattle.wjs_frames.specs.Following.{Later}
use Rattle.wjs_heap_steps.proofs.Composing.{does_then}
use Rattle.wjs_heap_steps.proofs.Making.{no_code}
use Rattle.wjs_heap_steps.proofs.Running.{Ran, does_ran, told_same}
use Rattle.wjs_heap_steps.proofs.Steps.{there_named}
use Rattle.wjs_heap_steps.proofs.Staying.{later_on}
use Rattle.wjs_calls.specs.TwoObjects.{second_number, NamesSecond, StandsSecond}

-- ---- numbers

module _ (arena mid : Objects) (owner : ℕ) (x : Object) (is : mid ≡ numbered_created arena owner x) where
  found : (o : ObjId) → map.get mid o ≡ cond (eq_by_cmp obj_cmp o (number_of_next arena owner)) (Some (entry_over arena x)) (map.get arena o)
  found o = ap (λ (m : Objects). map.get m o) is ∙ map.get-insert obj_total arena (number_of_next arena owner) (entry_over arena x) o

  -- an object that is there is the new one or an old one
  new_or_old : (o : ObjId) (e : Entry) → map.get mid o ≡ Some e → (entry_over arena x ≡ e) ⊎ (map.get arena o ≡ Some e)
  new_or_old o e q = by (eq_by_cmp obj_cmp o (number_of_next arena owner)) (sym (found o) ∙ q)
    where
      by : (b : Bool) → cond b (Some (entry_over arena x)) (map.get arena o) ≡ Some e → (entry_over arena x ≡ e) ⊎ (map.get arena o ≡ Some e)
      by true h = inl cc
      by false h = inr h

  here_by : (o : ObjId) (b : Bool) → eq_by_cmp obj_cmp o (number_of_next arena owner) ≡ b → IsTrue (is_some (cond b (Some (entry_over arena x)) (map.get arena o))) → (o ≡ number_of_next arena owner) ⊎ IsTrue (has arena o)
  here_by o true e h = inl (obj_exact o (number_of_next arena owner) ((Equal-is (obj_cmp o (number_of_next arena owner))).0 e))
  here_by o false e h = inr h

  here : (o : ObjId) → IsTrue (has mid o) → (o ≡ number_of_next arena owner) ⊎ IsTrue (has arena o)
  here o h = here_by o (eq_by_cmp obj_cmp o (number_of_next arena owner)) refl (subst (λ (r : Option Entry). IsTrue (is_some r)) (found o) h)

  no_gap : IsArena arena → IsArena mid → (number_of_next arena owner).serial + 1 < (number_of_next mid owner).serial → ⊥
  no_gap a b lt =
      let o : ObjId = second_number arena owner in
      elim (here o ((b.serials o).1 lt)) [
        | inl e ↦ let same : o.serial ≡ (number_of_next arena owner).serial = ap (λ (p : ObjId). p.serial) e in absurd (omega (arith, same))
        | inr h ↦ let less : o.serial < (number_of_next arena owner).serial = (a.serials o).0 h in absurd (omega (arith, less))
      ]

  counts : (n m : ℕ) → n < m → (n + 1 < m → ⊥) → m ≡ n + 1
  counts n m h k = omega arith

  -- the number after that of the new one
  number_after : IsArena arena → IsArena mid → IsTrue (has mid (number_of_next arena owner)) → number_of_next mid owner ≡ second_number arena owner
  number_after a b there =
      let e = counts (number_of_next arena owner).serial (number_of_next mid owner).serial ((b.serials (number_of_next arena owner)).0 there) (no_gap a b) in
      λ i. record { owner = owner; serial = e i }

has_more : (old new : Objects) → Keeps old new → (o : ObjId) → IsTrue (has old o) → IsTrue (has new o)
has_more old new keeps o h = by (map.get old o) refl h
  where
    by : (r : Option Entry) → map.get old o ≡ r → IsTrue (is_some r) → IsTrue (has new o)
    by None q k = absurd (cc)
    by (Some e) q k = ap is_some (keeps o e q)

keeps_twice : (old mid new : Objects) → Keeps old mid → Keeps mid new → Keeps old new
keeps_twice old mid new f s o e h = s o e (f o e h)

-- ---- what is named is there

pub named_still : (old new : Objects) → Keeps old new → (o : Option ObjId) → IsThere old o → IsThere new o
named_still old new keeps None h = tt
named_still old new keeps (Some o) h = has_more old new keeps o h

-- ---- deeds

state_as : (a b : St) → a.full ≡ b.full → a.arena ≡ b.arena → a.out ≡ b.out → a.done ≡ b.done → a ≡ b
state_as a b f m o d = λ i. record { full = f i; arena = m i; out = o i; done = d i }

-- with other objects
abbrev pub with_objects : {S : Type 0} → Config S → Objects → Config S
with_objects c arena = record c { heap = record c.heap { arena = arena } }

module _ {S : Type 0} (meaning : S → Meaning) where
  -- one object more, whatever it names
  ran_made : (internals : Table → Internals) (x : Object) (old : Config S) (arena : Objects) → arena ≡ numbered_created old.heap.arena old.owner x → Keeps old.heap.arena arena → IsThere old.heap.arena x.prototype → IsThere old.heap.arena x.scope → ((t : Table) → Grows old.heap.texts t → object_in t x ≡ internals t)
      → Ran meaning (λ t go. Do (Create old.owner (internals t)) go) (λ t. number_of_next old.heap.arena old.owner) old (with_objects old arena)
  ran_made internals x old arena is keeps on in_scope e = record {
    same = refl;
    stays = record {
      units = refl;
      global = refl;
      world = refl;
      owner = refl;
      apart = refl;
      texts = Grows-refl old.heap.texts;
      objects = keeps;
      made = λ o y h k. made_by o y h (eq_by_cmp obj_cmp o (number_of_next old.heap.arena old.owner)) refl (sym (found old.heap.arena arena old.owner x is o) ∙ k);
      own = refl;
      around = refl;
      narrows = λ v a. a;
    };
    by = λ t gt v gv a k.
        let st = state_in meaning t v old in
        let grown : created st.arena old.owner (internals t) ≡ beside (arena_in t arena) v.more =
        ap (created st.arena old.owner) (sym (e t gt))
        ∙ created_beside (arena_in t old.heap.arena) v.more old.owner a.further.apart (object_in t x) (there_named t old.heap.arena x.prototype on) (there_named t old.heap.arena x.scope in_scope)
        ∙ ap (λ m. beside m v.more) (sym (created_same t old.heap.arena old.owner x) ∙ sym (ap (arena_in t) is)) in
        let leaves : record st { arena = created st.arena old.owner (internals t) } ≡ record (state_in meaning t v (with_objects old arena)) { done = st.done ++ [] } = state_as _ _ refl grown refl (sym (append-nil st.done)) in
        let number : next_number st.arena old.owner ≡ number_of_next old.heap.arena old.owner = number_beside (arena_in t old.heap.arena) v.more old.owner a.further.apart ∙ number_same t old.heap.arena old.owner in
        record {
          acts = [];
          knows = k;
          told = told_same v.texts (meaning old.heap.store).told;
          runs = λ go n i. interp eval (go (number i)) (leaves i) n;
          counts = λ go m i. turns_act (go (number i)) (leaves i) m;
        };
  }
    where
      none_some : (o : ObjId) (y : Entry) → map.get old.heap.arena o ≡ None → map.get old.heap.arena o ≡ Some y → ⊥
      none_some o y h k = cc

      made_by : (o : ObjId) (y : Entry) → map.get old.heap.arena o ≡ None → (b : Bool) → eq_by_cmp obj_cmp o (number_of_next old.heap.arena old.owner) ≡ b → cond b (Some (entry_over old.heap.arena x)) (map.get old.heap.arena o) ≡ Some y → o.owner ≡ old.owner
      made_by o y h true q k = ap (λ (p : ObjId). p.owner) (obj_exact o (number_of_next old.heap.arena old.owner) ((Equal-is (obj_cmp o (number_of_next old.heap.arena old.owner))).0 q))
      made_by o y h false q k = absurd (none_some o y h k)

  module _ (x y : Object) (old : Config S) (mid new : Objects) (is_mid : mid ≡ numbered_created old.heap.arena old.owner x) (is_new : new ≡ numbered_created mid old.owner y) (keeps_mid : Keeps old.heap.arena mid) (keeps_new : Keeps mid new) where
    -- the two deeds
    pub does_pair : (first : Table → Internals) (second : Table → ObjId → Internals) → ((t : Table) → Grows old.heap.texts t → object_in t x ≡ first t) → ((t : Table) → Grows old.heap.texts t → object_in t y ≡ second t (number_of_next old.heap.arena old.owner))
        → IsThere old.heap.arena x.prototype → IsThere old.heap.arena x.scope → IsThere mid y.prototype → IsThere mid y.scope
        → Does meaning (λ t go. Do (Create old.owner (first t)) (λ s. Do (Create old.owner (second t s)) go)) (λ t. number_of_next mid old.owner) old (with_objects old new)
    does_pair first second one two on in_scope on_second in_second =
        let s = number_of_next old.heap.arena old.owner in
        does_then meaning (λ t go. Do (Create old.owner (first t)) go) (λ t. s) (λ t o go. Do (Create old.owner (second t o)) go) (λ t. number_of_next mid old.owner) old (with_objects old mid) (with_objects old new)
        (does_ran meaning _ _ old (with_objects old mid) (ran_made first x old mid is_mid keeps_mid on in_scope one))
        (does_ran meaning _ _ (with_objects old mid) (with_objects old new) (ran_made (λ t. second t s) y (with_objects old mid) new is_new keeps_new on_second in_second two))

    keeps : Keeps old.heap.arena new
    keeps = keeps_twice old.heap.arena mid new keeps_mid keeps_new

    more : (o : ObjId) → IsTrue (has old.heap.arena o) → IsTrue (has new o)
    more = has_more old.heap.arena new keeps

    -- the first leads outwards
    first_outwards : scope_of new (number_of_next old.heap.arena old.owner) ≡ x.scope
    first_outwards =
        let o = number_of_next old.heap.arena old.owner in
        ap (option_and_then (λ (e : Entry). e.object.scope)) (keeps_new o (entry_over old.heap.arena x) (found old.heap.arena mid old.owner x is_mid o ∙ ap (λ b. cond b (Some (entry_over old.heap.arena x)) (map.get old.heap.arena o)) (key_itself o)))

    -- the second is there under its number
    pub second_there : (one two : ObjId) → IsArena old.heap.arena → IsArena mid → one ≡ number_of_next old.heap.arena old.owner → IsTrue (has mid one) → two ≡ number_of_next mid old.owner → IsTrue (has new two) → IsTrue (has new (second_number old.heap.arena old.owner))
    second_there one two a b first there second is = subst (λ o. IsTrue (has new o)) (second ∙ number_after old.heap.arena mid old.owner x is_mid a b (subst (λ o. IsTrue (has mid o)) first there)) is

    -- the heap is one
    heap_pair : IsHeap (parts meaning old.heap) → IsArena new → HasNamed old.heap.texts new x → HasNamed old.heap.texts new y → IsHeap (parts meaning (with_objects old new).heap)
    heap_pair heap arena one two = record {
      table = heap.table;
      arena = arena;
      objects = λ o e q. elim (new_or_old mid new old.owner y is_new o e q) [
        | inl same ↦ subst (λ (z : Entry). HasNamed old.heap.texts new z.object) same two
        | inr q' ↦ elim (new_or_old old.heap.arena mid old.owner x is_mid o e q') [
          | inl same ↦ subst (λ (z : Entry). HasNamed old.heap.texts new z.object) same one
          | inr q'' ↦ named_stays_there old.heap.texts old.heap.arena new more e.object (heap.objects o e q'')
        ]
      ];
      slots = λ i s v q. let both = heap.slots i s v q in (record { object = more s.object both.0.object; name = both.0.name }, value_stays_there old.heap.texts old.heap.arena new more v both.1);
    }

    no_world : (z : Object) (e : Entry) (w : WorldId) (arena : Objects) → z.world ≡ None → entry_over arena z ≡ e → e.object.world ≡ Some w → ⊥
    no_world z e w arena none same is = let q : z.world ≡ Some w = ap (λ (r : Entry). r.object.world) same ∙ is in cc

    -- and all that was there is there
    pub later_pair : Base meaning old → IsArena new → NamesSecond old.heap.texts old.heap.arena old.owner x → NamesSecond old.heap.texts old.heap.arena old.owner y → IsTrue (has new (second_number old.heap.arena old.owner)) → NamesNear old.apart.items x → NamesNear old.apart.items y → x.world ≡ None → y.world ≡ None → x.code ≡ code.None → StandsSecond old.units.items old.heap.arena old.owner x y → Later meaning old (with_objects old new)
    later_pair b arena one two there near_x near_y none_x none_y no_function stands = later_on meaning old (with_objects old new).heap (Grows-refl old.heap.texts) keeps (λ w h. h) b (heap_pair b.heap arena (one new more there) (two new more there)) b.marks b.told b.works
        (λ o e w q k l. elim (new_or_old mid new old.owner y is_new o e q) [
          | inl same ↦ absurd (no_world y e w mid none_y same k)
          | inr q' ↦ elim (new_or_old old.heap.arena mid old.owner x is_mid o e q') [
            | inl same ↦ absurd (no_world x e w old.heap.arena none_x same k)
            | inr q'' ↦ b.own_worlds o e w q'' k l
          ]
        ])
        (record {
          worlds_own = b.worlds_own;
          worlds_by = λ o e w q k. elim (new_or_old mid new old.owner y is_new o e q) [
            | inl same ↦ absurd (no_world y e w mid none_y same k)
            | inr q' ↦ elim (new_or_old old.heap.arena mid old.owner x is_mid o e q') [
              | inl same ↦ absurd (no_world x e w old.heap.arena none_x same k)
              | inr q'' ↦ b.worlds_by o e w q'' k
            ]
          ];
          objects = λ o e q h. elim (new_or_old mid new old.owner y is_new o e q) [
            | inl same ↦ subst (λ (z : Entry). NamesNear old.apart.items z.object) same near_y
            | inr q' ↦ elim (new_or_old old.heap.arena mid old.owner x is_mid o e q') [
              | inl same ↦ subst (λ (z : Entry). NamesNear old.apart.items z.object) same near_x
              | inr q'' ↦ b.near_objects o e q'' h
            ]
          ];
          slots = b.near_slots;
          functions = λ o e q. elim (new_or_old mid new old.owner y is_new o e q) [
            | inl same ↦ subst (λ (z : Entry). FunctionStands old.units.items new z.object.code z.object.scope) same (stands new keeps first_outwards)
            | inr q' ↦ elim (new_or_old old.heap.arena mid old.owner x is_mid o e q') [
              | inl same ↦ subst (λ (z : Entry). FunctionStands old.units.items new z.object.code z.object.scope) same (no_code old.units.items new x x.scope no_function)
              | inr q'' ↦ code_kept old.heap.arena new keeps old.units.items e.object.code e.object.scope (b.functions o e q'')
            ]
          ];
        })
