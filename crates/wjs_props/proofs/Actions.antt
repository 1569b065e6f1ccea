-- One action of the store of a heap.
use Rattle.std.proofs.Common.{◌≡◌, ℕ, ◌∷◌, [], Bool, true, List, Option, None, Some, refl, sym, ap, ◌∙◌, subst, IsTrue}
use Rattle.std.specs.Prelude.{map as each}
use Rattle.wjs_base.specs.declared.ids.ObjId.{ObjId}
use Rattle.wjs_base.specs.declared.ids.WorldId.{WorldId}
use Rattle.wjs_base.specs.declared.values.Content.{Content}
use Rattle.wjs_base.specs.declared.values.Content.TheVariants as contents
use Rattle.wjs_base.specs.declared.values.Name.{Name}
use Rattle.wjs_base.specs.declared.values.Slot.{Slot}
use Rattle.wjs_base.specs.declared.values.Value.{Value}
use Rattle.wjs_base.specs.declared.values.Value.TheVariants as value
use Rattle.wjs_base.specs.Order.{slot_cmp}
use Rattle.wjs_base.specs.Spelling.{IsName}
use Rattle.wjs_base.specs.Text.{Table, IsTable, Grows}
use Rattle.wjs_base.proofs.TextLaws.{Grows-refl, Grows-trans}
use Rattle.wjs_store.specs.State.{Act, slots_at, read, write, list, sprout, commit, found, wrote, listed, sprouted, committed, after, answer_to, has_world, content_at}
use Rattle.wjs_store.specs.Meaning.{Meaning, View, Worlds, PlainAct, PlainReply, Does, worlds}
use Rattle.wjs_store.specs.Shown.{content_of, slots_of, verdict_of}
use Rattle.wjs_store.specs.declared.store.Verdict.{Verdict}
use Rattle.wjs_store.proofs.Contents.{own_view_at}
use Rattle.wjs_by_content.specs.Ascends.{Ascends}
use Rattle.wjs_by_content.specs.Renamed.{Holds, KnowsContent}
use Rattle.wjs_by_content.specs.Rename.{shape}
use Rattle.wjs_by_content.proofs.Sorted.{slots_ascend}
use Rattle.wjs_arena.specs.Entries.{Objects}
use Rattle.wjs_by_content.specs.Names as content
use Rattle.wjs_by_content.specs.Values as values
use Rattle.wjs_by_content.specs.Plans.{Plan, Gives, Reads, Writes, Lists, Heard, Sprouted, Committed, heard, told_of}
use Rattle.wjs_by_content.specs.Tables.{slot_in, content_in, knows_slot, knows_value}
use Rattle.wjs_by_content.specs.Telling.{names_of}
use Rattle.wjs_by_content.specs.Worlds.{in_order, listing, worlds_in, act_in, heard_in, told_by, KnowsWorlds, KnowsAct}
use Rattle.wjs_by_content.specs.Carried.{Carries, tell}
use Rattle.wjs_by_content.proofs.Carrying.{carries_read, carries_write, carries_list, heard_so, told_so, worlds_so, knows_so}
use Rattle.wjs_by_content.proofs.Growth.{slot_grows, value_grows}
use Rattle.wjs_by_content.proofs.Known.{text_known, name_known}
use Rattle.wjs_by_content.proofs.Replies.{slots_grow}
use Rattle.wjs_heap.specs.Heap.{Parts, HasValue, HasContent, HasSlot, IsHeap, Performs}
use Rattle.wjs_heap.specs.Acts.{Acts, ActsBy}
use Rattle.wjs_heap.specs.Means.{nothing}
use Rattle.wjs_props.proofs.Kept.{Within, has_child, within_read, within_write, within_list, within_sprout, within_commit}
use Rattle.wjs_props.proofs.Listed.{listed_hold, names_hold}
use Rattle.wjs_heap.proofs.Told.{told_after}

-- ---- what is there is known

pub slot_knows : (texts t : Table) (arena : Objects) (s : Slot) → IsTable texts → Grows texts t → HasSlot texts arena s → knows_slot t s ≡ true
slot_knows texts t arena s table g has = (slot_grows texts t g s (name_known texts table s.name has.name)).0

pub value_knows : (texts : Table) (arena : Objects) (v : Value) → IsTable texts → HasValue texts arena v → knows_value texts v ≡ true
value_knows texts arena value.Undefined table has = refl
value_knows texts arena value.Null table has = refl
value_knows texts arena (value.Bool b) table has = refl
value_knows texts arena (value.Number x) table has = refl
value_knows texts arena (value.Text id) table has = text_known texts table id has
value_knows texts arena (value.Object o) table has = refl

content_knows : (texts t : Table) (arena : Objects) (c : Option Value) → IsTable texts → Grows texts t → HasContent texts arena c → KnowsContent (names_of t) c
content_knows texts t arena None table g has = tt
content_knows texts t arena (Some v) table g has = (value_grows texts t g v (value_knows texts arena v table has)).0

-- ---- one action

module _ (h : Parts) (new : Meaning) (heap : IsHeap h) (ok : IsTrue (new.admits new.own)) where
  -- what a present slot and its content name is there
  abbrev IsHeld : Slot → Value → Type 0
  IsHeld s v = HasSlot h.texts h.arena s × HasValue h.texts h.arena v

  heap_after : (a : PlainAct) (answer : PlainReply) → Does h.store a answer new → Within IsHeld (after (worlds h.store) a) → IsHeap (record { texts = h.texts; arena = h.arena; store = new })
  heap_after a answer does slots = record {
    table = heap.table;
    arena = heap.arena;
    objects = heap.objects;
    slots = λ i s v e. slots i s v (ap (λ (F : Worlds). content_at F i s) (sym (own_view_at h.store new a answer ok does).1) ∙ e);
  }

  -- what is known of the worlds under the old store's own view
  own_known : (a : PlainAct) (answer : PlainReply) → Does h.store a answer new → KnowsWorlds h.texts (worlds h.store) → KnowsWorlds h.texts (h.store.full new.own)
  own_known a answer does k = subst (λ v. KnowsWorlds h.texts (h.store.full v)) (sym does.own) k

  did : {A : Type 0} (w : WorldId) (a : PlainAct) (answer : PlainReply) (plan : Table → Plan A) (shows : Table → A) → Does h.store a answer new
      → ((t : Table) → Grows h.texts t → (v : View) → IsTrue (new.admits v) → KnowsWorlds t (h.store.full v) → Carries t w (plan t) (shows t) h.store new v)
      → KnowsAct h.texts a
      → ((t : Table) → Grows h.texts t → plan t ≡ plan h.texts)
      → ((t : Table) → Grows h.texts t → shows t ≡ shows h.texts)
      → Within IsHeld (after (worlds h.store) a)
      → Performs w plan shows h (record { texts = h.texts; arena = h.arena; store = new })
  did w a answer plan shows does carries known still alike slots = record {
    narrows = does.narrows;
    carries = λ t u g gu v ok k.
        let both = Grows-trans h.texts t u g gu in
        subst (λ p. Carries u w p (shows t) h.store new v) (still u both ∙ sym (still t g)) (subst (λ x. Carries u w (plan u) x h.store new v) (alike u both ∙ sym (alike t g)) (carries u both v ok k));
    marks = λ k. (carries h.texts (Grows-refl h.texts) new.own ok (own_known a answer does k)).knows;
    told = λ k. told_after h.texts h.store a answer new does ok (own_known a answer does k) known;
    texts = Grows-refl h.texts;
    arena = refl;
    own = does.own;
    around = does.around;
    still_there = does.still_there;
    heap = heap_after a answer does slots;
    spent = does.spent;
  }

  -- what names what is there is the same under a later table
  slot_still : (t : Table) → Grows h.texts t → (s : Slot) → HasSlot h.texts h.arena s → slot_in t s ≡ slot_in h.texts s
  slot_still t g s has = (slot_grows h.texts t g s (name_known h.texts heap.table s.name has.name)).1

  content_still : (t : Table) → Grows h.texts t → (c : Content) → HasContent h.texts h.arena (content_of c) → content_in t c ≡ content_in h.texts c
  content_still t g contents.Absent has = refl
  content_still t g (contents.Present v) has = ap (λ x. Some x) (value_grows h.texts t g v (value_knows h.texts h.arena v heap.table has)).1

  -- what a read found is what the slot holds
  found_at : (w : WorldId) (s : Slot) (c : Content) → Does h.store (read w s) (found (content_of c)) new → content_of c ≡ content_at (worlds h.store) w s
  found_at w s c does = is_found _ _ (own_view_at h.store new (read w s) (found (content_of c)) ok does).0
    where
      is_found : (a b : Option Value) → (let x : PlainReply = found a in let y : PlainReply = found b in x ≡ y) → a ≡ b
      is_found a b e = cc

  -- what a read found is there
  pub found_there : (w : WorldId) (s : Slot) (c : Content) → Does h.store (read w s) (found (content_of c)) new → HasContent h.texts h.arena (content_of c)
  found_there w s c does = by (content_of c) (found_at w s c does)
    where
      by : (c : Option Value) → c ≡ content_at (worlds h.store) w s → HasContent h.texts h.arena c
      by None e = tt
      by (Some v) e = (heap.slots w s v (sym e)).1

  -- so are the object and the name of a slot in which it found a value, and the value
  pub held_there : (w : WorldId) (s : Slot) (c : Content) (v : Value) → c ≡ contents.Present v → Does h.store (read w s) (found (content_of c)) new → HasSlot h.texts h.arena s × HasValue h.texts h.arena v
  held_there w s c v is does = heap.slots w s v (sym (found_at w s c does) ∙ ap content_of is)

  pub did_read : (w : WorldId) (s : Slot) (c : Content) → HasSlot h.texts h.arena s → Does h.store (read w s) (found (content_of c)) new
      → Performs w (λ t. Reads (slot_in t s) Gives) (λ t. content_in t c) h (record { texts = h.texts; arena = h.arena; store = new })
  did_read w s c has does = did w (read w s) (found (content_of c)) _ _ does
      (λ t g v ok k. carries_read t w s c h.store new does v ok k (slot_knows h.texts t h.arena s heap.table g has))
      (slot_knows h.texts h.texts h.arena s heap.table (Grows-refl h.texts) has)
      (λ t g. ap (λ (x : content.Slot). Reads x Gives) (slot_still t g s has))
      (λ t g. content_still t g c (found_there w s c does))
      (within_read IsHeld (worlds h.store) w s heap.slots)

  pub did_write : (w : WorldId) (s : Slot) (c : Content) → HasSlot h.texts h.arena s → HasContent h.texts h.arena (content_of c) → Does h.store (write w s (content_of c)) wrote new
      → Performs w (λ t. Writes (slot_in t s) (content_in t c) (Gives nothing)) (λ t. nothing) h (record { texts = h.texts; arena = h.arena; store = new })
  did_write w s c has there does = did w (write w s (content_of c)) wrote _ _ does
      (λ t g v ok k. carries_write t w s c h.store new does v ok k (slot_knows h.texts t h.arena s heap.table g has) (content_knows h.texts t h.arena (content_of c) heap.table g there))
      (slot_knows h.texts h.texts h.arena s heap.table (Grows-refl h.texts) has, content_knows h.texts h.texts h.arena (content_of c) heap.table (Grows-refl h.texts) there)
      (λ t g i. Writes (slot_still t g s has i) (content_still t g c there i) (Gives nothing))
      (λ t g. refl)
      (within_write IsHeld (worlds h.store) w s (content_of c) (λ v e. (has, subst (HasContent h.texts h.arena) e there)) heap.slots)

  -- what is listed is there, ascending
  listed_so : (w : WorldId) (o : ObjId) (names : List Name) → Does h.store (list w o) (listed (slots_of o names)) new → slots_at (worlds h.store) w o ≡ slots_of o names
  listed_so w o names does = sym (is_listed _ _ (own_view_at h.store new (list w o) (listed (slots_of o names)) ok does).0)
    where
      is_listed : (a b : List Slot) → (let x : PlainReply = listed a in let y : PlainReply = listed b in x ≡ y) → a ≡ b
      is_listed a b e = cc

  pub listed_there : (w : WorldId) (o : ObjId) (names : List Name) → Does h.store (list w o) (listed (slots_of o names)) new → Holds (IsName h.texts) names
  listed_there w o names does = names_hold h.texts o names (subst (Holds (λ s. IsName h.texts s.name)) (listed_so w o names does) (listed_hold (worlds h.store) w o (λ s. IsName h.texts s.name) (λ s v e. (heap.slots w s v e).0.name)))

  listing_still : (t : Table) → Grows h.texts t → (w : WorldId) (o : ObjId) (names : List Name) → Does h.store (list w o) (listed (slots_of o names)) new → listing t o names ≡ listing h.texts o names
  listing_still t g w o names does =
      let known : Slot → Type 0 = λ s. knows_slot h.texts s ≡ true in
      let all = listed_hold (worlds h.store) w o known (λ s v e. slot_knows h.texts h.texts h.arena s heap.table (Grows-refl h.texts) (heap.slots w s v e).0) in
      ap (λ (ss : List content.Slot). each (λ s. s.name) (in_order ss)) (slots_grow h.texts t g (slots_of o names) (subst (Holds known) (listed_so w o names does) all)).1

  pub did_list : (w : WorldId) (o : ObjId) (names : List Name) → Does h.store (list w o) (listed (slots_of o names)) new
      → Performs w (λ t. Lists o Gives) (λ t. listing t o names) h (record { texts = h.texts; arena = h.arena; store = new })
  did_list w o names does = did w (list w o) (listed (slots_of o names)) _ _ does
      (λ t g v ok k. carries_list t w o names h.store new does v ok k)
      tt
      (λ t g. refl)
      (λ t g. listing_still t g w o names does)
      (within_list IsHeld (worlds h.store) w o heap.slots)

  pub listed_ascends : (w : WorldId) (o : ObjId) (names : List Name) → Does h.store (list w o) (listed (slots_of o names)) new → Ascends slot_cmp (slots_of o names)
  listed_ascends w o names does = subst (Ascends slot_cmp) (listed_so w o names does) (slots_ascend (worlds h.store) w o)

  -- ---- other actions

  -- an action that names no texts
  acted : (a : PlainAct) (b : Act content.Slot values.Value) (answer : PlainReply) (shown : Heard) → ((t : Table) → act_in t a ≡ b) → ((t : Table) → heard_in t answer ≡ shown) → ((t : Table) → KnowsAct t a) → Does h.store a answer new
      → Within IsHeld (after (worlds h.store) a) → Acts b shown h (record { texts = h.texts; arena = h.arena; store = new })
  acted a b answer shown same alike known does slots = record {
    narrows = does.narrows;
    acts = λ u g. by u;
    marks = λ k. knows_so h.texts h.store a answer new does new.own ok (own_known a answer does k) (known h.texts);
    told = λ k. told_after h.texts h.store a answer new does ok (own_known a answer does k) (known h.texts);
    texts = refl;
    arena = refl;
    own = does.own;
    around = does.around;
    still_there = does.still_there;
    heap = heap_after a answer does slots;
    spent = does.spent;
  }
    where
      by : (t : Table) (v : View) → IsTrue (new.admits v) → KnowsWorlds t (h.store.full v) → ActsBy t b shown h.store new v
      by t v ok k = record {
        answers = sym (alike t) ∙ heard_so t h.store a answer new does v ok k (known t) ∙ ap (λ c. heard (answer_to (worlds_in t (h.store.full v)) c)) (same t);
        worlds = worlds_so t h.store a answer new does v ok k (known t) ∙ ap (after (worlds_in t (h.store.full v))) (same t);
        told = told_so t h.store a answer new does v ok k (known t) ∙ ap (λ c. tell (told_of (worlds_in t (h.store.full v)) c ∷ []) (told_by t h.store.told)) (same t);
        knows = knows_so t h.store a answer new does v ok k (known t);
      }

  pub did_sprout : (w : WorldId) (owner : ℕ) (strict : Bool) (child : WorldId) → IsTrue (has_world (worlds h.store) w) → Does h.store (sprout w owner strict) (sprouted child) new
      → Acts (sprout w owner strict) (Sprouted child) h (record { texts = h.texts; arena = h.arena; store = new })
  did_sprout w owner strict child there does = acted (sprout w owner strict) (sprout w owner strict) (sprouted child) (Sprouted child) (λ t. refl) (λ t. refl) (λ t. tt) does
      (within_sprout IsHeld (worlds h.store) w owner strict there heap.slots)

  -- the child is there
  pub child_there : (w : WorldId) (owner : ℕ) (strict : Bool) (child : WorldId) → IsTrue (has_world (worlds h.store) w) → Does h.store (sprout w owner strict) (sprouted child) new → IsTrue (has_world (worlds new) child)
  child_there w owner strict child there does =
      let both = own_view_at h.store new (sprout w owner strict) (sprouted child) ok does in
      (λ i. has_world (both.1 i) (is_child _ _ both.0 i)) ∙ has_child (worlds h.store) w owner strict there
    where
      is_child : (a b : WorldId) → (let x : PlainReply = sprouted a in let y : PlainReply = sprouted b in x ≡ y) → a ≡ b
      is_child a b e = cc

  pub did_commit : (w : WorldId) (verdict : Verdict) → Does h.store (commit w) (committed (verdict_of verdict)) new
      → Acts (commit w) (Committed (shape (verdict_of verdict))) h (record { texts = h.texts; arena = h.arena; store = new })
  did_commit w verdict does = acted (commit w) (commit w) (committed (verdict_of verdict)) (Committed (shape (verdict_of verdict))) (λ t. refl) (λ t. refl) (λ t. tt) does
      (within_commit IsHeld (worlds h.store) w heap.slots)
