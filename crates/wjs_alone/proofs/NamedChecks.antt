-- Marks, actions in one world, and its check, under the names of a table.
use Rattle.std.proofs.Common.{◌≡◌, ◌+◌, ◌==◌, true, false, cond, ◌&&◌, List, [], ◌∷◌, refl, ap, sym, ◌∙◌, subst, arith, map as each, Option, None, Some, is_some, is_none}
use Rattle.std.specs.Option.{option_map, option_map_or}
use Rattle.std.specs.FinMap as map
use Rattle.std.proofs.lemmas.Bool.{false≢true, eqb-true, false_from_ne_true}
use Rattle.wjs_base.specs.declared.ids.ObjId.{ObjId}
use Rattle.wjs_base.specs.declared.ids.WorldId.{WorldId}
use Rattle.wjs_base.specs.Text.{Table}
use Rattle.wjs_store.specs.Naming.{Naming, plain}
use Rattle.wjs_store.specs.Meaning.{View}
use Rattle.wjs_store.specs.State.{World, State, Act, read, write, list, commit, moved, differs, same_world, fault_in, moves, read_in, write_in, list_in, is_below, put, after_read, after_write, after_list, after}
use Rattle.wjs_store.proofs.Writes.{same_self}
use Rattle.wjs_by_content.specs.Rename.{renamed, shape}
use Rattle.wjs_by_content.specs.Renamed.{Names, Known, Knows, KnowsContent, KnownAct, named_world, named_state, named_act}
use Rattle.wjs_by_content.specs.Telling.{names_of}
use Rattle.wjs_by_content.proofs.Keys.{empty_entries}
use Rattle.wjs_by_content.proofs.RenamedKnown.{named_after, known_after, named_verdict}
use Rattle.wjs_session.specs.Session.{holding as session_holding, passes}
use Rattle.wjs_session.specs.Along.{write_each}
use Rattle.wjs_alone.specs.Views.{KnowsView}
use Rattle.wjs_alone.specs.Named.{ChecksByContent}
use Rattle.wjs_alone.proofs.OneAbove.{verdict_of_pair, commit_of_pair}

-- ---- a world of another number

abbrev pub another : WorldId → WorldId
another i = record { owner = i.owner + 1; serial = 0 }

apart : (i : WorldId) → same_world (another i) i ≡ false
apart i = ap (λ b. b && (0 == i.serial)) (false_from_ne_true ((i.owner + 1) == i.owner) (λ e. let h = eqb-true (i.owner + 1) i.owner e in omega (arith, h)))

pub heads : {A : Type 0} (a b : A) → a ∷ [] ≡ b ∷ [] → a ≡ b
heads a b e = cc

seconds : {A : Type 0} (a b c d : A) → a ∷ b ∷ [] ≡ c ∷ d ∷ [] → b ≡ d
seconds a b c d e = cc

none_by : {K J : Type 0} (o : Option K) (q : Option J) → shape (option_map_or differs q moved) ≡ shape (option_map_or differs o moved) → is_none q ≡ is_none o
none_by None None e = refl
none_by None (Some t) e = cc
none_by (Some s) None e = cc
none_by (Some s) (Some t) e = refl

-- ---- a world alone

module _ {K V : Type 0} {n : Naming K V} where
  alone_read : (x : World n) (s : K) → after_read (x ∷ []) x.id s ≡ read_in s x ∷ []
  unfolding after_read
  alone_read x s = ap (λ b. cond b (read_in s x) x ∷ []) (same_self x.id)

  alone_list : (x : World n) (o : ObjId) → after_list (x ∷ []) x.id o ≡ list_in o x ∷ []
  unfolding after_list
  alone_list x o = ap (λ b. cond b (list_in o x) x ∷ []) (same_self x.id)

  alone_write : (x : World n) (s : K) (c : Option V) → after_write (x ∷ []) x.id s c ≡ write_in s c x ∷ []
  unfolding after_write
  alone_write x s c = ap (λ b. cond b (write_in s c x) (cond (is_below x.id s (x ∷ []) x.id) (record x { copy = put x.copy s c }) x) ∷ []) (same_self x.id)

module _ {K V J W : Type 0} {n : Naming K V} {m : Naming J W} (r : Names n m) where
  pub known_head : (x : World n) (F : State n) → Known r (x ∷ F) → Knows r x
  known_head x F k = k.0

  known_tail : (x : World n) (F : State n) → Known r (x ∷ F) → Known r F
  known_tail x F k = k.1

  -- what an action leaves of a world alone
  alone_named : (x y : World n) (z : World m) (a : Act K V) → after (x ∷ []) a ≡ y ∷ [] → after (named_world r x ∷ []) (named_act r a) ≡ z ∷ [] → Knows r x → KnownAct r a → (named_world r y ≡ z) × Knows r y
  alone_named x y z a e f k b = (
    heads (named_world r y) z (sym (ap (named_state r) e) ∙ named_after r (x ∷ []) a (k, tt) b ∙ f),
    known_head y [] (subst (Known r) e (known_after r (x ∷ []) a (k, tt) b)),
  )

  pub read_named : (x : World n) (s : K) → Knows r x → r.knows s ≡ true → (named_world r (read_in s x) ≡ read_in (r.slot s) (named_world r x)) × Knows r (read_in s x)
  read_named x s k b = alone_named x (read_in s x) (read_in (r.slot s) (named_world r x)) (read x.id s) (alone_read x s) (alone_read (named_world r x) (r.slot s)) k b

  pub write_named : (x : World n) (s : K) (c : Option V) → Knows r x → (r.knows s ≡ true) × KnowsContent r c → (named_world r (write_in s c x) ≡ write_in (r.slot s) (option_map r.value c) (named_world r x)) × Knows r (write_in s c x)
  write_named x s c k b = alone_named x (write_in s c x) (write_in (r.slot s) (option_map r.value c) (named_world r x)) (write x.id s c) (alone_write x s c) (alone_write (named_world r x) (r.slot s) (option_map r.value c)) k b

  pub list_named : (x : World n) (o : ObjId) → Knows r x → (named_world r (list_in o x) ≡ list_in o (named_world r x)) × Knows r (list_in o x)
  list_named x o k = alone_named x (list_in o x) (list_in o (named_world r x)) (list x.id o) (alone_list x o) (alone_list (named_world r x) o) k tt

  named_empty : {X Y : Type 0} (g : X → Y) → renamed {S = m.cmp} r.slot g (map.empty {X = X} {R = n.cmp}) ≡ map.empty
  named_empty {X} {Y} g = ap (λ (es : List (K × X)). map.from_entries {R = m.cmp} (each (λ (e : K × X). (r.slot e.0, g e.1)) es)) (empty_entries n.cmp)

  -- ---- one world above another

  -- the check
  pub check_named : (x p : World n) → Knows r x → Knows r p → is_none (fault_in (named_world r x) (named_world r p)) ≡ is_none (fault_in x p)
  check_named x p kx kp =
      let y : World n = record x { id = another p.id; parent = Some p.id } in
      let ky : Knows r y = record { copy = kx.copy; first = kx.first; written = kx.written } in
      none_by (fault_in x p) (fault_in (named_world r x) (named_world r p))
      (sym (ap shape (verdict_of_pair (named_world r y) (named_world r p) refl (apart p.id)))
      ∙ named_verdict r (y ∷ p ∷ []) (another p.id) (ky, (kp, tt))
      ∙ ap shape (verdict_of_pair y p refl (apart p.id)))

  -- what is moved: it is a commit of the written slots alone
  pub moves_named : (d x : World n) → Knows r d → Knows r x → (named_world r (write_each (moves d) x) ≡ write_each (moves (named_world r d)) (named_world r x)) × Knows r (write_each (moves d) x)
  moves_named d x kd kx =
      let y : World n = record d { id = another x.id; parent = Some x.id; first = map.empty; closed = map.empty } in
      let ky : Knows r y = record { copy = kd.copy; first = λ s c e. absurd (false≢true (sym (ap is_some (map.get-empty n.cmp s)) ∙ ap is_some e)); written = kd.written } in
      let a = commit_of_pair y x refl (apart x.id) refl refl in
      let b = commit_of_pair (named_world r y) (named_world r x) refl (apart x.id) (named_empty (option_map r.value)) refl in
      let known = known_after r (y ∷ x ∷ []) (commit (another x.id)) (ky, (kx, tt)) tt in (
        seconds (named_world r a.first) (named_world r (write_each (moves d) x)) b.first (write_each (moves (named_world r d)) (named_world r x))
            (sym (ap (named_state r) a.is) ∙ named_after r (y ∷ x ∷ []) (commit (another x.id)) (ky, (kx, tt)) tt ∙ b.is),
        known_head (write_each (moves d) x) [] (known_tail a.first (write_each (moves d) x ∷ []) (subst (Known r) a.is known)),
      )

-- ---- over a first world that holds a view

module _ (t : Table) where
  holding_known : (i : WorldId) (v : View) → KnowsView t v → Knows (names_of t) (session_holding i v)
  holding_known i v k = record {
    copy = λ s x e. k s x e;
    first = λ s c e. absurd (false≢true (sym (ap is_some (map.get-empty plain.cmp s)) ∙ ap is_some e));
    written = λ s u e. absurd (false≢true (sym (ap is_some (map.get-empty plain.cmp s)) ∙ ap is_some e));
  }

pub checks_lem : ChecksByContent
unfolding passes
checks_lem t x v kx kv = check_named (names_of t) x (session_holding x.id v) kx (holding_known t x.id v kv)
