-- Marks under the names of a table: one action after another.
use Rattle.std.proofs.Common.{◌≡◌, Bool, true, false, cond, ◌&&◌, List, [], ◌∷◌, refl, ap, sym, ◌∙◌, subst, map as each, Option, None, Some, is_some, is_none}
use Rattle.std.specs.Option.{option_map, option_map_or, option_and_then}
use Rattle.std.proofs.lemmas.Bool.{false≢true}
use Rattle.wjs_base.specs.declared.ids.WorldId.{WorldId}
use Rattle.wjs_store.specs.Naming.{Naming}
use Rattle.wjs_store.specs.State.{World, State, Act, read, write, list, sprout, commit, same_world, find_world, fault_in, moves, read_in, write_in, with_parent, after}
use Rattle.wjs_store.proofs.Commits.{pair_parts}
use Rattle.wjs_by_content.specs.Renamed.{Names, Holds, Known, Knows, KnownAct, named_world, named_state, named_act}
use Rattle.wjs_by_content.specs.Telling.{names_of}
use Rattle.wjs_by_content.proofs.RenamedKnown.{named_after, known_after}
use Rattle.wjs_session.specs.Along.{moved_into, write_each, marked_by, along}
use Rattle.wjs_alone.specs.Named.{MarksByContent}
use Rattle.wjs_alone.proofs.NamedMaps.{map_if}
use Rattle.wjs_alone.proofs.NamedChecks.{read_named, write_named, list_named, check_named, moves_named}

module _ {K V J W : Type 0} {n : Naming K V} {m : Naming J W} (r : Names n m) where
  -- ---- worlds by number

  find_named : (F : State n) (w : WorldId) → find_world (named_state r F) w ≡ option_map (named_world r) (find_world F w)
  unfolding find_world
  find_named [] w = refl
  find_named (x ∷ F) w = ap (cond (same_world x.id w) (Some (named_world r x))) (find_named F w) ∙ sym (map_if (named_world r) (same_world x.id w) x (find_world F w))

  known_found : (F : State n) (w : WorldId) (x : World n) → Known r F → find_world F w ≡ Some x → Knows r x
  unfolding find_world
  known_found [] w x k h = absurd (false≢true (ap is_some h))
  known_found (y ∷ F) w x k h = by (same_world y.id w) h (λ e. known_found F w x k.1 e)
    where
      by : (b : Bool) → cond b (Some y) (find_world F w) ≡ Some x → (find_world F w ≡ Some x → Knows r x) → Knows r x
      by true e f = let same : y ≡ x = cc in subst (Knows r) same k.0
      by false e f = f e

  abbrev both : World n × World n → World m × World m
  both e = (named_world r e.0, named_world r e.1)

  pair_found : (x : World n) (o : Option (World n)) → option_map (λ p. (named_world r x, p)) (option_map (named_world r) o) ≡ option_map both (option_map (λ p. (x, p)) o)
  pair_found x None = refl
  pair_found x (Some p) = refl

  pair_by : (F : State n) (x : World n) (o : Option WorldId) → option_map (λ p. (named_world r x, p)) (option_and_then (find_world (named_state r F)) o) ≡ option_map both (option_map (λ p. (x, p)) (option_and_then (find_world F) o))
  pair_by F x None = refl
  pair_by F x (Some i) = ap (option_map (λ p. (named_world r x, p))) (find_named F i) ∙ pair_found x (find_world F i)

  with_found : (F : State n) (o : Option (World n)) → option_and_then (λ (x : World m). option_map (λ p. (x, p)) (option_and_then (find_world (named_state r F)) x.parent)) (option_map (named_world r) o) ≡ option_map both (option_and_then (λ (x : World n). option_map (λ p. (x, p)) (option_and_then (find_world F) x.parent)) o)
  with_found F None = refl
  with_found F (Some x) = pair_by F x x.parent

  with_named : (F : State n) (w : WorldId) → with_parent (named_state r F) w ≡ option_map both (with_parent F w)
  unfolding with_parent
  with_named F w = ap (option_and_then (λ (x : World m). option_map (λ p. (x, p)) (option_and_then (find_world (named_state r F)) x.parent))) (find_named F w) ∙ with_found F (find_world F w)

  -- ---- a commit

  moved_named : (G : State n) (x : World n) (d : WorldId) → Known r G → Knows r x → (named_world r (write_each (moved_into x.id G d) x) ≡ write_each (moved_into x.id (named_state r G) d) (named_world r x)) × Knows r (write_each (moved_into x.id G d) x)
  moved_named G x d kg kx =
      let b = by (with_parent G d) refl in
      (b.0 ∙ ap (λ o. write_each (option_map_or (λ (e : World m × World m). cond (same_world e.1.id x.id && is_none (fault_in e.0 e.1)) (moves e.0) []) o []) (named_world r x)) (sym (with_named G d)), b.1)
    where
      by : (o : Option (World n × World n)) → with_parent G d ≡ o → (named_world r (write_each (option_map_or (λ (e : World n × World n). cond (same_world e.1.id x.id && is_none (fault_in e.0 e.1)) (moves e.0) []) o []) x) ≡ write_each (option_map_or (λ (e : World m × World m). cond (same_world e.1.id x.id && is_none (fault_in e.0 e.1)) (moves e.0) []) (option_map both o) []) (named_world r x)) × Knows r (write_each (option_map_or (λ (e : World n × World n). cond (same_world e.1.id x.id && is_none (fault_in e.0 e.1)) (moves e.0) []) o []) x)
      by None e = (refl, kx)
      by (Some p) e =
          let parts = pair_parts G d p e in
          let kc = known_found G d p.0 kg parts.0 in
          let kp = known_found G parts.1 p.1 kg parts.3 in
          let l = last kc (same_world p.1.id x.id && is_none (fault_in p.0 p.1)) in
          (l.0 ∙ ap (λ c. write_each (cond (same_world p.1.id x.id && c) (moves (named_world r p.0)) []) (named_world r x)) (sym (check_named r p.0 p.1 kc kp)), l.1)
        where
          last : Knows r p.0 → (c : Bool) → (named_world r (write_each (cond c (moves p.0) []) x) ≡ write_each (cond c (moves (named_world r p.0)) []) (named_world r x)) × Knows r (write_each (cond c (moves p.0) []) x)
          last k true = moves_named r p.0 x k kx
          last k false = (refl, kx)

  -- ---- one action after another

  step_named : (G : State n) (x : World n) (a : Act K V) → Known r G → Knows r x → KnownAct r a → (named_world r (marked_by G x a) ≡ marked_by (named_state r G) (named_world r x) (named_act r a)) × Knows r (marked_by G x a)
  step_named G x (read d s) kg kx ka = read_named r x s kx ka
  step_named G x (write d s c) kg kx ka = by (same_world d x.id)
    where
      by : (b : Bool) → (named_world r (cond b (write_in s c x) (read_in s x)) ≡ cond b (write_in (r.slot s) (option_map r.value c) (named_world r x)) (read_in (r.slot s) (named_world r x))) × Knows r (cond b (write_in s c x) (read_in s x))
      by true = write_named r x s c kx ka
      by false = read_named r x s kx ka.0
  step_named G x (list d o) kg kx ka = list_named r x o kx
  step_named G x (sprout d owner strict) kg kx ka = (refl, kx)
  step_named G x (commit d) kg kx ka = moved_named G x d kg kx

  along_named : (actions : List (Act K V)) (G : State n) (x : World n) → Known r G → Knows r x → Holds (KnownAct r) actions → along (each (named_act r) actions) (named_state r G) (named_world r x) ≡ (named_state r (along actions G x).0, named_world r (along actions G x).1)
  along_named [] G x kg kx ka = refl
  along_named (a ∷ actions) G x kg kx ka =
      let s = step_named G x a kg kx ka.0 in
      (λ j. along (each (named_act r) actions) (sym (named_after r G a kg ka.0) j) (sym s.0 j))
      ∙ along_named actions (after G a) (marked_by G x a) (known_after r G a kg ka.0) s.1 ka.1

  along_known : (actions : List (Act K V)) (G : State n) (x : World n) → Known r G → Knows r x → Holds (KnownAct r) actions → Known r (along actions G x).0 × Knows r (along actions G x).1
  along_known [] G x kg kx ka = (kg, kx)
  along_known (a ∷ actions) G x kg kx ka = along_known actions (after G a) (marked_by G x a) (known_after r G a kg ka.0) (step_named G x a kg kx ka.0).1 ka.1

pub marks_lem : MarksByContent
marks_lem t actions G x kg kx ka =
    let known = along_known (names_of t) actions G x kg kx ka in
    record { is = along_named (names_of t) actions G x kg kx ka; worlds = known.0; marks = known.1 }
