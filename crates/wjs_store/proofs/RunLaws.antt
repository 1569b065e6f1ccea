-- Actions done one after another.
use Rattle.std.proofs.lemmas.List.{take_more, append_assoc, append-nil}
use Rattle.std.proofs.Common.{◌≡◌, ℕ, ◌+◌, ◌<◌, length, take, get_or, false, cond, List, [], ◌∷◌, ◌++◌, map as each, refl, ap, sym, ◌∙◌, subst, not, Option, None, Some, IsTrue}
use Rattle.std.specs.Option.{option_map}
use Rattle.wjs_base.specs.declared.ids.ObjId.{ObjId}
use Rattle.wjs_base.specs.declared.ids.WorldId.{WorldId}
use Rattle.wjs_base.specs.declared.values.Name.{Name}
use Rattle.wjs_base.specs.declared.values.Slot.{Slot}
use Rattle.wjs_base.specs.declared.values.Content.{Content}
use Rattle.wjs_base.specs.declared.values.Content.TheVariants.{Absent, Present}
use Rattle.wjs_store.specs.declared.action.Action.{Action}
use Rattle.wjs_store.specs.declared.action.Answer.{Answer}
use Rattle.wjs_store.specs.declared.action.Answer.TheVariants.{NoWorld}
use Rattle.wjs_store.specs.declared.store.Verdict.{Verdict}
use Rattle.wjs_store.specs.declared.store.Verdict.TheVariants.{Moved, Disagrees, NoParent}
use Rattle.wjs_store.specs.State.{world_of, has_world, answer_to, after}
use Rattle.wjs_store.specs.Shown.{content_of, shown_content, slots_of, verdict_of, shown_verdict}
use Rattle.wjs_store.specs.Meaning.{Meaning, Worlds, View, PlainAct, PlainReply, Does, IsSound, worlds, unseen}
use Rattle.wjs_store.specs.Run.{act_of, answer_of, is_done, answer_in, after_in, after_all, answers_in, done_in, Runs}
use Rattle.wjs_store.proofs.States.{has_each}

-- ---- what is meant is shown again

pub shown_again : (c : Content) → shown_content (content_of c) ≡ c
shown_again Absent = refl
shown_again (Present v) = refl

pub verdict_again : (v : Verdict) → shown_verdict (verdict_of v) ≡ v
verdict_again Moved = refl
verdict_again (Disagrees s) = refl
verdict_again NoParent = refl

pub names_again : (o : ObjId) (names : List Name) → each (λ (s : Slot). s.name) (slots_of o names) ≡ names
names_again o [] = refl
names_again o (name ∷ names) = ap (λ all. name ∷ all) (names_again o names)

-- ---- one action

-- which worlds there are is the same under every admitted view
pub has_same : (m : Meaning) → IsSound m → (v : View) → IsTrue (m.admits v) → (i : WorldId) → has_world (m.full v) i ≡ has_world (worlds m) i
has_same m s v h i = sym (has_each unseen (λ x. refl) (m.full v) i) ∙ ap (λ F. has_world F i) (s.same_marks v h) ∙ has_each unseen (λ x. refl) (worlds m) i

-- the answers under the store's own view
own_answers : (old new : Meaning) (acts : List Action) (rs : List Answer) → IsTrue (new.admits new.own) → new.own ≡ old.own → ((v : View) → IsTrue (new.admits v) → rs ≡ answers_in (old.full v) acts) → rs ≡ answers_in (worlds old) acts
own_answers old new acts rs a o h = h new.own a ∙ ap (λ v. answers_in (old.full v) acts) o

pub run_did : (old new : Meaning) (a : Action) (r : Answer) (p : PlainReply) → IsTrue (not old.spent) → (IsTrue (not old.spent) → IsSound old) → (IsTrue (not new.spent) → IsSound new) → IsTrue (is_done (worlds old) a) → answer_of p ≡ r → Does old (act_of a) p new → Runs old (a ∷ []) (r ∷ []) new
run_did old new a r p n s t w e d =
    let there = λ (v : View) (h : IsTrue (new.admits v)). has_same old (s n) v (d.narrows v h) (world_of (act_of a)) ∙ w in
    let owned = (t (ap not d.spent ∙ n)).admits_own in
    let answered = λ (v : View) (h : IsTrue (new.admits v)). ap (λ q. q ∷ []) (sym e ∙ ap answer_of (d.answers v h) ∙ sym (ap (λ b. cond b (answer_of (answer_to (old.full v) (act_of a))) NoWorld) (there v h))) in
    record {
      narrows = d.narrows;
      answers = answered;
      worlds = λ v h. d.worlds v h ∙ sym (ap (λ b. cond b (after (old.full v) (act_of a)) (old.full v)) (there v h));
      told = λ v h.
          d.told
          ∙ ap (λ q. option_map (λ done. done ++ (act_of a, q) ∷ []) old.told) (d.answers v h)
          ∙ ap (λ more. option_map (λ (done : List (PlainAct × PlainReply)). done ++ more) old.told) (sym (ap (λ b. cond b ((act_of a, answer_to (old.full v) (act_of a)) ∷ []) [] ++ []) (there v h)));
      shown = own_answers old new (a ∷ []) (r ∷ []) owned d.own answered;
      admits_own = owned;
      own = d.own;
      around = d.around;
      spent = d.spent;
      works = n;
    }

option_same : {A : Type 0} (f : A → A) → ((a : A) → f a ≡ a) → (o : Option A) → o ≡ option_map f o
option_same f e None = refl
option_same f e (Some a) = ap (λ b. Some b) (sym (e a))

pub run_none : (old : Meaning) (a : Action) → IsTrue (not old.spent) → (IsTrue (not old.spent) → IsSound old) → is_done (worlds old) a ≡ false → Runs old (a ∷ []) (NoWorld ∷ []) old
run_none old a n s w =
    let gone = λ (v : View) (h : IsTrue (old.admits v)). has_same old (s n) v h (world_of (act_of a)) ∙ w in
    let answered = λ (v : View) (h : IsTrue (old.admits v)). ap (λ q. q ∷ []) (sym (ap (λ b. cond b (answer_of (answer_to (old.full v) (act_of a))) NoWorld) (gone v h))) in
    record {
      narrows = λ v h. h;
      answers = answered;
      worlds = λ v h. sym (ap (λ b. cond b (after (old.full v) (act_of a)) (old.full v)) (gone v h));
      told = λ v h.
          option_same (λ (done : List (PlainAct × PlainReply)). done ++ []) (λ done. append-nil done) old.told
          ∙ ap (λ more. option_map (λ (done : List (PlainAct × PlainReply)). done ++ more) old.told) (sym (ap (λ b. cond b ((act_of a, answer_to (old.full v) (act_of a)) ∷ []) [] ++ []) (gone v h)));
      shown = own_answers old old (a ∷ []) (NoWorld ∷ []) (s n).admits_own refl answered;
      admits_own = (s n).admits_own;
      own = refl;
      around = refl;
      spent = refl;
      works = n;
    }

-- ---- one more action

pub after_more : (xs : List Action) (a : Action) (F : Worlds) → after_all F (xs ++ a ∷ []) ≡ after_in (after_all F xs) a
after_more [] a F = refl
after_more (x ∷ xs) a F = after_more xs a (after_in F x)

pub answers_more : (xs : List Action) (a : Action) (F : Worlds) → answers_in F (xs ++ a ∷ []) ≡ answers_in F xs ++ answer_in (after_all F xs) a ∷ []
answers_more [] a F = refl
answers_more (x ∷ xs) a F = ap (λ rs. answer_in F x ∷ rs) (answers_more xs a (after_in F x))

done_more : (xs : List Action) (a : Action) (F : Worlds) → done_in F (xs ++ a ∷ []) ≡ done_in F xs ++ done_in (after_all F xs) (a ∷ [])
done_more [] a F = refl
done_more (x ∷ xs) a F =
    ap (λ ds. cond (is_done F x) ((act_of x, answer_to F (act_of x)) ∷ []) [] ++ ds) (done_more xs a (after_in F x))
    ∙ sym (append_assoc (cond (is_done F x) ((act_of x, answer_to F (act_of x)) ∷ []) []) (done_in (after_in F x) xs) (done_in (after_all (after_in F x) xs) (a ∷ [])))

map_twice : {A : Type 0} (o : Option (List A)) (xs ys : List A) → option_map (λ done. done ++ ys) (option_map (λ done. done ++ xs) o) ≡ option_map (λ done. done ++ (xs ++ ys)) o
map_twice None xs ys = refl
map_twice (Some done) xs ys = ap (λ all. Some all) (append_assoc done xs ys)

run_then : (old mid new : Meaning) (xs : List Action) (rs : List Answer) (a : Action) (r : Answer) → Runs old xs rs mid → Runs mid (a ∷ []) (r ∷ []) new → Runs old (xs ++ a ∷ []) (rs ++ r ∷ []) new
run_then old mid new xs rs a r f g =
    let answered = λ (v : View) (h : IsTrue (new.admits v)).
    ap (λ (qs : List Answer). qs ++ r ∷ []) (f.answers v (g.narrows v h))
    ∙ ap (λ (qs : List Answer). answers_in (old.full v) xs ++ qs) (g.answers v h ∙ ap (λ F. answers_in F (a ∷ [])) (f.worlds v (g.narrows v h)))
    ∙ sym (answers_more xs a (old.full v)) in
    record {
      narrows = λ v h. f.narrows v (g.narrows v h);
      answers = answered;
      worlds = λ v h. g.worlds v h ∙ ap (λ F. after_in F a) (f.worlds v (g.narrows v h)) ∙ sym (after_more xs a (old.full v));
      told = λ v h.
          g.told v h
          ∙ ap (λ F. option_map (λ done. done ++ done_in F (a ∷ [])) mid.told) (f.worlds v (g.narrows v h))
          ∙ ap (option_map (λ done. done ++ done_in (after_all (old.full v) xs) (a ∷ []))) (f.told v (g.narrows v h))
          ∙ map_twice old.told (done_in (old.full v) xs) (done_in (after_all (old.full v) xs) (a ∷ []))
          ∙ ap (λ more. option_map (λ done. done ++ more) old.told) (sym (done_more xs a (old.full v)));
      shown = own_answers old new (xs ++ a ∷ []) (rs ++ r ∷ []) g.admits_own (g.own ∙ f.own) answered;
      admits_own = g.admits_own;
      own = g.own ∙ f.own;
      around = g.around ∙ f.around;
      spent = g.spent ∙ f.spent;
      works = f.works;
    }

pub run_more : (old mid new : Meaning) (todo : List Action) (rs : List Answer) (i : ℕ) (a d : Action) (r : Answer) → i < length todo → a ≡ get_or todo i d → Runs old (take i todo) rs mid → Runs mid (a ∷ []) (r ∷ []) new → Runs old (take (i + 1) todo) (rs ++ r ∷ []) new
run_more old mid new todo rs i a d r l e f g =
    subst (λ (as' : List Action). Runs old as' (rs ++ r ∷ []) new) (ap (λ x. take i todo ++ x ∷ []) e ∙ sym (take_more todo i d l)) (run_then old mid new (take i todo) rs a r f g)
