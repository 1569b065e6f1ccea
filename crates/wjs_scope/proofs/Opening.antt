-- Scopes under numbers.
use Rattle.std.specs.Prelude.{◌≡◌, ℕ, suc, ◌+◌, ◌-◌, ◌<◌, ◌≤◌, true, false, if◌then◌else◌, List, [], ◌∷◌, ◌++◌, length, slice_get, Some}
use Rattle.std.proofs.Common.{refl, sym, ap, subst, ◌∙◌, arith, get_or}
use Rattle.std.proofs.lemmas.Option.{same_Some, slice_get_within, slice_get-get_or}
use Rattle.wjs_base.specs.declared.ids.TextId.{TextId}
use Rattle.wjs_base.proofs.Lists.{get_last, get_front}
use Rattle.wjs_scope.specs.declared.levels.Level.{Level}
use Rattle.wjs_scope.specs.declared.place.Place.TheVariants.{Local, Global}
use Rattle.wjs_scope.specs.Scopes.{Scope, is_in, place_past, resolve}
use Rattle.wjs_scope.specs.Levels.{Nests, IsNest, StaysNested, Opens}

-- no two lists of scopes stand under one number
pub one_nest : (levels : List Level) (at : ℕ) (xs ys : List Scope) → Nests levels at xs → Nests levels at ys → xs ≡ ys
one_nest levels at [] [] a b = refl
one_nest levels at [] (y ∷ ys) a b = absurd (let d : at ≡ 0 = a in let e = b.2 in omega arith)
one_nest levels at (x ∷ xs) [] a b = absurd (let d : at ≡ 0 = b in let e = a.2 in omega arith)
one_nest levels at (x ∷ xs) (y ∷ ys) a b =
    let same : a.0 ≡ b.0 = (let e = a.2 in let f = b.2 in omega arith) in
    let level : a.1 ≡ b.1 = same_Some a.1 b.1 (sym a.3 ∙ ap (slice_get levels) same ∙ b.3) in
    let outer = one_nest levels b.1.outer xs ys (subst (λ (z : Level). Nests levels z.outer xs) level a.6) b.6 in
    let names : x ≡ y = sym a.4 ∙ ap (λ (z : Level). z.names) level ∙ b.4 in
    cc

-- the number is in the table
nest_within : (levels : List Level) (at : ℕ) (xs : List Scope) → Nests levels at xs → at ≤ length levels
nest_within levels at [] a = let e : at ≡ 0 = a in omega arith
nest_within levels at (x ∷ xs) a = let lt = slice_get_within levels a.0 a.1 a.3 in let e = a.2 in omega arith

stays_behind : (levels more : List Level) → StaysNested levels (levels ++ more)
stays_behind levels more at [] a = a
stays_behind levels more at (x ∷ xs) a = (a.0, a.1, a.2, get_front levels more a.0 a.1 a.3, a.4, a.5, stays_behind levels more a.1.outer xs a.6)

length_last : {T : Type 0} (xs : List T) (x : T) → length (xs ++ x ∷ []) ≡ suc (length xs)
length_last [] x = refl
length_last (z ∷ xs) x = ap suc (length_last xs x)

pub opened : (old new : List Level) (at inner : ℕ) (level : Level) (names : List TextId) → new ≡ old ++ level ∷ [] → inner ≡ length new → level.names ≡ names → level.outer ≡ at → Opens old new at inner names
opened old new at inner level names e long f g = let n : inner ≡ suc (length old) = long ∙ ap length e ∙ length_last old level in record {
  stays = λ k s h. subst (λ (z : List Level). Nests z k s) (sym e) (stays_behind old (level ∷ []) k s h);
  opens = λ s h. (
    length old,
    level,
    n,
    subst (λ (z : List Level). slice_get z (length old) ≡ Some level) (sym e) (get_last old level),
    f,
    subst (λ z. z ≤ length old) (sym g) (nest_within old at s h),
    subst (λ (z : List Level). Nests z level.outer s) (sym e) (stays_behind old (level ∷ []) level.outer s (subst (λ z. Nests old z s) (sym g) h)),
  );
}

-- the walk outwards
pub record Outwards (levels : List Level) (from : ℕ) (name : TextId) (at hops : ℕ) : Type 0 where
  pub rest : List Scope
  pub nests : Nests levels at rest
  pub room : hops + length rest ≤ 400
  pub within : at ≤ length levels
  pub same : (scopes : List Scope) → Nests levels from scopes → resolve scopes name ≡ place_past hops rest name

pub outwards_begin : (levels : List Level) (from : ℕ) (name : TextId) → IsNest levels from → Outwards levels from name from 0
outwards_begin levels from name h = record { rest = h.0; nests = h.1; room = let r = h.2 in omega arith; within = nest_within levels from h.0 h.1; same = λ s g. ap (λ (z : List Scope). resolve z name) (one_nest levels from s h.0 g h.1) }

-- a nest is the scope of its number and what stands around that
pub record Peeled (levels : List Level) (i : ℕ) (level : Level) (rest : List Scope) : Type 0 where
  pub outer : List Scope
  pub is : rest ≡ level.names ∷ outer
  pub nests : Nests levels level.outer outer
  pub lower : level.outer ≤ i

peel : (levels : List Level) (at i : ℕ) (level : Level) (rest : List Scope) → at ≡ suc i → slice_get levels i ≡ Some level → Nests levels at rest → Peeled levels i level rest
peel levels at i level [] e g h = absurd (let f : at ≡ 0 = h in omega arith)
peel levels at i level (names ∷ outer) e g h =
    let same : h.0 ≡ i = (let f = h.2 in omega arith) in
    let level_is : h.1 ≡ level = same_Some h.1 level (sym h.3 ∙ ap (slice_get levels) same ∙ g) in
    record {
      outer = outer;
      is = ap (λ (z : List TextId). z ∷ outer) (sym h.4 ∙ ap (λ (z : Level). z.names) level_is);
      nests = subst (λ (z : Level). Nests levels z.outer outer) level_is h.6;
      lower = subst (λ (z : Level). z.outer ≤ i) level_is (subst (λ z. h.1.outer ≤ z) same h.5);
    }

pub outwards_found : (levels : List Level) (from : ℕ) (name : TextId) (at hops i : ℕ) (level : Level) → at ≡ suc i → slice_get levels i ≡ Some level → is_in level.names name ≡ true → Outwards levels from name at hops
    → (scopes : List Scope) → Nests levels from scopes → Local hops ≡ resolve scopes name
outwards_found levels from name at hops i level e g t w s h =
    let p = peel levels at i level w.rest e g w.nests in
    sym (w.same s h ∙ ap (λ (z : List Scope). place_past hops z name) p.is ∙ ap (λ b. if b then Local hops else place_past (suc hops) p.outer name) t)

pub outwards_on : (levels : List Level) (from : ℕ) (name : TextId) (at hops i : ℕ) (level : Level) → at ≡ suc i → slice_get levels i ≡ Some level → is_in level.names name ≡ false → Outwards levels from name at hops → Outwards levels from name level.outer (hops + 1)
outwards_on levels from name at hops i level e g t w =
    let p = peel levels at i level w.rest e g w.nests in
    let long : length w.rest ≡ suc (length p.outer) = ap length p.is in
    let room = w.room in
    let next : suc hops ≡ hops + 1 = omega arith in
    record {
      rest = p.outer;
      nests = p.nests;
      room = omega arith;
      within = nest_within levels level.outer p.outer p.nests;
      same = λ s h. w.same s h ∙ ap (λ (z : List Scope). place_past hops z name) p.is ∙ ap (λ b. if b then Local hops else place_past (suc hops) p.outer name) t ∙ ap (λ k. place_past k p.outer name) next;
    }

ended : (levels : List Level) (at hops : ℕ) (name : TextId) (rest : List Scope) → at ≡ 0 → Nests levels at rest → place_past hops rest name ≡ Global
ended levels at hops name [] e h = refl
ended levels at hops name (x ∷ rest) e h = absurd (let f = h.2 in omega arith)

pub outwards_end : (levels : List Level) (from : ℕ) (name : TextId) (at hops : ℕ) → at ≡ 0 → Outwards levels from name at hops → (scopes : List Scope) → Nests levels from scopes → Global ≡ resolve scopes name
outwards_end levels from name at hops e w s h = sym (w.same s h ∙ ended levels at hops name w.rest e w.nests)

pub level_here : (levels : List Level) (at : ℕ) (level : Level) → 0 < at → at ≤ length levels → level ≡ get_or levels (at - 1) level → slice_get levels (at - 1) ≡ Some level
level_here levels at level some within is = let lt : at - 1 < length levels = omega arith in slice_get-get_or levels (at - 1) level lt ∙ ap (λ (z : Level). Some z) (sym is)

pub lower : (levels : List Level) (from : ℕ) (name : TextId) (at hops i : ℕ) (level : Level) → at ≡ suc i → slice_get levels i ≡ Some level → Outwards levels from name at hops → level.outer < at
lower levels from name at hops i level e g w = let l = (peel levels at i level w.rest e g w.nests).lower in omega arith
