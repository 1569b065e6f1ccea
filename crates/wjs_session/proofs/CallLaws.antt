-- The calls of a session, by what its two stores answered.
use Rattle.std.proofs.Common.{◌≡◌, Bool, true, false, cond, List, refl, ap, sym, ◌∙◌, subst, Option}
use Rattle.std.specs.List.{AllByRecursion}
use Rattle.std.specs.FinMap as map
use Rattle.std.proofs.lemmas.Bool.{true≢false}
use Rattle.wjs_base.specs.declared.ids.ObjId.{ObjId}
use Rattle.wjs_base.specs.declared.ids.WorldId.{WorldId}
use Rattle.wjs_base.specs.declared.values.Slot.{Slot}
use Rattle.wjs_base.specs.declared.values.Value.{Value}
use Rattle.wjs_base.specs.Same.{same_value}
use Rattle.wjs_store.specs.Naming.{plain}
use Rattle.wjs_store.specs.Fixed.{fixed}
use Rattle.wjs_store.specs.Meaning.{Worlds, PlainAct, PlainReply, Does}
use Rattle.wjs_store.specs.State.{Verdict, same_world, has_world, content_at, same_content, slots_at, verdict_at, after_read, after_write, after_list, after_commit, read, write, list, commit, found, wrote, listed, committed, answer_to, after}
use Rattle.wjs_store.proofs.Invariant.{same_turned}
use Rattle.wjs_store.proofs.Writes.{world_is}
use Rattle.wjs_session.specs.Session.{world_at, settled}
use Rattle.wjs_session.specs.Kept.{IsSession, IsAlone}
use Rattle.wjs_session.specs.Calls.{Answered, Brought}
use Rattle.wjs_session.proofs.Acting.{answered_read, answered_write, answered_list}
use Rattle.wjs_session.proofs.Owning.{read_own, list_own}
use Rattle.wjs_session.proofs.Writing.{write_own}
use Rattle.wjs_session.proofs.Alone.{alone_first, write_alone}
use Rattle.wjs_session.proofs.Looking.{brought_list}
use Rattle.wjs_session.proofs.Bringing.{brought_then, answered_then, inner_stays, bring_none, bring_one, whole_settled}

-- what a store with one meaning did
pub record Did (F : Worlds) (s : Bool) (a : PlainAct) (r : PlainReply) (F' : Worlds) (s' : Bool) : Type 0 where
  pub answers : r ≡ answer_to F a
  pub worlds : F' ≡ after F a
  pub spent : s' ≡ s

pub did : (F F' : Worlds) (s s' : Bool) (a : PlainAct) (r : PlainReply) → Does (fixed F s) a r (fixed F' s') → Did F s a r F' s'
did F F' s s' a r d = record { answers = d.answers map.empty refl; worlds = d.worlds map.empty refl; spent = d.spent }

pub found_is : (a b : Option Value) → ◌≡◌ {A = PlainReply} (found a) (found b) → a ≡ b
found_is a b e = cc

pub listed_is : (a b : List Slot) → ◌≡◌ {A = PlainReply} (listed a) (listed b) → a ≡ b
listed_is a b e = cc

pub committed_is : (a b : Verdict Slot) → ◌≡◌ {A = PlainReply} (committed a) (committed b) → a ≡ b
committed_is a b e = cc

module _ (F : Worlds) (i : WorldId) (G : Worlds) (k : IsSession F i G) where
  -- ---- bringing

  module _ (s : Slot) (F1 G1 : Worlds) (h c : Option Value) (e1 : F1 ≡ after_read F i s) (eh : h ≡ content_at F i s) (e2 : G1 ≡ after_read G i s) (ec : c ≡ content_at G i s) where
    pub bring_same : same_content same_value c h ≡ true → Brought F i G F1 G1 × (settled (world_at F1 i) G1 s ≡ true)
    bring_same e =
        let b = bring_none F i G k s (sym (λ j. same_content same_value (ec j) (eh j)) ∙ e) in
        let d = subst (λ (H : Worlds). Brought F i G H G × (settled (world_at H i) G s ≡ true)) (sym e1) b in
        subst (λ (K : Worlds). Brought F i G F1 K × (settled (world_at F1 i) K s ≡ true)) (sym (e2 ∙ inner_stays F i G k s)) d

    pub bring_put : (G2 : Worlds) → same_content same_value c h ≡ false → G2 ≡ after_write G1 i s h → Brought F i G F1 G2 × (settled (world_at F1 i) G2 s ≡ true)
    bring_put G2 e e3 =
        let b = bring_one F i G k s (sym (λ j. same_content same_value (ec j) (eh j)) ∙ e) in
        let d = subst (λ (H : Worlds). Brought F i G H (after_write G i s (content_at F i s)) × (settled (world_at H i) (after_write G i s (content_at F i s)) s ≡ true)) (sym e1) b in
        let to : G2 ≡ after_write G i s (content_at F i s) = e3 ∙ (λ j. after_write ((e2 ∙ inner_stays F i G k s) j) i s (eh j)) in
        subst (λ (K : Worlds). Brought F i G F1 K × (settled (world_at F1 i) K s ≡ true)) (sym to) d

  -- ---- in the session's own world

  pub first_read : (w : WorldId) (s : Slot) (F1 : Worlds) (h : Option Value) → same_world w i ≡ true → F1 ≡ after_read F i s → h ≡ content_at F i s → Answered F i G (read w s) (found h) F1 G
  first_read w s F1 h e e1 eh = subst (λ (v : WorldId). Answered F i G (read v s) (found h) F1 G) (sym (world_is w i e))
      (subst (λ (d : Option Value). Answered F i G (read i s) (found d) F1 G) (sym eh) (subst (λ (H : Worlds). Answered F i G (read i s) (found (content_at F i s)) H G) (sym e1) (read_own F i G k s)))

  pub first_list : (w : WorldId) (q : ObjId) (F1 : Worlds) (ss : List Slot) → same_world w i ≡ true → F1 ≡ after_list F i q → ss ≡ slots_at F i q → Answered F i G (list w q) (listed ss) F1 G
  first_list w q F1 ss e e1 es = subst (λ (v : WorldId). Answered F i G (list v q) (listed ss) F1 G) (sym (world_is w i e))
      (subst (λ (d : List Slot). Answered F i G (list i q) (listed d) F1 G) (sym es) (subst (λ (H : Worlds). Answered F i G (list i q) (listed (slots_at F i q)) H G) (sym e1) (list_own F i G k q)))

  pub first_write : (w : WorldId) (s : Slot) (c : Option Value) (F1 : Worlds) → same_world w i ≡ true → F1 ≡ after_write F i s c → IsAlone G → Answered F i G (write w s c) wrote F1 G
  first_write w s c F1 e e1 a = subst (λ (v : WorldId). Answered F i G (write v s c) wrote F1 G) (sym (world_is w i e)) (subst (λ (H : Worlds). Answered F i G (write i s c) wrote H G) (sym e1) (write_alone F i G k a s c))

  pub both_write : (w : WorldId) (s : Slot) (c : Option Value) (F1 G1 : Worlds) → same_world w i ≡ true → F1 ≡ after_write F i s c → G1 ≡ after_write G i s c → Answered F i G (write w s c) wrote F1 G1
  both_write w s c F1 G1 e e1 e2 = subst (λ (v : WorldId). Answered F i G (write v s c) wrote F1 G1) (sym (world_is w i e)) (subst (λ (K : Worlds). Answered F i G (write i s c) wrote F1 K) (sym e2) (subst (λ (H : Worlds). Answered F i G (write i s c) wrote H (after_write G i s c)) (sym e1) (write_own F i G k s c)))

  -- ---- below it, once the slots are brought

  -- a session with another world is not alone
  pub never_alone : (w : WorldId) → has_world G w ≡ true → same_world w i ≡ false → IsAlone G → ⊥
  never_alone w there apart a = true≢false (sym (alone_first G i w a k.first there) ∙ apart)

  module _ (F1 G1 G2 : Worlds) (b : Brought F i G F1 G1) (w : WorldId) where
    pub inner_read : (s : Slot) (c : Option Value) → settled (world_at F1 i) G1 s ≡ true → G2 ≡ after_read G1 w s → c ≡ content_at G1 w s → Answered F i G (read w s) (found c) F1 G2
    inner_read s c h e ec = answered_then F i G F1 G1 (read w s) (found c) F1 G2 b
        (subst (λ (d : Option Value). Answered F1 i G1 (read w s) (found d) F1 G2) (sym ec) (subst (λ (K : Worlds). Answered F1 i G1 (read w s) (found (content_at G1 w s)) F1 K) (sym e) (answered_read F1 i G1 b.kept w s h)))

    pub inner_write : (s : Slot) (c : Option Value) → same_world w i ≡ false → settled (world_at F1 i) G1 s ≡ true → G2 ≡ after_write G1 w s c → Answered F i G (write w s c) wrote F1 G2
    inner_write s c apart h e = answered_then F i G F1 G1 (write w s c) wrote F1 G2 b
        (subst (λ (K : Worlds). Answered F1 i G1 (write w s c) wrote F1 K) (sym e) (answered_write F1 i G1 b.kept w s c (same_turned w i apart) h))

    pub inner_list : (q : ObjId) (ss : List Slot) → ((s : Slot) → s.object ≡ q → settled (world_at F1 i) G1 s ≡ true) → G2 ≡ after_list G1 w q → ss ≡ slots_at G1 w q → Answered F i G (list w q) (listed ss) F1 G2
    inner_list q ss h e es = answered_then F i G F1 G1 (list w q) (listed ss) F1 G2 b
        (subst (λ (d : List Slot). Answered F1 i G1 (list w q) (listed d) F1 G2) (sym es) (subst (λ (K : Worlds). Answered F1 i G1 (list w q) (listed (slots_at G1 w q)) F1 K) (sym e) (answered_list F1 i G1 b.kept w q h)))

  -- the object was listed outside, and then its slots were brought
  module _ (q : ObjId) (F1 : Worlds) (ss : List Slot) (e1 : F1 ≡ after_list F i q) (es : ss ≡ slots_at F i q) where
    pub kept_listed : IsSession F1 i G
    kept_listed = subst (λ (H : Worlds). IsSession H i G) (sym e1) (brought_list F i G k q).kept

    pub listed_below : (F2 G2 G3 : Worlds) (w : WorldId) (names : List Slot) → Brought F1 i G F2 G2 → AllByRecursion (λ (s : Slot). settled (world_at F2 i) G2 s ≡ true) ss → G3 ≡ after_list G2 w q → names ≡ slots_at G2 w q → Answered F i G (list w q) (listed names) F2 G3
    listed_below F2 G2 G3 w names b all e en =
        let b1 : Brought (after_list F i q) i G F2 G2 = subst (λ (H : Worlds). Brought H i G F2 G2) e1 b in
        let whole = whole_settled F i G k q F2 G2 b1 (subst (AllByRecursion (λ (s : Slot). settled (world_at F2 i) G2 s ≡ true)) es all) in
        inner_list F2 G2 G3 (brought_then F i G (after_list F i q) G F2 G2 (brought_list F i G k q) b1) w q names whole e en
