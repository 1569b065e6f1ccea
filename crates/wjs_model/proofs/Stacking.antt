-- The frames by what is kept of them.
use Rattle.std.proofs.Common.{◌≡◌, List, [], ◌∷◌, ◌++◌, Option, None, Some, sym, ap, ◌∙◌, append_assoc, append-nil}
use Rattle.std.specs.Prelude.{option_map}
use Rattle.wjs_base.specs.declared.ids.NodeId.{NodeId}
use Rattle.wjs_model.specs.declared.point.Start.{Start}
use Rattle.wjs_model.specs.declared.frame.Activation.{Activation as Frame}
use Rattle.wjs_model.specs.declared.frame.Held.{Held}
use Rattle.wjs_model.specs.declared.frame.Phase.TheVariants as phases
use Rattle.wjs_model.specs.declared.stack.Top.{Top}
use Rattle.wjs_model.specs.declared.stack.Below.{Below}
use Rattle.wjs_model.specs.Begun.{begun_at, is_due}
use Rattle.wjs_model.specs.Frames.{last}
use Rattle.wjs_model.specs.Stacks.{lower, top_of, topped}
use Rattle.wjs_model.proofs.Tops.{last-snoc}

-- the last of a list behind another is the last of both
pub behind : (ls fs : List Frame) (f : Frame) → ls ++ (fs ++ f ∷ []) ≡ (ls ++ fs) ++ f ∷ []
behind ls fs f = sym (append_assoc ls fs (f ∷ []))

pub lower-snoc : (bs : List Below) (b : Below) → lower (bs ++ b ∷ []) ≡ (lower bs ++ b.list.items) ++ top_of b.top ∷ []
lower-snoc [] b = append-nil (topped b.list.items (Some b.top))
lower-snoc (x ∷ bs) b =
    let own = topped x.list.items (Some x.top) in
    ap (λ l. own ++ l) (lower-snoc bs b ∙ sym (behind (lower bs) b.list.items (top_of b.top)))
    ∙ sym (append_assoc own (lower bs) (topped b.list.items (Some b.top)))
    ∙ behind (own ++ lower bs) b.list.items (top_of b.top)

-- ---- what is taken off the top or put on it

-- one that doesn't wait
pub on_top : (bs : List Below) (fs : List Frame) (free some : Option Top) (t : Top) → free ≡ None → some ≡ Some t
    → lower bs ++ topped fs some ≡ (lower bs ++ topped fs free) ++ top_of t ∷ []
on_top bs fs free some t en es =
    ap (λ o. lower bs ++ topped fs o) es
    ∙ behind (lower bs) fs (top_of t)
    ∙ ap (λ o. (lower bs ++ topped fs o) ++ top_of t ∷ []) (sym en)

-- one that waits
pub on_list : (bs : List Below) (fs gs : List Frame) (free : Option Top) (f : Frame) → free ≡ None → gs ≡ fs ++ f ∷ []
    → lower bs ++ topped gs free ≡ (lower bs ++ topped fs free) ++ f ∷ []
on_list bs fs gs free f en eg =
    ap (λ o. lower bs ++ topped gs o) en
    ∙ ap (λ l. lower bs ++ l) eg
    ∙ behind (lower bs) fs f
    ∙ ap (λ o. (lower bs ++ topped fs o) ++ f ∷ []) (sym en)

-- one that doesn't wait, below others
pub on_lower : (bs cs : List Below) (fs left : List Frame) (b : Below) (free : Option Top) → free ≡ None → cs ≡ bs ++ b ∷ [] → left ≡ [] → b.list.items ≡ fs
    → lower cs ++ topped left free ≡ (lower bs ++ topped fs free) ++ top_of b.top ∷ []
on_lower bs cs fs left b free en ec el ef =
    ap (λ o. lower cs ++ topped left o) en
    ∙ ap (λ l. lower cs ++ l) el
    ∙ append-nil (lower cs)
    ∙ ap lower ec
    ∙ lower-snoc bs b
    ∙ ap (λ l. (lower bs ++ l) ++ top_of b.top ∷ []) ef
    ∙ ap (λ o. (lower bs ++ topped fs o) ++ top_of b.top ∷ []) (sym en)

-- what was refused room below is on top again
pub given_back : (bs cs : List Below) (fs : List Frame) (b back : Below) (free : Option Top) → free ≡ None → cs ≡ bs → back ≡ b → b.list.items ≡ fs
    → lower cs ++ topped back.list.items (Some back.top) ≡ (lower bs ++ topped fs free) ++ top_of b.top ∷ []
given_back bs cs fs b back free en ec eb ef =
    ap (λ l. lower l ++ topped back.list.items (Some back.top)) ec
    ∙ ap (λ (x : Below). lower bs ++ topped x.list.items (Some x.top)) eb
    ∙ behind (lower bs) b.list.items (top_of b.top)
    ∙ ap (λ l. (lower bs ++ l) ++ top_of b.top ∷ []) ef
    ∙ ap (λ o. (lower bs ++ topped fs o) ++ top_of b.top ∷ []) (sym en)

-- there is no frame
pub no_frames : (bs : List Below) (fs : List Frame) (free : Option Top) → bs ≡ [] → fs ≡ [] → free ≡ None → lower bs ++ topped fs free ≡ []
no_frames bs fs free eb ef en =
    ap (λ o. lower bs ++ topped fs o) en
    ∙ ap (λ l. lower bs ++ l) ef
    ∙ append-nil (lower bs)
    ∙ ap lower eb

-- ---- what the phase of the last is

pub due_on : (all fs : List Frame) (f : Frame) → all ≡ fs ++ f ∷ [] → is_due (Some f.phase) ≡ is_due (option_map (λ (q : Frame). q.phase) (last all))
due_on all fs f e =
    ap (λ o. is_due (option_map (λ (q : Frame). q.phase) o)) (sym (last-snoc fs f))
    ∙ ap (λ l. is_due (option_map (λ (q : Frame). q.phase) (last l))) (sym e)

-- the last of what lies behind is the last of all
last-behind : (ls fs : List Frame) (f : Frame) → Some f ≡ last fs → last (ls ++ fs) ≡ Some f
last-behind [] fs f e = sym e
last-behind (x ∷ []) [] f e = absurd (cc)
last-behind (x ∷ []) (y ∷ ys) f e = sym e
last-behind (x ∷ y ∷ ls) fs f e = last-behind (y ∷ ls) fs f e

pub due_in_list : (bs : List Below) (fs : List Frame) (free : Option Top) (f : Frame) → free ≡ None → Some f ≡ last fs
    → is_due (Some f.phase) ≡ is_due (option_map (λ (q : Frame). q.phase) (last (lower bs ++ topped fs free)))
due_in_list bs fs free f en e =
    ap (λ o. is_due (option_map (λ (q : Frame). q.phase) o)) (sym (last-behind (lower bs) fs f e))
    ∙ ap (λ o. is_due (option_map (λ (q : Frame). q.phase) (last (lower bs ++ topped fs o)))) (sym en)

same_below : (x y : Below) → Some y ≡ Some x → x ≡ y
same_below x y e = cc

last-lower : (bs : List Below) (b : Below) → Some b ≡ last bs → last (lower bs) ≡ Some (top_of b.top)
last-lower [] b e = absurd (cc)
last-lower (x ∷ []) b e =
    ap last (append-nil (topped x.list.items (Some x.top)))
    ∙ last-snoc x.list.items (top_of x.top)
    ∙ ap (λ (y : Below). Some (top_of y.top)) (same_below x b e)
last-lower (x ∷ y ∷ bs) b e = last-behind (topped x.list.items (Some x.top)) (lower (y ∷ bs)) (top_of b.top) (sym (last-lower (y ∷ bs) b e))

pub due_in_lower : (bs : List Below) (fs : List Frame) (free : Option Top) (b : Below) → free ≡ None → fs ≡ [] → Some b ≡ last bs
    → is_due (Some b.top.phase) ≡ is_due (option_map (λ (q : Frame). q.phase) (last (lower bs ++ topped fs free)))
due_in_lower bs fs free b en ef e =
    ap (λ o. is_due (option_map (λ (q : Frame). q.phase) o)) (sym (last-lower bs b e))
    ∙ ap (λ l. is_due (option_map (λ (q : Frame). q.phase) (last l))) (sym (append-nil (lower bs)))
    ∙ ap (λ l. is_due (option_map (λ (q : Frame). q.phase) (last (lower bs ++ l)))) (sym ef)
    ∙ ap (λ o. is_due (option_map (λ (q : Frame). q.phase) (last (lower bs ++ topped fs o)))) (sym en)

-- ---- a frame that begins above another

pub begun-on : (old kept mid new : List Frame) (f above : Frame) (start : Start) (node : NodeId) → kept ≡ old → mid ≡ kept ++ f ∷ []
    → above ≡ record f { node = node; held = [] } → new ≡ mid ++ record above { phase = phases.Due start } ∷ []
    → new ≡ (old ++ f ∷ []) ++ begun_at f start node ∷ []
begun-on old kept mid new f above start node ek em ea en =
    en
    ∙ (λ i. em i ++ record (ea i) { phase = phases.Due start } ∷ [])
    ∙ ap (λ l. (l ++ f ∷ []) ++ begun_at f start node ∷ []) ek

pub ready-on : (old kept mid new : List Frame) (f above holding : Frame) (start : Start) (node : NodeId) (held : List Held) → kept ≡ old → mid ≡ kept ++ f ∷ []
    → above ≡ record f { node = node; held = [] } → holding ≡ record above { held = held } → new ≡ mid ++ record holding { phase = phases.Ready start } ∷ []
    → new ≡ (old ++ f ∷ []) ++ record (begun_at f start node) { phase = phases.Ready start; held = held } ∷ []
ready-on old kept mid new f above holding start node held ek em ea eh en =
    en
    ∙ (λ i. em i ++ record (eh i) { phase = phases.Ready start } ∷ [])
    ∙ (λ i. (ek i ++ f ∷ []) ++ record (ea i) { phase = phases.Ready start; held = held } ∷ [])
