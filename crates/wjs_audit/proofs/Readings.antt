-- Bytes have one reading.
use Rattle.std.proofs.Common.{◌≡◌, ℕ, zero, suc, ◌+◌, ◌<◌, ◌⊎◌, inl, inr, ⊎_elim, List, [], ◌∷◌, ◌++◌, length, refl, ap, sym, subst, ◌∙◌, append_assoc, append-nil, arith}
use Rattle.std.proofs.lemmas.List.{length-append, flat_map_more}
use Rattle.wjs_base.specs.Text.{Table}
use Rattle.wjs_audit.specs.declared.deed.Entry.{Entry}
use Rattle.wjs_audit.specs.Deeds.{deeds_of}
use Rattle.wjs_audit.specs.Spelling.{Line, line_parts, joined, line_text, log_text}
use Rattle.wjs_audit.specs.Logs.{Known, MayFollow, with_line, known_after, IsLogFrom, entries_from, Reads, BreaksAt, Spells}
use Rattle.wjs_audit.proofs.Lines.{line_one}
use Rattle.wjs_audit.proofs.Tabled.{log_more}

-- a line has bytes
pub line_long : (l : Line) (behind : List ℕ) → length behind < length (line_text l ++ behind)
line_long l behind =
    let a = length-append (line_text l) behind in
    let b = length-append (joined (line_parts l)) (10 ∷ []) in
    omega (arith, a, b)

log_none : (ls : List Line) (r : List ℕ) → length (log_text ls ++ r) ≡ 0 → (ls ≡ []) × (r ≡ [])
log_none [] [] e = (refl, refl)
log_none [] (x ∷ r) e = absurd (omega arith)
log_none (l ∷ ls) r e =
    let long = line_long l (log_text ls ++ r) in
    let same = ap (λ (bs : List ℕ). length bs) (append_assoc (line_text l) (log_text ls) r) in
    absurd (omega (arith, long, same, e))

-- of two logs with the same bytes and what follows them, one is the front of the other
log_two : (known : Known) (ls ks : List Line) (r s : List ℕ) → IsLogFrom known ls → IsLogFrom known ks → log_text ls ++ r ≡ log_text ks ++ s
    → ((more : List Line) × (ks ≡ ls ++ more) × (r ≡ log_text more ++ s)) ⊎ ((more : List Line) × (ls ≡ ks ++ more) × (s ≡ log_text more ++ r))
log_two known [] ks r s h k e = inl (ks, refl, e)
log_two known (l ∷ ls) [] r s h k e = inr (l ∷ ls, refl, sym e)
log_two known (l ∷ ls) (m ∷ ks) r s h k e =
    let whole : line_text l ++ (log_text ls ++ r) ≡ line_text m ++ (log_text ks ++ s) =
    sym (append_assoc (line_text l) (log_text ls) r) ∙ e ∙ append_assoc (line_text m) (log_text ks) s in
    let one = line_one known l m (log_text ls ++ r) (log_text ks ++ s) h.0 k.0 whole in
    let later = log_two (with_line known l) ls ks r s h.1 (subst (λ (x : Line). IsLogFrom (with_line known x) ks) (sym one.0) k.1) one.1 in
    ⊎_elim
    (λ t. inl (t.0, (let back = sym one.0 in λ i. back i ∷ t.1 i), t.2))
    (λ t. inr (t.0, (λ i. one.0 i ∷ t.1 i), t.2))
    later

pub front_is : (known : Known) (ls ks : List Line) (rest : List ℕ) → IsLogFrom known ls → IsLogFrom known ks → log_text ks ≡ log_text ls ++ rest → (more : List Line) × (ks ≡ ls ++ more) × (rest ≡ log_text more)
front_is known ls ks rest h k e =
    ⊎_elim
    (λ t. (t.0, t.1, t.2 ∙ append-nil (log_text t.0)))
    (λ t.
    let none = log_none t.0 rest (ap (λ (bs : List ℕ). length bs) (sym t.2)) in
    ([], sym (append-nil ks) ∙ ap (λ xs. ks ++ xs) (sym none.0) ∙ sym t.1 ∙ sym (append-nil ls), none.1))
    (log_two known ls ks rest [] h k (sym e ∙ sym (append-nil (log_text ks))))

-- where the logs have the same bytes they are one
lines_one : (ls ks : List Line) → IsLogFrom [] ls → IsLogFrom [] ks → log_text ls ≡ log_text ks → ls ≡ ks
lines_one ls ks h k e =
    let t = front_is [] ls ks [] h k (sym e ∙ sym (append-nil (log_text ls))) in
    let none = log_none t.0 [] (ap (λ (bs : List ℕ). length bs) (append-nil (log_text t.0) ∙ sym t.2)) in
    sym (append-nil ls) ∙ ap (λ xs. ls ++ xs) (sym none.0) ∙ sym t.1

pub entries_one : (bytes : List ℕ) (es fs : List Entry) → Reads bytes es → Reads bytes fs → es ≡ fs
entries_one bytes es fs a b = a.entries ∙ ap (entries_from 1) (lines_one a.lines b.lines a.is_log b.is_log (sym a.text ∙ b.text)) ∙ sym b.entries

-- a line behind others follows them
follows : (known : Known) (front : List Line) (l : Line) (back : List Line) → IsLogFrom known (front ++ l ∷ back) → MayFollow (known_after known front) l
follows known [] l back h = h.0
follows known (m ∷ front) l back h = follows (with_line known m) front l back h.1

-- what follows where a log breaks is no log's
never : (bytes : List ℕ) (n : ℕ) (b : BreaksAt bytes n) (more : List Line) (s : List ℕ) → IsLogFrom [] (b.lines ++ more) → b.rest ≡ log_text more ++ s → 0 < length more → ⊥
never bytes n b [] s h e some = omega arith
never bytes n b (l ∷ more) s h e some = b.none l (log_text more ++ s) (e ∙ append_assoc (line_text l) (log_text more) s) (follows [] b.lines l more h)

pub reads_or_breaks : (bytes : List ℕ) (es : List Entry) (n : ℕ) → Reads bytes es → BreaksAt bytes n → ⊥
reads_or_breaks bytes es n a b =
    let t = front_is [] b.lines a.lines b.rest b.is_log a.is_log (sym a.text ∙ b.whole) in
    by t.0 (subst (IsLogFrom []) t.1 a.is_log) t.2
  where
    by : (more : List Line) → IsLogFrom [] (b.lines ++ more) → b.rest ≡ log_text more → ⊥
    by [] h e = let none = ap (λ (bs : List ℕ). length bs) e in omega (arith, none, b.some)
    by (l ∷ more) h e = never bytes n b (l ∷ more) [] h (e ∙ sym (append-nil (log_text (l ∷ more)))) (omega arith)

-- a log that breaks at two lines: the lines above are as many
as_many : (bytes : List ℕ) (m n : ℕ) (a : BreaksAt bytes m) (b : BreaksAt bytes n) (more : List Line) → b.lines ≡ a.lines ++ more → a.rest ≡ log_text more ++ b.rest → m ≡ n
as_many bytes m n a b [] e r =
    let long = ap (λ (ls : List Line). length ls) (e ∙ append-nil a.lines) in
    omega (arith, long, a.number, b.number)
as_many bytes m n a b (l ∷ more) e r = absurd (never bytes m a (l ∷ more) b.rest (subst (IsLogFrom []) e b.is_log) r (omega arith))

pub breaks_one : (bytes : List ℕ) (m n : ℕ) → BreaksAt bytes m → BreaksAt bytes n → m ≡ n
breaks_one bytes m n a b =
    ⊎_elim
    (λ t. as_many bytes m n a b t.0 t.1 t.2)
    (λ t. sym (as_many bytes n m b a t.0 t.1 t.2))
    (log_two [] a.lines b.lines a.rest b.rest a.is_log b.is_log (sym a.whole ∙ b.whole))

-- bytes are a log, or have a line that breaks the form: what follows a log's lines begins with one more that may follow them, as long as neither stands
module _ (bytes : List ℕ) (unread : (es : List Entry) → ¬ (Reads bytes es)) (unbroken : (n : ℕ) → ¬ (BreaksAt bytes n)) where
  goes_on : (fuel : ℕ) (lines : List Line) (rest : List ℕ) → length rest < fuel → bytes ≡ log_text lines ++ rest → IsLogFrom [] lines → ⊥
  goes_on zero lines rest few e h = absurd (omega arith)
  goes_on (suc fuel) lines [] few e h = unread (entries_from 1 lines) (record { lines = lines; is_log = h; text = e ∙ append-nil (log_text lines); entries = refl })
  goes_on (suc fuel) lines (b ∷ rest) few e h = unbroken (length lines + 1) (record {
    lines = lines;
    rest = b ∷ rest;
    whole = e;
    is_log = h;
    number = refl;
    some = omega arith;
    none = λ l behind is may.
        let long = line_long l behind in
        let same = ap (λ (bs : List ℕ). length bs) is in
        let whole : bytes ≡ log_text (lines ++ l ∷ []) ++ behind =
        e ∙ ap (λ (bs : List ℕ). log_text lines ++ bs) is
        ∙ sym (append_assoc (log_text lines) (line_text l) behind)
        ∙ ap (λ (bs : List ℕ). bs ++ behind) (flat_map_more line_text [] lines l) in
        goes_on fuel (lines ++ l ∷ []) behind (omega (arith, few, long, same)) whole (log_more [] lines (l ∷ []) h (may, tt));
  })

pub reads_or_breaks_some : (bytes : List ℕ) → ((es : List Entry) → ¬ (Reads bytes es)) → ((n : ℕ) → ¬ (BreaksAt bytes n)) → ⊥
reads_or_breaks_some bytes unread unbroken = goes_on bytes unread unbroken (length bytes + 1) [] bytes (omega arith) refl tt

-- what is read from bytes that spell a log
pub spelled_is_read : (bytes : List ℕ) (entries : List Entry) (texts : Table) → Spells bytes entries texts → (es : List Entry) × Reads bytes es × (deeds_of es ≡ deeds_of entries)
spelled_is_read bytes entries texts s = (entries_from 1 s.lines, record { lines = s.lines; is_log = s.is_log; text = s.text; entries = refl }, s.deeds)
