-- A parse refuses the same words by two lists of rules that look alike to it.
use Rattle.std.proofs.Common.{◌≡◌, ◌∙◌, ap, ap₂, cond, zero, suc, ℕ, Bool, List, [], ◌∷◌, length, drop, Option, Some, None, refl, sym, is_some}
use Rattle.std.specs.Prelude.{◌&&◌, encode_utf8, not, slice_get}
use Rattle.std.specs.Str.{bytes_eq, chars}
use Rattle.std.specs.List.{list_any}
use Rattle.std.specs.Option.{option_map_or}
use Rattle.clap.specs.Lexer.{long_of, short_of}
use Rattle.clap.specs.Facts.{explicit_source}
use Rattle.clap.specs.Walk.{Held, Names, Row, Rule, Step, Text, Waiting, Walk, arg_by_id, arg_by_long, arg_by_short, attached_value}
use Rattle.clap.specs.Walk.{finished, next, reacted, settled, subcommand, subcommand_met, trailing, value, walk, walk_from, walked, with_default, word_met}
use Rattle.clap.specs.Simple.{Shape}
use Rattle.clap.specs.Kinds.{Kinds, check_kinds, or_else}
use Rattle.clap.specs.declared.error.kind.ErrorKind.TheVariants as kind
use Rattle.clap.specs.Faults.{bundle_fault, bundle_step_fault, check_fault, defaults_fault, flag_word_fault, flags_fault, level_fault, long_fault, option_fault, other_fault, positional_fault}
use Rattle.clap.specs.Faults.{react_fault, settle_fault, short_fault, step_fault, stray_fault, turn_fault, use_fault, walk_fault, word_fault}
use Rattle.wjs_options.proofs.AlikeWalks.{Alike, Likes, Same, if_same, reacted_same, rows_same, walk_same, walked_same, word_same}
use Rattle.std.specs.Prelude.{fold}

used_fault : (o p : Option Rule) → Likes o p → (again : Bool) (values : List Text) (rows : List Row)
    → option_map_or (λ a. use_fault again a values rows) o [] ≡ option_map_or (λ a. use_fault again a values rows) p []
used_fault None None l again values rows = refl
used_fault (Some r) (Some s) l again values rows = l.fault_is again values rows
used_fault None (Some s) l again values rows = absurd l
used_fault (Some r) None l again values rows = absurd l

pending_fault : (c d : List Rule) → Alike c d → (again : Bool) (o : Option (Text × List Text)) (rows : List Row)
    → option_map_or (λ p. option_map_or (λ a. use_fault again a p.1 rows) (arg_by_id c p.0) []) o []
    ≡ option_map_or (λ p. option_map_or (λ a. use_fault again a p.1 rows) (arg_by_id d p.0) []) o []
pending_fault c d al again None rows = refl
pending_fault c d al again (Some p) rows = used_fault (arg_by_id c p.0) (arg_by_id d p.0) (al.by_id p.0) again p.1 rows

settle_same : (c d : List Rule) → Alike c d → (again : Bool) (h : Held) → settle_fault c again h ≡ settle_fault d again h
settle_same c d al again h = pending_fault c d al again h.pending h.rows

react_same : (c d : List Rule) → Alike c d → (again : Bool) (r s : Rule) → Same r s → (values : List Text) (h : Held)
    → react_fault c again r values h ≡ react_fault d again s values h
react_same c d al again r s l values h =
    ap₂ or_else (settle_same c d al again h)
    (l.fault_is again values (settled c h).rows ∙ ap (use_fault again s values) (rows_same c d al h.pending h.rows))

option_same : (c d : List Rule) → Alike c d → (again : Bool) (r s : Rule) → Same r s → (v : Option Text) (h : Held)
    → option_fault c again r v h ≡ option_fault d again s v h
option_same c d al again r s l (Some v) h = react_same c d al again r s l (v ∷ []) h
option_same c d al again r s l None h = settle_same c d al again h

long_same : (c d : List Rule) → Alike c d → (again : Bool) (o p : Option Rule) → Likes o p → (v : Option Text) (h : Held)
    → long_fault c again o v h ≡ long_fault d again p v h
long_same c d al again None None l v h = refl
long_same c d al again (Some r) (Some s) l v h =
    if_same _ _ _ _ _ _ l.takes (option_same c d al again r s l v h)
    (ap (λ (k : Kinds). cond (is_some v) (kind.TooManyValues ∷ []) k) (react_same c d al again r s l [] h))
long_same c d al again None (Some s) l v h = absurd l
long_same c d al again (Some r) None l v h = absurd l

short_same : (c d : List Rule) → Alike c d → (again : Bool) (o p : Option Rule) → Likes o p → (rest : Text) (h : Held) (n m : Held → Kinds)
    → ((x : Held) → n x ≡ m x) → short_fault c again o rest h n ≡ short_fault d again p rest h m
short_same c d al again None None l rest h n m same = refl
short_same c d al again (Some r) (Some s) l rest h n m same =
    if_same _ _ _ _ _ _ l.takes (option_same c d al again r s l (attached_value rest) h)
    (ap₂ or_else (react_same c d al again r s l [] h) (same (reacted c r [] h) ∙ ap m (reacted_same c d al r s l [] h)))
short_same c d al again None (Some s) l rest h n m same = absurd l
short_same c d al again (Some r) None l rest h n m same = absurd l

step_same : (c d : List Rule) → Alike c d → (again : Bool) (o : Option ℕ) (flags : Text) (skip : ℕ) (h : Held) (n m : Text → ℕ → Held → Kinds)
    → ((f : Text) (k : ℕ) (x : Held) → n f k x ≡ m f k x) → bundle_step_fault c again o flags skip h n ≡ bundle_step_fault d again o flags skip h m
step_same c d al again None flags skip h n m same = refl
step_same c d al again (Some x) flags zero h n m same =
    let rest = drop (length (encode_utf8 x)) flags in
    short_same c d al again (arg_by_short c x) (arg_by_short d x) (al.by_short x) rest h (n rest 0) (m rest 0) (same rest 0)
step_same c d al again (Some x) flags (suc skip) h n m same = same (drop (length (encode_utf8 x)) flags) skip h

flags_same : (c d : List Rule) → Alike c d → (again : Bool) (k : ℕ) (flags : Text) (skip : ℕ) (h : Held) → flags_fault c again k flags skip h ≡ flags_fault d again k flags skip h
unfolding flags_fault
flags_same c d al again zero flags skip h = refl
flags_same c d al again (suc k) flags skip h =
    step_same c d al again (slice_get (chars flags) 0) flags skip h (flags_fault c again k) (flags_fault d again k) (flags_same c d al again k)

bundled_same : (c d : List Rule) → Alike c d → (again : Bool) (o : Option Text) (h : Held)
    → option_map_or (λ flags. bundle_fault c again flags h) o [] ≡ option_map_or (λ flags. bundle_fault d again flags h) o []
bundled_same c d al again None h = refl
bundled_same c d al again (Some flags) h = flags_same c d al again (length flags) flags h.skip (record h { skip = 0 })

flag_word_same : (c d : List Rule) → Alike c d → (again : Bool) (o : Option (Text × Option Text)) (word : Text) (h : Held)
    → flag_word_fault c again o word h ≡ flag_word_fault d again o word h
flag_word_same c d al again (Some p) word h = long_same c d al again (arg_by_long c p.0) (arg_by_long d p.0) (al.by_long p.0) p.1 h
flag_word_same c d al again None word h = bundled_same c d al again (short_of word) h

abbrev pub ruled : Shape → List Rule → Shape
ruled s c = record s { rules = c }

other_same : (c d : List Rule) → Alike c d → (s : Shape) (o : Option Text) (word : Text) (h : Held) → other_fault (ruled s c) o word h ≡ other_fault (ruled s d) o word h
other_same c d al s (Some name) word h = refl
other_same c d al s None word h =
    ap (λ (k : Kinds). cond (bytes_eq word (45 ∷ 45 ∷ [])) [] k) (flag_word_same c d al s.args_override_self (long_of word) word h)

word_fault_same : (c d : List Rule) → Alike c d → (s : Shape) (names : Names) (is_trailing : Bool) (waiting : Waiting) (word : Text) (h : Held)
    → word_fault (ruled s c) names is_trailing waiting word h ≡ word_fault (ruled s d) names is_trailing waiting word h
word_fault_same c d al s names is_trailing waiting word h =
    ap (λ (k : Kinds). cond is_trailing [] k) (other_same c d al s (subcommand_met names waiting word) word h)

step_fault_same : (c d : List Rule) → Alike c d → (s : Shape) (position : ℕ) (h : Held) (step : Step) → step_fault (ruled s c) position h step ≡ step_fault (ruled s d) position h step
step_fault_same c d al s position h (next waiting) = refl
step_fault_same c d al s position h (trailing place) = refl
step_fault_same c d al s position h (subcommand name) = refl
step_fault_same c d al s position h value =
    ap (λ (o : Option Rule). option_map_or (λ a. positional_fault c s.args_override_self a h) o (stray_fault s)) (al.by_index position).0
    ∙ sym (ap (λ (o : Option Rule). option_map_or (λ a. positional_fault d s.args_override_self a h) o (stray_fault s)) (al.by_index position).1)

turn_same : (c d : List Rule) → Alike c d → (s : Shape) (names : Names) (w : Walk) (word : Text) → turn_fault (ruled s c) names w word ≡ turn_fault (ruled s d) names w word
turn_same c d al s names w word =
    let met = word_met d names w.is_trailing w.waiting w.position word w.held in
    ap (λ (k : Kinds). cond (is_some w.stopped) [] k)
    (ap₂ or_else (word_fault_same c d al s names w.is_trailing w.waiting word w.held)
    (ap (λ (x : Held × Step). step_fault (ruled s c) w.position x.0 x.1) (word_same c d al names w.is_trailing w.waiting w.position word w.held)
    ∙ step_fault_same c d al s w.position met.0 met.1))

walk_fault_same : (c d : List Rule) → Alike c d → (s : Shape) (names : Names) (w : Walk) (words : List Text) → walk_fault (ruled s c) names w words ≡ walk_fault (ruled s d) names w words
unfolding walk_fault
walk_fault_same c d al s names w [] = refl
walk_fault_same c d al s names w (word ∷ rest) =
    ap₂ or_else (turn_same c d al s names w word)
    (ap (λ (x : Walk). walk_fault (ruled s c) names x rest) (walked_same c d al names w word) ∙ walk_fault_same c d al s names (walked d names w word) rest)

pub finished_same : (c d : List Rule) → Alike c d → (h : Held) → finished c h ≡ finished d h
finished_same c d al h = ap (λ (rows : List Row). fold with_default rows c) (rows_same c d al h.pending h.rows) ∙ al.defaulted (settled d h).rows

check_same : (c d : List Rule) → Alike c d → (s : Shape) (rows : List Row) (has : Bool) → check_fault (ruled s c) rows has ≡ check_fault (ruled s d) rows has
check_same c d al s rows has =
    ap (λ (b : Bool). check_kinds (not has && (s.arg_required_else_help && not (list_any (λ r. explicit_source r.source) rows))) (not has && s.subcommand_required) (not (s.subcommand_negates_reqs && has) && b))
    (al.missing rows)

end_same : (c d : List Rule) → Alike c d → (s : Shape) (h : Held) (has : Bool)
    → or_else (settle_fault c s.args_override_self h) (or_else (defaults_fault (settled c h).rows c) (check_fault (ruled s c) (finished c h) has))
    ≡ or_else (settle_fault d s.args_override_self h) (or_else (defaults_fault (settled d h).rows d) (check_fault (ruled s d) (finished d h) has))
end_same c d al s h has =
    ap₂ or_else (settle_same c d al s.args_override_self h)
    (ap₂ or_else (ap (λ (rows : List Row). defaults_fault rows c) (rows_same c d al h.pending h.rows) ∙ al.defaults (settled d h).rows)
    (ap (λ (rows : List Row). check_fault (ruled s c) rows has) (finished_same c d al h) ∙ check_same c d al s (finished d h) has))

pub level_same : (c d : List Rule) → Alike c d → (s : Shape) (names : Names) (h : Held) (words : List Text) (has : Bool) (below : Kinds)
    → level_fault (ruled s c) names h words has below ≡ level_fault (ruled s d) names h words has below
level_same c d al s names h words has below =
    ap₂ or_else (walk_fault_same c d al s names (walk_from h) words)
    (ap (or_else below)
    (ap (λ (w : Walk). or_else (settle_fault c s.args_override_self w.held) (or_else (defaults_fault (settled c w.held).rows c) (check_fault (ruled s c) (finished c w.held) has))) (walk_same c d al names h words)
    ∙ end_same c d al s (walk d names h words).held has))
