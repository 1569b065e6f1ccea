-- A parse makes the same of the words by two lists of rules that look alike to it.
use Rattle.std.proofs.Common.{◌≡◌, ◌∙◌, ap, ap₂, cond, zero, suc, ℕ, Bool, List, [], ◌∷◌, length, drop, Option, Some, None, refl, sym}
use Rattle.std.specs.Prelude.{◌&&◌, encode_utf8, fold, nat_lt, not, slice_get, ⊤}
use Rattle.std.specs.Str.{bytes_eq, chars}
use Rattle.std.specs.List.{list_any}
use Rattle.clap.specs.Lexer.{long_of, short_of}
use Rattle.clap.specs.Walk.{Held, Names, Outcome, Row, Rule, Step, Text, Waiting, Walk, after_flag, after_step, arg_by_id, arg_by_index, arg_by_long, arg_by_short}
use Rattle.clap.specs.Walk.{bundle, bundle_met, bundle_step, done, flag_met, idle, long_met, long_or_other, long_word, most_values, next, option, option_met, option_word}
use Rattle.clap.specs.Walk.{pending_count, plain, plain_word, positional, pushed, reacted, refused, settled, settled_rows, short_met, short_or_plain, short_word, subcommand}
use Rattle.clap.specs.Walk.{subcommand_met, subcommand_or_other, takes_values, to_positional, trailing, used, used_by_id, value, waits, walk, walk_from, walked, walked_from}
use Rattle.clap.specs.Walk.{with_default, word_met}
use Rattle.clap.specs.Takes.{is_given}
use Rattle.clap.specs.Faults.{defaults_fault, use_fault}

-- two rules under one id of which each use makes the same
pub record Same (r s : Rule) : Type 0 where
  pub id : r.id ≡ s.id
  pub use_is : (values : List Text) (rows : List Row) → used r values rows ≡ used s values rows
  pub fault_is : (again : Bool) (values : List Text) (rows : List Row) → use_fault again r values rows ≡ use_fault again s values rows
  pub takes : takes_values r ≡ takes_values s
  pub most : most_values r ≡ most_values s

abbrev pub Likes : Option Rule → Option Rule → Type 0
Likes None None = ⊤
Likes (Some r) (Some s) = Same r s
Likes None (Some s) = ⊥
Likes (Some r) None = ⊥

-- two lists of rules, none of a positional, in which each name finds the same
pub record Alike (c d : List Rule) : Type 0 where
  pub by_id : (id : Text) → Likes (arg_by_id c id) (arg_by_id d id)
  pub by_long : (name : Text) → Likes (arg_by_long c name) (arg_by_long d name)
  pub by_short : (x : ℕ) → Likes (arg_by_short c x) (arg_by_short d x)
  pub by_index : (i : ℕ) → (arg_by_index c i ≡ None) × (arg_by_index d i ≡ None)
  pub defaulted : (rows : List Row) → fold with_default rows c ≡ fold with_default rows d
  pub defaults : (rows : List Row) → defaults_fault rows c ≡ defaults_fault rows d
  pub missing : (rows : List Row) → list_any (λ a. a.required && not (is_given a.id rows)) c ≡ list_any (λ a. a.required && not (is_given a.id rows)) d

pub if_same : {X : Type 0} (b e : Bool) (x y u v : X) → b ≡ e → x ≡ u → y ≡ v → cond b x y ≡ cond e u v
if_same b e x y u v be xu yv = λ i. cond (be i) (xu i) (yv i)

use_same : (o p : Option Rule) → Likes o p → (values : List Text) (rows : List Row) → used_by_id o values rows ≡ used_by_id p values rows
use_same None None l values rows = refl
use_same (Some r) (Some s) l values rows = l.use_is values rows
use_same None (Some s) l values rows = absurd l
use_same (Some r) None l values rows = absurd l

pending_same : (r s : Rule) → Same r s → (p : Option (Text × List Text)) → pending_count r p ≡ pending_count s p
pending_same r s l None = refl
pending_same r s l (Some p) = ap (λ (id : Text). cond (bytes_eq p.0 id) (length p.1) 0) l.id

option_word_same : (o p : Option Rule) → Likes o p → (id word : Text) (h : Held) → option_word o id word h ≡ option_word p id word h
option_word_same None None l id word h = refl
option_word_same (Some r) (Some s) l id word h =
    ap₂ (λ (n most : ℕ). (pushed id word h, cond (nat_lt n most) (option id) idle)) (pending_same r s l (pushed id word h).pending) l.most
option_word_same None (Some s) l id word h = absurd l
option_word_same (Some r) None l id word h = absurd l

fold_same : {A B : Type 0} (f g : B → A → B) → ((b : B) (a : A) → f b a ≡ g b a) → (xs : List A) (b : B) → fold f b xs ≡ fold g b xs
fold_same f g same [] b = refl
fold_same f g same (x ∷ xs) b = ap (λ w. fold f w xs) (same b x) ∙ fold_same f g same xs (g b x)

pub rows_same : (c d : List Rule) → Alike c d → (p : Option (Text × List Text)) (rows : List Row) → settled_rows c p rows ≡ settled_rows d p rows
rows_same c d al None rows = refl
rows_same c d al (Some p) rows = use_same (arg_by_id c p.0) (arg_by_id d p.0) (al.by_id p.0) p.1 rows

settled_same : (c d : List Rule) → Alike c d → (h : Held) → settled c h ≡ settled d h
settled_same c d al h = ap (λ (rows : List Row). record h { rows = rows; pending = None }) (rows_same c d al h.pending h.rows)

pub reacted_same : (c d : List Rule) → Alike c d → (r s : Rule) → Same r s → (values : List Text) (h : Held) → reacted c r values h ≡ reacted d s values h
reacted_same c d al r s l values h =
    ap (λ (rows : List Row). record h { rows = rows; pending = None })
    (l.use_is values (settled c h).rows ∙ ap (used s values) (rows_same c d al h.pending h.rows))

option_same : (c d : List Rule) → Alike c d → (r s : Rule) → Same r s → (v : Option Text) (h : Held) → option_met c r v h ≡ option_met d s v h
option_same c d al r s l (Some v) h = ap (λ (x : Held). (x, done)) (reacted_same c d al r s l (v ∷ []) h)
option_same c d al r s l None h =
    ap₂ (λ (x : Held) (id : Text). (record x { pending = Some (id, []) }, waits id)) (settled_same c d al h) l.id

flag_same : (c d : List Rule) → Alike c d → (r s : Rule) → Same r s → (v : Option Text) (h : Held) → flag_met c r v h ≡ flag_met d s v h
flag_same c d al r s l (Some v) h = refl
flag_same c d al r s l None h = ap (λ (x : Held). (x, done)) (reacted_same c d al r s l [] h)

long_same : (c d : List Rule) → Alike c d → (o p : Option Rule) → Likes o p → (v : Option Text) (h : Held) → long_met c o v h ≡ long_met d p v h
long_same c d al None None l v h = refl
long_same c d al (Some r) (Some s) l v h = if_same _ _ _ _ _ _ l.takes (option_same c d al r s l v h) (flag_same c d al r s l v h)
long_same c d al None (Some s) l v h = absurd l
long_same c d al (Some r) None l v h = absurd l

short_same : (c d : List Rule) → Alike c d → (o p : Option Rule) → Likes o p → (rest : Text) (h : Held) (n m : Held → Held × Outcome)
    → ((x : Held) → n x ≡ m x) → short_met c o rest h n ≡ short_met d p rest h m
short_same c d al None None l rest h n m same = refl
short_same c d al (Some r) (Some s) l rest h n m same =
    if_same _ _ _ _ _ _ l.takes (option_same c d al r s l _ h) (same (reacted c r [] h) ∙ ap m (reacted_same c d al r s l [] h))
short_same c d al None (Some s) l rest h n m same = absurd l
short_same c d al (Some r) None l rest h n m same = absurd l

step_same : (c d : List Rule) → Alike c d → (o : Option ℕ) (flags : Text) (skip : ℕ) (so_far : Outcome) (h : Held) (n m : Text → ℕ → Outcome → Held → Held × Outcome)
    → ((f : Text) (k : ℕ) (out : Outcome) (x : Held) → n f k out x ≡ m f k out x) → bundle_step c o flags skip so_far h n ≡ bundle_step d o flags skip so_far h m
step_same c d al None flags skip so_far h n m same = refl
step_same c d al (Some x) flags zero so_far h n m same =
    let rest = drop (length (encode_utf8 x)) flags in
    short_same c d al (arg_by_short c x) (arg_by_short d x) (al.by_short x) rest h (n rest 0 done) (m rest 0 done) (same rest 0 done)
step_same c d al (Some x) flags (suc skip) so_far h n m same = same (drop (length (encode_utf8 x)) flags) skip so_far h

bundle_same : (c d : List Rule) → Alike c d → (k : ℕ) (flags : Text) (skip : ℕ) (so_far : Outcome) (h : Held) → bundle_met c k flags skip so_far h ≡ bundle_met d k flags skip so_far h
unfolding bundle_met
bundle_same c d al zero flags skip so_far h = refl
bundle_same c d al (suc k) flags skip so_far h =
    step_same c d al (slice_get (chars flags) 0) flags skip so_far h (bundle_met c k) (bundle_met d k) (bundle_same c d al k)

plain_same : (c d : List Rule) → Alike c d → (waiting : Waiting) (word : Text) (h : Held) → plain_word c waiting word h ≡ plain_word d waiting word h
plain_same c d al idle word h = refl
plain_same c d al (option id) word h =
    ap (λ (x : Held × Waiting). (x.0, next x.1)) (option_word_same (arg_by_id c id) (arg_by_id d id) (al.by_id id) id word h)
plain_same c d al positional word h = refl

flagged_same : (c d : List Rule) → Alike c d → (waiting : Waiting) (word : Text) (h : Held) (out : Outcome) → after_flag c waiting word h out ≡ after_flag d waiting word h out
flagged_same c d al waiting word h done = refl
flagged_same c d al waiting word h (waits id) = refl
flagged_same c d al waiting word h plain = plain_same c d al waiting word h
flagged_same c d al waiting word h refused = plain_same c d al waiting word h

long_word_same : (c d : List Rule) → Alike c d → (waiting : Waiting) (word name : Text) (v : Option Text) (h : Held) → long_word c waiting word name v h ≡ long_word d waiting word name v h
long_word_same c d al waiting word name v h =
    ap (λ (x : Held × Outcome). after_flag c waiting word x.0 x.1) (long_same c d al (arg_by_long c name) (arg_by_long d name) (al.by_long name) v h)
    ∙ flagged_same c d al waiting word (long_met d (arg_by_long d name) v h).0 (long_met d (arg_by_long d name) v h).1

short_word_same : (c d : List Rule) → Alike c d → (waiting : Waiting) (word flags : Text) (h : Held) → short_word c waiting word flags h ≡ short_word d waiting word flags h
short_word_same c d al waiting word flags h =
    ap (λ (x : Held × Outcome). after_flag c waiting word x.0 x.1) (bundle_same c d al (length flags) flags h.skip plain (record h { skip = 0 }))
    ∙ flagged_same c d al waiting word (bundle d flags h).0 (bundle d flags h).1

other_same : (c d : List Rule) → Alike c d → (waiting : Waiting) (word : Text) (o : Option Text) (h : Held) → short_or_plain c waiting word o h ≡ short_or_plain d waiting word o h
other_same c d al waiting word (Some flags) h = short_word_same c d al waiting word flags h
other_same c d al waiting word None h = plain_same c d al waiting word h

long_other_same : (c d : List Rule) → Alike c d → (waiting : Waiting) (word : Text) (o : Option (Text × Option Text)) (h : Held) → long_or_other c waiting word o h ≡ long_or_other d waiting word o h
long_other_same c d al waiting word (Some p) h = long_word_same c d al waiting word p.0 p.1 h
long_other_same c d al waiting word None h = other_same c d al waiting word (short_of word) h

sub_same : (c d : List Rule) → Alike c d → (o : Option Text) (waiting : Waiting) (position : ℕ) (word : Text) (h : Held)
    → subcommand_or_other c o waiting position word h ≡ subcommand_or_other d o waiting position word h
sub_same c d al (Some name) waiting position word h = refl
sub_same c d al None waiting position word h = ap (λ (x : Held × Step). cond (bytes_eq word (45 ∷ 45 ∷ [])) (h, trailing position) x) (long_other_same c d al waiting word (long_of word) h)

pub word_same : (c d : List Rule) → Alike c d → (names : Names) (is_trailing : Bool) (waiting : Waiting) (position : ℕ) (word : Text) (h : Held)
    → word_met c names is_trailing waiting position word h ≡ word_met d names is_trailing waiting position word h
word_same c d al names is_trailing waiting position word h =
    ap (λ (x : Held × Step). cond is_trailing (h, value) x) (sub_same c d al (subcommand_met names waiting word) waiting position word h)

after_same : (c d : List Rule) → Alike c d → (word : Text) (w : Walk) (h : Held) (step : Step) → after_step c word w h step ≡ after_step d word w h step
after_same c d al word w h (next waiting) = refl
after_same c d al word w h (trailing position) = refl
after_same c d al word w h (subcommand name) = refl
after_same c d al word w h value =
    ap (λ (o : Option Rule). to_positional c o word w h) (al.by_index w.position).0 ∙ sym (ap (λ (o : Option Rule). to_positional d o word w h) (al.by_index w.position).1)

from_same : (c d : List Rule) → Alike c d → (names : Names) (o : Option (Text × List Text)) (w : Walk) (word : Text) → walked_from c names o w word ≡ walked_from d names o w word
from_same c d al names (Some p) w word = refl
from_same c d al names None w word =
    let met = word_met d names w.is_trailing w.waiting w.position word w.held in
    ap (λ (x : Held × Step). after_step c word w x.0 x.1) (word_same c d al names w.is_trailing w.waiting w.position word w.held)
    ∙ after_same c d al word w met.0 met.1

pub walked_same : (c d : List Rule) → Alike c d → (names : Names) (w : Walk) (word : Text) → walked c names w word ≡ walked d names w word
unfolding walked
walked_same c d al names w word = from_same c d al names w.stopped w word

pub walk_same : (c d : List Rule) → Alike c d → (names : Names) (h : Held) (words : List Text) → walk c names h words ≡ walk d names h words
walk_same c d al names h words = fold_same (walked c names) (walked d names) (walked_same c d al names) words (walk_from h)
