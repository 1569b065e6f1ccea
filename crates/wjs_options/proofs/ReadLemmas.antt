-- What the getters of `clap`'s matches read.
use Rattle.std.proofs.Common.{◌≡◌, ◌≤◌, ◌∙◌, ℕ, List, Option, Some, None, refl, sym, ap, subst, rules, option_map}
use Rattle.std.specs.Prelude.{IsSome, codes, Result, Ok, Err, option_and_then, unwrap_or}
use Rattle.std.specs.Borrow.{Bor}
use Rattle.std.specs.Str.Parse.{ParsesUnsigned}
use Rattle.clap.specs.Words.{IsUnsignedIn, ReadsOne, Row, Text, first_of, one_of, one_text, rows_of}
use Rattle.clap.specs.declared.parser.matches.Found.{Found}
use Rattle.clap.proofs.WalkLemmas.{one_text-rows}
use Rattle.std.specs.Prelude.{◌≢◌}
use Rattle.std.specs.Result.{IsErrAnd}
use Rattle.std.proofs.Common.{[], inl, inr}
use Rattle.clap.specs.Words.{App, HasKind, IsAmong, Kinds, fault_of, kind_of}
use Rattle.clap.specs.declared.error.Error.{Error}
use Rattle.clap.specs.declared.error.kind.ErrorKind.TheVariants as kind
use Rattle.wjs_options.specs.declared.answer.Options.{Options}
use Rattle.wjs_options.specs.declared.answer.WordsFault.{WordsFault}
use Rattle.wjs_options.specs.declared.answer.WordsFault.TheVariants.{Usage, OutOfMemory}
use Rattle.wjs_options.specs.Options.{Answers, HasNumber, Says, mode_named, number_of}
use Rattle.wjs_options.specs.declared.mode.Mode.{Mode}

pub some_from : {X : Type 0} (r : Option X) (x : X) → r ≡ Some x → IsSome r
some_from r x is = rw is (search rules)

-- a text that passed a range is read as the number that it writes
pub unsigned_read : (E : Type 0) (G : Text → Result ℕ E → Type 0) (most : ℕ) (text : Text) (r : Option ℕ)
    → ReadsOne G text r → ((x : Result ℕ E) → G text x → ParsesUnsigned 64 10 text x)
    → IsUnsignedIn 1 most text → r ≡ Some (number_of text)
unsigned_read E G most text (Some n) read only passed = ap Some (only (Ok n) read).1
unsigned_read E G most text None read only passed =
    absurd (only (Err read.0) read.1 (passed.0, passed.1))

-- and so where a getter reads the text of an id
pub number_read : (E : Type 0) (G : Text → Result ℕ E → Type 0) (f : Found) (id : Text) (most : ℕ) (has : HasNumber (rows_of f) id most) (r : Option ℕ)
    → ((text : Text) → one_text f id ≡ Some text → ReadsOne G text r) → ((text : Text) (x : Result ℕ E) → G text x → ParsesUnsigned 64 10 text x)
    → r ≡ Some (number_of has.0)
number_read E G f id most has r reads only =
    unsigned_read E G most has.0 r (reads has.0 (one_text-rows f id ∙ has.1)) (only has.0) has.2

-- and that number is what the matches give
pub number_given : (rows : List Row) (id : Text) (most : ℕ) (has : HasNumber rows id most) (r : Option ℕ) (n : ℕ)
    → r ≡ Some (number_of has.0) → r ≡ Some n
    → (option_map number_of (one_of id rows) ≡ Some n) × (1 ≤ n) × (n ≤ most)
number_given rows id most has r n read is =
    let same : number_of has.0 ≡ n = ap (λ (o : Option ℕ). unwrap_or o 0) (sym read ∙ is) in (
      rw (has.1, same) refl,
      subst (λ (m : ℕ). 1 ≤ m) same has.2.2,
      subst (λ (m : ℕ). m ≤ most) same has.2.3,
    )

-- a reference to a text that is known
pub text_read : (r : Option (Bor Text)) (s : Bor Text) (text : Text) → option_map (λ s. s.now) r ≡ Some text → r ≡ Some s
    → s.now ≡ text
text_read r s text shows is =
    ap (λ (o : Option Text). unwrap_or o text) (sym (ap (option_map (λ (b : Bor Text). b.now)) is) ∙ shows)

pub text_there : (r : Option (Bor Text)) (text : Text) → option_map (λ s. s.now) r ≡ Some text → IsSome r
text_there (Some s) text shows = search rules
text_there None text shows = cc

pub mode_given : (rows : List Row) (text : Text) (mode : Mode) → first_of (codes "mode") rows ≡ Some text → mode_named text ≡ Some mode
    → option_and_then mode_named (first_of (codes "mode") rows) ≡ Some mode
mode_given rows text mode there named = rw there named

-- want of memory answers for any words
pub memory_answers : (app : App) (words : List Text) (r : Result Options WordsFault) → IsErrAnd r (λ f. f ≡ OutOfMemory) → Answers app words r
memory_answers app words (Ok options) h = absurd h
memory_answers app words (Err fault) h = subst (Says (fault_of app words ≢ [])) (sym h) tt

-- a fault that says one thing says what follows from it
pub says_weaker : (P Q : Type 0) (fault : WordsFault) → (P → Q) → Says P fault → Says Q fault
says_weaker P Q (Usage line) f h = (f h.0, h.1)
says_weaker P Q OutOfMemory f h = tt

-- an error that is no want of memory has a kind
pub some_kind : (kinds : Kinds) (e : Error) → HasKind kinds e → kind_of e ≢ kind.OutOfMemory → kinds ≢ []
some_kind kinds e (inl memory) other none = other memory
some_kind kinds e (inr among) other none = subst (IsAmong (kind_of e)) none among
