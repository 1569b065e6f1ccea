use Rattle.std.proofs.Common.{◌≡◌, List, ℕ, ◌≤◌, ◌^◌, Result, Ok, Err, IfOk, IfErr, sym, ◌∙◌, ap, arith, subst, length}
use Rattle.std.specs.Str.{chars, IsUtf8}
use Rattle.std.proofs.lemmas.Str.{chars_from_encodes}
use Rattle.wjs_base.specs.Text.{Table}
use Rattle.wjs_tree.specs.declared.tokens.Tok.{Tok}
use Rattle.wjs_lexer.specs.declared.lexing.LexFault.{LexFault}
use Rattle.wjs_lexer.specs.declared.lexing.LexFault.TheVariants as faults
use Rattle.wjs_lexer.specs.Lexing.{HasTokens, HasFault, start}
use Rattle.wjs_lexer.specs.Steps.{IsShort, AreChars, Lexes, ReadFault}
use Rattle.wjs_lexer.proofs.Sizes.{bytes_all}
use Rattle.wjs_lexer.proofs.lexing.lex.Goals as goal

all_chars : (bytes cs ds : List ℕ) → AreChars bytes cs → ds ≡ cs → ds ≡ chars bytes
all_chars bytes cs ds h e = e ∙ chars_from_encodes cs bytes h.utf8 h.encoded

short : (bytes cs ds : List ℕ) → length bytes ≤ 2 ^ 24 → AreChars bytes cs → ds ≡ cs → IsShort ds
short bytes cs ds l h e =
    let a = bytes_all cs in
    let b = ap (λ (xs : List ℕ). length xs) h.encoded in
    subst (λ (xs : List ℕ). IsShort xs) (sym e) (omega (arith, a, b, l))

has_tokens : (bytes cs : List ℕ) (texts : Table) (toks : List Tok) → IsUtf8 bytes → cs ≡ chars bytes → Lexes cs (start cs) texts toks → HasTokens bytes texts toks
has_tokens bytes cs texts toks u e h =
    let k = subst (λ (xs : List ℕ). Lexes xs (start xs) texts toks) e h in
    record { utf8 = u; placed = k.placed; reads = k.reads; same = k.same }

has_fault : (bytes cs : List ℕ) (f : LexFault) → IsUtf8 bytes → cs ≡ chars bytes → ReadFault cs (start cs) f → HasFault bytes f
has_fault bytes cs (faults.NotUtf8 b) u e h = absurd h
has_fault bytes cs (faults.NotAToken b l) u e h = record { utf8 = u; stops = subst (λ (xs : List ℕ). ReadFault xs (start xs) (faults.NotAToken b l)) e h }
has_fault bytes cs faults.OutOfMemory u e h = tt

if_ok : {A E : Type 0} (r : Result A E) (P Q : A → Type 0) → ((a : A) → P a → Q a) → IfOk r P → IfOk r Q
if_ok (Ok a) P Q f h = f a h
if_ok (Err e) P Q f h = h

if_err : {A E : Type 0} (r : Result A E) (P Q : E → Type 0) → ((e : E) → P e → Q e) → IfErr r P → IfErr r Q
if_err (Ok a) P Q f h = h
if_err (Err e) P Q f h = f e h

pub read-requires : goal.read-requires
read-requires c = short c.args.bytes.now c.in_ok-chars.chars.items c.deref.result.now c.requires c.in_ok-chars.ensures.ok c.deref.ensures.value

pub returns-clause-ok : goal.returns-clause-ok
returns-clause-ok c =
    let a = c.in_ok-chars.ensures.ok in
    let e = all_chars c.args.bytes.now c.in_ok-chars.chars.items c.deref.result.now a c.deref.ensures.value in
    if_ok c.read.result _ _ (λ toks h. has_tokens c.args.bytes.now c.deref.result.now c.read.new.texts toks.items a.utf8 e h) c.read.ensures.ok

pub returns-clause-fault : goal.returns-clause-fault
returns-clause-fault c =
    let a = c.in_ok-chars.ensures.ok in
    let e = all_chars c.args.bytes.now c.in_ok-chars.chars.items c.deref.result.now a c.deref.ensures.value in
    if_err c.read.result _ _ (λ f h. has_fault c.args.bytes.now c.deref.result.now f a.utf8 e h) c.read.ensures.fault
