-- Bytes have one answer.
use Rattle.std.proofs.Common.{◌≡◌, ℕ, List, Option, None, Some, refl, ap}
use Rattle.wjs_lexer.specs.Laws.{OneReading, OneFault, TokensOrFault}
use Rattle.wjs_meaning.specs.Trees.{Tree}
use Rattle.wjs_forms.specs.Spells.{SpelledIsTaken, TakenIsSpelled}
use Rattle.wjs_offend.specs.Offences.{OneOffence}
use Rattle.wjs_programs.specs.Programs.{IsProgram, IsNoProgram}
use Rattle.wjs_programs.specs.Laws.{OneProgram, ProgramOrNone}
use Rattle.wjs_load.specs.declared.tokens.Refusal.{Refusal}
use Rattle.wjs_load.specs.declared.tokens.Refusal.TheVariants.{NotUtf8, NotAToken, Unexpected, NotAScript}
use Rattle.wjs_load.specs.Loading.{Refuses, IsProgramOrNot}
use Rattle.wjs_load.specs.Laws.{OneRefusal, ProgramOrRefusal, OneAnswer}
use Rattle.wjs_load.proofs.Alike.{AreAlike, bytes_alike}
use Rattle.wjs_load.proofs.AlikeOffences.{same_line, stops_or_not}

module _ (one_fault : OneFault) (tokens_or_fault : TokensOrFault) where
  module _ (one_reading : OneReading) (taken : SpelledIsTaken) (spelled : TakenIsSpelled) (one_offence : OneOffence) where
    none_alike : (bytes : List ℕ) (a b : IsNoProgram bytes) → AreAlike a.toks b.toks
    none_alike bytes a b = bytes_alike one_reading bytes a.texts b.texts a.toks b.toks a.tokens b.tokens

    pub one_refusal : OneRefusal
    one_refusal bytes NotUtf8 NotUtf8 h k = refl
    one_refusal bytes NotUtf8 (NotAToken m) h k = absurd (h.1.none k.1.utf8)
    one_refusal bytes NotUtf8 (Unexpected m) h k = absurd (h.1.none k.0.tokens.utf8)
    one_refusal bytes NotUtf8 NotAScript h k = absurd (h.1.none k.0.tokens.utf8)
    one_refusal bytes (NotAToken l) NotUtf8 h k = absurd (k.1.none h.1.utf8)
    one_refusal bytes (NotAToken l) (NotAToken m) h k = ap NotAToken (one_fault bytes h.0 k.0 l m h.1 k.1).1
    one_refusal bytes (NotAToken l) (Unexpected m) h k = absurd (tokens_or_fault bytes k.0.texts k.0.toks h.0 l k.0.tokens h.1)
    one_refusal bytes (NotAToken l) NotAScript h k = absurd (tokens_or_fault bytes k.0.texts k.0.toks h.0 l k.0.tokens h.1)
    one_refusal bytes (Unexpected l) NotUtf8 h k = absurd (k.1.none h.0.tokens.utf8)
    one_refusal bytes (Unexpected l) (NotAToken m) h k = absurd (tokens_or_fault bytes h.0.texts h.0.toks k.0 m h.0.tokens k.1)
    one_refusal bytes (Unexpected l) (Unexpected m) h k = ap Unexpected (same_line taken spelled one_offence h.0.toks k.0.toks l m (none_alike bytes h.0 k.0) h.1 k.1)
    one_refusal bytes (Unexpected l) NotAScript h k = absurd (stops_or_not taken spelled one_offence h.0.toks k.0.toks l (none_alike bytes h.0 k.0) h.1 k.1)
    one_refusal bytes NotAScript NotUtf8 h k = absurd (k.1.none h.0.tokens.utf8)
    one_refusal bytes NotAScript (NotAToken m) h k = absurd (tokens_or_fault bytes h.0.texts h.0.toks k.0 m h.0.tokens k.1)
    one_refusal bytes NotAScript (Unexpected m) h k = absurd (stops_or_not taken spelled one_offence k.0.toks h.0.toks m (none_alike bytes k.0 h.0) k.1 h.1)
    one_refusal bytes NotAScript NotAScript h k = refl

  module _ (one_program : OneProgram) (program_or_none : ProgramOrNone) where
    pub program_or_refusal : ProgramOrRefusal
    program_or_refusal bytes tree NotUtf8 h k = k.1.none h.tokens.utf8
    program_or_refusal bytes tree (NotAToken m) h k = tokens_or_fault bytes h.texts h.toks k.0 m h.tokens k.1
    program_or_refusal bytes tree (Unexpected m) h k = program_or_none bytes tree h k.0
    program_or_refusal bytes tree NotAScript h k = program_or_none bytes tree h k.0

    pub one_answer : OneAnswer
    one_answer bytes (Some a) (Some b) h k = ap Some (one_program bytes a b h k)
    one_answer bytes (Some a) None h k = absurd (program_or_refusal bytes a k.0 h k.1)
    one_answer bytes None (Some b) h k = absurd (program_or_refusal bytes b h.0 k h.1)
    one_answer bytes None None h k = refl
