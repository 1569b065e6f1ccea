-- What reading and running come to, and the line on err.
use Rattle.std.proofs.Common.{◌≡◌, ◌≢◌, ℕ, zero, suc, ◌+◌, ◌<◌, ◌≤◌, ◌⊎◌, inl, inr, List, [], ◌∷◌, ◌++◌, Option, None, Some, IfSome, Result, Ok, Err, codes, length, take, refl, sym, ◌∙◌, ap, subst, arith, append-nil, length-append}
use Rattle.std.specs.Io.KnownBytes.{Consumes, IsAtEnd}
use Rattle.std.proofs.Math.Seq.{take-append_seam}
use Rattle.clap.specs.Words.{fault_of}
use Rattle.wjs_io.specs.Streams.{Stream, stream, Failed, Gave, Got, GotPrefix, GotLess, Stops}
use Rattle.wjs_io.proofs.Written.{Appends-nil}
use Rattle.wjs_gen.specs.Script.{script}
use Rattle.wjs_meaning.specs.Programs.{Ending, Done as EndsDone, Threw as EndsThrown, StepsSpent as EndsSpent}
use Rattle.wjs_meaning.specs.Trees.{Tree}
use Rattle.wjs_alone.specs.Playing.{Play, play}
use Rattle.wjs_options.specs.Command.{command}
use Rattle.wjs_options.specs.Lines.{IsUsageLine}
use Rattle.wjs_options.specs.declared.answer.Options.{Options}
use Rattle.wjs_options.specs.declared.mode.Mode.{Mode}
use Rattle.wjs_options.specs.declared.mode.Mode.TheVariants as modes
use Rattle.wjs_command.specs.declared.status.Status.{Status}
use Rattle.wjs_command.specs.declared.status.Status.TheVariants as statuses
use Rattle.wjs_command.specs.declared.report.Report.{Report}
use Rattle.wjs_command.specs.declared.report.Stop.{Stop}
use Rattle.wjs_command.specs.declared.report.Stop.TheVariants.{ReadFault, OutFault, OutOfMemory}
use Rattle.wjs_command.specs.Table.{Due, Told, line}
use Rattle.wjs_command.specs.Runs.{status_of_end}
use Rattle.wjs_command.specs.Refusals.{refused}
use Rattle.wjs_command.specs.Plays.{told_by_play, OfPlay, refuses as refuses_play, divides, PlayedAlone}
use Rattle.wjs_command.specs.Due.{most_of, IsRun, OfScript, refuses, reads, blames, agrees, owed_in, IsTold, too_long, served, Asks, bytes_by, bytes_for, taken_by, IsDue, usage, asked}
use Rattle.wjs_command.specs.Command.{AsDue, ErrFailed, EndsBy, WroteAlone, Ends, Faultless, Causes, IsComplete}
use Rattle.wjs_command.specs.Attempt.{Delivers, Comes, nothing, something, ComesAlone, Refuses, ReachesTold, Serves, Reaches, WordsFit, HasCauses}
use Rattle.wjs_command.specs.Attempt.{Attempts, Reports, Finishes}
use Rattle.wjs_command.proofs.Deliveries.{refused_alone}
use Rattle.wjs_command.proofs.OneDue.{one_options}

-- ---- the bytes of a source

-- the bytes that a source had, or none where it doesn't tell
bytes_had : (o : Option (List ℕ)) → (bytes : List ℕ) × IfSome o (λ left. left ≡ bytes)
bytes_had None = ([], tt)
bytes_had (Some left) = (left, refl)

gave_none : (o : Option (List ℕ)) (bytes : List ℕ) → bytes ≡ [] → IfSome o (λ had. IfSome o (λ left. had ≡ bytes ++ left))
gave_none None bytes e = tt
gave_none (Some left) bytes e = ap (λ bs. bs ++ left) (sym e)

-- the source gave all that it had
gave_all : (left rest : Option (List ℕ)) (items bytes : List ℕ) → IfSome left (λ known. items ≡ known) → IsAtEnd rest → bytes ≡ items → IfSome left (λ had. IfSome rest (λ l. had ≡ bytes ++ l))
gave_all None rest items bytes all end e = tt
gave_all (Some xs) None items bytes all end e = tt
gave_all (Some xs) (Some ys) items bytes all end e = sym all ∙ sym e ∙ sym (append-nil bytes) ∙ ap (λ bs. bytes ++ bs) (sym end)

had_all : (left : Option (List ℕ)) (items : List ℕ) → IfSome left (λ known. items ≡ known) → IfSome left (λ known. known ≡ items)
had_all None items all = tt
had_all (Some xs) items all = sym all

-- the bytes that a source had, of which it gave some
record Began (left rest : Option (List ℕ)) (taken : List ℕ) : Type 0 where
  bytes : List ℕ
  behind : List ℕ
  had : IfSome left (λ known. known ≡ bytes)
  whole : bytes ≡ taken ++ behind
  gave : (xs : List ℕ) → xs ≡ taken → IfSome left (λ had. IfSome rest (λ l. had ≡ xs ++ l))

began : (left rest : Option (List ℕ)) (taken : List ℕ) → Consumes left rest taken → Began left rest taken
began None rest taken h = record { bytes = taken; behind = []; had = tt; whole = sym (append-nil taken); gave = λ xs e. tt }
began (Some xs) None taken h = absurd h
began (Some xs) (Some ys) taken h = record { bytes = xs; behind = ys; had = refl; whole = h; gave = λ zs e. h ∙ ap (λ bs. bs ++ ys) (sym e) }

take_none : (n : ℕ) → let none : List ℕ = [] in take n none ≡ none
take_none zero = refl
take_none (suc n) = refl

take_few : (n : ℕ) (xs : List ℕ) → length xs ≤ n → take n xs ≡ xs
take_few n [] h = take_none n
take_few zero (x ∷ xs) h = absurd (omega (arith, h))
take_few (suc n) (x ∷ xs) h = ap (λ l. x ∷ l) (take_few n xs (omega (arith, h)))

-- ---- by the mode

taken_read : (mode : Mode) (bytes : List ℕ) → mode ≢ modes.Gen → taken_by mode bytes ≡ take (most_of mode + 1) bytes
taken_read modes.Run bytes other = refl
taken_read modes.Check bytes other = refl
taken_read modes.Tree bytes other = refl
taken_read modes.Gen bytes other = absurd (other refl)
taken_read modes.Play bytes other = refl
taken_read modes.Log bytes other = refl
taken_read modes.Audit bytes other = refl

bytes_read : (mode : Mode) (number : ℕ) (bytes : List ℕ) → mode ≢ modes.Gen → bytes_by mode number bytes ≡ bytes
bytes_read modes.Run number bytes other = refl
bytes_read modes.Check number bytes other = refl
bytes_read modes.Tree number bytes other = refl
bytes_read modes.Gen number bytes other = absurd (other refl)
bytes_read modes.Play number bytes other = refl
bytes_read modes.Log number bytes other = refl
bytes_read modes.Audit number bytes other = refl

abbrev IsGen : Mode → Type 0
IsGen modes.Gen = Unit {0}
IsGen _ = ⊥

-- ---- what the options ask for is done

reaches_by : (options : Options) (bytes : List ℕ) (source out : Stream) (told : Told) (result : Result Report Stop) → IsTold options (bytes_for options bytes) told → Gave source (taken_by options.mode bytes) → Delivers told out result → ReachesTold options bytes source out result
reaches_by options bytes source out told (Ok report) p gave d = (told, p, d.1, gave, d.0)
reaches_by options bytes source out told (Err ReadFault) p gave d = absurd d
reaches_by options bytes source out told (Err OutFault) p gave d = (told, p, d)
reaches_by options bytes source out told (Err OutOfMemory) p gave d = inr (told, p, d)

reaches_spent : (options : Options) (bytes : List ℕ) (source out : Stream) (result : Result Report Stop) → result ≡ Err OutOfMemory → Got out [] → ReachesTold options bytes source out result
reaches_spent options bytes source out result e got = subst (ReachesTold options bytes source out) (sym e) (inl got)

reaches_come : (options : Options) (bytes own : List ℕ) (source out : Stream) (result : Result Report Stop) → bytes_for options bytes ≡ own → Gave source (taken_by options.mode bytes) → Comes (IsTold options own) out result → ReachesTold options bytes source out result
reaches_come options bytes own source out result e gave (nothing spent got) = reaches_spent options bytes source out result spent got
reaches_come options bytes own source out result e gave (something told p d) = reaches_by options bytes source out told result (subst (λ bs. IsTold options bs told) (sym e) p) gave d

pub serve_read : (options : Options) (left rest : Option (List ℕ)) (read more : ℕ) (out : Stream) (items : List ℕ) (result : Result Report Stop) → options.mode ≢ modes.Gen → IfSome left (λ known. items ≡ known) → IsAtEnd rest → length items ≤ most_of options.mode → Comes (IsTold options items) out result → (options.mode ≡ modes.Play → ComesAlone (PlayedAlone options.steps items) out result) → Serves options (stream left rest read more) out result
serve_read options left rest read more out items result other all end within h alone =
    let taken = taken_read options.mode items other ∙ take_few (most_of options.mode + 1) items (omega (arith, within)) in
    record {
      bytes = items;
      had = had_all left items all;
      reaches = reaches_come options items items (stream left rest read more) out result (bytes_read options.mode options.number items other) (gave_all left rest items (taken_by options.mode items) all end taken) h;
      alone = alone;
    }

-- one mode is asked for
pub not_both : (mode : Mode) → mode ≡ modes.Gen → mode ≡ modes.Play → ⊥
not_both mode gen is = subst IsGen (sym gen ∙ is) tt

pub serve_generated : (options : Options) (left : Option (List ℕ)) (read : ℕ) (out : Stream) (result : Result Report Stop) → options.mode ≡ modes.Gen → Comes (IsTold options (script options.number)) out result → Serves options (stream left left read read) out result
serve_generated options left read out result gen h =
    let b = bytes_had left in
    record {
      bytes = b.0;
      had = b.1;
      reaches = reaches_come options b.0 (script options.number) (stream left left read read) out result (ap (λ mode. bytes_by mode options.number b.0) gen) (gave_none left (taken_by options.mode b.0) (ap (λ mode. taken_by mode b.0) gen)) h;
      alone = λ is. absurd (not_both options.mode gen is);
    }

pub serve_failed : (options : Options) (left rest held : Option (List ℕ)) (read more wrote : ℕ) → Failed (stream left rest read more) → Serves options (stream left rest read more) (stream held held wrote wrote) (Err ReadFault)
serve_failed options left rest held read more wrote failed =
    let b = bytes_had left in
    record { bytes = b.0; had = b.1; reaches = (failed, Appends-nil held); alone = λ is. tt }

pub serve_spent : (options : Options) (left rest held : Option (List ℕ)) (read more wrote : ℕ) → Serves options (stream left rest read more) (stream held held wrote wrote) (Err OutOfMemory)
serve_spent options left rest held read more wrote =
    let b = bytes_had left in
    record { bytes = b.0; had = b.1; reaches = inl (Appends-nil held); alone = λ is. inl (Appends-nil held) }

reaches_refused : (options : Options) (bytes : List ℕ) (source : Stream) (held : Option (List ℕ)) (wrote : ℕ) (text : List ℕ) (result : Result Report Stop) → IsTold options (bytes_for options bytes) (refused text) → Gave source (taken_by options.mode bytes) → Refuses text result → ReachesTold options bytes source (stream held held wrote wrote) result
reaches_refused options bytes source held wrote text (Ok report) p gave is = (refused text, p, is, gave, Appends-nil held)
reaches_refused options bytes source held wrote text (Err e) p gave is = reaches_spent options bytes source (stream held held wrote wrote) (Err e) (ap Err is) (Appends-nil held)

pub serve_long : (options : Options) (left rest held : Option (List ℕ)) (read more wrote : ℕ) (taken : List ℕ) (result : Result Report Stop) → options.mode ≢ modes.Gen → length taken ≡ most_of options.mode + 1 → Consumes left rest taken → Refuses (codes "too long") result → Serves options (stream left rest read more) (stream held held wrote wrote) result
serve_long options left rest held read more wrote taken result other count h is =
    let b = began left rest taken h in
    let front : take (most_of options.mode + 1) b.bytes ≡ taken = ap (λ bs. take (most_of options.mode + 1) bs) b.whole ∙ ap (λ n. take n (taken ++ b.behind)) (sym count) ∙ take-append_seam taken b.behind in
    let long : most_of options.mode < length b.bytes = omega (arith, ap length b.whole, length-append taken b.behind) in
    let own = bytes_read options.mode options.number b.bytes other in
    let told : IsTold options (bytes_for options b.bytes) (refused (codes "too long")) = subst (λ bs. IsTold options bs (refused (codes "too long"))) (sym own) (too_long (record { more = long; is = refl })) in
    record {
      bytes = b.bytes;
      had = b.had;
      reaches = reaches_refused options b.bytes (stream left rest read more) held wrote (codes "too long") result told (b.gave (taken_by options.mode b.bytes) (taken_read options.mode b.bytes other ∙ front)) is;
      alone = λ play. refused_alone (PlayedAlone options.steps b.bytes) (stream held held wrote wrote) (codes "too long") result is (Appends-nil held);
    }

-- ---- the statuses that tell of a run

-- statuses that are due
abbrev IsReported : Status → Type 0
IsReported statuses.Done = Unit {0}
IsReported statuses.Threw = Unit {0}
IsReported statuses.StepsSpent = Unit {0}
IsReported statuses.Refused = Unit {0}
IsReported statuses.Usage = Unit {0}
IsReported _ = ⊥

-- and those of words without a fault
abbrev IsOrdinary : Status → Type 0
IsOrdinary statuses.Done = Unit {0}
IsOrdinary statuses.Threw = Unit {0}
IsOrdinary statuses.StepsSpent = Unit {0}
IsOrdinary statuses.Refused = Unit {0}
IsOrdinary _ = ⊥

ordinary_end : (e : Ending) → IsOrdinary (status_of_end e)
ordinary_end EndsDone = tt
ordinary_end (EndsThrown v) = tt
ordinary_end EndsSpent = tt

ordinary_run : (mode : Mode) (steps : ℕ) (bytes : List ℕ) (told : Told) → OfScript (IsRun mode steps) bytes told → IsOrdinary told.status
ordinary_run mode steps bytes told (refuses h) = subst (λ (t : Told). IsOrdinary t.status) (sym h.is) tt
ordinary_run mode steps bytes told (reads h) = subst (λ (t : Told). IsOrdinary t.status) (sym (h.owed).is) (ordinary_end _)

ordinary_played : (library : Option Tree) (parts : List Tree) (steps : ℕ) (p : Option Play) → IsOrdinary (told_by_play library parts steps p).status
ordinary_played library parts steps None = tt
ordinary_played library parts steps (Some p) = tt

ordinary_play : (steps turn : ℕ) (bytes : List ℕ) (told : Told) → OfPlay steps turn bytes told → IsOrdinary told.status
ordinary_play steps turn bytes told (refuses_play h) = subst (λ (t : Told). IsOrdinary t.status) (sym h.is) tt
ordinary_play steps turn bytes told (divides h) =
    let p = play (h.owed).library h.parts steps [] turn in
    subst (λ (t : Told). IsOrdinary t.status) (sym (h.owed).is) (ordinary_played (h.owed).library h.parts steps p)

ordinary_owed : (mode : Mode) (steps turn : ℕ) (bytes : List ℕ) (told : Told) → owed_in mode steps turn bytes told → IsOrdinary told.status
ordinary_owed modes.Run steps turn bytes told h = ordinary_run modes.Run steps bytes told h
ordinary_owed modes.Check steps turn bytes told (refuses h) = subst (λ (t : Told). IsOrdinary t.status) (sym h.is) tt
ordinary_owed modes.Check steps turn bytes told (reads h) = subst (λ (t : Told). IsOrdinary t.status) (sym h.owed) tt
ordinary_owed modes.Tree steps turn bytes told h = ordinary_run modes.Tree steps bytes told h
ordinary_owed modes.Gen steps turn bytes told h = ordinary_run modes.Gen steps bytes told h
ordinary_owed modes.Play steps turn bytes told h = ordinary_play steps turn bytes told h
ordinary_owed modes.Log steps turn bytes told (refuses h) = subst (λ (t : Told). IsOrdinary t.status) (sym h.is) tt
ordinary_owed modes.Log steps turn bytes told (reads h) = subst IsOrdinary (sym ((h.owed).run).status) (ordinary_end _)
ordinary_owed modes.Audit steps turn bytes told (blames h) = subst (λ (t : Told). IsOrdinary t.status) (sym h.is) tt
ordinary_owed modes.Audit steps turn bytes told (agrees h) = subst (λ (t : Told). IsOrdinary t.status) (sym h.is) tt

ordinary_told : (options : Options) (bytes : List ℕ) (told : Told) → IsTold options bytes told → IsOrdinary told.status
ordinary_told options bytes told (too_long h) = subst (λ (t : Told). IsOrdinary t.status) (sym h.is) tt
ordinary_told options bytes told (served h) = ordinary_owed options.mode options.steps options.turn bytes told h.owed

reported : (s : Status) → IsOrdinary s → IsReported s
reported statuses.Done h = tt
reported statuses.Threw h = tt
reported statuses.StepsSpent h = tt
reported statuses.Refused h = tt
reported statuses.OutOfMemory h = absurd h
reported statuses.Usage h = absurd h
reported statuses.ReadFault h = absurd h
reported statuses.OutFault h = absurd h
reported statuses.ErrFault h = absurd h

reported_due : (words : List (List ℕ)) (bytes : List ℕ) (due : Due) → IsDue words bytes due → IsReported due.status
reported_due words bytes due (usage h) = subst (λ (d : Due). IsReported d.status) (sym h.is) tt
reported_due words bytes due (asked h) = subst (λ (d : Due). IsReported d.status) (sym h.is) (reported (h.told).status (ordinary_told h.options (bytes_for h.options bytes) h.told h.is_told))

words_fit : (words : List (List ℕ)) (s : Status) → IsOrdinary s → Faultless words → WordsFit words s
words_fit words statuses.Done h f = f
words_fit words statuses.Threw h f = f
words_fit words statuses.StepsSpent h f = f
words_fit words statuses.Refused h f = f
words_fit words statuses.OutOfMemory h f = absurd h
words_fit words statuses.Usage h f = absurd h
words_fit words statuses.ReadFault h f = absurd h
words_fit words statuses.OutFault h f = absurd h
words_fit words statuses.ErrFault h f = absurd h

-- ---- what the words ask for is done

asked_due : (words : List (List ℕ)) (bytes : List ℕ) (options : Options) (told : Told) → Asks words options → IsTold options (bytes_for options bytes) told → IsDue words bytes (record { taken = taken_by options.mode bytes; out = told.out; err = told.err; status = told.status })
asked_due words bytes options told asks h = asked (record { options = options; asks = asks; told = told; is_told = h; is = refl })

reach : (words : List (List ℕ)) (bytes : List ℕ) (options : Options) (source out : Stream) (result : Result Report Stop) → Asks words options → ReachesTold options bytes source out result → Reaches words bytes source out result
reach words bytes options source out (Ok report) asks r = (_, asked_due words bytes options r.0 asks r.1, r.2, r.3, r.4)
reach words bytes options source out (Err ReadFault) asks r = r
reach words bytes options source out (Err OutFault) asks r = (_, asked_due words bytes options r.0 asks r.1, r.2)
reach words bytes options source out (Err OutOfMemory) asks (inl none) = inl none
reach words bytes options source out (Err OutOfMemory) asks (inr r) = inr (record { due = _; is_due = asked_due words bytes options r.0 asks r.1; on_out = r.2 })

cause : (words : List (List ℕ)) (bytes : List ℕ) (options : Options) (source out : Stream) (result : Result Report Stop) → Asks words options → ReachesTold options bytes source out result → HasCauses words source out result
cause words bytes options source out (Ok report) asks r = words_fit words report.status (subst IsOrdinary (sym (r.2).status_is) (ordinary_told options (bytes_for options bytes) r.0 r.1)) asks.faultless
cause words bytes options source out (Err ReadFault) asks r = (r.0, asks.faultless)
cause words bytes options source out (Err OutFault) asks r = ((r.2).cause, asks.faultless)
cause words bytes options source out (Err OutOfMemory) asks r = tt

-- equal options ask for the same play
alone_by : (options others : Options) (bytes : List ℕ) (out : Stream) (result : Result Report Stop) → others ≡ options →
    (options.mode ≡ modes.Play → ComesAlone (PlayedAlone options.steps bytes) out result) →
    others.mode ≡ modes.Play → ComesAlone (PlayedAlone others.steps bytes) out result
alone_by options others bytes out result same alone =
    subst (λ (o : Options). o.mode ≡ modes.Play → ComesAlone (PlayedAlone o.steps bytes) out result) (sym same) alone

pub attempt_served : (words : List (List ℕ)) (options : Options) (source out : Stream) (result : Result Report Stop) → Asks words options → Serves options source out result → Attempts words source out result
attempt_served words options source out result asks h = record {
  bytes = h.bytes;
  had = h.had;
  reaches = reach words h.bytes options source out result asks h.reaches;
  alone = λ others others_asked. alone_by options others h.bytes out result (one_options words options others asks others_asked) h.alone;
  causes = cause words h.bytes options source out result asks h.reaches;
}

pub attempt_usage : (words : List (List ℕ)) (left held : Option (List ℕ)) (read wrote : ℕ) (report : Report) → fault_of command words ≢ [] → report.status ≡ statuses.Usage → IsUsageLine report.line.items → Attempts words (stream left left read read) (stream held held wrote wrote) (Ok report)
attempt_usage words left held read wrote report fault status said =
    let b = bytes_had left in
    let due : Due = record { taken = []; out = []; err = report.line.items; status = statuses.Usage } in
    record {
      bytes = b.0;
      had = b.1;
      reaches = (due, usage (record { fault = fault; said = said; is = refl }), record { status_is = status; line_is = refl }, gave_none left [] refl, Appends-nil held);
      alone = λ options asks. absurd (fault asks.faultless);
      causes = subst (WordsFit words) (sym status) fault;
    }

pub attempt_spent : (words : List (List ℕ)) (left held : Option (List ℕ)) (read wrote : ℕ) → Attempts words (stream left left read read) (stream held held wrote wrote) (Err OutOfMemory)
attempt_spent words left held read wrote =
    let b = bytes_had left in
    record { bytes = b.0; had = b.1; reaches = inl (Appends-nil held); alone = λ options asks is. inl (Appends-nil held); causes = tt }

-- ---- the line on err

ends_due : (words : List (List ℕ)) (bytes : List ℕ) (source out err : Stream) (s : Status) → IsReported s → AsDue words bytes source out err s → EndsBy words bytes source out err s
ends_due words bytes source out err statuses.Done r h = h
ends_due words bytes source out err statuses.Threw r h = h
ends_due words bytes source out err statuses.StepsSpent r h = h
ends_due words bytes source out err statuses.Refused r h = h
ends_due words bytes source out err statuses.Usage r h = h
ends_due words bytes source out err statuses.OutOfMemory r h = absurd r
ends_due words bytes source out err statuses.ReadFault r h = absurd r
ends_due words bytes source out err statuses.OutFault r h = absurd r
ends_due words bytes source out err statuses.ErrFault r h = absurd r

ends_told : (words : List (List ℕ)) (bytes : List ℕ) (source out err : Stream) (report : Report) (status : Status) → Reaches words bytes source out (Ok report) → Finishes err (Ok report) status → EndsBy words bytes source out err status
ends_told words bytes source out err report status r (inl h) =
    let same = h.0 ∙ (r.2).status_is in
    ends_due words bytes source out err status (subst IsReported (sym same) (reported_due words bytes r.0 r.1)) (record {
      due = r.0;
      is_due = r.1;
      same = same;
      taken = r.3;
      on_out = r.4;
      on_err = subst (Got err) (r.2).line_is h.1;
    })
ends_told words bytes source out err report status r (inr h) =
    let failed : ErrFailed words bytes source out err = record { cause = (h.1).cause; wrote = inl (record { due = r.0; is_due = r.1; on_out = r.4; on_err = subst (GotLess err) (r.2).line_is (h.1).wrote }) } in
    subst (EndsBy words bytes source out err) (sym h.0) failed

ends_unread : (words : List (List ℕ)) (bytes : List ℕ) (source out err : Stream) (status : Status) → Failed source × Got out [] → Finishes err (Err ReadFault) status → EndsBy words bytes source out err status
ends_unread words bytes source out err status r (inl h) = subst (EndsBy words bytes source out err) (sym h.0) (record { cause = r.0; on_out = r.1; on_err = h.1 })
ends_unread words bytes source out err status r (inr h) =
    let failed : ErrFailed words bytes source out err = record { cause = (h.1).cause; wrote = inr (record { source_cause = r.0; on_out = r.1; on_err = (h.1).wrote }) } in
    subst (EndsBy words bytes source out err) (sym h.0) failed

spent_line : (err : Stream) → Got err (line (codes "out of memory")) ⊎ Stops err (line (codes "out of memory")) → Got err (line (codes "out of memory")) ⊎ (GotPrefix err (line (codes "out of memory")) × Failed err)
spent_line err (inl h) = inl h
spent_line err (inr h) = inr ((h.wrote).prefix, h.cause)

ends_by : (words : List (List ℕ)) (bytes : List ℕ) (source out err : Stream) (outcome : Result Report Stop) (status : Status) → Reaches words bytes source out outcome → Finishes err outcome status → EndsBy words bytes source out err status
ends_by words bytes source out err (Ok report) status r f = ends_told words bytes source out err report status r f
ends_by words bytes source out err (Err ReadFault) status r f = ends_unread words bytes source out err status r f
ends_by words bytes source out err (Err OutFault) status r f = subst (EndsBy words bytes source out err) (sym f.0) (record { cause = (r.2).cause; due = r.0; is_due = r.1; on_out = (r.2).wrote; on_err = f.1 })
ends_by words bytes source out err (Err OutOfMemory) status r f = subst (EndsBy words bytes source out err) (sym f.0) (record { on_out = r; on_err = spent_line err f.1 })

-- ---- a play, by what its scripts print alone

module _ (steps : ℕ) (bytes : List ℕ) (out : Stream) where
  -- another status than that of a fault
  wrote_told : (s : Status) → IsReported s → (s ≡ statuses.Done → PlayedAlone steps bytes (Got out)) → WroteAlone steps bytes out s
  wrote_told statuses.Done r h = h refl
  wrote_told statuses.Threw r h = tt
  wrote_told statuses.StepsSpent r h = tt
  wrote_told statuses.Refused r h = tt
  wrote_told statuses.Usage r h = tt
  wrote_told statuses.OutOfMemory r h = absurd r
  wrote_told statuses.ReadFault r h = absurd r
  wrote_told statuses.OutFault r h = absurd r
  wrote_told statuses.ErrFault r h = absurd r

  -- a line, or a fault of err
  wrote_line : (err : Stream) (text : List ℕ) (said status : Status) →
      Reports err text said status → WroteAlone steps bytes out said → WroteAlone steps bytes out status
  wrote_line err text said status (inl f) h = subst (WroteAlone steps bytes out) (sym f.0) h
  wrote_line err text said status (inr f) h = subst (WroteAlone steps bytes out) (sym f.0) tt

  wrote_alone : (words : List (List ℕ)) (source err : Stream) (outcome : Result Report Stop) (status : Status) →
      Reaches words bytes source out outcome → ComesAlone (PlayedAlone steps bytes) out outcome →
      Finishes err outcome status → WroteAlone steps bytes out status
  wrote_alone words source err (Ok report) status r h f =
      let known : IsReported report.status = subst IsReported (sym (r.2).status_is) (reported_due words bytes r.0 r.1) in
      wrote_line err report.line.items report.status status f (wrote_told report.status known h)
  wrote_alone words source err (Err ReadFault) status r h f = wrote_line err (line (codes "read failed")) statuses.ReadFault status f tt
  wrote_alone words source err (Err OutFault) status r h f = subst (WroteAlone steps bytes out) (sym f.0) h
  wrote_alone words source err (Err OutOfMemory) status r h f = subst (WroteAlone steps bytes out) (sym f.0) h

pub ends_from : (words : List (List ℕ)) (source out err : Stream) (outcome : Result Report Stop) (status : Status) → Attempts words source out outcome → Finishes err outcome status → Ends words source out err status
ends_from words source out err outcome status a f = record {
  bytes = a.bytes;
  had = a.had;
  ends = ends_by words a.bytes source out err outcome status a.reaches f;
  alone = λ options asks is. wrote_alone options.steps a.bytes out words source err outcome status a.reaches (a.alone options asks is) f;
}

-- ---- causes

causes_fit : (words : List (List ℕ)) (source out err : Stream) (s : Status) → IsReported s → WordsFit words s → Causes words source out err s
causes_fit words source out err statuses.Done r h = h
causes_fit words source out err statuses.Threw r h = h
causes_fit words source out err statuses.StepsSpent r h = h
causes_fit words source out err statuses.Refused r h = h
causes_fit words source out err statuses.Usage r h = h
causes_fit words source out err statuses.OutOfMemory r h = tt
causes_fit words source out err statuses.ReadFault r h = absurd r
causes_fit words source out err statuses.OutFault r h = absurd r
causes_fit words source out err statuses.ErrFault r h = absurd r

causes_by : (words : List (List ℕ)) (bytes : List ℕ) (source out err : Stream) (outcome : Result Report Stop) (status : Status) → Reaches words bytes source out outcome → HasCauses words source out outcome → Finishes err outcome status → Causes words source out err status
causes_by words bytes source out err (Ok report) status r c (inl f) =
    let known : IsReported report.status = subst IsReported (sym (r.2).status_is) (reported_due words bytes r.0 r.1) in
    subst (Causes words source out err) (sym f.0) (causes_fit words source out err report.status known c)
causes_by words bytes source out err (Ok report) status r c (inr f) = subst (Causes words source out err) (sym f.0) (f.1).cause
causes_by words bytes source out err (Err ReadFault) status r c (inl f) = subst (Causes words source out err) (sym f.0) c
causes_by words bytes source out err (Err ReadFault) status r c (inr f) = subst (Causes words source out err) (sym f.0) (f.1).cause
causes_by words bytes source out err (Err OutFault) status r c f = subst (Causes words source out err) (sym f.0) c
causes_by words bytes source out err (Err OutOfMemory) status r c f = subst (Causes words source out err) (sym f.0) tt

pub causes_from : (words : List (List ℕ)) (source out err : Stream) (outcome : Result Report Stop) (status : Status) → Attempts words source out outcome → Finishes err outcome status → Causes words source out err status
causes_from words source out err outcome status a f = causes_by words a.bytes source out err outcome status a.reaches a.causes f

-- ---- completeness

pub complete : (words : List (List ℕ)) (bytes : List ℕ) (source out err : Stream) (s : Status) → EndsBy words bytes source out err s → IsComplete words bytes source out err s
complete words bytes source out err statuses.Done h s o e = inr h
complete words bytes source out err statuses.Threw h s o e = inr h
complete words bytes source out err statuses.StepsSpent h s o e = inr h
complete words bytes source out err statuses.Refused h s o e = inr h
complete words bytes source out err statuses.Usage h s o e = inr h
complete words bytes source out err statuses.OutOfMemory h s o e = inl refl
complete words bytes source out err statuses.ReadFault h s o e = absurd (s h.cause)
complete words bytes source out err statuses.OutFault h s o e = absurd (o h.cause)
complete words bytes source out err statuses.ErrFault h s o e = absurd (e h.cause)
