-- A table that knows told actions has the texts that their log speaks of.
use Rattle.std.proofs.Common.{◌≡◌, ℕ, true, List, [], ◌∷◌, map as each, Some, Result, Ok, Err, IfOk, Vec, Global, refl, subst, All}
use Rattle.std.proofs.lemmas.List.Elements.{All-nil, All-cons}
use Rattle.wjs_base.specs.declared.ids.ObjId.{ObjId}
use Rattle.wjs_base.specs.declared.ids.OutOfMemory.{OutOfMemory}
use Rattle.wjs_base.specs.declared.values.Name.{Name}
use Rattle.wjs_base.specs.declared.values.Name.TheVariants.{Index, Text as Named}
use Rattle.wjs_base.specs.declared.values.Value.{Value}
use Rattle.wjs_base.specs.declared.values.Value.TheVariants.{Undefined, Null, Bool as Truth, Number, Text, Object}
use Rattle.wjs_base.specs.declared.values.Content.{Content}
use Rattle.wjs_base.specs.declared.values.Content.TheVariants.{Absent, Present}
use Rattle.wjs_base.specs.Text.{Table, Has}
use Rattle.wjs_store.specs.declared.store.Verdict.{Verdict}
use Rattle.wjs_store.specs.declared.store.Verdict.TheVariants.{Moved, Disagrees, NoParent}
use Rattle.wjs_store.specs.Shown.{content_of, slots_of, verdict_of}
use Rattle.wjs_by_content.specs.Renamed.{Holds, KnowsContent as ContentKnown}
use Rattle.wjs_by_content.specs.Tables.{knows_name, knows_value, knows_slot}
use Rattle.wjs_by_content.specs.Telling.{names_of}
use Rattle.wjs_by_content.specs.Worlds.{told_in, KnowsAct, KnowsReply, KnowsVerdict as VerdictKnown}
use Rattle.wjs_by_content.proofs.Known.{text_known_is_there, name_known_is_name}
use Rattle.wjs_audit.specs.declared.deed.Deed.{Deed}
use Rattle.wjs_audit.specs.declared.deed.Deed.TheVariants.{Read, Write, List as ListOf, Sprout, Commit}
use Rattle.wjs_audit.specs.declared.deed.Entry.{Entry}
use Rattle.wjs_audit.specs.Deeds.{told_of, told_of_deed}
use Rattle.wjs_audit.specs.Logs.{KnowsName, KnowsValue, KnowsContent, KnowsVerdict, KnowsDeed, KnowsLog, Spells}
use Rattle.wjs_audit.specs.Right.{AreRight}
use Rattle.wjs_heap.specs.Heap.{KnowsTold}
use Rattle.wjs_logs.specs.Telling.{Tells}

module _ (texts : Table) where
  name_there : (n : Name) → knows_name texts n ≡ true → KnowsName (Has texts) n
  name_there (Index index) k = name_known_is_name texts (Index index) k
  name_there (Named id) k = (name_known_is_name texts (Named id) k).0

  value_there : (v : Value) → knows_value texts v ≡ true → KnowsValue (Has texts) v
  value_there Undefined k = tt
  value_there Null k = tt
  value_there (Truth truth) k = tt
  value_there (Number x) k = tt
  value_there (Text id) k = text_known_is_there texts id k
  value_there (Object o) k = tt

  content_there : (c : Content) → ContentKnown (names_of texts) (content_of c) → KnowsContent (Has texts) c
  content_there Absent k = tt
  content_there (Present v) k = value_there v k

  names_there : (o : ObjId) (names : List Name) → Holds (λ s. knows_slot texts s ≡ true) (slots_of o names) → All (KnowsName (Has texts)) names
  names_there o [] k = All-nil (KnowsName (Has texts))
  names_there o (n ∷ names) k = All-cons (KnowsName (Has texts)) n names (name_there n k.0) (names_there o names k.1)

  verdict_there : (v : Verdict) → VerdictKnown texts (verdict_of v) → KnowsVerdict (Has texts) v
  verdict_there Moved k = tt
  verdict_there (Disagrees s) k = name_there s.name k
  verdict_there NoParent k = tt

  deed_there : (d : Deed) → KnowsAct texts (told_of_deed d).0 → KnowsReply texts (told_of_deed d).1 → KnowsDeed (Has texts) d
  deed_there (Read w s c) act reply = (name_there s.name act, content_there c reply)
  deed_there (Write w s c) act reply = (name_there s.name act.0, content_there c act.1)
  deed_there (ListOf w o names) act reply = names_there o names reply
  deed_there (Sprout w owner strict child) act reply = tt
  deed_there (Commit w v) act reply = verdict_there v reply

  pub log_there : (entries : List Entry) → Holds (λ e. KnowsAct texts e.0 × KnowsReply texts e.1) (told_of entries) → KnowsLog texts entries
  log_there [] k = All-nil (λ (e : Entry). KnowsDeed (Has texts) e.deed)
  log_there (e ∷ entries) k = All-cons (λ (x : Entry). KnowsDeed (Has texts) x.deed) e entries (deed_there e.deed k.0.0 k.0.1) (log_there entries k.1)

  -- a log that was spelled tells its entries
  pub tells_if : (log entries : List Entry) (result : Result (Vec ℕ Global) OutOfMemory) → entries ≡ log → AreRight entries → KnowsTold texts (Some (told_of log)) → IfOk result (λ bytes. Spells bytes.items entries texts) → IfOk result (λ bytes. Tells bytes.items (each (told_in texts) (told_of log)))
  tells_if log entries (Ok bytes) same right knows spells = record {
    entries = log;
    texts = texts;
    spells = subst (λ (es : List Entry). Spells bytes.items es texts) same spells;
    right = subst AreRight same right;
    knows = knows;
    is = refl;
  }
  tells_if log entries (Err e) same right knows spells = tt
