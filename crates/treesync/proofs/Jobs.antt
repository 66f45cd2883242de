-- The answers of `canon` and `replay`, check after check.
use Rattle.std.proofs.Common.{◌≡◌, ℕ, List, [], ◌∷◌, Option, None, Some, Result, Ok, Err, IsErrAnd, Vec, Global, refl, sym, ap, subst, ◌∙◌}
use Rattle.std.specs.List.{AllByRecursion}
use Rattle.sync_command.specs.declared.commands.Row.{Row}
use Rattle.sync_command.specs.declared.values.Version.{Version}
use Rattle.sync_command.specs.declared.commands.Command.{Command}
use Rattle.sync_command.specs.Changes.{Change}
use Rattle.sync_command.specs.Maps.{Store, at, stored}
use Rattle.sync_command.specs.Trees.{Takes}
use Rattle.sync_port.specs.Ports.{FilesState}
use Rattle.apply_model.specs.Entries.{rows_of, store_of}
use Rattle.apply_model.specs.Replays.{BreaksOff}
use Rattle.apply_model.specs.declared.faults.RunBreak.{RunBreak}
use Rattle.apply_model.specs.declared.faults.RunBreak.TheVariants as run
use Rattle.canon_set.specs.Logs.{IsBrokenAt, net}
use Rattle.canon_set.specs.Sets.{canonical}
use Rattle.canon_set.specs.Sums.{Sum, StandsFor}
use Rattle.log_text.specs.Logs.{IsOfVersion, log_text}
use Rattle.log_text.specs.Snapshots.{IsRowOfVersion, snapshot_text}
use Rattle.treesync.specs.Checks.{Answers, HasItems, IsJudged}
use Rattle.treesync.specs.Canon.{IsNet}
use Rattle.treesync.specs.Files.{HasRows, IsSnapshot}
use Rattle.treesync.specs.Logs.{IsLog, IsLogFile, IsTotalOf, ReadLog, later_version}
use Rattle.treesync.specs.Replay.{IsAfter, IsRefusedAt, IsReplay, run_refusal}
use Rattle.treesync.specs.declared.input.TheConstants.{FILE_LIMIT}
use Rattle.treesync.specs.declared.logs.LogFile.{LogFile}
use Rattle.treesync.specs.declared.logs.TheConstants.{FULL_ALLOWANCE}
use Rattle.treesync.specs.declared.refusal.Refusal.{Refusal}
use Rattle.treesync.specs.declared.refusal.Refusal.TheVariants.{InvalidArguments, OutOfMemory, CallFailed, Found}
use Rattle.treesync.specs.declared.refusal.Finding.TheVariants.{NoTree}
use Rattle.treesync.proofs.CheckLemmas.{then_handed_on, then_judged, then_next, fewer_files}
use Rattle.treesync.proofs.Labels.{after_printable, net_printable}

-- ---- `canon`

-- no tree takes the log
pub net_refused : (broken : Option ℕ) (sum : Sum) (word : ℕ) (read : ReadLog) (number : ℕ) → broken ≡ Some number → IsTotalOf broken sum read.commands →
    IsJudged {X = Vec ℕ Global} HasItems (IsNet word read) (Err (Found (NoTree word number)))
net_refused None sum word read number e h = absurd (cc)
net_refused (Some k) sum word read number e h =
    let same : k ≡ number = cc in
    (number, refl, subst (IsBrokenAt read.commands) same h)

stands_for : (broken : Option ℕ) (sum : Sum) (cs : List Change) → broken ≡ None → IsTotalOf broken sum cs → StandsFor sum cs
stands_for None sum cs e h = h
stands_for (Some k) sum cs e h = absurd (cc)

module _ (broken : Option ℕ) (sum : Sum) (set : List Change) (whole : broken ≡ None) (nets : (cs : List Change) → StandsFor sum cs → set ≡ canonical (net cs)) where
  pub set_printable : (version : Version) (read : ReadLog) → version ≡ read.version → IsTotalOf broken sum read.commands → AllByRecursion (IsOfVersion read.version) read.commands → AllByRecursion (IsOfVersion version) set
  set_printable version read v h p =
      subst (λ w. AllByRecursion (IsOfVersion w) set) (sym v)
      (subst (AllByRecursion (IsOfVersion read.version)) (sym (nets read.commands (stands_for broken sum read.commands whole h))) (net_printable read.version read.commands p))

  pub net_printed : (version : Version) (word : ℕ) (read : ReadLog) (text : Vec ℕ Global) → version ≡ read.version → IsTotalOf broken sum read.commands → text.items ≡ log_text version set →
      IsJudged HasItems (IsNet word read) (Ok text)
  net_printed version word read text v h e =
      let s = stands_for broken sum read.commands whole h in
      (text.items, refl, (s.taken, e ∙ ap (λ w. log_text w set) v ∙ ap (log_text read.version) (nets read.commands s)))

-- ---- `replay`

-- a log was not done to its end
pub run_refused : (word : ℕ) (version : Version) (rows : List Row) (read : ReadLog) (commands : Vec Command Global) (left : Store) (fault : RunBreak) → commands.items ≡ read.commands →
    BreaksOff (store_of rows) commands.items left fault → IsJudged {X = Vec ℕ Global} HasItems (IsAfter word (version, rows) read) (Err (run_refusal word fault))
run_refused word version rows read commands left (run.NotTaken number) e stops =
    (number, refl, subst (λ cs. IsRefusedAt (store_of rows) cs number) e (left, stops))
run_refused word version rows read commands left (run.Memory number) e stops = tt

-- a text that is right where it is made
pub same_text : (Q : Result (List ℕ) Refusal → Type 0) (text : List ℕ) (result : Result (Vec ℕ Global) Refusal) → Q (Ok text) → IsJudged HasItems (λ a. a ≡ Ok text) result → IsJudged HasItems Q result
same_text Q text (Ok x) q (a, e, f) = (a, e, subst Q (sym f) q)
same_text Q text (Err InvalidArguments) q h = absurd h
same_text Q text (Err OutOfMemory) q h = tt
same_text Q text (Err (CallFailed failure)) q h = absurd h
same_text Q text (Err (Found finding)) q h = absurd (cc)

module _ (rows : List Row) (commands : Vec Command Global) (tree : Store) (done : tree ≡ stored (store_of rows) commands.items) (version log_version : Version) where
  pub rows_printable : (read : ReadLog) → commands.items ≡ read.commands → log_version ≡ read.version → AllByRecursion (IsRowOfVersion version) rows → AllByRecursion (IsOfVersion read.version) read.commands →
      AllByRecursion (IsRowOfVersion (later_version version log_version)) (rows_of tree)
  rows_printable read e v h p =
      subst (λ t. AllByRecursion (IsRowOfVersion (later_version version log_version)) (rows_of t)) (sym done)
      (after_printable version log_version rows commands.items h
      (subst (λ w. AllByRecursion (IsOfVersion w) commands.items) (sym v) (subst (AllByRecursion (IsOfVersion read.version)) (sym e) p)))

  pub after_printed : (word : ℕ) (read : ReadLog) (result : Result (Vec ℕ Global) Refusal) → commands.items ≡ read.commands → log_version ≡ read.version → Takes (at (store_of rows)) commands.items →
      IsJudged HasItems (λ a. a ≡ Ok (snapshot_text (later_version version log_version) (rows_of tree))) result → IsJudged HasItems (IsAfter word (version, rows) read) result
  after_printed word read result e v takes j =
      same_text (IsAfter word (version, rows) read) (snapshot_text (later_version version log_version) (rows_of tree)) result (
        subst (Takes (at (store_of rows))) e takes,
        ap (λ w. snapshot_text (later_version version w) (rows_of tree)) v
            ∙ ap (λ t. snapshot_text (later_version version read.version) (rows_of t)) (done ∙ ap (stored (store_of rows)) e),
      ) j

abbrev pub Snapshot : Type 0
Snapshot = Version × Vec Row Global

abbrev pub Commands : Type 0
Commands = LogFile (Vec Command Global)

module _ (snap_word : ℕ) (snap : List ℕ) (log_word : ℕ) (log : List ℕ) where
  -- the snapshot's file was refused
  pub snapshot_refused : (before now : FilesState) (r : Refusal) (result : Result (Vec ℕ Global) Refusal) → IsErrAnd result (λ e. e ≡ r) →
      Answers {X = Snapshot} HasRows (IsSnapshot snap_word snap) ((snap, FILE_LIMIT) ∷ []) before now (Err r) →
      Answers HasItems (IsReplay snap_word snap log_word log) ((snap, FILE_LIMIT) ∷ (log, FILE_LIMIT) ∷ []) before now result
  snapshot_refused before now r result e a =
      fewer_files HasItems (IsReplay snap_word snap log_word log) ((snap, FILE_LIMIT) ∷ []) ((log, FILE_LIMIT) ∷ []) ((snap, FILE_LIMIT) ∷ (log, FILE_LIMIT) ∷ []) before now result refl
      (then_handed_on HasRows HasItems (IsSnapshot snap_word snap) _ ((snap, FILE_LIMIT) ∷ []) before now r result e a)

  module _ (before mid now : FilesState) (snapshot : Snapshot) (result : Result (Vec ℕ Global) Refusal)
      (first : Answers HasRows (IsSnapshot snap_word snap) ((snap, FILE_LIMIT) ∷ []) before mid (Ok snapshot)) where
    -- the log's file was refused
    pub log_refused : (r : Refusal) → IsErrAnd result (λ e. e ≡ r) → Answers {X = Commands} (IsLogFile HasItems) (IsLog FULL_ALLOWANCE log_word log) ((log, FILE_LIMIT) ∷ []) mid now (Err r) →
        Answers HasItems (IsReplay snap_word snap log_word log) ((snap, FILE_LIMIT) ∷ (log, FILE_LIMIT) ∷ []) before now result
    log_refused r e a =
        then_next HasRows HasItems (IsSnapshot snap_word snap) _ ((snap, FILE_LIMIT) ∷ []) ((log, FILE_LIMIT) ∷ []) ((snap, FILE_LIMIT) ∷ (log, FILE_LIMIT) ∷ []) before mid now snapshot result refl first
        (λ s h. then_handed_on (IsLogFile HasItems) HasItems (IsLog FULL_ALLOWANCE log_word log) _ ((log, FILE_LIMIT) ∷ []) mid now r result e a)

    -- both files were read
    pub log_read : (commands : Commands) → Answers (IsLogFile HasItems) (IsLog FULL_ALLOWANCE log_word log) ((log, FILE_LIMIT) ∷ []) mid now (Ok commands) →
        ((read : ReadLog) → IsLogFile HasItems commands read → IsJudged HasItems (IsAfter log_word (snapshot.0, snapshot.1.items) read) result) →
        Answers HasItems (IsReplay snap_word snap log_word log) ((snap, FILE_LIMIT) ∷ (log, FILE_LIMIT) ∷ []) before now result
    log_read commands a judged =
        then_next HasRows HasItems (IsSnapshot snap_word snap) _ ((snap, FILE_LIMIT) ∷ []) ((log, FILE_LIMIT) ∷ []) ((snap, FILE_LIMIT) ∷ (log, FILE_LIMIT) ∷ []) before mid now snapshot result refl first
        (λ s h. then_judged (IsLogFile HasItems) HasItems (IsLog FULL_ALLOWANCE log_word log) (IsAfter log_word s) ((log, FILE_LIMIT) ∷ []) mid now commands result a
        (λ read l. subst (λ x. IsJudged HasItems (IsAfter log_word x read) result) h (judged read l)))
