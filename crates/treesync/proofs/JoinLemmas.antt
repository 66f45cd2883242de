-- The logs of a job: what was read so far, and what was made of it.
use Rattle.std.proofs.Common.{◌≡◌, ◌+◌, ◌-◌, ◌++◌, ◌<◌, ◌≤◌, ℕ, zero, suc, List, [], ◌∷◌, length, take, drop, get_or, sum, None, Some, Ok, Err, IsErrAnd, inl, inr, Vec, Global, refl, sym, ap, subst, ◌∙◌, arith, append_assoc, zero-add}
use Rattle.std.proofs.lemmas.Result.{err_from_is_err_and}
use Rattle.std.proofs.lemmas.List.FromFn.{get_or-enumerate_from, length-enumerate_from}
use Rattle.std.specs.declared.option.Option.{Option}
use Rattle.std.specs.declared.result.Result.{Result}
use Rattle.std.specs.Option.{option_map}
use Rattle.std.specs.List.{enumerate_from, slice_get}
use Rattle.sync_command.specs.Changes.{Change}
use Rattle.sync_command.specs.declared.values.Version.{Version}
use Rattle.sync_command.specs.declared.values.Version.TheVariants.{One, Two}
use Rattle.sync_port.specs.Ports.{FilesState}
use Rattle.sync_port.proofs.CallerLemmas.{both_more}
use Rattle.canon_set.specs.Logs.{IsBrokenAt, IsTaken}
use Rattle.canon_set.specs.Sums.{Sum, StandsFor}
use Rattle.refluent.specs.Joints.{EachStandsFor}
use Rattle.tool_words.specs.Words.{Operand}
use Rattle.treesync.specs.Checks.{Answers, Check, IsJudged, Judged, Limits, Then}
use Rattle.treesync.specs.Joining.{AllTaken, AreJoined, AreLogFiles, ArePrintable, IsJointOf, AreSumsOf, AreTaken, EachStands, EachTaken, IsFirstUntaken, IsJoined, IsLogs, commands_of, joint_version, left_after, log_limits}
use Rattle.treesync.specs.Logs.{IsLog, IsLogFile, IsTotal, IsTotalOf, ReadLog, later_version}
use Rattle.treesync.specs.declared.input.TheConstants.{FILE_LIMIT}
use Rattle.treesync.specs.declared.joining.JoinedLogs.{JoinedLogs}
use Rattle.treesync.specs.declared.logs.Allowance.{Allowance}
use Rattle.treesync.specs.declared.logs.LogFile.{LogFile}
use Rattle.treesync.specs.declared.logs.Total.{Total}
use Rattle.treesync.specs.declared.refusal.Refusal.{Refusal}
use Rattle.treesync.specs.declared.refusal.Refusal.TheVariants.{OutOfMemory, Found}
use Rattle.treesync.specs.declared.refusal.Finding.TheVariants.{NoTree}
use Rattle.treesync.proofs.FileReading.{of_name_grows}
use Rattle.treesync.proofs.CheckLemmas.{fewer_files, judged_alone, memory_alone, then_handed_on, then_judged, then_next, then_refused}

-- ---- what stands for what

module _ {X A : Type 0} (stands : X → A → Type 0) where
  pub push_stands : (xs : List X) (as' : List A) (x : X) (a : A) → EachStands stands xs as' → stands x a → EachStands stands (xs ++ x ∷ []) (as' ++ a ∷ [])
  push_stands [] [] x a h s = (s, tt)
  push_stands [] (b ∷ bs) x a h s = absurd h
  push_stands (y ∷ ys) [] x a h s = absurd h
  push_stands (y ∷ ys) (b ∷ bs) x a h s = (h.0, push_stands ys bs x a h.1 s)

  -- the one in a place
  pub stands_at : (xs : List X) (all : List A) (i : ℕ) (d : X) → EachStands stands xs all → i < length xs → (a : A) × stands (get_or xs i d) a × (drop i all ≡ a ∷ drop (suc i) all)
  stands_at [] all i d h low = absurd (omega arith)
  stands_at (x ∷ xs) [] i d h low = absurd h
  stands_at (x ∷ xs) (a ∷ rest) zero d h low = (a, h.0, refl)
  stands_at (x ∷ xs) (a ∷ rest) (suc i) d h low = stands_at xs rest i d h.1 (omega arith)

-- ---- the version of what is printed

later_one : (v : Version) → later_version v One ≡ v
later_one One = refl
later_one Two = refl

later_assoc : (u v w : Version) → later_version u (later_version v w) ≡ later_version (later_version u v) w
later_assoc One v w = refl
later_assoc Two v w = refl

pub version_more : (logs : List (LogFile Total)) (reads : List ReadLog) (i : ℕ) (log : LogFile Total) (v : Version) → EachStands (IsLogFile IsTotal) logs reads → i < length logs → log ≡ get_or logs i log →
    later_version (later_version v log.version) (joint_version (drop (suc i) reads)) ≡ later_version v (joint_version (drop i reads))
version_more logs reads i log v h low is =
    let s = stands_at (IsLogFile IsTotal) logs reads i log h low in
    let here : log.version ≡ s.0.version = ap (λ x. x.version) is ∙ s.1.version in
    sym (later_assoc v log.version (joint_version (drop (suc i) reads))) ∙ ap (λ w. later_version v (later_version w (joint_version (drop (suc i) reads)))) here ∙ ap (λ rest. later_version v (joint_version rest)) (sym s.2)

none_left : {X A : Type 0} (stands : X → A → Type 0) (xs : List X) (all : List A) (i : ℕ) → EachStands stands xs all → length xs ≤ i → drop i all ≡ []
none_left stands [] [] zero h low = refl
none_left stands [] [] (suc i) h low = refl
none_left stands [] (a ∷ rest) i h low = absurd h
none_left stands (x ∷ xs) [] i h low = absurd h
none_left stands (x ∷ xs) (a ∷ rest) zero h low = absurd (omega arith)
none_left stands (x ∷ xs) (a ∷ rest) (suc i) h low = none_left stands xs rest i h.1 (omega arith)

pub version_all : (logs : List (LogFile Total)) (reads : List ReadLog) (i : ℕ) (v : Version) → EachStands (IsLogFile IsTotal) logs reads → length logs ≤ i → later_version v (joint_version (drop i reads)) ≡ joint_version reads → v ≡ joint_version reads
version_all logs reads i v h low e = sym (later_one v) ∙ ap (λ rest. later_version v (joint_version rest)) (sym (none_left (IsLogFile IsTotal) logs reads i h low)) ∙ e

-- ---- the files, one after another

-- a check whose value goes into another
given : {X A B : Type 0} (stands : X → A → Type 0) (stands' : X → B → Type 0) (P : Check A) (f : A → B) (limits : Limits) (before now : FilesState) (result : Result X Refusal) →
    ((x : X) (a : A) → stands x a → stands' x (f a)) → Answers stands P limits before now result → Answers stands' (Then P (λ a. Judged (λ answer. answer ≡ Ok (f a)))) limits before now result
given stands stands' P f limits before now (Ok x) g a =
    then_judged stands stands' P (λ a answer. answer ≡ Ok (f a)) limits before now x (Ok x) a (λ a s. (f a, g x a s, refl))
given stands stands' P f limits before now (Err r) g a = then_refused stands stands' P (λ a. Judged (λ answer. answer ≡ Ok (f a))) limits before now r a

-- a file's limit may be larger
wider : {X A : Type 0} (stands : X → A → Type 0) (P : Check A) (name : List ℕ) (n m : ℕ) (before now : FilesState) (result : Result X Refusal) → n ≤ m →
    Answers stands P ((name, n) ∷ []) before now result → Answers stands P ((name, m) ∷ []) before now result
wider stands P name n m before now result le a = record {
  later = a.later;
  quiet = a.quiet;
  reads = both_more before.contents now.contents a.reads (λ k j p. record { held = p.held; opened = p.opened; taken = omega (arith, p.taken); most = λ other. omega (arith, p.most other, of_name_grows name other (n + 1) (m + 1) (omega (arith, le))) });
  allowed = a.allowed;
  job = a.job;
}

abbrev pub LogFiles : Type 0
LogFiles = Vec (LogFile Total) Global

-- what is owed for the rest of the files, beside the logs that were read of those before them
abbrev pub AreRest : List (LogFile Total) → Allowance → List Operand → FilesState → FilesState → Result LogFiles Refusal → Type 0
AreRest done left rest mid now result =
    (reads : List ReadLog) → EachStands (IsLogFile IsTotal) done reads → Answers (λ logs more. AreLogFiles logs (reads ++ more)) (IsLogs left rest) (log_limits rest) mid now result

-- it is all that is owed for the files
abbrev pub LeadsTo : Check (List ReadLog) → Limits → FilesState → List (LogFile Total) → Allowance → List Operand → FilesState → Type 0
LeadsTo P limits before done left rest mid = (now : FilesState) (result : Result LogFiles Refusal) → AreRest done left rest mid now result → Answers AreLogFiles P limits before now result

pub none_done : (names : List Operand) (left : Allowance) (before : FilesState) (done : List (LogFile Total)) → done ≡ [] → LeadsTo (IsLogs left names) (log_limits names) before done left names before
none_done names left before done e now result h = h [] (subst (λ d. EachStands (IsLogFile IsTotal) d []) (sym e) tt)

module _ (P : Check (List ReadLog)) (limits : Limits) (before : FilesState) (done : List (LogFile Total)) (left : Allowance) (mid : FilesState) where
  -- all files were read
  pub all_done : (rest : List Operand) (logs : LogFiles) → rest ≡ [] → logs.items ≡ done → LeadsTo P limits before done left rest mid → Answers AreLogFiles P limits before mid (Ok logs)
  all_done [] logs e same h =
      h mid (Ok logs) (λ reads s. judged_alone (λ l more. AreLogFiles l (reads ++ more)) (λ answer. answer ≡ Ok []) mid (Ok logs)
      ([], subst (λ l. EachStands (IsLogFile IsTotal) logs.items l) (sym (nothing_more reads)) (subst (λ d. EachStands (IsLogFile IsTotal) d reads) (sym same) s), refl))
    where
      nothing_more : (reads : List ReadLog) → reads ++ [] ≡ reads
      nothing_more [] = refl
      nothing_more (r ∷ rs) = ap (λ l. r ∷ l) (nothing_more rs)
  all_done (file ∷ rest) logs e same h = absurd (cc)

  module _ (names : List Operand) (i word : ℕ) (name : List ℕ) (now : FilesState) (placed : option_map (λ (o : Operand). o.place) (slice_get names i) ≡ Some word) (named : option_map (λ (o : Operand). o.text) (slice_get names i) ≡ Some name)
      (within : left.bytes ≤ FILE_LIMIT) (leads : LeadsTo P limits before done left (drop i names) mid) where
    file_here : (ns : List Operand) (k : ℕ) → option_map (λ (o : Operand). o.place) (slice_get ns k) ≡ Some word → option_map (λ (o : Operand). o.text) (slice_get ns k) ≡ Some name →
        drop k ns ≡ record { text = name; place = word } ∷ drop (suc k) ns
    file_here [] k p q = absurd (cc)
    file_here (n ∷ ns) zero p q = λ j. record { text = (let e : n.text ≡ name = cc in e j); place = (let e : n.place ≡ word = cc in e j) } ∷ ns
    file_here (n ∷ ns) (suc k) p q = file_here ns k p q

    leads_here : LeadsTo P limits before done left (record { text = name; place = word } ∷ drop (suc i) names) mid
    leads_here = subst (λ rest. LeadsTo P limits before done left rest mid) (file_here names i placed named) leads

    -- the next of them is refused
    pub log_refused : (r : Refusal) (result : Result LogFiles Refusal) → IsErrAnd result (λ e. e ≡ r) → Answers {X = LogFile Total} (IsLogFile IsTotal) (IsLog left word name) ((name, left.bytes) ∷ []) mid now (Err r) →
        Answers AreLogFiles P limits before now result
    log_refused r result e a =
        leads_here now result (λ reads s.
        fewer_files (λ l more. AreLogFiles l (reads ++ more)) (IsLogs left (record { text = name; place = word } ∷ drop (suc i) names)) ((name, FILE_LIMIT) ∷ []) (log_limits (drop (suc i) names)) ((name, FILE_LIMIT) ∷ log_limits (drop (suc i) names)) mid now result refl
        (then_handed_on (IsLogFile IsTotal) (λ l more. AreLogFiles l (reads ++ more)) (IsLog left word name) _ ((name, FILE_LIMIT) ∷ []) mid now r result e (wider (IsLogFile IsTotal) (IsLog left word name) name left.bytes FILE_LIMIT mid now (Err r) within a)))

    -- or it is read
    pub log_read : (log : LogFile Total) (next : Allowance) → next ≡ record { bytes = left.bytes - log.size; commands = left.commands - log.count } →
        Answers (IsLogFile IsTotal) (IsLog left word name) ((name, left.bytes) ∷ []) mid now (Ok log) → LeadsTo P limits before (done ++ log ∷ []) next (drop (suc i) names) now
    log_read log next e a later result h =
        leads_here later result (λ reads s.
        then_next (IsLogFile IsTotal) (λ l more. AreLogFiles l (reads ++ more)) (IsLog left word name) _ ((name, FILE_LIMIT) ∷ []) (log_limits (drop (suc i) names)) ((name, FILE_LIMIT) ∷ log_limits (drop (suc i) names)) mid now later log result refl
        (wider (IsLogFile IsTotal) (IsLog left word name) name left.bytes FILE_LIMIT mid now (Ok log) within a) (λ read t.
        given (λ l more. AreLogFiles l ((reads ++ read ∷ []) ++ more)) (λ l more. AreLogFiles l (reads ++ more)) (IsLogs (left_after left read) (drop (suc i) names)) (λ more. read ∷ more) (log_limits (drop (suc i) names)) now later result
        (λ l more k. subst (λ rs. AreLogFiles l rs) (append_assoc reads (read ∷ []) more) k)
        (subst (λ n. Answers (λ l more. AreLogFiles l ((reads ++ read ∷ []) ++ more)) (IsLogs n (drop (suc i) names)) (log_limits (drop (suc i) names)) now later result) (e ∙ left_same read t)
        (h (reads ++ read ∷ []) (push_stands (IsLogFile IsTotal) done reads log read s t)))))
      where
        left_same : (read : ReadLog) → IsLogFile IsTotal log read → ◌≡◌ {A = Allowance} (record { bytes = left.bytes - log.size; commands = left.commands - log.count }) (left_after left read)
        left_same read t = λ j. record { bytes = left.bytes - t.size j; commands = left.commands - t.count j }

    -- and memory runs out
    pub memory_out : (log : LogFile Total) (result : Result LogFiles Refusal) → IsErrAnd result (λ e. e ≡ OutOfMemory) → Answers (IsLogFile IsTotal) (IsLog left word name) ((name, left.bytes) ∷ []) mid now (Ok log) →
        Answers AreLogFiles P limits before now result
    memory_out log result e a =
        let p = err_from_is_err_and result e in
        let q : result ≡ Err OutOfMemory = p.1 ∙ ap Err p.2 in
        subst (λ r. Answers AreLogFiles P limits before now r) (sym q)
        (log_read log (record { bytes = left.bytes - log.size; commands = left.commands - log.count }) refl a now (Err OutOfMemory) (λ reads s.
        memory_alone (λ l more. AreLogFiles l (reads ++ more)) (IsLogs (record { bytes = left.bytes - log.size; commands = left.commands - log.count }) (drop (suc i) names)) (log_limits (drop (suc i) names)) now))

-- nothing is left after the last
pub all_dropped : {A : Type 0} (xs : List A) (i : ℕ) → length xs ≤ i → drop i xs ≡ []
all_dropped [] zero h = refl
all_dropped [] (suc i) h = refl
all_dropped (x ∷ xs) zero h = absurd (omega arith)
all_dropped (x ∷ xs) (suc i) h = all_dropped xs i (omega arith)

-- ---- the sums

pub taken_here : {A : Type 0} (reads : List A) (i : ℕ) (read : A) → drop i reads ≡ read ∷ drop (suc i) reads → take (suc i) reads ≡ take i reads ++ read ∷ []
taken_here [] zero read e = absurd (cc)
taken_here [] (suc i) read e = absurd (cc)
taken_here (r ∷ reads) zero read e = let s : r ≡ read = cc in ap (λ x. x ∷ []) s
taken_here (r ∷ reads) (suc i) read e = ap (λ l. r ∷ l) (taken_here reads i read e)

-- the first of the logs have these sums, and are taken
pub record HaveSums (reads : List ReadLog) (sums : List Sum) : Type 0 where
  pub stand : EachStandsFor sums (commands_of reads)
  pub taken : AreTaken reads

push_sum : (sums : List Sum) (logs : List (List Change)) (sum : Sum) (log : List Change) → EachStandsFor sums logs → StandsFor sum log → EachStandsFor (sums ++ sum ∷ []) (logs ++ log ∷ [])
push_sum [] [] sum log h s = (s, tt)
push_sum [] (l ∷ logs) sum log h s = absurd h
push_sum (t ∷ sums) [] sum log h s = absurd h
push_sum (t ∷ sums) (l ∷ logs) sum log h s = (h.0, push_sum sums logs sum log h.1 s)

push_taken : (reads : List ReadLog) (read : ReadLog) → AreTaken reads → IsTaken read.commands → AreTaken (reads ++ read ∷ [])
push_taken [] read h t = (t, tt)
push_taken (r ∷ reads) read h t = (h.0, push_taken reads read h.1 t)

commands-push : (reads : List ReadLog) (read : ReadLog) → commands_of (reads ++ read ∷ []) ≡ commands_of reads ++ read.commands ∷ []
commands-push [] read = refl
commands-push (r ∷ reads) read = ap (λ l. r.commands ∷ l) (commands-push reads read)

pub whole_sum : (b : Option ℕ) (sum : Sum) (cs : List Change) → b ≡ None → IsTotalOf b sum cs → StandsFor sum cs
whole_sum None sum cs e h = h
whole_sum (Some k) sum cs e h = absurd (cc)

pub broken_sum : (b : Option ℕ) (number : ℕ) (sum : Sum) (cs : List Change) → b ≡ Some number → IsTotalOf b sum cs → IsBrokenAt cs number
broken_sum None number sum cs e h = absurd (cc)
broken_sum (Some k) number sum cs e h = subst (IsBrokenAt cs) (let s : k ≡ number = cc in s) h

first_untaken : (files : List Operand) (reads : List ReadLog) (i word : ℕ) (read : ReadLog) (number : ℕ) → option_map (λ (o : Operand). o.place) (slice_get files i) ≡ Some word →
    AreTaken (take i reads) → drop i reads ≡ read ∷ drop (suc i) reads → IsBrokenAt read.commands number → IsFirstUntaken files reads (Found (NoTree word number))
first_untaken [] reads i word read number p t d b = absurd (cc)
first_untaken (f ∷ files) [] zero word read number p t d b = absurd (cc)
first_untaken (f ∷ files) [] (suc i) word read number p t d b = absurd (cc)
first_untaken (f ∷ files) (r ∷ reads) zero word read number p t d b =
    let same : read ≡ r = cc in
    let place : word ≡ f.place = cc in
    inl (number, ap (λ w. Found (NoTree w number)) place, subst (λ x. IsBrokenAt x.commands number) same b)
first_untaken (f ∷ files) (r ∷ reads) (suc i) word read number p t d b = inr (t.0, first_untaken files reads i word read number p t.1 d b)

abbrev pub SumsSoFar : List (LogFile Total) → ℕ → List Sum → Type 0
SumsSoFar logs n sums = (reads : List ReadLog) → EachStands (IsLogFile IsTotal) logs reads → HaveSums (take n reads) sums

pub no_sums : (logs : List (LogFile Total)) (sums : List Sum) → sums ≡ [] → SumsSoFar logs 0 sums
no_sums logs sums e reads h = subst (HaveSums []) (sym e) (record { stand = tt; taken = tt })

module _ (logs : List (LogFile Total)) (n : ℕ) (log : LogFile Total) (low : n < length logs) (is : log ≡ get_or logs n log) (sums : List Sum) (soFar : SumsSoFar logs n sums) where
  at_turn : (reads : List ReadLog) → EachStands (IsLogFile IsTotal) logs reads → (read : ReadLog) × IsLogFile IsTotal log read × (drop n reads ≡ read ∷ drop (suc n) reads)
  at_turn reads h =
      let s = stands_at (IsLogFile IsTotal) logs reads n log h low in
      (s.0, subst (λ x. IsLogFile IsTotal x s.0) (sym is) s.1, s.2)

  pub one_sum : log.commands.broken ≡ None → SumsSoFar logs (suc n) (sums ++ log.commands.sum ∷ [])
  one_sum e reads h =
      let t = at_turn reads h in
      let s = soFar reads h in
      let whole = whole_sum log.commands.broken log.commands.sum t.0.commands e t.1.commands in
      subst (λ rs. HaveSums rs (sums ++ log.commands.sum ∷ [])) (sym (taken_here reads n t.0 t.2)) (record {
        stand = subst (EachStandsFor (sums ++ log.commands.sum ∷ [])) (sym (commands-push (take n reads) t.0)) (push_sum sums (commands_of (take n reads)) log.commands.sum t.0.commands s.stand whole);
        taken = push_taken (take n reads) t.0 s.taken whole.taken;
      })

  pub one_broken : (files : List Operand) (word number : ℕ) (reads : List ReadLog) → log.commands.broken ≡ Some number → option_map (λ (o : Operand). o.place) (slice_get files n) ≡ Some word →
      EachStands (IsLogFile IsTotal) logs reads → IsFirstUntaken files reads (Found (NoTree word number))
  one_broken files word number reads e p h =
      let t = at_turn reads h in
      first_untaken files reads n word t.0 number p (soFar reads h).taken t.2 (broken_sum log.commands.broken number log.commands.sum t.0.commands e t.1.commands)

stands_long : {X A : Type 0} (stands : X → A → Type 0) (xs : List X) (all : List A) → EachStands stands xs all → length all ≡ length xs
stands_long stands [] [] h = refl
stands_long stands [] (a ∷ rest) h = absurd h
stands_long stands (x ∷ xs) [] h = absurd h
stands_long stands (x ∷ xs) (a ∷ rest) h = ap suc (stands_long stands xs rest h.1)

pub take_whole : {A : Type 0} (xs : List A) (n : ℕ) → length xs ≤ n → take n xs ≡ xs
take_whole [] zero h = refl
take_whole [] (suc n) h = refl
take_whole (x ∷ xs) zero h = absurd (omega arith)
take_whole (x ∷ xs) (suc n) h = ap (λ l. x ∷ l) (take_whole xs n (omega arith))

pub all_sums : (logs : List (LogFile Total)) (n : ℕ) (sums : Vec Sum Global) (files : List Operand) (reads : List ReadLog) → length logs ≤ n → SumsSoFar logs n sums.items → EachStands (IsLogFile IsTotal) logs reads →
    IsJudged AreSumsOf (EachTaken files reads) (Ok sums)
all_sums logs n sums files reads low soFar h =
    let all = subst (λ rs. HaveSums rs sums.items) (take_whole reads n (omega (arith, stands_long (IsLogFile IsTotal) logs reads h))) (soFar reads h) in
    (reads, all.stand, (refl, all.taken))

-- ---- joined logs

pub are_printable : (logs : List (LogFile Total)) (reads : List ReadLog) → EachStands (IsLogFile IsTotal) logs reads → ArePrintable reads
are_printable [] [] h = tt
are_printable [] (r ∷ reads) h = absurd h
are_printable (l ∷ logs) [] h = absurd h
are_printable (l ∷ logs) (r ∷ reads) h = (h.0.printable, are_printable logs reads h.1)

pub joined_now : (names : List Operand) (logs : LogFiles) (sums : Vec Sum Global) (joined : JoinedLogs) (reads : List ReadLog) → AreLogFiles logs reads → joined.version ≡ joint_version reads →
    IsJudged AreSumsOf (EachTaken names reads) (Ok sums) → ((rs : List ReadLog) → AreSumsOf sums rs → IsJudged IsJointOf (AllTaken rs) (Ok joined.joint)) → IsJudged AreJoined (IsJoined names reads) (Ok joined)
joined_now names logs sums joined reads h v s j =
    let k = j s.0 s.1 in
    let same : k.0 ≡ reads = k.2.0 ∙ s.2.0 in (
      k.0,
      record {
        version = v ∙ ap joint_version (sym same);
        joint = k.1;
        printable = subst ArePrintable (sym same) (are_printable logs.items reads h);
      },
      inr (s.0, s.2, k.2),
    )

-- ---- logs that are counted as they are handed over

pub counted : (logs : List (LogFile Total)) (place k : ℕ) (log : LogFile Total) → k < length (enumerate_from 0 logs) → ◌≡◌ {A = ℕ × LogFile Total} (place, log) (get_or (enumerate_from 0 logs) k (place, log)) →
    (k < length logs) × (place ≡ k) × (log ≡ get_or logs k log)
counted logs place k log within is = (below, ap (λ p. p.0) same ∙ zero-add k, ap (λ p. p.1) same)
  where
    below : k < length logs
    below = subst (λ l. k < l) (length-enumerate_from 0 logs) within

    same : ◌≡◌ {A = ℕ × LogFile Total} (place, log) (0 + k, get_or logs k log)
    same = is ∙ get_or-enumerate_from 0 logs k (place, log) below

pub all_counted : {A B : Type 0} (logs : List A) (done : List B) → length done ≡ length (enumerate_from 0 logs) → length logs ≤ length done
all_counted logs done e = omega (arith, e, length-enumerate_from 0 logs)
