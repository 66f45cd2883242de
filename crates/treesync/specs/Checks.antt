-- Checks one after another, and what a function that makes them owes.
use Rattle.std.specs.Prelude.{Vec, ◌≡◌, ◌⊎◌, ◌+◌, ◌≤◌, ℕ, List, [], ◌∷◌, length, sum_by, max, Bool, true, false, ⊤, None, Some, Ok, Err}
use Rattle.std.specs.declared.option.Option.{Option}
use Rattle.std.specs.declared.result.Result.{Result}
use Rattle.sync_port.specs.States.{FaultCounted, IfKnown}
use Rattle.sync_port.specs.Ports.{Names, FileContents, FilesState}
use Rattle.sync_port.specs.Whole.{of_name}
use Rattle.treesync.specs.declared.refusal.Refusal.{Refusal}
use Rattle.treesync.specs.declared.refusal.Refusal.TheVariants.{InvalidArguments, OutOfMemory, CallFailed, Found}
use Rattle.treesync.specs.declared.refusal.Failure.{Failure}
use Rattle.treesync.specs.declared.refusal.Failure.TheVariants.{ReadFailed, TreeFailed, TreeDenied}

-- ---- which answers are right

-- A check says which answers are right under the bytes that are held, where no call failed (`false`)
-- and where one did (`true`).
abbrev pub Check : Type 0 → Type 1
Check A = Names → Bool → Result A Refusal → Type 0

-- Two checks one after another: a refusal of the first is the answer, and what the first gives, no
-- call having failed, goes to the second.
abbrev pub Then : {A B : Type 0} → Check A → (A → Check B) → Check B
Then {A} P Q held failed answer =
    ((r : Refusal) × P held failed (Err r) × (answer ≡ Err r)) ⊎ ((a : A) × P held false (Ok a) × Q a held failed answer)

-- the judgement of what was read, which calls nothing outside
abbrev pub Judged : {A : Type 0} → (Result A Refusal → Type 0) → Check A
Judged Q held failed answer = Q answer

-- two judgements one after another, as `Then` has two checks
abbrev pub Next : {A B : Type 0} → (Result A Refusal → Type 0) → (A → Result B Refusal → Type 0) → Result B Refusal → Type 0
Next {A} P Q answer = ((r : Refusal) × P (Err r) × (answer ≡ Err r)) ⊎ ((a : A) × P (Ok a) × Q a answer)

-- one answer at most is right where no call failed, whatever is held
abbrev pub IsOne : {A : Type 0} → Check A → Type 0
IsOne {A} P = (held : Names) (one other : Result A Refusal) → P held false one → P held false other → one ≡ other

-- ---- which answers are allowed

-- for each failure, that its cause was counted
abbrev pub Causes : Type 1
Causes = Failure → Type 0

-- Over what is held: the right answer, or out of memory, or a call that failed in its turn, where its
-- cause was counted.
abbrev pub IsRight : {A : Type 0} → Check A → Names → Causes → Result A Refusal → Type 0
IsRight P held counted (Ok a) = P held false (Ok a)
IsRight P held counted (Err InvalidArguments) = P held false (Err InvalidArguments)
IsRight P held counted (Err OutOfMemory) = ⊤
IsRight P held counted (Err (CallFailed failure)) = P held false (Err (CallFailed failure)) ⊎ (counted failure × P held true (Err (CallFailed failure)))
IsRight P held counted (Err (Found finding)) = P held false (Err (Found finding))

-- over files of unknown contents: a call failed only where its cause was counted
abbrev pub IsCounted : {A : Type 0} → Causes → Result A Refusal → Type 0
IsCounted counted (Err (CallFailed failure)) = counted failure
IsCounted counted answer = ⊤

abbrev pub IsAllowed : {A : Type 0} → Check A → Option FileContents → Causes → Result A Refusal → Type 0
IsAllowed P None counted answer = IsCounted counted answer
IsAllowed P (Some m) counted answer = IsRight P m.held counted answer

-- ---- what functions owe

-- an answer with a value that stands for what the check gives
abbrev pub IsAllowedOf : {X A : Type 0} → (X → A → Type 0) → Check A → Option FileContents → Causes → Result X Refusal → Type 0
IsAllowedOf {A = A} stands P contents counted (Ok x) = (a : A) × stands x a × IsAllowed P contents counted (Ok a)
IsAllowedOf stands P contents counted (Err r) = IsAllowed P contents counted (Err r)

-- a vector stands for the list of its elements
abbrev pub HasItems : {X A : Type 0} → Vec X A → List X → Type 0
HasItems v xs = v.items ≡ xs

-- not the refusal of the words, which are judged before any file is opened
abbrev pub IsOfJob : {X : Type 0} → Result X Refusal → Type 0
IsOfJob (Err InvalidArguments) = ⊥
IsOfJob result = ⊤

-- P, unless a call failed or memory ran out
abbrev pub Unless : {X : Type 0} → Result X Refusal → Type 0 → Type 0
Unless (Err (CallFailed failure)) P = ⊤
Unless (Err OutOfMemory) P = ⊤
Unless result P = P

-- the reading of a file failed only where a fault of the files was counted, and no tree is asked
abbrev pub FilesCounted : FilesState → FilesState → Causes
FilesCounted before now (ReadFailed word) = FaultCounted before now
FilesCounted before now (TreeFailed word) = ⊥
FilesCounted before now (TreeDenied word) = ⊥

-- the names of the files that are read, each with its limit in bytes
abbrev pub Limits : Type 0
Limits = List (List ℕ × ℕ)

-- one byte past the largest limit that a name has, and 0 for a name that has none
abbrev pub past_limit : Limits → List ℕ → ℕ
past_limit [] name = 0
past_limit (file ∷ files) name = max (of_name file.0 (file.1 + 1) name) (past_limit files name)

-- What is held stays. Each of the files was opened once at most. After one opening at most one byte past its limit was
-- read of a file, and of all together at most one byte past each limit; of a file that has none nothing was read.
pub record ReadsFiles (limits : Limits) (m k : FileContents) : Type 0 where
  pub held : k.held ≡ m.held
  pub opened : k.opened ≤ m.opened + length limits
  pub taken : k.taken ≤ m.taken + sum_by (λ file. file.1 + 1) limits
  pub most : (name : List ℕ) → k.most name ≤ max (m.most name) (past_limit limits name)

-- what a function owes that makes a check and reads files of these limits
pub record Answers {X A : Type 0} (stands : X → A → Type 0) (P : Check A) (limits : Limits) (before now : FilesState) (result : Result X Refusal) : Type 0 where
  pub later : before.faults ≤ now.faults
  pub quiet : Unless result (now.faults ≡ before.faults)
  pub reads : IfKnown before now (ReadsFiles limits)
  pub allowed : IsAllowedOf stands P before.contents (FilesCounted before now) result
  pub job : IsOfJob result

-- what a function owes that judges what was read and opens no file
abbrev pub IsJudged : {X A : Type 0} → (X → A → Type 0) → (Result A Refusal → Type 0) → Result X Refusal → Type 0
IsJudged {A = A} stands Q (Ok x) = (a : A) × stands x a × Q (Ok a)
IsJudged stands Q (Err (Found finding)) = Q (Err (Found finding))
IsJudged stands Q (Err OutOfMemory) = ⊤
IsJudged stands Q (Err InvalidArguments) = ⊥
IsJudged stands Q (Err (CallFailed failure)) = ⊥

-- the answer as the definitions see it
abbrev pub seen : {X A : Type 0} → (X → A) → Result X Refusal → Result A Refusal
seen view (Ok x) = Ok (view x)
seen view (Err r) = Err r
