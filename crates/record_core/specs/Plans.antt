-- The steps of an operation on a tree, and how large they make the log.
use Rattle.std.specs.Prelude.{◌≡◌, ◌⊎◌, ◌<◌, ⊤, ℕ, nat_lt, Bool, if◌then◌else◌, true, false, List, [], ◌∷◌, ◌++◌, length, map, Some, None, Vec, Result, Ok, Err}
use Rattle.std.specs.List.{list_any}
use Rattle.sync_path.specs.declared.names.TheConstants.{MAX_NAMES}
use Rattle.sync_path.specs.Paths.{Node, moved}
use Rattle.sync_command.specs.declared.values.Value.TheVariants as value
use Rattle.sync_command.specs.declared.values.Value.{Value}
use Rattle.sync_command.specs.Values.{is_empty, same_value}
use Rattle.sync_command.specs.declared.values.Version.{Version}
use Rattle.sync_command.specs.Changes.{Change}
use Rattle.sync_command.specs.Maps.{Store, at, stored}
use Rattle.sync_port.specs.Ports.{SinkContents}
use Rattle.record_core.specs.declared.faults.RecordFault.{RecordFault}
use Rattle.record_core.specs.declared.faults.RecordFault.TheVariants.{OpRefused, TreeFailed, TreeDenied, WriteFault, TooLarge, Memory}
use Rattle.record_core.specs.declared.faults.Why.{Why}
use Rattle.record_core.specs.declared.faults.Why.TheVariants.{TooDeep}
use Rattle.record_core.specs.declared.ops.Op.{Op}
use Rattle.record_core.specs.declared.ops.Op.TheVariants as op
use Rattle.record_core.specs.declared.log_size.LogSize.{LogSize}
use Rattle.record_core.specs.declared.steps.Step.{Step}
use Rattle.record_core.specs.declared.steps.Step.TheVariants.{Give, Make, Clear}
use Rattle.record_core.specs.Meanings.{Nodes, backwards, first_that_applies, meaning, nodes_of, place_tests, subtree, tests, to_value}
use Rattle.record_core.specs.Recording.{IsPartDone, IsRecorded, LeavesOpen}
use Rattle.record_core.specs.Steps.{CanWalk, changes_of}
use Rattle.record_core.specs.Texts.{is_within, open_text}

-- ---- steps

-- the nodes of the subtree are made at their moved paths
abbrev pub make_steps : Nodes → Node → Node → List Step
make_steps s p q = map (λ n. Make n (moved n p q)) (subtree s p)

-- the nodes of the subtree are emptied, the last first
abbrev pub clear_steps : Nodes → Node → List Step
clear_steps s p = map Clear (backwards (subtree s p))

-- the steps of an operation
abbrev pub steps_of : Nodes → Op → List Step
steps_of s (op.Mkdir p) = map Give (to_value s p (value.Dir []))
steps_of s (op.Put p bytes) = map Give (to_value s p (value.File bytes))
steps_of s (op.Del p) = map Give (to_value s p value.Empty)
steps_of s (op.Label p label) = map Give (to_value s p (value.Dir label))
steps_of s (op.Deltree p) = clear_steps s p
steps_of s (op.Copy p q) = make_steps s p q
steps_of s (op.Move p q) = make_steps s p q ++ clear_steps s p

-- the step from one value to another; none where they are equal
abbrev pub given_steps : Node → Value → Value → List Step
given_steps p old new = if same_value old new then [] else Give (record { node = p; old = old; new = new }) ∷ []

-- the moved path has too many names
abbrev pub is_deep : Node → Node → Node → Bool
is_deep p q n = nat_lt MAX_NAMES (length (moved n p q))

-- the step that makes the node at its moved path, where that is not too deep
abbrev pub MovesOne : ℕ → Node → Node → Node → Result Step RecordFault → Type 0
MovesOne number n p q (Ok step) = (is_deep p q n ≡ false) × (step ≡ Make n (moved n p q))
MovesOne number n p q (Err (OpRefused k why)) = (k ≡ number) × (why ≡ TooDeep) × (is_deep p q n ≡ true)
MovesOne number n p q (Err Memory) = ⊤
MovesOne number n p q (Err TooLarge) = ⊥
MovesOne number n p q (Err TreeDenied) = ⊥
MovesOne number n p q (Err WriteFault) = ⊥
MovesOne number n p q (Err TreeFailed) = ⊥

-- the steps that make the nodes at their moved paths, where none of these is too deep
abbrev pub Moves : {A : Type 0} → ℕ → List Node → Node → Node → Result (Vec Step A) RecordFault → Type 0
Moves number ns p q (Ok steps) = (list_any (is_deep p q) ns ≡ false) × (steps.items ≡ map (λ n. Make n (moved n p q)) ns)
Moves number ns p q (Err (OpRefused k why)) = (k ≡ number) × (why ≡ TooDeep) × (list_any (is_deep p q) ns ≡ true)
Moves number ns p q (Err Memory) = ⊤
Moves number ns p q (Err TooLarge) = ⊥
Moves number ns p q (Err TreeDenied) = ⊥
Moves number ns p q (Err WriteFault) = ⊥
Moves number ns p q (Err TreeFailed) = ⊥

-- the first four tests of `copy` and `move`
abbrev pub MayCopy : ℕ → Node → Node → Result (Unit {0}) RecordFault → Store → Type 0
MayCopy number p q (Ok u) m = (is_empty (at m p) ≡ false) × (first_that_applies (place_tests (nodes_of m) p q) ≡ None) × (0 < length p) × (0 < length q)
MayCopy number p q (Err (OpRefused k why)) m = (k ≡ number) × (first_that_applies (place_tests (nodes_of m) p q) ≡ Some why)
MayCopy number p q (Err TooLarge) m = ⊥
MayCopy number p q (Err TreeDenied) m = ⊥
MayCopy number p q (Err WriteFault) m = ⊥
MayCopy number p q (Err TreeFailed) m = ⊤
MayCopy number p q (Err Memory) m = ⊤

-- the refusal for one reason, which comes exactly where that applies
abbrev pub RefusesWhere : ℕ → Bool → Why → Result (Unit {0}) RecordFault → Type 0
RefusesWhere number applies why (Ok u) = applies ≡ false
RefusesWhere number applies why (Err (OpRefused k reason)) = (k ≡ number) × (reason ≡ why) × (applies ≡ true)
RefusesWhere number applies why (Err TooLarge) = ⊥
RefusesWhere number applies why (Err TreeDenied) = ⊥
RefusesWhere number applies why (Err WriteFault) = ⊥
RefusesWhere number applies why (Err TreeFailed) = ⊥
RefusesWhere number applies why (Err Memory) = ⊥

-- the paths of a copy have names
abbrev pub HasNames : Op → Type 0
HasNames (op.Copy p q) = (0 < length p) × (0 < length q)
HasNames (op.Move p q) = (0 < length p) × (0 < length q)
HasNames (op.Mkdir p) = ⊤
HasNames (op.Put p bytes) = ⊤
HasNames (op.Del p) = ⊤
HasNames (op.Deltree p) = ⊤
HasNames (op.Label p label) = ⊤

-- the steps, where no test applies; else the first reason, with the operation's number
abbrev pub Prepares : {A : Type 0} → ℕ → Op → Result (Vec Step A) RecordFault → Store → Type 0
Prepares number o (Ok steps) m = (first_that_applies (tests (nodes_of m) o) ≡ None) × (steps.items ≡ steps_of (nodes_of m) o) × HasNames o
Prepares number o (Err (OpRefused k why)) m = (k ≡ number) × (first_that_applies (tests (nodes_of m) o) ≡ Some why)
Prepares number o (Err TooLarge) m = ⊥
Prepares number o (Err TreeDenied) m = ⊥
Prepares number o (Err WriteFault) m = ⊥
Prepares number o (Err TreeFailed) m = ⊤
Prepares number o (Err Memory) m = ⊤

-- the steps whose commands are the operation's meaning, or its refusal
abbrev pub Plans : {A : Type 0} → Version → ℕ → Op → Result (Vec Step A) RecordFault → Store → Type 0
Plans version number o (Ok steps) m = (meaning version (nodes_of m) o ≡ Ok (changes_of (at m) steps.items)) × CanWalk m steps.items
Plans version number o (Err (OpRefused k why)) m = (k ≡ number) × (meaning version (nodes_of m) o ≡ Err why)
Plans version number o (Err TooLarge) m = ⊥
Plans version number o (Err TreeDenied) m = ⊥
Plans version number o (Err WriteFault) m = ⊥
Plans version number o (Err TreeFailed) m = ⊤
Plans version number o (Err Memory) m = ⊤

-- ---- sizes

-- the size of a log of these commands without its end line
pub record IsSizeOf (version : Version) (cs : List Change) (size : LogSize) : Type 0 where
  pub commands : size.commands ≡ length cs
  pub bytes : size.bytes ≡ length (open_text version cs)

-- the size with these commands more; or with them, whatever follows, the log is past its limits
abbrev pub AddsUp : LogSize → List Change → Version → List Change → Result LogSize RecordFault → Type 0
AddsUp size cs version done (Ok next) = IsSizeOf version (done ++ cs) next
AddsUp size cs version done (Err TooLarge) = (rest : List Change) → is_within version (done ++ (cs ++ rest)) ≡ false
AddsUp size cs version done (Err (OpRefused k why)) = ⊥
AddsUp size cs version done (Err TreeDenied) = ⊥
AddsUp size cs version done (Err WriteFault) = ⊥
AddsUp size cs version done (Err TreeFailed) = ⊤
AddsUp size cs version done (Err Memory) = ⊤

-- the size with these commands more, where the log is within its limits then
abbrev pub Measures : LogSize → List Change → Version → List Change → Result LogSize RecordFault → Type 0
Measures size cs version done (Ok next) = (is_within version (done ++ cs) ≡ true) × IsSizeOf version (done ++ cs) next
Measures size cs version done (Err TooLarge) = is_within version (done ++ cs) ≡ false
Measures size cs version done (Err (OpRefused k why)) = ⊥
Measures size cs version done (Err TreeDenied) = ⊥
Measures size cs version done (Err WriteFault) = ⊥
Measures size cs version done (Err TreeFailed) = ⊤
Measures size cs version done (Err Memory) = ⊤

-- the same of the size of whatever log
abbrev pub OfEachLog : (Version → List Change → Result LogSize RecordFault → Type 0) → LogSize → Result LogSize RecordFault → Type 0
OfEachLog P size result = (version : Version) (done : List Change) → IsSizeOf version done size → P version done result

-- ---- an operation

-- the commands of the operation, with which the log is within its limits
pub record IsMeant (version : Version) (o : Op) (n : Store) (done cs : List Change) : Type 0 where
  pub means : meaning version (nodes_of n) o ≡ Ok cs
  pub within : is_within version (done ++ cs) ≡ true

-- an operation that was recorded after these commands
pub record OpRecorded (version : Version) (o : Op) (size : LogSize) (done : List Change) (n : Store) (Recorded : List Change → Type 0) : Type 0 where
  pub commands : List Change
  pub meant : IsMeant version o n done commands
  pub recorded : Recorded (done ++ commands)
  pub sized : IsSizeOf version (done ++ commands) size

-- an operation that was refused before its first command, with the reason
pub record OpIsRefused (version : Version) (o : Op) (why : Why) (done : List Change) (n : Store) (Recorded : List Change → Type 0) : Type 0 where
  pub means : meaning version (nodes_of n) o ≡ Err why
  pub recorded : Recorded done

-- an operation that would take the log past its limits
pub record OpIsLarge (version : Version) (o : Op) (done : List Change) (n : Store) (Recorded : List Change → Type 0) : Type 0 where
  pub commands : List Change
  pub means : meaning version (nodes_of n) o ≡ Ok commands
  pub large : is_within version (done ++ commands) ≡ false
  pub recorded : Recorded done

-- an operation that was cut short among its commands
pub record OpIsCut (version : Version) (o : Op) (done : List Change) (n : Store) (Cut : List Change → Type 0) : Type 0 where
  pub commands : List Change
  pub meant : IsMeant version o n done commands
  pub cut : (rest : List Change) → Cut (done ++ (commands ++ rest))

-- What an operation answers after these commands, on a tree that holds n: by `Recorded` of the commands that were recorded, and by
-- `Cut` of those among which the recording was cut short.
abbrev pub AnswersOp : Version → ℕ → Op → LogSize → Result (Unit {0}) RecordFault → List Change → Store → (List Change → Type 0) → (List Change → Type 0) → Type 0
AnswersOp version number o next (Ok u) done n Recorded Cut = OpRecorded version o next done n Recorded
AnswersOp version number o next (Err (OpRefused j why)) done n Recorded Cut = (j ≡ number) × OpIsRefused version o why done n Recorded
AnswersOp version number o next (Err TooLarge) done n Recorded Cut = OpIsLarge version o done n Recorded
AnswersOp version number o next (Err TreeDenied) done n Recorded Cut = ⊥
AnswersOp version number o next (Err WriteFault) done n Recorded Cut = Recorded done ⊎ OpIsCut version o done n Cut
AnswersOp version number o next (Err TreeFailed) done n Recorded Cut = Recorded done ⊎ OpIsCut version o done n Cut
AnswersOp version number o next (Err Memory) done n Recorded Cut = Recorded done ⊎ OpIsCut version o done n Cut

-- where sink and tree are known, after whatever was recorded before
abbrev pub OpGoesOn : Version → ℕ → Op → LogSize → LogSize → Result (Unit {0}) RecordFault → SinkContents → SinkContents → Store → Store → Type 0
OpGoesOn version number o size next result x y n k =
    (done : List Change) (w : SinkContents) (m : Store) → IsRecorded version done w x m n → IsSizeOf version done size →
    AnswersOp version number o next result done n (λ cs. IsRecorded version cs w y m k) (λ cs. LeavesOpen version cs w y m k)

-- where the tree is known, whatever is known of the sink
abbrev pub CarriesOutOp : Version → ℕ → Op → LogSize → LogSize → Result (Unit {0}) RecordFault → Store → Store → Type 0
CarriesOutOp version number o size next result n k =
    (done : List Change) (m : Store) → n ≡ stored m done → IsSizeOf version done size →
    AnswersOp version number o next result done n (λ cs. k ≡ stored m cs) (λ cs. IsPartDone cs m k)
