-- Work that is rebased: its join with what the sets do, and the transition of a side.
use Rattle.std.proofs.Common.{◌≡◌, ◌<◌, ◌≤◌, ◌-◌, ℕ, List, [], ◌∷◌, length, None, Result, Ok, Err, IsErrAnd, inr, refl, sym, ap, subst, ◌∙◌, arith}
use Rattle.std.proofs.lemmas.List.{length-map}
use Rattle.std.proofs.lemmas.Result.{err_from_is_err_and}
use Rattle.std.specs.List.{AllByRecursion}
use Rattle.sync_command.specs.Changes.{Change}
use Rattle.sync_command.specs.declared.values.Version.{Version}
use Rattle.sync_command.specs.declared.values.Version.TheVariants.{One, Two}
use Rattle.canon_set.specs.Logs.{net}
use Rattle.canon_set.specs.Sets.{canonical}
use Rattle.canon_set.specs.Sums.{Sum, StandsFor}
use Rattle.log_text.specs.Logs.{IsOfVersion, log_text}
use Rattle.refluent.specs.Joints.{EachStandsFor, Joined}
use Rattle.pref_list.specs.Orders.{first_fault}
use Rattle.pref_list.specs.declared.rules.Rule.{Rule}
use Rattle.rounds.specs.Compositions.{composition}
use Rattle.rounds.specs.Rebasing.{IsRebasedOf, log_number}
use Rattle.transition.specs.Transitions as transitions
use Rattle.tool_words.specs.declared.job.Side.{Side}
use Rattle.tool_words.specs.declared.job.Side.TheVariants.{Tree, Next as NextRound}
use Rattle.treesync.specs.Catchup.{nets_of}
use Rattle.treesync.specs.Checks.{IsJudged}
use Rattle.treesync.specs.Joining.{AllTaken, AreJoined, ArePrintable, EachStands, IsJointOf, commands_of, joint_version, left_after}
use Rattle.treesync.specs.Logs.{IsLogFile, IsTotal, ReadLog, later_version}
use Rattle.treesync.specs.Rebase.{as_logs, round_side, side_number}
use Rattle.treesync.specs.Transition.{IsTransitioned}
use Rattle.treesync.specs.declared.joining.JoinedLogs.{JoinedLogs}
use Rattle.treesync.specs.declared.logs.Allowance.{Allowance}
use Rattle.treesync.specs.declared.logs.LogFile.{LogFile}
use Rattle.treesync.specs.declared.logs.Total.{Total}
use Rattle.treesync.specs.declared.refusal.Refusal.{Refusal}
use Rattle.treesync.specs.declared.refusal.Refusal.TheVariants.{InvalidArguments, OutOfMemory, CallFailed, Found}
use Rattle.treesync.proofs.Catching.{composition_printable}
use Rattle.treesync.proofs.JoinLemmas.{are_printable}
use Rattle.treesync.proofs.TransitionLemmas.{transition_printable}

-- a refusal that is handed on is right whatever would have stood for a value
pub judged_refused : {X Y A : Type 0} (stands : X → A → Type 0) (stands' : Y → A → Type 0) (Q : Result A Refusal → Type 0) (r : Refusal) (result : Result Y Refusal) → IsErrAnd result (λ e. e ≡ r) →
    IsJudged {X = X} stands Q (Err r) → IsJudged stands' Q result
judged_refused {X} {Y} stands stands' Q r result e j =
    let p = err_from_is_err_and result e in
    subst (IsJudged stands' Q) (sym (p.1 ∙ ap Err p.2)) (by r j)
  where
    by : (r : Refusal) → IsJudged {X = X} stands Q (Err r) → IsJudged {X = Y} stands' Q (Err r)
    by InvalidArguments h = h
    by OutOfMemory h = h
    by (CallFailed failure) h = h
    by (Found finding) h = h

-- what the work leaves for the sets
pub left_same : (left : Allowance) (log : LogFile Total) (read : ReadLog) → IsLogFile IsTotal log read →
    ◌≡◌ {A = Allowance} (record { bytes = left.bytes - log.size; commands = left.commands - log.count }) (left_after left read)
left_same left log read h = λ i. record { bytes = left.bytes - h.size i; commands = left.commands - h.count i }

-- ---- the join

pub later_one : (v : Version) → later_version v One ≡ v
later_one One = refl
later_one Two = refl

-- the sums of the two logs
pub work_sums : (sums : List Sum) (first second : Sum) (work : ReadLog) (reads : List ReadLog) (set : List Change) → sums ≡ first ∷ (second ∷ []) → StandsFor first work.commands → StandsFor second set →
    EachStandsFor sums (commands_of (as_logs work reads set))
work_sums sums first second work reads set e h g = subst (λ s. EachStandsFor s (commands_of (as_logs work reads set))) (sym e) (h, (g, tt))

pub work_joined : (version : Version) (joint : Joined) (work : ReadLog) (reads : List ReadLog) (set : List Change) → version ≡ later_version work.version (joint_version reads) → ArePrintable (as_logs work reads set) →
    IsJudged IsJointOf (AllTaken (as_logs work reads set)) (Ok joint) → IsJudged AreJoined (AllTaken (as_logs work reads set)) (Ok (record { version = version; joint = joint }))
work_joined version joint work reads set v p j = (
  j.0,
  record {
    version = v ∙ ap (later_version work.version) (sym (later_one (joint_version reads))) ∙ ap joint_version (sym j.2.0);
    joint = j.1;
    printable = subst ArePrintable (sym j.2.0) p;
  },
  j.2,
)

-- the two logs can be printed in their versions
pub work_printable : (work : LogFile Total) (logs : List (LogFile Total)) (read taken : ReadLog) (reads sets : List ReadLog) (set : List Change) → IsLogFile IsTotal work read → EachStands (IsLogFile IsTotal) logs reads →
    taken ≡ read → sets ≡ reads → set ≡ canonical (composition (nets_of sets)) → ArePrintable (as_logs taken sets set)
work_printable work logs read taken reads sets set hw hs t e is = (
  subst (λ r. AllByRecursion (IsOfVersion r.version) r.commands) (sym t) hw.printable,
  (subst (AllByRecursion (IsOfVersion (joint_version sets))) (sym is) (composition_printable sets (subst ArePrintable (sym e) (are_printable logs reads hs))), tt),
)

-- two logs were joined
pub two_joined : (joined : JoinedLogs) (work : ReadLog) (reads : List ReadLog) (set : List Change) → IsJudged AreJoined (AllTaken (as_logs work reads set)) (Ok joined) → length joined.joint.sets ≡ 2
two_joined joined work reads set j = ap length j.1.joint.sets ∙ length-map (commands_of j.0) (λ log. canonical (net log)) ∙ ap (λ rs. length (commands_of rs)) j.2.0

-- ---- the side

number_is : (side : Side) → log_number (round_side side) ≡ side_number side
number_is Tree = refl
number_is NextRound = refl

some_number : (side : Side) → 0 < side_number side
some_number Tree = omega arith
some_number NextRound = omega arith

one_of_two : (side : Side) (n : ℕ) → n ≡ 2 → side_number side ≤ n
one_of_two Tree n e = omega (arith, e)
one_of_two NextRound n e = omega (arith, e)

module _ (joined : JoinedLogs) (rules : List Rule) (side : Side) (set : List Change) (of : IsRebasedOf joined.joint rules (round_side side) set) where
  leads : transitions.IsTransitionOf joined.joint (side_number side) of.merger set
  leads = subst (λ n. transitions.IsTransitionOf joined.joint n of.merger set) (number_is side) of.leads

  module _ (reads : List ReadLog) (h : AreJoined joined reads) where
    pub side_printable : length joined.joint.sets ≡ 2 → AllByRecursion (IsOfVersion joined.version) set
    side_printable two = transition_printable joined reads h rules of.merger of.first (side_number side) (some_number side) (one_of_two side (length joined.joint.sets) two) set leads

    pub side_transitioned : (word : ℕ) → first_fault joined.joint.sets rules ≡ None → IsTransitioned (side_number side) word rules reads (Ok (log_text joined.version set))
    side_transitioned word none =
        inr (
          reads,
          (refl, ap (λ sets. first_fault sets rules) (sym h.joint.sets) ∙ none),
          (of.merger, set, (λ m common. of.first (commands_of reads) m h.joint common), (λ m common. leads (commands_of reads) m h.joint common), ap (λ v. log_text v set) h.version),
        )
