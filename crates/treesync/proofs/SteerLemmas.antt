-- Steering: the net set, the verdict, and the rules as a text.
use Rattle.std.proofs.Common.{◌≡◌, ℕ, List, Option, None, Some, Result, Ok, Err, Vec, Global, refl, ◌∙◌, ap}
use Rattle.sync_command.specs.Changes.{Change}
use Rattle.canon_set.specs.Logs.{net}
use Rattle.canon_set.specs.Sets.{canonical}
use Rattle.canon_set.specs.Sums.{Sum, StandsFor}
use Rattle.refluent.specs.Joints.{Joined}
use Rattle.pref_list.specs.Prefs.{prefs_text}
use Rattle.pref_list.specs.declared.rules.Rule.{Rule}
use Rattle.merge_core.specs.Steered.{IsSteerFault, SteerTo}
use Rattle.merge_core.specs.declared.checking.Verdict.TheVariants as verdict
use Rattle.merge_core.specs.declared.steering_rules.SteerFault.{SteerFault}
use Rattle.merge_core.specs.declared.steering_rules.SteerFault.TheVariants as steer
use Rattle.treesync.specs.Checks.{HasItems, IsJudged}
use Rattle.treesync.specs.Joining.{IsJointOf, commands_of}
use Rattle.treesync.specs.Logs.{IsTotalOf, ReadLog}
use Rattle.treesync.specs.Steer.{IsNetSet, IsSteered, steer_refusal}
use Rattle.treesync.specs.declared.refusal.Refusal.{Refusal}
use Rattle.treesync.specs.declared.refusal.Refusal.TheVariants.{Found}
use Rattle.treesync.specs.declared.refusal.Finding.TheVariants.{NoTree}
use Rattle.treesync.proofs.Jobs.{same_text}
use Rattle.treesync.proofs.JoinLemmas.{broken_sum, whole_sum}

-- no tree takes the log
pub set_refused : {X : Type 0} (stands : X → List Change → Type 0) (broken : Option ℕ) (sum : Sum) (word number : ℕ) (read : ReadLog) → broken ≡ Some number → IsTotalOf broken sum read.commands →
    IsJudged {X = X} stands (IsNetSet word read) (Err (Found (NoTree word number)))
set_refused stands broken sum word number read e h = (number, refl, broken_sum broken number sum read.commands e h)

-- or its net set is there
pub set_read : (broken : Option ℕ) (sum : Sum) (word : ℕ) (set : List Change) (read : ReadLog) → broken ≡ None → ((cs : List Change) → StandsFor sum cs → set ≡ canonical (net cs)) → IsTotalOf broken sum read.commands →
    IsJudged (λ (set : List Change) cs. set ≡ cs) (IsNetSet word read) (Ok set)
set_read broken sum word set read e nets h =
    let s = whole_sum broken sum read.commands e h in
    (set, refl, (s.taken, nets read.commands s))

-- the set is refused
pub steer_refused : (word : ℕ) (set : List Change) (joint : Joined) (reads : List ReadLog) (fault : SteerFault) → IsSteerFault joint set fault → IsJointOf joint reads →
    IsJudged {X = Vec ℕ Global} HasItems (IsSteered word set reads) (Err (steer_refusal word fault))
steer_refused word set joint reads (steer.NotDrawn path) h s = (verdict.NotDrawn path, h (commands_of reads) s, refl)
steer_refused word set joint reads (steer.DoesNotFit path) h s = (verdict.DoesNotFit path, h (commands_of reads) s, refl)
steer_refused word set joint reads (steer.CanAdd log path) h s = (verdict.CanAdd log path, h (commands_of reads) s, refl)
steer_refused word set joint reads steer.Memory h s = tt

-- or its rules are printed
pub steer_printed : (word : ℕ) (set : List Change) (joint : Joined) (reads : List ReadLog) (list rules : List Rule) (result : Result (Vec ℕ Global) Refusal) → SteerTo joint set list → rules ≡ list → IsJointOf joint reads →
    IsJudged HasItems (λ answer. answer ≡ Ok (prefs_text rules)) result → IsJudged HasItems (IsSteered word set reads) result
steer_printed word set joint reads list rules result h e s j =
    let are = h (commands_of reads) s in
    same_text (IsSteered word set reads) (prefs_text rules) result (are.merger, ap prefs_text (e ∙ are.rules)) j
