-- A ranking so far, and when rules give one.
use Rattle.std.specs.Prelude.{◌≡◌, ◌+◌, ℕ, nat_lt, nat_le, Bool, true, false, ◌&&◌, List, [], ◌∷◌, ◌++◌, length, slice_get, slice_set, ◌⊎◌, Option, Some, None, is_some, ⊤, if◌then◌else◌}
use Rattle.sync_command.specs.Changes.{Change}
use Rattle.sync_command.specs.Trees.{command_at}
use Rattle.refluent.specs.Sets.{is_in, without_repeats}
use Rattle.refluent.specs.declared.joint.Pick.{Pick}
use Rattle.refluent.specs.Joints.{Joined}
use Rattle.pref_list.specs.declared.numbers.Numbers.{Numbers}
use Rattle.pref_list.specs.declared.ranking.Order.{Order}
use Rattle.pref_list.specs.declared.rules.Rule.{Rule}
use Rattle.pref_list.specs.declared.rules.Rule.TheVariants.{At, Under, All}
use Rattle.pref_list.specs.declared.faults.RankFault.{RankFault}
use Rattle.pref_list.specs.declared.faults.RankFault.TheVariants.{NoSuchLog, NoCommand, Memory}
use Rattle.pref_list.specs.Ranking.{set_of, ranked}
use Rattle.pref_list.specs.Picks.{ArePicksOf}
use Rattle.pref_list.specs.Numbers.{AreLeast, numbered}

-- the drawn commands so far are these without repeats, and the flag of each number says whether its command is among them
pub record IsOrderOf (sets : List (List Change)) (table : List Pick) (seen : List Bool) (picks : List Pick) (cs : List Change) : Type 0 where
  pub many : length seen ≡ length table
  pub flags : (m : ℕ) (c : Change) → numbered sets table m ≡ Some c → slice_get seen m ≡ Some (is_in cs c)
  pub commands : ArePicksOf sets picks (without_repeats cs)
  pub least : AreLeast sets picks

-- the command of a number is taken, unless it is among the picks
abbrev pub Takes : List Pick → List Bool → List Pick → List Bool → List Pick → ℕ → Type 0
Takes table seen picks new_seen new_picks number =
    ((slice_get seen number ≡ Some true) × (new_seen ≡ seen) × (new_picks ≡ picks)) ⊎
    ((pick : Pick) × (slice_get table number ≡ Some pick) × (slice_get seen number ≡ Some false) × (new_seen ≡ slice_set seen number true) × (new_picks ≡ picks ++ pick ∷ []))

-- these commands are taken
abbrev pub TakesAll : List (List Change) → List Pick → List Bool → List Pick → List Bool → List Pick → List Change → Type 0
TakesAll sets table seen picks new_seen new_picks more =
    (cs : List Change) → IsOrderOf sets table seen picks cs → IsOrderOf sets table new_seen new_picks (cs ++ more)

-- the same of an order, by the numbers of a joint's commands
abbrev pub TakesInto : Joined → Numbers → Order → Order → List Change → Type 0
TakesInto j numbers old new more =
    TakesAll j.sets numbers.picks.items old.seen.items old.picks.items new.seen.items new.picks.items more

-- ---- the ranking of a joint

-- the picks are those of the ranking, each with the least log that has the command
pub record IsRankingOf (sets : List (List Change)) (rules : List Rule) (picks : List Pick) : Type 0 where
  pub commands : ArePicksOf sets picks (ranked sets rules)
  pub least : AreLeast sets picks

-- ---- rules at fault

-- a log has the number
abbrev pub is_log : List (List Change) → ℕ → Bool
is_log sets k = nat_lt 0 k && nat_le k (length sets)

-- why a rule with this number is at fault, if it is
abbrev pub fault_of : List (List Change) → ℕ → Rule → Option RankFault
fault_of sets number (At k p) =
    if is_log sets k then (if is_some (command_at (set_of sets k) p) then None else Some (NoCommand number)) else Some (NoSuchLog number)
fault_of sets number (Under k p) = if is_log sets k then None else Some (NoSuchLog number)
fault_of sets number (All k) = if is_log sets k then None else Some (NoSuchLog number)

abbrev pub first_of : Option RankFault → Option RankFault → Option RankFault
first_of None other = other
first_of (Some fault) other = Some fault

-- the fault of the first rule that has one; the rules have numbers from this one on
abbrev pub first_fault_from : List (List Change) → ℕ → List Rule → Option RankFault
first_fault_from sets number [] = None
first_fault_from sets number (rule ∷ rules) = first_of (fault_of sets number rule) (first_fault_from sets (number + 1) rules)

abbrev pub first_fault : List (List Change) → List Rule → Option RankFault
first_fault sets rules = first_fault_from sets 1 rules

-- a fault is that of the first rule that has one, or memory ran out
abbrev pub IsFirstFault : List (List Change) → List Rule → RankFault → Type 0
IsFirstFault sets rules (NoSuchLog number) = first_fault sets rules ≡ Some (NoSuchLog number)
IsFirstFault sets rules (NoCommand number) = first_fault sets rules ≡ Some (NoCommand number)
IsFirstFault sets rules Memory = ⊤
