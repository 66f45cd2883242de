-- The numbers of a drill, put together.
use Rattle.std.proofs.Common.{◌≡◌, ◌∙◌, true, refl, sym, ap, subst, ℕ, List, [], ◌∷◌, ◌++◌, length}
use Rattle.std.specs.List.{concat}
use Rattle.sync_command.specs.Changes.{Change, is_canonical}
use Rattle.sync_command.specs.Maps.{Store, IsTreeMap, at, stored}
use Rattle.apply_model.specs.Entries.{rows_of}
use Rattle.refluent.specs.CommonTrees.{IsCommonTree}
use Rattle.refluent.specs.Drawn.{drawn_commands, drawn_of}
use Rattle.refluent.specs.Joints.{Joined, StandsForAll}
use Rattle.refluent.proofs.CallerLemmas.{drawn_is}
use Rattle.pref_list.specs.Ranking.{ranking}
use Rattle.merge_core.specs.FirstMergers.{IsFirstMerger, IsFirstMergerOf}
use Rattle.clash_list.specs.ClashLists.{clashes}
use Rattle.sync_drill.specs.BaseTrees.{base_tree}
use Rattle.sync_drill.specs.DrillLogs.{AreLogs}
use Rattle.sync_drill.specs.Summaries.{IsSummary, command_count, transition_count}
use Rattle.sync_drill.specs.declared.summary.Summary.{Summary}
use Rattle.sync_drill.proofs.Walking.{base_common}

pub summed : (base : Store) → IsTreeMap base → base ≡ base_tree → (seed logs steps : ℕ) (made : List (List Change)) → AreLogs (at base) seed steps logs made
    → (j : Joined) → StandsForAll j made → (merger : List Change) → IsFirstMergerOf j [] merger → is_canonical merger ≡ true → (s : Summary)
    → s.commands ≡ command_count made → s.drawn ≡ length (drawn_of j.sets) → s.clashes ≡ length (clashes j) → s.merger ≡ length merger
    → ((logs : List (List Change)) (m : Store) → StandsForAll j logs → IsCommonTree m logs → s.transitions ≡ transition_count (at m) merger logs)
    → s.tree ≡ length (rows_of (stored base merger))
    → IsSummary seed logs steps s
summed base tree is seed logs steps made are j stands merger first order s commands drawn clashing merged transitions nodes =
    let common = base_common base seed steps logs made tree are in
    record {
      made = made;
      are = subst (λ m. AreLogs (at m) seed steps logs made) is are;
      joint = j;
      stands = stands;
      merger = merger;
      first = subst (λ m. IsFirstMerger (at m) (drawn_commands made) (ranking made []) merger) is (first made base stands common);
      order = order;
      commands = commands;
      drawn = drawn ∙ ap length (drawn_is j made stands);
      clashing = clashing;
      merged = merged;
      transitions = subst (λ m. s.transitions ≡ transition_count (at m) merger made) is (transitions made base stands common);
      tree = subst (λ m. s.tree ≡ length (rows_of (stored m merger))) is nodes;
    }

-- ---- the text

append_assoc : (xs ys zs : List ℕ) → (xs ++ ys) ++ zs ≡ xs ++ (ys ++ zs)
append_assoc [] ys zs = refl
append_assoc (x ∷ xs) ys zs = ap (λ l. x ∷ l) (append_assoc xs ys zs)

appended : (a b l rest whole : List ℕ) → b ≡ a ++ l → whole ≡ b ++ rest → whole ≡ a ++ (l ++ rest)
appended a b l rest whole one all = all ∙ ap (λ x. x ++ rest) one ∙ append_assoc a l rest

append_none : (xs : List ℕ) → xs ≡ xs ++ []
append_none [] = refl
append_none (x ∷ xs) = ap (λ l. x ∷ l) (append_none xs)

-- six lines, one after another
pub six_lines : (a b c d e f g l m n o p q : List ℕ) → b ≡ a ++ l → c ≡ b ++ m → d ≡ c ++ n → e ≡ d ++ o → f ≡ e ++ p → g ≡ f ++ q
    → g ≡ a ++ concat (l ∷ m ∷ n ∷ o ∷ p ∷ q ∷ [])
six_lines a b c d e f g l m n o p q one two three four five six =
    appended a b l _ g one (appended b c m _ g two (appended c d n _ g three (appended d e o _ g four (appended e f p _ g five (appended f g q [] g six (append_none g))))))
