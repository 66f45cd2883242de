-- What is printed of logs is within the limits of a log that is read.
use Rattle.std.proofs.Common.{◌≡◌, ◌≤◌, ◌-◌, ℕ, true, List, length, arith, sum_by, le_trans}
use Rattle.sync_command.specs.Changes.{Change}
use Rattle.sync_command.specs.Maps.{Store, at}
use Rattle.sync_command.specs.Trees.{one_each}
use Rattle.sync_command.specs.declared.values.Version.{Version}
use Rattle.canon_set.specs.Logs.{net}
use Rattle.canon_set.specs.Sets.{canonical}
use Rattle.refluent.specs.CommonTrees.{IsCommonTree}
use Rattle.refluent.specs.Drawn.{drawn_commands}
use Rattle.refluent.specs.FirstDisagreements.{log_at}
use Rattle.refluent.specs.Sets.{IsSubset}
use Rattle.transition.specs.Limits.{IsWithinLogs}
use Rattle.transition.specs.Transitions.{transition}
use Rattle.transition.proofs.CallerLemmas.{canonical_within, commands_within, drawn_within, numbered_within, text_within_limit}
use Rattle.treesync.specs.Headline.{IsWithinLimits, Recorded, all_commands, text_of}
use Rattle.treesync.specs.declared.input.TheConstants.{FILE_LIMIT}
use Rattle.treesync.specs.declared.logs.TheConstants.{MAX_COMMANDS}

within_limits : (logs : List Recorded) → sum_by (λ log. length (text_of log)) logs ≤ FILE_LIMIT → sum_by (λ log. length log.commands) logs ≤ MAX_COMMANDS → (version : Version) (set : List Change) → IsWithinLogs (all_commands logs) set → IsWithinLimits version set
within_limits logs bytes commands version set within = record {
  bytes = text_within_limit (λ (log : Recorded). log.version) (λ log. log.commands) logs FILE_LIMIT (omega arith) bytes version set within;
  commands = le_trans (commands_within (λ (log : Recorded). log.commands) logs set within) commands;
}

pub merger_within : (logs : List Recorded) → sum_by (λ log. length (text_of log)) logs ≤ FILE_LIMIT → sum_by (λ log. length log.commands) logs ≤ MAX_COMMANDS → (version : Version) (merger : List Change) → one_each merger ≡ true →
    IsSubset merger (drawn_commands (all_commands logs)) → IsWithinLimits version (canonical merger)
merger_within logs bytes commands version merger one part =
    within_limits logs bytes commands version (canonical merger) (canonical_within (all_commands logs) merger (drawn_within (all_commands logs) merger one part))

pub transition_within_limits : (logs : List Recorded) → sum_by (λ log. length (text_of log)) logs ≤ FILE_LIMIT → sum_by (λ log. length log.commands) logs ≤ MAX_COMMANDS → (version : Version) (m : Store) → IsCommonTree m (all_commands logs) →
    (number : ℕ) (merger set : List Change) → one_each merger ≡ true → IsSubset merger (drawn_commands (all_commands logs)) → set ≡ canonical (transition (at m) (net (log_at (all_commands logs) (number - 1))) merger) → IsWithinLimits version set
transition_within_limits logs bytes commands version m common number merger set one part is =
    within_limits logs bytes commands version set (numbered_within (all_commands logs) m common (number - 1) merger set one part is)
