-- The commands of a log that are taken one by one.
use Rattle.std.specs.Prelude.{◌≡◌, List, ◌++◌, length}
use Rattle.sync_command.specs.declared.values.Version.{Version}
use Rattle.sync_command.specs.Changes.{Change}
use Rattle.log_text.specs.declared.queue.CommandQueue.{CommandQueue}

-- a first line of this version and these commands were read, of which the first were taken
pub record IsQueue (queue : CommandQueue) (taken : List Change) (found : Version × List Change) : Type 0 where
  pub version : queue.version ≡ found.0
  pub count : queue.count ≡ length found.1
  pub waiting : found.1 ≡ taken ++ queue.waiting.items
