use Rattle.std.proofs.Common.{◌≡◌, drop}
use Rattle.tree_port.specs.InMemory.{shot_at}
use Rattle.tree_port.proofs.fuse.next_shot.Given as goal

-- no shot so far names the call
abbrev pub invariant-shots : goal.invariant-shots
invariant-shots l = shot_at (drop l.shot-index l.shots) l.call ≡ shot_at l.shots l.call
