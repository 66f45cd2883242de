-- What the parts of a recording answer that only read the tree.
use Rattle.std.specs.Prelude.{◌≡◌, ⊤, IsErrOf, Result, Ok, Err}
use Rattle.tree_port.specs.States.{IsCounted, NoneFell, TreeState}
use Rattle.tree_port.specs.declared.faults.TreeFault.{TreeFault}
use Rattle.tree_port.specs.declared.faults.TreeFault.TheVariants as tree
use Rattle.record_core.specs.declared.faults.RecordFault.{RecordFault}
use Rattle.record_core.specs.declared.faults.RecordFault.TheVariants.{OpRefused, TreeFailed, TreeDenied, WriteFault, TooLarge, Memory}

-- what a fault of the tree is to a recording
abbrev pub fault_of : TreeFault → RecordFault
fault_of tree.Failed = TreeFailed
fault_of tree.Denied = TreeDenied
fault_of tree.Memory = Memory

-- what the tree holds is as before, no count fell, and its faults were counted
pub record ReadsTree {T : Type 0} (result : Result T RecordFault) (t u : TreeState) : Type 0 where
  pub later : NoneFell t.counts u.counts
  pub contents : u.contents ≡ t.contents
  pub failed : IsErrOf result TreeFailed → IsCounted t.counts.faults u.counts.faults
  pub denied : IsErrOf result TreeDenied → IsCounted t.counts.denials u.counts.denials
  pub write : IsErrOf result WriteFault → ⊥

-- the answer is right; of the refusals only a failure of the tree and out of memory may come
abbrev pub Finds : {T : Type 0} → (T → Type 0) → Result T RecordFault → Type 0
Finds right (Ok x) = right x
Finds right (Err (OpRefused number why)) = ⊥
Finds right (Err TooLarge) = ⊥
Finds right (Err TreeDenied) = ⊥
Finds right (Err WriteFault) = ⊥
Finds right (Err TreeFailed) = ⊤
Finds right (Err Memory) = ⊤
