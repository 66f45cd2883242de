use Rattle.std.proofs.Common.{◌≡◌, ◌∷◌, [], rules}
use Rattle.treesync.specs.Joining.{AllTaken, AreJoined, IsJointOf}
use Rattle.treesync.specs.Rebase.{as_logs}
use Rattle.treesync.proofs.Rebasing.{judged_refused, work_joined, work_sums}
use Rattle.treesync.proofs.rebase.join_work.Goals as goal

pub returns-in_err-joint : goal.returns-in_err-joint
returns-in_err-joint c = λ read reads s v p.
    let sums : c.push_sum-2.new.sums.items ≡ c.args.work ∷ (c.in_ok-set_sum.field-0 ∷ []) = search rules in
    judged_refused IsJointOf AreJoined (AllTaken (as_logs read reads c.args.set.now)) c.in_err-joint.field-0.0 c.from_residual-in_err-joint.result c.from_residual-in_err-joint.ensures.1
    (c.in_err-joint.ensures (as_logs read reads c.args.set.now) (work_sums c.push_sum-2.new.sums.items c.args.work c.in_ok-set_sum.field-0 read reads c.args.set.now sums s c.in_ok-set_sum.ensures))

pub returns : goal.returns
returns c = λ read reads s v p.
    let sums : c.push_sum-2.new.sums.items ≡ c.args.work ∷ (c.in_ok-set_sum.field-0 ∷ []) = search rules in
    work_joined c.args.version c.in_ok-joint.joint read reads c.args.set.now v p
    (c.in_ok-joint.ensures (as_logs read reads c.args.set.now) (work_sums c.push_sum-2.new.sums.items c.args.work c.in_ok-set_sum.field-0 read reads c.args.set.now sums s c.in_ok-set_sum.ensures))
