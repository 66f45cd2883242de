use Rattle.treesync.proofs.Applying.{applied_to_only}
use Rattle.treesync.proofs.apply.apply.Goals as goal

pub returns : goal.returns
returns g c = λ one.
    let h = c.apply_to_only.ensures one in
    applied_to_only c.args.folder.now c.args.file.now (g.F.Files.files c.args.files.now) (g.F.Files.files c.set_of.new.files) c.in_ok-set.set _ _ c.apply_to_only.result c.in_ok-set.ensures (rw c.place.ensures at h)
