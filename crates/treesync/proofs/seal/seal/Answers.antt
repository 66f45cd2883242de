use Rattle.treesync.proofs.Sealing.{sealed_over_only}
use Rattle.treesync.proofs.seal.seal.Goals as goal

pub returns : goal.returns
returns g c = λ one.
    let h = c.seal_over_only.ensures one in
    sealed_over_only c.args.folder.now c.args.file.now (g.F.Files.files c.args.files.now) (g.F.Files.files c.read_file.new.files) c.in_ok-text.text _ _ c.seal_over_only.result
    (rw (c.place.ensures, c.as_str.ensures) at c.in_ok-text.ensures) (rw (c.place-2.ensures, c.place-3.ensures, c.deref.ensures.value) at h)
