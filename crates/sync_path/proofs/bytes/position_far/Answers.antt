use Rattle.std.specs.Prelude.{◌==◌}
use Rattle.sync_path.proofs.FirstBytes.{first_is_position}
use Rattle.sync_path.proofs.bytes.position_far.Goals as goal

pub returns : goal.returns
returns c = first_is_position (λ b. b == c.args.wanted) c.args.bytes.now c.memchr.result c.memchr.ensures
