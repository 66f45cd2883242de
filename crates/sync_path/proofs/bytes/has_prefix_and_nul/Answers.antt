use Rattle.std.proofs.Common.{Some, None}
use Rattle.std.proofs.lemmas.Bool.Decides.{Decides-eqb}
use Rattle.std.proofs.lemmas.Slice.Eq.{strip_prefix_is}
use Rattle.sync_path.proofs.Cuts.{nul_after, none_after}
use Rattle.sync_path.proofs.bytes.has_prefix_and_nul.Goals as goal

pub returns-then-after-gt0 : goal.returns-then-after-gt0
returns-then-after-gt0 c = nul_after _ _ _ (strip_prefix_is Decides-eqb _ _ (Some c.in-Some.after) c.in-Some.ensures.cases) c.if-after-gt0.true

pub returns-in-None : goal.returns-in-None
returns-in-None c = none_after _ _ (strip_prefix_is Decides-eqb c.args.bytes.now c.args.prefix.now None c.in-None.ensures.cases)
