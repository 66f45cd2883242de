use Rattle.std.proofs.Common.{refl}
use Rattle.std.proofs.lemmas.Option.{slice_get_read}
use Rattle.refluent.proofs.parts.put.Goals as goal

pub returns : goal.returns
returns c = record { before = c.index_mut.result.now; after = c.push.new.self; at = slice_get_read _ _ _ _ refl c.requires c.index_mut.ensures.value; more = c.in_ok-push.ensures.items; is = refl }
