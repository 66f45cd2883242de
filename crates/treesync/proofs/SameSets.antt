-- Sets that have the same commands.
use Rattle.std.proofs.Common.{◌≡◌, ◌∙◌, true, sym, ap, refl, List, Option, None, Some}
use Rattle.sync_path.specs.Paths.{Node}
use Rattle.sync_command.specs.Changes.{Change}
use Rattle.sync_command.specs.Trees.{command_at, one_each}
use Rattle.sync_command.proofs.CallerLemmas.{canonical_unique, command_at-node}
use Rattle.canon_set.specs.Sets.{canonical}
use Rattle.canon_set.proofs.CallerLemmas.{command_at-canonical, is_canonical-canonical, one_each-canonical}
use Rattle.refluent.specs.Sets.{HaveSameCommands, IsSubset}
use Rattle.refluent.proofs.CallerLemmas.{at_from_in, in_from_at}

-- sets with the same commands, one a node, have the same one at each
pub same_at : (cs ds : List Change) → one_each cs ≡ true → one_each ds ≡ true → HaveSameCommands cs ds → (p : Node) → command_at cs p ≡ command_at ds p
same_at cs ds one other same p = here (command_at cs p) refl (command_at ds p) refl
  where
    -- a command of one set at a node is that of the other
    there : (xs ys : List Change) → one_each ys ≡ true → IsSubset xs ys → (c : Change) → command_at xs p ≡ Some c → command_at ys p ≡ Some c
    there xs ys once part c e = ap (command_at ys) (command_at-node xs p c e) ∙ at_from_in ys once c (part c (in_from_at xs p c e))

    here : (o : Option Change) → command_at cs p ≡ o → (u : Option Change) → command_at ds p ≡ u → command_at cs p ≡ command_at ds p
    here (Some c) e u f = e ∙ sym (there cs ds other same.0 c e)
    here None e (Some d) f = there ds cs one same.1 d f ∙ sym f
    here None e None f = e ∙ sym f

-- and one canonical list
pub one_list : (cs ds : List Change) → one_each cs ≡ true → one_each ds ≡ true → HaveSameCommands cs ds → canonical cs ≡ canonical ds
one_list cs ds one other same =
    canonical_unique (canonical cs) (canonical ds) (is_canonical-canonical cs one) (is_canonical-canonical ds other) (one_each-canonical cs one) (one_each-canonical ds other)
    (λ p. command_at-canonical cs one p ∙ same_at cs ds one other same p ∙ sym (command_at-canonical ds other p))
