use Rattle.merge_core.proofs.merging.merge.Given as goal

abbrev pub ghosts-merge_in : goal.ghosts-merge_in
ghosts-merge_in a = record { name = a.blank.name; parts = a.blank.parts }
