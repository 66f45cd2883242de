use Rattle.std.proofs.Common.{◌≡◌, ℕ, ◌-◌, List, ap, ◌∙◌, sym, slice_set}
use Rattle.std.specs.Prelude.{slice_index}
use Rattle.scan_board.specs.Tables.{State}
use Rattle.scan_board.proofs.Dirs.{block_dirs, block_other}
use Rattle.scan_board.proofs.turning.block.Goals as goal

pub returns-in-Dir-clause-dirs : goal.returns-in-Dir-clause-dirs
returns-in-Dir-clause-dirs g c =
    let less : c.saturating_sub-dirs.result ≡ slice_index c.args.board.now.dirs c.args.node - 1 = c.saturating_sub-dirs.ensures ∙ ap (λ x. x - 1) (c.spot-spot.ensures.dirs ∙ ap (λ (x : State). slice_index x.dirs c.args.node) c.mark.ensures.written) in
    block_dirs c.args.board.now c.tally.new.self c.args.command c.args.node c.saturating_sub-dirs.result c.requires.board c.requires.command_in c.requires.node_in c.requires.of_node (sym c.requires.leaves ∙ c.in-Dir.is) c.requires.is_open less
    (ap (λ x. x.tables) c.tally.ensures.written ∙ ap (λ x. x.tables) c.mark.ensures.written)
    (ap (λ x. x.marks) c.tally.ensures.written ∙ ap (λ x. x.marks) c.mark.ensures.written)
    (ap (λ x. x.dirs) c.tally.ensures.written ∙ ap (λ (x : List ℕ). slice_set x c.args.node c.saturating_sub-dirs.result) (ap (λ x. x.dirs) c.mark.ensures.written))

pub returns-in_default-clause-dirs : goal.returns-in_default-clause-dirs
returns-in_default-clause-dirs g c =
    block_other c.args.board.now c.mark.new.self c.args.command (λ e. c.in_default.not-Dir (c.requires.leaves ∙ e))
    (ap (λ x. x.tables) c.mark.ensures.written) (ap (λ x. x.marks) c.mark.ensures.written) (ap (λ x. x.dirs) c.mark.ensures.written)
