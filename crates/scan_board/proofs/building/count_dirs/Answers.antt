use Rattle.std.proofs.Common.{◌≡◌, ◌≤◌, ◌<◌, ap, ◌∙◌, arith, refl, length}
use Rattle.std.specs.Prelude.{slice_index}
use Rattle.scan_board.specs.Built.{is_dir_of}
use Rattle.scan_board.specs.Boards.{card_at}
use Rattle.scan_board.specs.Tables.{count}
use Rattle.scan_board.proofs.DirCounts.{counted_zeros, counted_next, counted_bound}
use Rattle.scan_board.proofs.building.count_dirs.Goals as goal

pub cards-init : goal.cards-init
cards-init c = counted_zeros c.args.cards.now c.in_ok-dirs.dirs.items c.args.total c.in_ok-dirs.ensures

pub add_dir-requires-clause-space : goal.add_dir-requires-clause-space
add_dir-requires-clause-space c =
    let b : slice_index c.cards.dirs.items (card_at c.args.cards.now c.cards.number).node ≤ c.cards.number = counted_bound c.args.cards.now c.cards.dirs.items c.args.total c.cards.number (card_at c.args.cards.now c.cards.number).node c.cards.invariant (c.requires c.cards.number c.cards-test.true) in
    omega arith

pub cards-preserved : goal.cards-preserved
cards-preserved c = counted_next c.args.cards.now c.cards.dirs.items c.add_dir.new.dirs.items c.args.total c.cards.number (card_at c.args.cards.now c.cards.number).node (card_at c.args.cards.now c.cards.number).leaves c.cards.invariant refl
    (c.requires c.cards.number c.cards-test.true) refl c.add_dir.ensures.dir c.add_dir.ensures.other

pub returns : goal.returns
returns c = let all : c.cards.number ≡ length c.args.cards.now = omega arith in
    record { len = c.cards.invariant.len; at = (λ n a. c.cards.invariant.each n a ∙ ap (count (is_dir_of c.args.cards.now n)) all) }
