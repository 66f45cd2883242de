-- What is seen of a board, by the entries of its commands and of its nodes.
use Rattle.std.specs.Prelude.{◌≡◌, ◌*◌, ◌≤◌, ℕ, List, map, length}
use Rattle.pref_list.specs.declared.numbers.Numbers.{Numbers}
use Rattle.scan_board.specs.Tables.{State}
use Rattle.scan_board.specs.declared.board.Card.{Card}
use Rattle.scan_board.specs.declared.board.Spot.{Spot}

abbrev pub state_of : Numbers → List Card → List Spot → List ℕ → State
state_of numbers cards spots pile = record {
  tables = record {
    numbers = numbers;
    nodes = map (λ c. c.node) cards;
    leaves = map (λ c. c.leaves) cards;
    nexts = map (λ c. c.next) cards;
    starts = map (λ s. s.starts) spots;
    parents = map (λ s. s.parent) spots;
    children = map (λ s. s.first_child) spots;
    siblings = map (λ s. s.next_child) spots;
    firsts = map (λ s. s.first) spots;
  };
  marks = map (λ c. c.mark) cards;
  dirs = map (λ s. s.tally.dirs) spots;
  shut = map (λ s. s.tally.shut) spots;
  bare = map (λ s. s.tally.bare) spots;
  pile = pile;
}
