-- What a board is after a mark or a tally was written.
use Rattle.std.proofs.Common.{◌≡◌, ℕ, refl, ap, sym, subst, ◌∙◌, List, length, map, slice_set, slice_index_or, length-set}
use Rattle.std.proofs.Math.Seq.{map-set_same}
use Rattle.std.proofs.lemmas.List.{map-set}
use Rattle.pref_list.specs.declared.numbers.Numbers.{Numbers}
use Rattle.scan_board.specs.declared.board.Card.{Card}
use Rattle.scan_board.specs.declared.board.Spot.{Spot}
use Rattle.scan_board.specs.declared.board.Tally.{Tally}
use Rattle.scan_board.specs.declared.board.Mark.{Mark}
use Rattle.scan_board.specs.Tables.{State, IsBoard}
use Rattle.scan_board.specs.Inside.{state_of}

-- an element that is replaced by one that is alike for a column
column : {A B : Type 0} → (f : A → B) (xs : List A) (k : ℕ) (x y : A) → x ≡ slice_index_or xs k x → f y ≡ f x → map f (slice_set xs k y) ≡ map f xs
column f xs k x y at e = map-set_same f xs k y x (e ∙ ap f at)

pub marked : (numbers : Numbers) (cards : List Card) (spots : List Spot) (pile : List ℕ) (k : ℕ) (card : Card) (m : Mark) → card ≡ slice_index_or cards k card →
    state_of numbers (slice_set cards k (record { node = card.node; leaves = card.leaves; next = card.next; mark = m })) spots pile
    ≡ record (state_of numbers cards spots pile) { marks = slice_set (state_of numbers cards spots pile).marks k m }
marked numbers cards spots pile k card m at = λ i. record (state_of numbers cards spots pile) {
  tables = record (state_of numbers cards spots pile).tables {
    nodes = column (λ c. c.node) cards k card (record { node = card.node; leaves = card.leaves; next = card.next; mark = m }) at refl i;
    leaves = column (λ c. c.leaves) cards k card (record { node = card.node; leaves = card.leaves; next = card.next; mark = m }) at refl i;
    nexts = column (λ c. c.next) cards k card (record { node = card.node; leaves = card.leaves; next = card.next; mark = m }) at refl i;
  };
  marks = map-set (λ c. c.mark) cards k (record { node = card.node; leaves = card.leaves; next = card.next; mark = m }) i;
}

abbrev with_tally : Spot → Tally → Spot
with_tally spot t = record { starts = spot.starts; parent = spot.parent; first_child = spot.first_child; next_child = spot.next_child; first = spot.first; tally = t }

pub tallied : (numbers : Numbers) (cards : List Card) (spots : List Spot) (pile : List ℕ) (k : ℕ) (spot : Spot) (t : Tally) → spot ≡ slice_index_or spots k spot →
    state_of numbers cards (slice_set spots k (record { starts = spot.starts; parent = spot.parent; first_child = spot.first_child; next_child = spot.next_child; first = spot.first; tally = t })) pile
    ≡ record (state_of numbers cards spots pile) {
      dirs = slice_set (state_of numbers cards spots pile).dirs k t.dirs;
      shut = slice_set (state_of numbers cards spots pile).shut k t.shut;
      bare = slice_set (state_of numbers cards spots pile).bare k t.bare;
    }
tallied numbers cards spots pile k spot t at = λ i. record (state_of numbers cards spots pile) {
  tables = record (state_of numbers cards spots pile).tables {
    starts = column (λ s. s.starts) spots k spot (with_tally spot t) at refl i;
    parents = column (λ s. s.parent) spots k spot (with_tally spot t) at refl i;
    children = column (λ s. s.first_child) spots k spot (with_tally spot t) at refl i;
    siblings = column (λ s. s.next_child) spots k spot (with_tally spot t) at refl i;
    firsts = column (λ s. s.first) spots k spot (with_tally spot t) at refl i;
  };
  dirs = map-set (λ s. s.tally.dirs) spots k (with_tally spot t) i;
  shut = map-set (λ s. s.tally.shut) spots k (with_tally spot t) i;
  bare = map-set (λ s. s.tally.bare) spots k (with_tally spot t) i;
}

pub board_marked : (s r : State) (k : ℕ) (m : Mark) → IsBoard s → r ≡ record s { marks = slice_set s.marks k m } → IsBoard r
board_marked s r k m h e = subst IsBoard (sym e) (record { sound = h.sound; marks = length-set s.marks k m ∙ h.marks; dirs = h.dirs; shut = h.shut; bare = h.bare })

pub board_tallied : (s r : State) (k : ℕ) (t : Tally) → IsBoard s → r ≡ record s { dirs = slice_set s.dirs k t.dirs; shut = slice_set s.shut k t.shut; bare = slice_set s.bare k t.bare } → IsBoard r
board_tallied s r k t h e = subst IsBoard (sym e) (record { sound = h.sound; marks = h.marks; dirs = length-set s.dirs k t.dirs ∙ h.dirs; shut = length-set s.shut k t.shut ∙ h.shut; bare = length-set s.bare k t.bare ∙ h.bare })
