-- The commands whose cards are marked Taken.
use Rattle.std.proofs.Common.{◌≡◌, ℕ, zero, suc, ◌+◌, ◌<◌, ◌≤◌, Bool, true, false, refl, ap, sym, ◌∙◌, arith, List, [], ◌∷◌, ◌++◌, length, map, Option, Some}
use Rattle.std.specs.Prelude.{if◌then◌else◌}
use Rattle.std.proofs.Math.ListN.{get_or-map}
use Rattle.std.proofs.lemmas.List.{length-map, get_or-map as get_or-map_within}
use Rattle.sync_command.specs.Changes.{Change}
use Rattle.refluent.specs.declared.joint.Pick.{Pick}
use Rattle.pref_list.specs.declared.numbers.Numbers.{Numbers}
use Rattle.pref_list.specs.Numbers.{numbered}
use Rattle.scan_board.specs.declared.board.Card.{Card}
use Rattle.scan_board.specs.declared.board.Spot.{Spot}
use Rattle.scan_board.specs.declared.board.Mark.TheVariants.{Blocked}
use Rattle.scan_board.specs.Inside.{state_of}
use Rattle.scan_board.specs.Tables.{State, is_taken_mark, mark_of, command_count}
use Rattle.scan_board.specs.Boards.{command_or, command_numbered, taken_list, taken_commands, taken_cards, card_at, no_card}

append_in : {X : Type 0} → (xs : List X) (x : X) (ys : List X) → (xs ++ x ∷ []) ++ ys ≡ xs ++ x ∷ ys
append_in [] x ys = refl
append_in (y ∷ xs) x ys = ap (λ l. y ∷ l) (append_in xs x ys)

-- one number less
pub taken_next : (sets : List (List Change)) (picks : List Pick) (cards : List Card) (n : ℕ) (old new all : List Change) (c : Change) → old ++ taken_cards sets picks cards (suc n) ≡ all → numbered sets picks n ≡ Some c →
    new ≡ (if is_taken_mark (card_at cards n).mark then old ++ c ∷ [] else old) → new ++ taken_cards sets picks cards n ≡ all
taken_next sets picks cards n old new all c so is e = ap (λ l. l ++ taken_cards sets picks cards n) e ∙ go (is_taken_mark (card_at cards n).mark) refl
  where
    go : (b : Bool) → is_taken_mark (card_at cards n).mark ≡ b → (if is_taken_mark (card_at cards n).mark then old ++ c ∷ [] else old) ++ taken_cards sets picks cards n ≡ all
    go true f = ap (λ b. (if b then old ++ c ∷ [] else old) ++ taken_cards sets picks cards n) f ∙ append_in old c (taken_cards sets picks cards n)
        ∙ ap (λ x. old ++ x ∷ taken_cards sets picks cards n) (sym (ap command_or is)) ∙ ap (λ b. old ++ (if b then command_or (numbered sets picks n) ∷ taken_cards sets picks cards n else taken_cards sets picks cards n)) (sym f) ∙ so
    go false f = ap (λ b. (if b then old ++ c ∷ [] else old) ++ taken_cards sets picks cards n) f
        ∙ ap (λ b. old ++ (if b then command_or (numbered sets picks n) ∷ taken_cards sets picks cards n else taken_cards sets picks cards n)) (sym f) ∙ so

-- on a board the cards' marks are its marks
same_to : (sets : List (List Change)) (numbers : Numbers) (cards : List Card) (spots : List Spot) (pile : List ℕ) (n : ℕ) → n ≤ length cards →
    taken_cards sets numbers.picks.items cards n ≡ taken_list (command_numbered sets (state_of numbers cards spots pile).tables) (state_of numbers cards spots pile) n
same_to sets numbers cards spots pile zero l = refl
same_to sets numbers cards spots pile (suc n) l =
    ap (λ t. if is_taken_mark (card_at cards n).mark then command_or (numbered sets numbers.picks.items n) ∷ t else t) (same_to sets numbers cards spots pile n (omega arith))
    ∙ ap (λ m. if is_taken_mark m then command_or (numbered sets numbers.picks.items n) ∷ taken_list (command_numbered sets (state_of numbers cards spots pile).tables) (state_of numbers cards spots pile) n else taken_list (command_numbered sets (state_of numbers cards spots pile).tables) (state_of numbers cards spots pile) n)
    (sym (get_or-map_within (λ (c : Card). c.mark) cards n no_card Blocked l))

pub taken_same : (sets : List (List Change)) (numbers : Numbers) (cards : List Card) (spots : List Spot) (pile : List ℕ) → taken_cards sets numbers.picks.items cards (length cards) ≡ taken_commands sets (state_of numbers cards spots pile)
taken_same sets numbers cards spots pile = same_to sets numbers cards spots pile (length cards) (omega arith)
    ∙ ap (taken_list (command_numbered sets (state_of numbers cards spots pile).tables) (state_of numbers cards spots pile)) (sym (length-map cards (λ (c : Card). c.node)))

pub taken_is : (sets : List (List Change)) (numbers : Numbers) (cards given : List Card) (spots : List Spot) (pile : List ℕ) (s : State) (items : List Change) → given ≡ cards → state_of numbers cards spots pile ≡ s →
    items ≡ taken_cards sets numbers.picks.items given (length given) → items ≡ taken_commands sets s
taken_is sets numbers cards given spots pile s items same view is = is ∙ ap (λ (l : List Card). taken_cards sets numbers.picks.items l (length l)) same ∙ taken_same sets numbers cards spots pile ∙ ap (taken_commands sets) view

pub many_is : (numbers : Numbers) (cards given : List Card) (spots : List Spot) (pile : List ℕ) (s : State) → given ≡ cards → state_of numbers cards spots pile ≡ s → command_count s.tables ≡ length s.tables.numbers.picks.items → length given ≡ length numbers.picks.items
many_is numbers cards given spots pile s same view h = ap length same ∙ sym (length-map cards (λ (c : Card). c.node)) ∙ ap (λ (r : State). command_count r.tables) view ∙ h ∙ ap (λ (r : State). length r.tables.numbers.picks.items) (sym view)
