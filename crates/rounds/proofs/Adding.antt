-- The sum of a chain list, set by set and command by command.
use Rattle.std.proofs.Common.{◌≡◌, ℕ, ◌+◌, ◌<◌, ◌≤◌, true, List, [], ◌∷◌, ◌++◌, length, take, drop, get_or, Result, Err, refl, sym, ap, subst, ◌∙◌, arith, append_assoc, take_all}
use Rattle.std.specs.Result.{IsErrAnd}
use Rattle.std.proofs.lemmas.List.{drop_more, length-take-le, take-append-drop, take_more}
use Rattle.sync_path.specs.Paths.{Node}
use Rattle.sync_command.specs.Changes.{Change, is_canonical}
use Rattle.canon_set.specs.Logs.{IsTaken}
use Rattle.canon_set.specs.Sets.{canonical}
use Rattle.canon_set.specs.Sums.{Sum, StandsFor}
use Rattle.rounds.specs.declared.faults.ComposeFault.{ComposeFault}
use Rattle.rounds.specs.Compositions.{StopsAt, StopsIn, chain_list}
use Rattle.rounds.proofs.Composed.{canonical_stays}
use Rattle.rounds.proofs.Stopping.{chain_append}

-- the first commands of a list, the next one, and the rest
split_at : {A : Type 0} (xs : List A) (k : ℕ) (x : A) → k < length xs → x ≡ get_or xs k x → xs ≡ take k xs ++ x ∷ drop (k + 1) xs
split_at xs k x low is = sym (take-append-drop k xs) ∙ ap (λ l. take k xs ++ l) (drop_more xs k x low ∙ ap (λ y. y ∷ drop (k + 1) xs) (sym is))

next_is : {A : Type 0} (xs : List A) (k : ℕ) (x : A) → k < length xs → x ≡ get_or xs k x → take (k + 1) xs ≡ take k xs ++ x ∷ []
next_is xs k x low is = take_more xs k x low ∙ ap (λ y. take k xs ++ y ∷ []) (sym is)

-- the fault that a refusal hands on
pub handed_on : {X : Type 0} (result : Result X ComposeFault) (x y : ComposeFault) → result ≡ Err y → IsErrAnd result (λ e. e ≡ x) → x ≡ y
handed_on result x y e h = sym (subst (λ r. IsErrAnd r (λ d. d ≡ x)) e h)

-- ---- the commands of a set

-- a sum that has the first commands of a set behind others gets the next one
pub next_command : (s : Sum) (cs xs : List Change) (k : ℕ) (c : Change) → k < length xs → c ≡ get_or xs k c → StandsFor s ((cs ++ take k xs) ++ c ∷ []) → StandsFor s (cs ++ take (k + 1) xs)
next_command s cs xs k c low is st = subst (StandsFor s) (append_assoc cs (take k xs) (c ∷ []) ∙ ap (λ l. cs ++ l) (sym (next_is xs k c low is))) st

-- all commands of a set were added
pub whole_set : (s : Sum) (cs xs set : List Change) (k : ℕ) → xs ≡ set → is_canonical set ≡ true → length xs ≤ k → StandsFor s (cs ++ take k xs) → StandsFor s (cs ++ canonical set)
whole_set s cs xs set k lent order all st = subst (StandsFor s) (ap (λ l. cs ++ l) (take_all k xs all ∙ lent ∙ sym (canonical_stays set order))) st

-- no tree takes the next command
pub stops_in : (s : Sum) (cs xs set : List Change) (k : ℕ) (c : Change) (node : Node) → xs ≡ set → is_canonical set ≡ true → k < length xs → c ≡ get_or xs k c →
    StandsFor s (cs ++ take k xs) → (IsTaken ((cs ++ take k xs) ++ c ∷ []) → ⊥) → node ≡ c.node → StopsIn cs set node
stops_in s cs xs set k c node lent order low is st broken at = record {
  prefix = take k xs;
  last = c;
  back = drop (k + 1) xs;
  set_is = canonical_stays set order ∙ sym lent ∙ split_at xs k c low is;
  node_is = at;
  taken = st.taken;
  stops = broken;
}

-- ---- the sets

append-nil : (cs : List Change) → cs ++ [] ≡ cs
append-nil [] = refl
append-nil (c ∷ cs) = ap (λ l. c ∷ l) (append-nil cs)

-- a sum of the first sets gets the next one
pub next_set : (s : Sum) (sets : List (List Change)) (k : ℕ) (set : List Change) → k < length sets → set ≡ get_or sets k set → StandsFor s (chain_list (take k sets) ++ canonical set) → StandsFor s (chain_list (take (k + 1) sets))
next_set s sets k set low is st =
    subst (StandsFor s) (ap (λ l. chain_list (take k sets) ++ l) (sym (append-nil (canonical set))) ∙ sym (chain_append (take k sets) (set ∷ [])) ∙ ap chain_list (sym (next_is sets k set low is))) st

pub all_sets : (s : Sum) (sets : List (List Change)) (k : ℕ) → length sets ≤ k → StandsFor s (chain_list (take k sets)) → StandsFor s (chain_list sets)
all_sets s sets k all st = subst (λ l. StandsFor s (chain_list l)) (take_all k sets all) st

-- no tree takes a command of the next set
pub stops_at : (sets : List (List Change)) (k number : ℕ) (set : List Change) (node : Node) → k < length sets → set ≡ get_or sets k set → number ≡ k + 1 → StopsIn (chain_list (take k sets)) set node → StopsAt sets number node
stops_at sets k number set node low is count here = record {
  before = take k sets;
  set = set;
  behind = drop (k + 1) sets;
  sets_are = split_at sets k set low is;
  number_is = count ∙ ap (λ n. n + 1) (sym (length-take-le k sets (below low)));
  here = here;
}
  where
    below : {m n : ℕ} → m < n → m ≤ n
    below l = omega arith
