-- Two logs disagree where no value suits what both want, and logs of which no two disagree have a common tree.
use Rattle.std.proofs.Common.{◌≡◌, ◌<◌, ◌≤◌, ℕ, zero, suc, Bool, true, false, not, ◌&&◌, ◌||◌, List, [], ◌∷◌, length, Option, Some, None, refl, sym, ap, subst, ◌∙◌, arith, ◌⊎◌, inl, inr}
use Rattle.std.specs.Prelude.{is_some}
use Rattle.std.proofs.lemmas.Bool.{cases_lt}
use Rattle.sync_path.specs.Paths.{Node, parent}
use Rattle.sync_command.specs.declared.values.Value.TheVariants.{Empty, Dir, File}
use Rattle.sync_command.specs.Values.{is_empty, same_value}
use Rattle.sync_command.specs.Changes.{Change}
use Rattle.sync_command.specs.Trees.{command_at}
use Rattle.sync_command.specs.Maps.{at}
use Rattle.canon_set.specs.Logs.{IsTaken, all_change, names, touches}
use Rattle.canon_set.specs.Leaving.{above, leaves}
use Rattle.canon_set.specs.Sums.{Sum}
use Rattle.refluent.specs.Needs.{Need, Anything, AnyDirectory, Exactly, need_by, need, needs_non_empty, are_incompatible, leaves_parent, needs_absent, are_opposed, disagree}
use Rattle.refluent.specs.CommonTrees.{IsAmong, AllChange, AreTaken, Agree, HasCommonTree}
use Rattle.refluent.specs.FirstDisagreements.{log_at}
use Rattle.refluent.specs.Joints.{EachStandsFor}
use Rattle.refluent.specs.Tables.{wanted, wanted_of}
use Rattle.refluent.proofs.Needs.{taken_agree}
use Rattle.refluent.proofs.Least.{AgreeAll, not_false}
use Rattle.refluent.proofs.CommonTrees.{agree_all, agree_law}
use Rattle.canon_set.proofs.CallerLemmas.{is_some-touches, unleft}
use Rattle.sync_command.proofs.CallerLemmas.{same_value_is, same_value_refl}

-- ---- where needs are incompatible

-- what a log needs_absent it does not need
pub absent_needs_anything : (cs : List Change) → IsTaken cs → all_change cs ≡ true → (p : Node) → needs_absent cs p ≡ true → need cs p ≡ Anything
absent_needs_anything cs taken change p e = go (command_at (touches cs) p) (is_some-touches cs p) (above cs p) refl (parent p) refl (names cs p) refl e
  where
    go : (o : Option Change) → is_some o ≡ names cs p → (b : Bool) → above cs p ≡ b → (q : Option Node) → parent p ≡ q → (n : Bool) → names cs p ≡ n → (not n && leaves_parent cs q) ≡ true → need_by o b ≡ Anything
    go (Some d) s b a q u true f g = cc (g)
    go (Some d) s b a q u false f g = cc (s, f)
    go None s false a q u n f g = refl
    go None s true a None u n f g = grind arith
    go None s true a (Some q) u true f g = cc (g)
    go None s true a (Some q) u false f g = let l : leaves cs q ≡ false = unleft cs taken change q p u f a in cc (l, g)

apart_nothing : (m : Need) → are_incompatible m Anything ≡ false
apart_nothing Anything = refl
apart_nothing AnyDirectory = refl
apart_nothing (Exactly v) = refl

wanted_false : (m : Need) → wanted_of m false ≡ m
wanted_false Anything = refl
wanted_false AnyDirectory = refl
wanted_false (Exactly v) = refl

empty_left : (n : Need) → are_incompatible (Exactly Empty) n ≡ needs_non_empty n
empty_left Anything = refl
empty_left AnyDirectory = refl
empty_left (Exactly Empty) = refl
empty_left (Exactly (Dir l)) = refl
empty_left (Exactly (File b)) = refl

empty_right : (n : Need) → are_incompatible n (Exactly Empty) ≡ needs_non_empty n
empty_right Anything = refl
empty_right AnyDirectory = refl
empty_right (Exactly Empty) = refl
empty_right (Exactly (Dir l)) = refl
empty_right (Exactly (File b)) = refl

disagree_by : (m n : Need) (a b : Bool) → (a ≡ true → m ≡ Anything) → (b ≡ true → n ≡ Anything) → (are_incompatible m n || ((needs_non_empty m && b) || (needs_non_empty n && a))) ≡ are_incompatible (wanted_of m a) (wanted_of n b)
disagree_by m n false false f g = plain (are_incompatible m n) (needs_non_empty m) (needs_non_empty n) ∙ sym (ap (λ x. are_incompatible x (wanted_of n false)) (wanted_false m) ∙ ap (are_incompatible m) (wanted_false n))
  where
    plain : (x y z : Bool) → (x || ((y && false) || (z && false))) ≡ x
    plain x y z = grind arith
disagree_by m n true false f g = let is : m ≡ Anything = f refl in
    subst (λ x. (are_incompatible x n || ((needs_non_empty x && false) || (needs_non_empty n && true))) ≡ are_incompatible (wanted_of x true) (wanted_of n false)) (sym is)
    (left (needs_non_empty n) ∙ sym (ap (are_incompatible (Exactly Empty)) (wanted_false n) ∙ empty_left n))
  where
    left : (z : Bool) → (false || ((false && false) || (z && true))) ≡ z
    left z = grind arith
disagree_by m n false true f g = let is : n ≡ Anything = g refl in
    subst (λ x. (are_incompatible m x || ((needs_non_empty m && true) || (needs_non_empty x && false))) ≡ are_incompatible (wanted_of m false) (wanted_of x true)) (sym is)
    (ap (λ b. b || ((needs_non_empty m && true) || (false && false))) (apart_nothing m) ∙ right (needs_non_empty m) ∙ sym (ap (λ x. are_incompatible x (Exactly Empty)) (wanted_false m) ∙ empty_right m))
  where
    right : (z : Bool) → (false || ((z && true) || (false && false))) ≡ z
    right z = grind arith
disagree_by m n true true f g = let is : m ≡ Anything = f refl in let is' : n ≡ Anything = g refl in
    subst (λ x. (are_incompatible x n || ((needs_non_empty x && true) || (needs_non_empty n && true))) ≡ are_incompatible (wanted_of x true) (wanted_of n true)) (sym is)
    (subst (λ y. (are_incompatible Anything y || ((needs_non_empty Anything && true) || (needs_non_empty y && true))) ≡ are_incompatible (wanted_of Anything true) (wanted_of y true)) (sym is') refl)

-- two logs, each of which some tree takes, disagree at a node exactly where no value there suits what both want
pub disagree_wanted : (cs ds : List Change) → IsTaken cs → all_change cs ≡ true → IsTaken ds → all_change ds ≡ true → (p : Node) → disagree cs ds p ≡ are_incompatible (wanted cs p) (wanted ds p)
disagree_wanted cs ds tc cc' td cd p = disagree_by (need cs p) (need ds p) (needs_absent cs p) (needs_absent ds p) (absent_needs_anything cs tc cc' p) (absent_needs_anything ds td cd p)

-- ---- logs by their numbers

pub record IsLog (cs : List Change) : Type 0 where
  pub taken : IsTaken cs
  pub change : all_change cs ≡ true

pub log_is : (sums : List Sum) (logs : List (List Change)) → EachStandsFor sums logs → (i : ℕ) → i < length logs → IsLog (log_at logs i)
log_is [] [] h i low = absurd (omega arith)
log_is [] (cs ∷ logs) h i low = absurd h
log_is (s ∷ sums) [] h i low = absurd h
log_is (s ∷ sums) (cs ∷ logs) h zero low = record { taken = h.0.taken; change = h.0.change }
log_is (s ∷ sums) (cs ∷ logs) h (suc i) low = log_is sums logs h.1 i (omega arith)

-- the log of a number is one of the logs
pub among_at : (logs : List (List Change)) (i : ℕ) → i < length logs → IsAmong (log_at logs i) logs
among_at [] i low = absurd (omega arith)
among_at (cs ∷ logs) zero low = inl refl
among_at (cs ∷ logs) (suc i) low = inr (among_at logs i (omega arith))

-- a disagreement leaves no common tree
pub no_common : (sums : List Sum) (logs : List (List Change)) → EachStandsFor sums logs → (i j : ℕ) (p : Node) → i < length logs → j < length logs → disagree (log_at logs i) (log_at logs j) p ≡ true → HasCommonTree logs → ⊥
no_common sums logs stand i j p low high e common =
    let f : disagree (log_at logs i) (log_at logs j) p ≡ false = taken_agree (at common.map) (log_at logs i) (log_at logs j) common.common.tree.tree
    (common.common.takes (log_at logs i) (among_at logs i low)) (common.common.takes (log_at logs j) (among_at logs j high)) (log_is sums logs stand i low).change (log_is sums logs stand j high).change p in cc (e, f)

-- the log of no command disagrees with none
pub disagree_none : (cs : List Change) (p : Node) → disagree cs [] p ≡ false
disagree_none cs p = go (need cs p) (needs_absent cs p) (parent p)
  where
    go : (m : Need) (b : Bool) (o : Option Node) → (are_incompatible m Anything || ((needs_non_empty m && (not false && leaves_parent [] o)) || (needs_non_empty Anything && b))) ≡ false
    go Anything b o = refl
    go AnyDirectory b None = refl
    go AnyDirectory b (Some q) = refl
    go (Exactly v) b None = flat (not (is_empty v))
      where
        flat : (x : Bool) → ((x && false) || false) ≡ false
        flat x = grind arith
    go (Exactly v) b (Some q) = flat (not (is_empty v))
      where
        flat : (x : Bool) → ((x && false) || false) ≡ false
        flat x = grind arith

pub log_none : (logs : List (List Change)) (i : ℕ) → length logs ≤ i → log_at logs i ≡ []
log_none [] i e = refl
log_none (cs ∷ logs) zero e = absurd (omega arith)
log_none (cs ∷ logs) (suc i) e = log_none logs i (omega arith)

place_of_log : (logs : List (List Change)) (cs : List Change) → IsAmong cs logs → (i : ℕ) × (i < length logs) × (log_at logs i ≡ cs)
place_of_log [] cs h = absurd h
place_of_log (ds ∷ logs) cs (inl e) = (0, omega arith, sym e)
place_of_log (ds ∷ logs) cs (inr h) = let r = place_of_log logs cs h in let low : r.0 < length logs = r.1 in (suc r.0, omega arith, r.2)

apart_turn : (m n : Need) → are_incompatible m n ≡ false → are_incompatible n m ≡ false
apart_turn Anything Anything e = refl
apart_turn Anything AnyDirectory e = refl
apart_turn Anything (Exactly w) e = refl
apart_turn AnyDirectory Anything e = refl
apart_turn AnyDirectory AnyDirectory e = refl
apart_turn AnyDirectory (Exactly w) e = e
apart_turn (Exactly v) Anything e = refl
apart_turn (Exactly v) AnyDirectory e = e
apart_turn (Exactly v) (Exactly w) e = ap not (subst (λ x. same_value x v ≡ true) (same_value_is v w (not_false (same_value v w) e)) (same_value_refl v))

disagree_turn : (cs ds : List Change) (p : Node) → disagree cs ds p ≡ false → disagree ds cs p ≡ false
disagree_turn cs ds p e = go (are_incompatible (need cs p) (need ds p)) (are_opposed cs ds p) (are_opposed ds cs p) (are_incompatible (need ds p) (need cs p)) e (apart_turn (need cs p) (need ds p))
  where
    go : (a b c d : Bool) → (a || (b || c)) ≡ false → (a ≡ false → d ≡ false) → (d || (c || b)) ≡ false
    go a b c d e f = grind arith

pub all_agree : (sums : List Sum) (logs : List (List Change)) → EachStandsFor sums logs → ((k l : ℕ) (p : Node) → k < l → disagree (log_at logs k) (log_at logs l) p ≡ false) → Agree logs
all_agree sums logs stand none = agree
  where
    agree : (cs ds : List Change) → IsAmong cs logs → IsAmong ds logs → (n : Node) → disagree cs ds n ≡ false
    agree cs ds h g n = by (place_of_log logs cs h) (place_of_log logs ds g)
      where
        by : (i : ℕ) × (i < length logs) × (log_at logs i ≡ cs) → (j : ℕ) × (j < length logs) × (log_at logs j ≡ ds) → disagree cs ds n ≡ false
        by i j = subst (λ x. disagree x ds n ≡ false) i.2 (subst (λ y. disagree (log_at logs i.0) y n ≡ false) j.2 (go (cases_lt i.0 j.0)))
          where
            late : (j.0 < i.0) ⊎ (i.0 ≤ j.0) → j.0 ≤ i.0 → disagree (log_at logs i.0) (log_at logs j.0) n ≡ false
            late (inl less) low = disagree_turn (log_at logs j.0) (log_at logs i.0) n (none j.0 i.0 n less)
            late (inr more) low = let e : i.0 ≡ j.0 = omega arith in let t = log_is sums logs stand i.0 i.1 in subst (λ k. disagree (log_at logs i.0) (log_at logs k) n ≡ false) e (taken_agree (at t.taken.map) (log_at logs i.0) (log_at logs i.0) t.taken.tree.tree t.taken.takes t.taken.takes t.change t.change n)

            go : (i.0 < j.0) ⊎ (j.0 ≤ i.0) → disagree (log_at logs i.0) (log_at logs j.0) n ≡ false
            go (inl less) = none i.0 j.0 n less
            go (inr more) = late (cases_lt j.0 i.0) more

pub all_taken : (sums : List Sum) (logs : List (List Change)) → EachStandsFor sums logs → AreTaken logs
all_taken sums logs stand cs h = let r = place_of_log logs cs h in subst IsTaken r.2 (log_is sums logs stand r.0 r.1).taken

pub all_change_all : (sums : List Sum) (logs : List (List Change)) → EachStandsFor sums logs → AllChange logs
all_change_all sums logs stand cs h = let r = place_of_log logs cs h in subst (λ l. all_change l ≡ true) r.2 (log_is sums logs stand r.0 r.1).change

-- logs of which no two disagree have a common tree
pub common_tree : (sums : List Sum) (logs : List (List Change)) → EachStandsFor sums logs → ((k l : ℕ) (p : Node) → k < l → disagree (log_at logs k) (log_at logs l) p ≡ false) → HasCommonTree logs
common_tree sums logs stand none = (agree_law logs (all_change_all sums logs stand) (all_taken sums logs stand)).1 (all_agree sums logs stand none)

pub agreeing : (sums : List Sum) (logs : List (List Change)) → EachStandsFor sums logs → ((k l : ℕ) (p : Node) → k < l → disagree (log_at logs k) (log_at logs l) p ≡ false) → AgreeAll logs
agreeing sums logs stand none = agree_all logs (all_change_all sums logs stand) (common_tree sums logs stand none)
