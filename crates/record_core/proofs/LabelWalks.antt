-- Labels that texts of version 1 lack, and moved paths that are too deep.
use Rattle.std.proofs.Common.{◌≡◌, ◌↔◌, IsTrue, ◌≤◌, Global, ℕ, suc, zero, ◌<◌, ◌||◌, nat_lt, Bool, true, false, List, [], ◌∷◌, ◌++◌, length, get_or, take, drop, Option, Some, None, Err, refl, sym, ap, subst, ◌∙◌, arith}
use Rattle.std.specs.Prelude.{Result, map}
use Rattle.std.specs.List.{list_any}
use Rattle.std.proofs.Math.Seq.{take-length, take-suc}
use Rattle.std.proofs.lemmas.Bool.Decides.{nat_tests}
use Rattle.sync_path.specs.Paths.{IsUnder, Node, is_under, moved}
use Rattle.sync_path.proofs.CallerLemmas.{under_is, under_shorter}
use Rattle.sync_command.specs.declared.values.Version.{Version}
use Rattle.sync_command.specs.declared.values.Version.TheVariants.{One, Two}
use Rattle.sync_command.specs.Changes.{Change}
use Rattle.sync_command.specs.Maps.{Store, at}
use Rattle.tree_port.specs.States.{IfHeld, NoneFell, TreeState}
use Rattle.record_core.specs.declared.faults.RecordFault.{RecordFault}
use Rattle.record_core.specs.declared.faults.RecordFault.TheVariants.{OpRefused, TooLarge, TreeDenied, WriteFault, TreeFailed, Memory}
use Rattle.record_core.specs.declared.steps.Step.{Step}
use Rattle.record_core.specs.declared.steps.Step.TheVariants.{Make}
use Rattle.record_core.specs.Plans.{Moves, MovesOne, is_deep}
use Rattle.record_core.specs.Meanings.{has_foreign_label, is_labelled}
use Rattle.record_core.specs.Reading.{ReadsTree}
use Rattle.record_core.specs.Steps.{change_of, changes_of}
use Rattle.record_core.proofs.Ascending.{or_left, or_right, same_test}
use Rattle.record_core.proofs.Sizes.{held_map}
use Rattle.record_core.proofs.Walks.{fell_on, first_all, first_more, first_of, none_fell, rest_of}

-- none of the first k commands has a label
pub record IsPlainSoFar (steps : List Step) (k : ℕ) (t u : TreeState) : Type 0 where
  pub later : NoneFell t.counts u.counts
  pub contents : u.contents ≡ t.contents
  pub known : IfHeld t.contents (λ m. is_labelled One (first_of steps k m) ≡ false)

pub plain_begins : (steps : List Step) (t : TreeState) → IsPlainSoFar steps 0 t t
plain_begins steps t = record { later = none_fell t.counts; contents = refl; known = go t.contents }
  where
    go : (t : Option Store) → IfHeld t (λ m. false ≡ false)
    go None = tt
    go (Some m) = refl

any_append : (f : Change → Bool) (a b : List Change) → list_any f (a ++ b) ≡ (list_any f a || list_any f b)
any_append f [] b = refl
any_append f (x ∷ a) b = go (f x) (any_append f a b)
  where
    go : (s : Bool) → list_any f (a ++ b) ≡ (list_any f a || list_any f b) → (s || list_any f (a ++ b)) ≡ ((s || list_any f a) || list_any f b)
    go true e = refl
    go false e = e

or_false : (b : Bool) → (b || false) ≡ b
or_false true = refl
or_false false = refl

held_two : {P Q R : Store → Type 0} (t : Option Store) → IfHeld t P → IfHeld t Q → ((m : Store) → P m → Q m → R m) → IfHeld t R
held_two None p q f = tt
held_two (Some m) p q f = f m p q

pub plain_on : {T : Type 0} (r : Result T RecordFault) (steps : List Step) (k j : ℕ) (s : Step) (b : Bool) (t u v : TreeState) → j ≡ suc k → k < length steps → s ≡ get_or steps k s → IsPlainSoFar steps k t u → ReadsTree r u v
    → IfHeld u.contents (λ m. b ≡ has_foreign_label One (change_of (at m) s)) → b ≡ false → IsPlainSoFar steps j t v
plain_on r steps k j s b t u v e low is plain reads h none = subst (λ j. IsPlainSoFar steps j t v) (sym e) (record {
  later = fell_on t.counts u.counts v.counts plain.later reads.later;
  contents = reads.contents ∙ plain.contents;
  known = held_two t.contents plain.known (subst (λ c. IfHeld c (λ m. b ≡ has_foreign_label One (change_of (at m) s))) plain.contents h) (λ m f g.
      ap (is_labelled One) (first_more steps k s m low is) ∙ any_append (has_foreign_label One) (first_of steps k m) (change_of (at m) s ∷ [])
      ∙ (λ i. f i || (has_foreign_label One (change_of (at m) s) || false)) ∙ or_false (has_foreign_label One (change_of (at m) s)) ∙ sym g ∙ none);
})

pub plain_found : {T : Type 0} (r : Result T RecordFault) (steps : List Step) (k : ℕ) (s : Step) (b : Bool) (t u v : TreeState) → k < length steps → s ≡ get_or steps k s → IsPlainSoFar steps k t u → ReadsTree r u v
    → IfHeld u.contents (λ m. b ≡ has_foreign_label One (change_of (at m) s)) → b ≡ true → IfHeld t.contents (λ m. true ≡ is_labelled One (changes_of (at m) steps))
plain_found r steps k s b t u v low is plain reads h some = held_two t.contents plain.known (subst (λ c. IfHeld c (λ m. b ≡ has_foreign_label One (change_of (at m) s))) plain.contents h) (λ m f g.
    sym (ap (is_labelled One) (sym (rest_of steps (suc k) m)) ∙ any_append (has_foreign_label One) (first_of steps (suc k) m) (changes_of (at m) (drop (suc k) steps))
    ∙ or_left (is_labelled One (first_of steps (suc k) m)) (is_labelled One (changes_of (at m) (drop (suc k) steps)))
    (ap (is_labelled One) (first_more steps k s m low is) ∙ any_append (has_foreign_label One) (first_of steps k m) (change_of (at m) s ∷ [])
    ∙ or_right (is_labelled One (first_of steps k m)) (has_foreign_label One (change_of (at m) s) || false) (or_false (has_foreign_label One (change_of (at m) s)) ∙ sym g ∙ some))))

pub plain_done : (steps : List Step) (k : ℕ) (t u : TreeState) → k ≡ length steps → IsPlainSoFar steps k t u → IfHeld t.contents (λ m. false ≡ is_labelled One (changes_of (at m) steps))
plain_done steps k t u e plain = held_map t.contents plain.known (λ m f. sym (ap (is_labelled One) (sym (ap (λ k. first_of steps k m) e ∙ first_all steps m)) ∙ f))

-- texts of version 2 have every label
pub never_foreign : (cs : List Change) → false ≡ is_labelled Two cs
never_foreign [] = refl
never_foreign (c ∷ cs) = never_foreign cs

-- ---- moved paths

-- none of the first k moved paths is too deep, and these are the steps
pub record AreMoved (p q : Node) (ns : List Node) (k : ℕ) (steps : List Step) : Type 0 where
  pub plain : list_any (is_deep p q) (take k ns) ≡ false
  pub made : steps ≡ map (λ n. Make n (moved n p q)) (take k ns)

node_append : (f : Node → Bool) (a b : List Node) → list_any f (a ++ b) ≡ (list_any f a || list_any f b)
node_append f [] b = refl
node_append f (x ∷ a) b = go (f x) (node_append f a b)
  where
    go : (s : Bool) → list_any f (a ++ b) ≡ (list_any f a || list_any f b) → (s || list_any f (a ++ b)) ≡ ((s || list_any f a) || list_any f b)
    go true e = refl
    go false e = e

step_append : (f : Node → Step) (a b : List Node) → map f (a ++ b) ≡ map f a ++ map f b
step_append f [] b = refl
step_append f (x ∷ a) b = ap (λ l. f x ∷ l) (step_append f a b)

pub moved_on : (p q : Node) (ns : List Node) (k j : ℕ) (n : Node) (step : Step) (steps more : List Step) → j ≡ suc k → k < length ns → n ≡ get_or ns k n → AreMoved p q ns k steps → (is_deep p q n ≡ false) × (step ≡ Make n (moved n p q)) → more ≡ steps ++ step ∷ [] → AreMoved p q ns j more
moved_on p q ns k j n step steps more e low is so_far one added = subst (λ j. AreMoved p q ns j more) (sym e) (record {
  plain = ap (list_any (is_deep p q)) next ∙ node_append (is_deep p q) (take k ns) (n ∷ []) ∙ (λ i. so_far.plain i || (one.0 i || false));
  made = added ∙ (λ i. so_far.made i ++ one.1 i ∷ []) ∙ sym (ap (map (λ n. Make n (moved n p q))) next ∙ step_append (λ n. Make n (moved n p q)) (take k ns) (n ∷ []));
})
  where
    next : take (suc k) ns ≡ take k ns ++ n ∷ []
    next = take-suc ns k n low ∙ ap (λ x. take k ns ++ x ∷ []) (sym is)

pub too_deep : (p q : Node) (ns : List Node) (k : ℕ) (n : Node) → k < length ns → n ≡ get_or ns k n → is_deep p q n ≡ true → list_any (is_deep p q) ns ≡ true
too_deep p q [] k n low is deep = absurd (omega (arith, low))
too_deep p q (x ∷ ns) zero n low is deep = or_left (is_deep p q x) (list_any (is_deep p q) ns) (ap (is_deep p q) (sym is) ∙ deep)
too_deep p q (x ∷ ns) (suc k) n low is deep = or_right (is_deep p q x) (list_any (is_deep p q) ns) (too_deep p q ns k n (omega (arith, low)) is deep)

pub moves_fail : (number : ℕ) (p q : Node) (ns : List Node) (k : ℕ) (n : Node) (fault : RecordFault) → k < length ns → n ≡ get_or ns k n → MovesOne number n p q (Err fault) → Moves {A = Global} number ns p q (Err fault)
moves_fail number p q ns k n (OpRefused j why) low is h = (h.0, h.1, too_deep p q ns k n low is h.2)
moves_fail number p q ns k n TooLarge low is h = h
moves_fail number p q ns k n TreeDenied low is h = h
moves_fail number p q ns k n WriteFault low is h = h
moves_fail number p q ns k n TreeFailed low is h = h
moves_fail number p q ns k n Memory low is h = h

pub moved_done : (p q : Node) (ns : List Node) (k : ℕ) (steps : List Step) → k ≡ length ns → AreMoved p q ns k steps → (list_any (is_deep p q) ns ≡ false) × (steps ≡ map (λ n. Make n (moved n p q)) ns)
moved_done p q ns k steps e h = (ap (list_any (is_deep p q)) (sym all) ∙ h.plain, h.made ∙ ap (map (λ n. Make n (moved n p q))) all)
  where
    all : take k ns ≡ ns
    all = ap (λ k. take k ns) e ∙ take-length ns

-- ---- under another path, by the depths and the test

pub under_by_test : (p q : Node) (under : Bool) (n : ℕ) → n ≡ length q → 0 < n → IsTrue under ↔ IsUnder p q → under ≡ is_under p q
under_by_test p q under n e some g = same_test under (is_under p q) (λ t. (under_is p q named).1 (g.0 t)) (λ t. g.1 ((under_is p q named).0 t))
  where
    named : 0 < length q
    named = subst (λ k. 0 < k) e some

pub not_deeper : (p q : Node) (m n : ℕ) → m ≡ length p → n ≡ length q → m ≤ n → nat_lt n m ≡ is_under p q
not_deeper p q m n em en low = lower ∙ go (is_under p q) refl
  where
    lower : nat_lt n m ≡ false
    lower = grind (arith, nat_tests)

    go : (b : Bool) → is_under p q ≡ b → false ≡ b
    go true u = let s = under_shorter p q u in absurd (omega (arith, s, em, en, low))
    go false u = refl

pub held_foreign : (t : Option Store) (version : Version) (steps : List Step) → version ≡ Two → IfHeld t (λ m. false ≡ is_labelled version (changes_of (at m) steps))
held_foreign None version steps e = tt
held_foreign (Some m) version steps e = subst (λ v. false ≡ is_labelled v (changes_of (at m) steps)) (sym e) (never_foreign (changes_of (at m) steps))
