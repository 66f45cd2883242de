-- The numbers of a set's commands, and of all.
use Rattle.std.proofs.Common.{◌≡◌, ℕ, zero, suc, ◌<◌, ◌≤◌, ◌+◌, List, [], ◌∷◌, ◌++◌, get_or, length, length-append, Option, Some, None, refl, sym, ap, subst, ◌∙◌, arith, ◌⊎◌, inl, inr}
use Rattle.std.specs.Prelude.{Vec}
use Rattle.std.specs.Global.{Global}
use Rattle.std.specs.List.{slice_get}
use Rattle.std.proofs.lemmas.Option.{slice_get_within, slice_get-get_or, slice_get_read}
use Rattle.std.proofs.lemmas.Bool.{cases_lt}
use Rattle.std.proofs.lemmas.List.{length-replicate}
use Rattle.sync_command.specs.declared.commands.Row.{Row}
use Rattle.sync_command.specs.Changes.{Change}
use Rattle.refluent.specs.declared.joint.Pick.{Pick}
use Rattle.pref_list.specs.Picks.{command_of}
use Rattle.pref_list.specs.Ranking.{set_from, set_of}
use Rattle.pref_list.specs.Numbers.{AreNodesOf, AreAllNodesOf, AreNumbersOf, AreNumbered, AreBefore, AreChained, AreCovered, IsLastOf, KeepNumbers, numbered}
use Rattle.std.proofs.Common.{replicate}
use Rattle.pref_list.proofs.Ends.{last_or}
use Rattle.pref_list.proofs.Named.{set_of_next}

-- the numbers of the first so many commands
pub record NumbersTo (sets : List (List Change)) (nodes : List Row) (first picks : List Pick) (heads nexts : List (Option ℕ)) (cs : List Change) (log n : ℕ) (numbers : List ℕ) : Type 0 where
  pub before : AreBefore picks log n
  pub chained : AreChained sets nodes picks heads nexts
  pub kept : KeepNumbers sets first picks
  pub many : length numbers ≡ n
  pub each : (i m : ℕ) (c : Change) → slice_get numbers i ≡ Some m → slice_get cs i ≡ Some c → numbered sets picks m ≡ Some c

pub none_yet : (sets : List (List Change)) (nodes : List Row) (picks : List Pick) (heads nexts : List (Option ℕ)) (cs : List Change) (log : ℕ) → AreBefore picks log 0 → AreChained sets nodes picks heads nexts → NumbersTo sets nodes picks picks heads nexts cs log 0 []
none_yet sets nodes picks heads nexts cs log before chained = record {
  before = before;
  chained = chained;
  kept = λ m c e. e;
  many = refl;
  each = λ i m c e f. cc (e);
}

pub one_more : (sets : List (List Change)) (nodes : List Row) (first picks more : List Pick) (heads nexts heads2 nexts2 : List (Option ℕ)) (log n : ℕ) (numbers all : List ℕ) (own : ℕ) →
    NumbersTo sets nodes first picks heads nexts (set_of sets log) log n numbers → AreBefore more log (n + 1) → AreChained sets nodes more heads2 nexts2 → KeepNumbers sets picks more → numbered sets more own ≡ command_of sets (record { log = log; place = n }) → all ≡ numbers ++ own ∷ [] →
    NumbersTo sets nodes first more heads2 nexts2 (set_of sets log) log (n + 1) all
one_more sets nodes first picks more heads nexts heads2 nexts2 log n numbers all own so before chained kept here is = record {
  before = before;
  chained = chained;
  kept = λ m c e. kept m c (so.kept m c e);
  many = ap length is ∙ length-append numbers (own ∷ []) ∙ (let m = so.many in omega arith);
  each = λ i m c e f. go i m c f (last_or numbers own i m (ap (λ l. slice_get l i) (sym is) ∙ e));
}
  where
    go : (i m : ℕ) (c : Change) → slice_get (set_of sets log) i ≡ Some c → (slice_get numbers i ≡ Some m) ⊎ ((i ≡ length numbers) × (m ≡ own)) → numbered sets more m ≡ Some c
    go i m c f (inl old) = kept m c (so.each i m c old f)
    go i m c f (inr new) = ap (numbered sets more) new.1 ∙ here ∙ ap (slice_get (set_of sets log)) (sym so.many ∙ sym new.0) ∙ f

pub covered_kept : (sets : List (List Change)) (old new : List Pick) (n : ℕ) → KeepNumbers sets old new → AreCovered sets old n → AreCovered sets new n
covered_kept sets old new n kept covered l i c low e = let m = covered l i c low e in (m.0, kept m.0 c m.1)

-- ---- all sets

-- the numbers of the first so many sets
pub record AllNumbersTo (sets : List (List Change)) (nodes : List Row) (picks : List Pick) (heads nexts : List (Option ℕ)) (n : ℕ) (lists : List (Vec ℕ Global)) : Type 0 where
  pub before : AreBefore picks (n + 1) 0
  pub chained : AreChained sets nodes picks heads nexts
  pub many : length lists ≡ n
  pub each : (l : ℕ) (numbers : Vec ℕ Global) → slice_get lists l ≡ Some numbers → AreNumbersOf sets picks (set_from sets l) numbers.items
  pub covered : AreCovered sets picks n

pub no_lists : (sets : List (List Change)) (nodes : List Row) (picks : List Pick) (heads nexts : List (Option ℕ)) → AreBefore picks 1 0 → AreChained sets nodes picks heads nexts → AllNumbersTo sets nodes picks heads nexts 0 []
no_lists sets nodes picks heads nexts before chained = record {
  before = before;
  chained = chained;
  many = refl;
  each = λ l v e. cc (e);
  covered = λ l i c low e. absurd (omega arith);
}

numbers_kept : (sets : List (List Change)) (old new : List Pick) (cs : List Change) (numbers : List ℕ) → KeepNumbers sets old new → AreNumbersOf sets old cs numbers → AreNumbersOf sets new cs numbers
numbers_kept sets old new cs numbers kept are = record {
  many = are.many;
  each = λ i m c e f. kept m c (are.each i m c e f);
}

pub one_list_more : (sets : List (List Change)) (nodes : List Row) (picks more : List Pick) (heads nexts heads2 nexts2 : List (Option ℕ)) (n : ℕ) (lists all : List (Vec ℕ Global)) (own : Vec ℕ Global) →
    AllNumbersTo sets nodes picks heads nexts n lists → AreBefore more (n + 1 + 1) 0 → AreChained sets nodes more heads2 nexts2 → KeepNumbers sets picks more → AreNumbersOf sets more (set_of sets (n + 1)) own.items → all ≡ lists ++ own ∷ [] →
    AllNumbersTo sets nodes more heads2 nexts2 (n + 1) all
one_list_more sets nodes picks more heads nexts heads2 nexts2 n lists all own so before chained kept made is = record {
  before = before;
  chained = chained;
  many = ap length is ∙ length-append lists (own ∷ []) ∙ (let m = so.many in omega arith);
  each = λ l v e. go l v (last_or lists own l v (ap (λ x. slice_get x l) (sym is) ∙ e));
  covered = λ l i c low e. cover l i c e (cases_lt l n) low;
}
  where
    here : AreNumbersOf sets more (set_from sets n) own.items
    here = subst (λ cs. AreNumbersOf sets more cs own.items) (set_of_next sets n) made

    go : (l : ℕ) (v : Vec ℕ Global) → (slice_get lists l ≡ Some v) ⊎ ((l ≡ length lists) × (v ≡ own)) → AreNumbersOf sets more (set_from sets l) v.items
    go l v (inl old) = numbers_kept sets picks more (set_from sets l) v.items kept (so.each l v old)
    go l v (inr new) = subst (λ k. AreNumbersOf sets more (set_from sets k) v.items) (sym (new.0 ∙ so.many)) (subst (λ x. AreNumbersOf sets more (set_from sets n) x.items) (sym new.1) here)

    cover : (l i : ℕ) (c : Change) → slice_get (set_from sets l) i ≡ Some c → (l < n) ⊎ (n ≤ l) → l < n + 1 → (m : ℕ) × (numbered sets more m ≡ Some c)
    cover l i c e (inl low) less = let m = so.covered l i c low e in (m.0, kept m.0 c m.1)
    cover l i c e (inr high) less =
        let same : l ≡ n = omega arith in
        let at : slice_get (set_from sets n) i ≡ Some c = ap (λ k. slice_get (set_from sets k) i) (sym same) ∙ e in
        let low : i < length own.items = (let w : i < length (set_from sets n) = slice_get_within (set_from sets n) i c at in let m = here.many in omega arith) in
        (get_or own.items i 0, here.each i (get_or own.items i 0) c (slice_get-get_or own.items i 0 low) at)

pub all_numbered : (sets : List (List Change)) (nodes : List Row) (picks : List Pick) (heads nexts : List (Option ℕ)) (n : ℕ) (lists : List (Vec ℕ Global)) → AllNumbersTo sets nodes picks heads nexts n lists → n ≡ length sets → AreNumbered sets picks lists
all_numbered sets nodes picks heads nexts n lists so e = record {
  many = so.many ∙ e;
  each = so.each;
  different = so.chained.different;
  least = so.chained.linked.least;
  order = so.before.order;
}

-- ---- nothing is numbered at first

empty_at : (n i : ℕ) (o : Option ℕ) → slice_get (replicate n None) i ≡ Some o → o ≡ None
empty_at zero i o e = cc (e)
empty_at (suc n) zero o e = same e
  where
    same : Some None ≡ Some o → o ≡ None
    same e = cc
empty_at (suc n) (suc i) o e = empty_at n i o e

pub none_chained : (sets : List (List Change)) (nodes : List Row) (heads : List (Option ℕ)) → heads ≡ replicate (length nodes) None → AreChained sets nodes [] heads []
none_chained sets nodes heads is = record {
  linked = record { many = refl; each = λ m o c e f. cc (e); least = λ m pick e. cc (e) };
  many = ap length is ∙ length-replicate (length nodes) None;
  each = λ place o p e at. subst (λ x. IsLastOf sets [] p 0 x) (sym (empty_at (length nodes) place o (ap (λ l. slice_get l place) (sym is) ∙ e))) (λ x d low f g. absurd (omega arith));
  different = λ m n c e f. cc (e);
}

pub list_at : (nodes : List Row) (sets : List (List Change)) (lists : List (Vec ℕ Global)) (n : ℕ) (v : Vec ℕ Global) → AreAllNodesOf nodes sets lists → n < length sets → v ≡ get_or lists n v → AreNodesOf nodes (set_of sets (n + 1)) v.items
list_at nodes sets lists n v all low is = subst (λ cs. AreNodesOf nodes cs v.items) (sym (set_of_next sets n))
    (all.each n v (slice_get_read lists (length lists) n v refl (let m = all.many in omega arith) is))
