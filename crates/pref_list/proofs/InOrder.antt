-- Picks that go by their logs and places, one more at a time.
use Rattle.std.proofs.Common.{◌≡◌, ℕ, ◌<◌, ◌+◌, List, [], ◌∷◌, ◌++◌, length, Option, Some, sym, ap, subst, arith, ◌⊎◌, inl, inr}
use Rattle.std.specs.List.{slice_get}
use Rattle.std.proofs.lemmas.Option.{slice_get_within}
use Rattle.refluent.specs.declared.joint.Pick.{Pick}
use Rattle.pref_list.specs.Numbers.{AddsPick, AreBefore, ComesBefore}
use Rattle.pref_list.proofs.Ends.{last_or}

pub none_before : (log place : ℕ) → AreBefore [] log place
none_before log place = record {
  order = λ m n a b low e f. cc (e);
  all = λ m a e. cc (e);
}

next_place : (a : Pick) (log place : ℕ) → ComesBefore a (record { log = log; place = place }) → ComesBefore a (record { log = log; place = place + 1 })
next_place a log place (inl less) = inl less
next_place a log place (inr same) = inr (same.0, let l : a.place < place = same.1 in omega arith)

-- nothing was added
pub before_next_place : (picks : List Pick) (log place : ℕ) → AreBefore picks log place → AreBefore picks log (place + 1)
before_next_place picks log place before = record {
  order = before.order;
  all = λ m a e. next_place a log place (before.all m a e);
}

next_log : (a : Pick) (log place : ℕ) → ComesBefore a (record { log = log; place = place }) → ComesBefore a (record { log = log + 1; place = 0 })
next_log a log place (inl less) = inl (let l : a.log < log = less in omega arith)
next_log a log place (inr same) = inl (let l : a.log ≡ log = same.0 in omega arith)

-- the log is through
pub before_next_log : (picks : List Pick) (log place : ℕ) → AreBefore picks log place → AreBefore picks (log + 1) 0
before_next_log picks log place before = record {
  order = before.order;
  all = λ m a e. next_log a log place (before.all m a e);
}

one_more_before : (picks : List Pick) (pick : Pick) → AreBefore picks pick.log pick.place → AreBefore (picks ++ pick ∷ []) pick.log (pick.place + 1)
one_more_before picks pick before = record {
  order = λ m n a b low e f. order m n a b low (last_or picks pick m a e) (last_or picks pick n b f);
  all = λ m a e. all m a (last_or picks pick m a e);
}
  where
    order : (m n : ℕ) (a b : Pick) → m < n → (slice_get picks m ≡ Some a) ⊎ ((m ≡ length picks) × (a ≡ pick)) → (slice_get picks n ≡ Some b) ⊎ ((n ≡ length picks) × (b ≡ pick)) → ComesBefore a b
    order m n a b low (inl e) (inl f) = before.order m n a b low e f
    order m n a b low (inl e) (inr new) = subst (ComesBefore a) (sym new.1) (before.all m a e)
    order m n a b low (inr new) (inl f) = let s : m ≡ length picks = new.0 in let l : n < length picks = slice_get_within picks n b f in absurd (omega arith)
    order m n a b low (inr one) (inr two) = let s : m ≡ length picks = one.0 in let t : n ≡ length picks = two.0 in absurd (omega arith)

    all : (m : ℕ) (a : Pick) → (slice_get picks m ≡ Some a) ⊎ ((m ≡ length picks) × (a ≡ pick)) → ComesBefore a (record { log = pick.log; place = pick.place + 1 })
    all m a (inl e) = next_place a pick.log pick.place (before.all m a e)
    all m a (inr new) = inr (ap (λ p. p.log) new.1, let s : a.place ≡ pick.place = ap (λ p. p.place) new.1 in omega arith)

-- the pick was added
pub added_before : (picks : List Pick) (heads nexts : List (Option ℕ)) (node : ℕ) (pick : Pick) (picks_after : List Pick) (heads_after nexts_after : List (Option ℕ)) (number : ℕ) →
    AddsPick picks heads nexts node pick picks_after heads_after nexts_after number → AreBefore picks pick.log pick.place → AreBefore picks_after pick.log (pick.place + 1)
added_before picks heads nexts node pick picks_after heads_after nexts_after number adds before =
    subst (λ l. AreBefore l pick.log (pick.place + 1)) (sym adds.picks_are) (one_more_before picks pick before)
