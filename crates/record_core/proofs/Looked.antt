-- How the touched nodes of a log stand on a tree, one after another.
use Rattle.std.proofs.Common.{◌≡◌, ◌⊎◌, inl, inr, ◌≤◌, ◌<◌, ℕ, ◌+◌, ◌-◌, Bool, true, false, List, [], ◌∷◌, ◌++◌, length, take, get_or, Option, Some, None, Result, Ok, Err, refl, sym, ap, subst, ◌∙◌, arith, take_all, IsErrOf}
use Rattle.std.specs.Prelude.{if◌then◌else◌, slice_get, IsSome}
use Rattle.std.proofs.lemmas.List.{take_more}
use Rattle.sync_path.specs.Paths.{Node, comes_before}
use Rattle.sync_path.proofs.CallerLemmas.{before_irrefl, before_trans}
use Rattle.sync_command.specs.Changes.{Change}
use Rattle.sync_command.specs.Trees.{Holding}
use Rattle.sync_command.specs.Maps.{Store, at}
use Rattle.canon_set.specs.Logs.{IsBrokenAt, IsTaken}
use Rattle.canon_set.specs.Sums.{Sum, StandsFor}
use Rattle.canon_set.specs.declared.touches.Touch.{Touch}
use Rattle.tree_port.specs.States.{Counts, IfHeld, NoneFell, NoneRefused, TreeState, WhereKnown}
use Rattle.tree_port.specs.declared.faults.TreeFault.{TreeFault}
use Rattle.tree_port.specs.declared.faults.TreeFault.TheVariants as tree
use Rattle.record_core.specs.declared.sealing.Standing.{Standing}
use Rattle.record_core.specs.declared.sealing.Standing.TheVariants as standing
use Rattle.record_core.specs.declared.sealing.Shown.{Shown}
use Rattle.record_core.specs.declared.sealing.Shown.TheVariants as shown
use Rattle.record_core.specs.Looks.{Asks, HoldsOld, IsAmong, IsFirstOf, IsFirstOut, IsWithin, Shows, StandsAs, StandsWell, IsRightLook}
use Rattle.record_core.proofs.Walks.{fell_on, none_fell}

-- ---- the sum

one_more : (cs : List Change) (k : ℕ) (c : Change) → k < length cs → c ≡ get_or cs k c → take (k + 1) cs ≡ take k cs ++ c ∷ []
one_more cs k c low is = take_more cs k c low ∙ ap (λ x. take k cs ++ x ∷ []) (sym is)

pub sums_on : (s : Sum) (cs : List Change) (k : ℕ) (c d : Change) → k < length cs → d ≡ get_or cs k d → c ≡ d → StandsFor s (take k cs ++ c ∷ []) → StandsFor s (take (k + 1) cs)
sums_on s cs k c d low is same st = subst (StandsFor s) (ap (λ x. take k cs ++ x ∷ []) same ∙ sym (one_more cs k d low is)) st

pub sums_all : (s : Sum) (cs : List Change) (k : ℕ) → StandsFor s (take k cs) → length cs ≤ k → StandsFor s cs
sums_all s cs k st all = subst (StandsFor s) (take_all k cs all) st

pub sums_broken : (s : Sum) (cs : List Change) (k : ℕ) (c d : Change) → StandsFor s (take k cs) → k < length cs → d ≡ get_or cs k d → c ≡ d → (IsTaken (take k cs ++ c ∷ []) → ⊥) → IsBrokenAt cs (k + 1)
sums_broken s cs k c d st low is same broken =
    (omega arith, omega arith, subst (λ n. IsTaken (take n cs)) back st.taken, λ more. broken (subst IsTaken (one_more cs k d low is ∙ ap (λ x. take k cs ++ x ∷ []) (sym same)) more))
  where
    back : k ≡ k + 1 - 1
    back = omega arith

-- ---- one node more

-- what is among one more is among those before, or is the next
split_last : (xs : List Touch) (k : ℕ) (x y : Touch) → slice_get xs k ≡ Some y → IsAmong xs (k + 1) x → IsAmong xs k x ⊎ (x ≡ y)
split_last xs k x y is (j, (low, e)) = go (below j k low)
  where
    below : (j k : ℕ) → j < k + 1 → (j < k) ⊎ (j ≡ k)
    below j k low = grind arith

    some_is : {a b : Touch} → Some a ≡ Some b → a ≡ b
    some_is h = cc

    go : (j < k) ⊎ (j ≡ k) → IsAmong xs k x ⊎ (x ≡ y)
    go (inl h) = inl (j, (h, e))
    go (inr h) = inr (some_is (sym e ∙ ap (slice_get xs) h ∙ is))

-- each of one more
each_more : (P : Touch → Type 0) (xs : List Touch) (k : ℕ) (y : Touch) → slice_get xs k ≡ Some y → ((x : Touch) → IsAmong xs k x → P x) → P y → (x : Touch) → IsAmong xs (k + 1) x → P x
each_more P xs k y is each here x among = go (split_last xs k x y is among)
  where
    go : IsAmong xs k x ⊎ (x ≡ y) → P x
    go (inl h) = each x h
    go (inr e) = subst P (sym e) here

module _ (t : Holding) (undone : Option Change) (xs : List Touch) (k : ℕ) (y : Touch) (is : slice_get xs k ≡ Some y) where
  -- a node that stands well leaves the first one out as it is
  well_on : (z : Touch) → StandsWell t undone y → IsFirstOut t undone xs k z → IsFirstOut t undone xs (k + 1) z
  well_on z well first = record {
    out = first.out;
    first = each_more (λ x. (StandsWell t undone x → ⊥) → comes_before x.path z.path ≡ false) xs k y is first.first (λ out. absurd (out well));
  }

  pub done_on : (found : Shown) → t y.path ≡ y.last → Shows t undone xs k found → Shows t undone xs (k + 1) found
  done_on shown.Done here shows = each_more (λ x. t x.path ≡ x.last) xs k y is shows here
  done_on shown.Undone here shows = (shows.0, each_more (StandsWell t undone) xs k y is shows.1 (inl here))
  done_on (shown.Out place) here (z, (e, first)) = (z, (e, well_on z (inl here) first))

  pub undone_after_done : HoldsOld t undone y.path → Shows t undone xs k shown.Done → Shows t undone xs (k + 1) shown.Undone
  undone_after_done here shows = ((y.path, here), each_more (StandsWell t undone) xs k y is (λ x among. inl (shows x among)) (inr here))

  pub undone_after_undone : HoldsOld t undone y.path → Shows t undone xs k shown.Undone → Shows t undone xs (k + 1) shown.Undone
  undone_after_undone here shows = (shows.0, each_more (StandsWell t undone) xs k y is shows.1 (inr here))

  pub undone_after_out : (place : ℕ) → HoldsOld t undone y.path → Shows t undone xs k (shown.Out place) → Shows t undone xs (k + 1) (shown.Out place)
  undone_after_out place here (z, (e, first)) = (z, (e, well_on z (inr here) first))

  not_well : (t y.path ≡ y.last → ⊥) × (HoldsOld t undone y.path → ⊥) → StandsWell t undone y → ⊥
  not_well out (inl h) = out.0 h
  not_well out (inr h) = out.1 h

  -- the first that is out, where those before stand well
  pub out_first : (t y.path ≡ y.last → ⊥) × (HoldsOld t undone y.path → ⊥) → ((x : Touch) → IsAmong xs k x → StandsWell t undone x) → Shows t undone xs (k + 1) (shown.Out k)
  out_first out each = (
    y,
    (
      is,
      record {
        out = not_well out;
        first = each_more (λ x. (StandsWell t undone x → ⊥) → comes_before x.path y.path ≡ false) xs k y is (λ x among bad. absurd (bad (each x among))) (λ bad. before_irrefl y.path);
      },
    ),
  )

  pub out_after_done : (t y.path ≡ y.last → ⊥) × (HoldsOld t undone y.path → ⊥) → Shows t undone xs k shown.Done → Shows t undone xs (k + 1) (shown.Out k)
  out_after_done out shows = out_first out (λ x among. inl (shows x among))

  pub out_after_undone : (t y.path ≡ y.last → ⊥) × (HoldsOld t undone y.path → ⊥) → Shows t undone xs k shown.Undone → Shows t undone xs (k + 1) (shown.Out k)
  out_after_undone out shows = out_first out shows.1

  -- where one comes first, what does not come before the other does not come before it
  not_before : (p q r : Node) → comes_before q r ≡ true → comes_before p r ≡ false → comes_before p q ≡ false
  not_before p q r qr pr = go (comes_before p q) refl
    where
      go : (b : Bool) → comes_before p q ≡ b → comes_before p q ≡ false
      go false e = e
      go true e = let h : comes_before p r ≡ true = before_trans p q r e qr in cc

  pub out_after_out : (kept found : ℕ) → IsFirstOf xs kept k found → (t y.path ≡ y.last → ⊥) × (HoldsOld t undone y.path → ⊥) → Shows t undone xs k (shown.Out kept) → Shows t undone xs (k + 1) (shown.Out found)
  out_after_out kept found either out (z, (e, first)) = subst (λ f. Shows t undone xs (k + 1) (shown.Out f)) (sym (either y z is e)) (go (comes_before y.path z.path) refl)
    where
      go : (b : Bool) → comes_before y.path z.path ≡ b → Shows t undone xs (k + 1) (shown.Out (if b then k else kept))
      go true before = (
        y,
        (
          is,
          record {
            out = not_well out;
            first = each_more (λ x. (StandsWell t undone x → ⊥) → comes_before x.path y.path ≡ false) xs k y is (λ x among bad. not_before x.path y.path z.path before (first.first x among bad)) (λ bad. before_irrefl y.path);
          },
        ),
      )
      go false before = (
        z,
        (
          e,
          record {
            out = first.out;
            first = each_more (λ x. (StandsWell t undone x → ⊥) → comes_before x.path z.path ≡ false) xs k y is first.first (λ bad. before);
          },
        ),
      )

-- ---- all nodes

pub quiet_on : (a b d : Counts) → NoneRefused a b → NoneRefused b d → NoneRefused a d
quiet_on a b d x y = record { faults = y.faults ∙ x.faults; denials = y.denials ∙ x.denials; out_of_memory = y.out_of_memory ∙ x.out_of_memory }

-- the first k nodes were asked for, and none was refused
pub record HasLooked (undone : Option Change) (xs : List Touch) (k : ℕ) (found : Shown) (s0 s1 : TreeState) : Type 0 where
  pub later : NoneFell s0.counts s1.counts
  pub quiet : NoneRefused s0.counts s1.counts
  pub changes : s1.counts.changes ≡ s0.counts.changes
  pub contents : s1.contents ≡ s0.contents
  pub within : IsWithin k found
  pub has_last : found ≡ shown.Undone → IsSome undone
  pub known : WhereKnown s0 (λ m. Shows (at m) undone xs k found)

pub look_begins : (undone : Option Change) (xs : List Touch) (s0 : TreeState) → HasLooked undone xs 0 shown.Done s0 s0
look_begins undone xs s0 = record {
  later = none_fell s0.counts;
  quiet = record { faults = refl; denials = refl; out_of_memory = refl };
  changes = refl;
  contents = refl;
  within = tt;
  has_last = λ e. cc (e);
  known = go s0.contents;
}
  where
    go : (t : Option Store) → IfHeld t (λ m. Shows (at m) undone xs 0 shown.Done)
    go None = tt
    go (Some m) = λ x among. absurd (none among.0 among.1.0)
      where
        none : (j : ℕ) → j < 0 → ⊥
        none j low = omega arith

pub look_on : (undone : Option Change) (xs : List Touch) (k : ℕ) (x : Touch) (here : Standing) (found next : Shown) (s0 s1 s2 : TreeState) → slice_get xs k ≡ Some x → HasLooked undone xs k found s0 s1 → Asks (Ok here) s1 s2 → WhereKnown s1 (λ m. IsRightLook (StandsAs (at m) undone x) (Ok here)) → IsWithin (k + 1) next →
    (here ≡ standing.Undone → IsSome undone) → (next ≡ shown.Undone → (here ≡ standing.Undone) ⊎ (found ≡ shown.Undone)) → ((t : Holding) (u : Option Change) (y : Touch) → slice_get xs k ≡ Some y → StandsAs t u y here → Shows t u xs k found → Shows t u xs (k + 1) next) → HasLooked undone xs (k + 1) next s0 s2
look_on undone xs k x here found next s0 s1 s2 is looked asks stands within here_open either step = record {
  later = fell_on s0.counts s1.counts s2.counts looked.later asks.counts.later;
  quiet = quiet_on s0.counts s1.counts s2.counts looked.quiet asks.counts.done;
  changes = asks.changes ∙ looked.changes;
  contents = asks.contents ∙ looked.contents;
  within = within;
  has_last = λ e. one_of (either e);
  known = go s0.contents (subst (λ c. IfHeld c (λ m. StandsAs (at m) undone x here)) looked.contents stands) looked.known;
}
  where
    one_of : (here ≡ standing.Undone) ⊎ (found ≡ shown.Undone) → IsSome undone
    one_of (inl e) = here_open e
    one_of (inr e) = looked.has_last e

    go : (t : Option Store) → IfHeld t (λ m. StandsAs (at m) undone x here) → IfHeld t (λ m. Shows (at m) undone xs k found) → IfHeld t (λ m. Shows (at m) undone xs (k + 1) next)
    go None a b = tt
    go (Some m) a b = step (at m) undone x is a b

pub look_ends : (undone : Option Change) (xs : List Touch) (k : ℕ) (found : Shown) (s0 s1 : TreeState) → HasLooked undone xs k found s0 s1 → Asks (Ok found) s0 s1
look_ends undone xs k found s0 s1 looked = record {
  counts = record { later = looked.later; done = looked.quiet; failed = λ h. cc (h); denied = λ h. cc (h); memory = λ h. cc (h) };
  changes = looked.changes;
  contents = looked.contents;
}

pub look_refused : (undone : Option Change) (xs : List Touch) (k : ℕ) (found : Shown) (e : TreeFault) (s0 s1 s2 : TreeState) → HasLooked undone xs k found s0 s1 → Asks {T = Standing} (Err e) s1 s2 → Asks {T = Shown} (Err e) s0 s2
look_refused undone xs k found e s0 s1 s2 looked asks = record {
  counts = record {
    later = fell_on s0.counts s1.counts s2.counts looked.later asks.counts.later;
    done = tt;
    failed = λ h. let r = asks.counts.failed (again tree.Failed h) in omega (arith, r, looked.later.faults);
    denied = λ h. let r = asks.counts.denied (again tree.Denied h) in omega (arith, r, looked.later.denials);
    memory = λ h. let r = asks.counts.memory (again tree.Memory h) in omega (arith, r, looked.later.out_of_memory);
  };
  changes = asks.changes ∙ looked.changes;
  contents = asks.contents ∙ looked.contents;
}
  where
    err_is : (f : TreeFault) → ◌≡◌ {A = Result Shown TreeFault} (Err e) (Err f) → e ≡ f
    err_is f h = cc

    again : (f : TreeFault) → IsErrOf {T = Shown} (Err e) f → IsErrOf {T = Standing} (Err e) f
    again f h = ap Err (err_is f h)

-- a denial that a known tree does not give
pub never_denied : (undone : Option Change) (x : Touch) (e : TreeFault) (P : Store → Shown → Type 0) (t u : Option Store) → u ≡ t → IfHeld u (λ m. IsRightLook (StandsAs (at m) undone x) (Err e)) → IfHeld t (λ m. IsRightLook (P m) (Err e))
never_denied undone x e P t u same h = go t e (subst (λ c. IfHeld c (λ m. IsRightLook (StandsAs (at m) undone x) (Err e))) same h)
  where
    go : (t : Option Store) (e : TreeFault) → IfHeld t (λ m. IsRightLook (StandsAs (at m) undone x) (Err e)) → IfHeld t (λ m. IsRightLook (P m) (Err e))
    go None e h = tt
    go (Some m) tree.Failed h = tt
    go (Some m) tree.Denied h = absurd h
    go (Some m) tree.Memory h = tt
