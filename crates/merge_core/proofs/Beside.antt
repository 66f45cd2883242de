-- A board is settled exactly where its marks say what no drawn set that fits has beside the Taken commands.
use Rattle.std.proofs.Common.{◌≡◌, ℕ, zero, suc, ◌<◌, Bool, true, false, ◌&&◌, ◌||◌, refl, ap, sym, subst, ◌∙◌, arith, ◌⊎◌, inl, inr, Option, Some, None, List, [], ◌∷◌}
use Rattle.std.specs.Prelude.{if◌then◌else◌, is_none}
use Rattle.std.specs.List.{list_any}
use Rattle.std.proofs.lemmas.Bool.{cases_Bool}
use Rattle.sync_path.specs.Paths.{Node}
use Rattle.sync_command.specs.Changes.{Change, same_change}
use Rattle.sync_command.specs.Trees.{Holding, command_at, one_each}
use Rattle.refluent.specs.Sets.{is_in, IsSubset}
use Rattle.merge_core.specs.Conflicts.{conflicts}
use Rattle.merge_core.specs.FirstMergers.{IsExtendable}
use Rattle.sync_command.proofs.CallerLemmas.{command_at-node}
use Rattle.refluent.proofs.CallerLemmas.{IsDrawn, same_change_is, same_change_at, in_from_at, at_from_in, more, fewer}
use Rattle.merge_core.proofs.Exactness.{blocks, blocks_exactly}
use Rattle.merge_core.proofs.Greedy.{blocks_is}
use Rattle.scan_board.specs.declared.board.Mark.{Mark}
use Rattle.scan_board.specs.declared.board.Mark.TheVariants.{Open, Taken, Blocked}
use Rattle.scan_board.specs.Tables.{State, IsSound, is_taken_mark, mark_of, command_count}
use Rattle.scan_board.specs.Settling.{Clash, IsSettled}
use Rattle.scan_board.specs.Boards.{taken_list}
use Rattle.scan_board.proofs.CallerLemmas.{tell_equal}
use Rattle.merge_core.specs.Boards.{HasSet, IsTaken, IsTakenOr, IsSettledFor}
use Rattle.merge_core.proofs.DrawnBoards.{IsOf}
use Rattle.merge_core.proofs.Between.{clash_conflicts, conflicts_clash}

pub tell_taken : (m : Mark) → (m ≡ Taken) ⊎ (is_taken_mark m ≡ false)
tell_taken Open = inr refl
tell_taken Taken = inl refl
tell_taken Blocked = inr refl

pub tell_blocked : (m : Mark) → (m ≡ Blocked) ⊎ ((m ≡ Blocked) → ⊥)
tell_blocked Open = inr (λ e. cc)
tell_blocked Taken = inr (λ e. cc)
tell_blocked Blocked = inl refl

list_with : (cmd : ℕ → Change) (s : State) (n : ℕ) → mark_of s n ≡ Taken → taken_list cmd s (suc n) ≡ cmd n ∷ taken_list cmd s n
list_with cmd s n e = ap (λ b. if b then cmd n ∷ taken_list cmd s n else taken_list cmd s n) (ap is_taken_mark e)

list_without : (cmd : ℕ → Change) (s : State) (n : ℕ) → is_taken_mark (mark_of s n) ≡ false → taken_list cmd s (suc n) ≡ taken_list cmd s n
list_without cmd s n e = ap (λ b. if b then cmd n ∷ taken_list cmd s n else taken_list cmd s n) e

or_left : (a b : Bool) → a ≡ true → (a || b) ≡ true
or_left a b e = grind arith

or_right : (a b : Bool) → b ≡ true → (a || b) ≡ true
or_right a b e = grind arith

or_cases : (a b : Bool) → (a || b) ≡ true → (a ≡ true) ⊎ (b ≡ true)
or_cases true b e = inl refl
or_cases false b e = inr e

mark_clash : (s : State) (n : ℕ) → mark_of s n ≡ Taken → is_taken_mark (mark_of s n) ≡ false → ⊥
mark_clash s n e f = let z : true ≡ false = sym (ap is_taken_mark e) ∙ f in cc (z)

-- a test over the taken ones, for any test that is a disjunction over the list
any_in : (f : Change → Bool) (cmd : ℕ → Change) (s : State) (n j : ℕ) → j < n → mark_of s j ≡ Taken → f (cmd j) ≡ true → list_any f (taken_list cmd s n) ≡ true
any_in f cmd s zero j l e h = absurd (omega arith)
any_in f cmd s (suc n) j l e h = go (tell_taken (mark_of s n)) (tell_equal j n) (λ a. any_in f cmd s n j a e h)
  where
    go : (mark_of s n ≡ Taken) ⊎ (is_taken_mark (mark_of s n) ≡ false) → (j ≡ n) ⊎ ((j ≡ n) → ⊥) → (j < n → list_any f (taken_list cmd s n) ≡ true) → list_any f (taken_list cmd s (suc n)) ≡ true
    go (inl a) (inl b) ih = ap (list_any f) (list_with cmd s n a) ∙ or_left (f (cmd n)) (list_any f (taken_list cmd s n)) (ap (λ x. f (cmd x)) (sym b) ∙ h)
    go (inl a) (inr b) ih = ap (list_any f) (list_with cmd s n a) ∙ or_right (f (cmd n)) (list_any f (taken_list cmd s n)) (ih (omega arith))
    go (inr a) (inl b) ih = absurd (mark_clash s n (ap (mark_of s) (sym b) ∙ e) a)
    go (inr a) (inr b) ih = ap (list_any f) (list_without cmd s n a) ∙ ih (omega arith)

any_from : (f : Change → Bool) (cmd : ℕ → Change) (s : State) (n : ℕ) → list_any f (taken_list cmd s n) ≡ true → (j : ℕ) × (j < n) × (mark_of s j ≡ Taken) × (f (cmd j) ≡ true)
any_from f cmd s zero e = cc (e)
any_from f cmd s (suc n) e = go (tell_taken (mark_of s n)) (any_from f cmd s n)
  where
    Out : Type 0
    Out = (j : ℕ) × (j < suc n) × (mark_of s j ≡ Taken) × (f (cmd j) ≡ true)

    wider : (j : ℕ) × (j < n) × (mark_of s j ≡ Taken) × (f (cmd j) ≡ true) → Out
    wider (j, l, a, b) = (j, omega arith, a, b)

    go : (mark_of s n ≡ Taken) ⊎ (is_taken_mark (mark_of s n) ≡ false) → (list_any f (taken_list cmd s n) ≡ true → (j : ℕ) × (j < n) × (mark_of s j ≡ Taken) × (f (cmd j) ≡ true)) → Out
    go (inl a) ih = pick (or_cases (f (cmd n)) (list_any f (taken_list cmd s n)) (sym (ap (list_any f) (list_with cmd s n a)) ∙ e))
      where
        pick : (f (cmd n) ≡ true) ⊎ (list_any f (taken_list cmd s n) ≡ true) → Out
        pick (inl b) = (n, omega arith, a, b)
        pick (inr b) = wider (ih b)
    go (inr a) ih = wider (ih (sym (ap (list_any f) (list_without cmd s n a)) ∙ e))

pub in_taken : (cmd : ℕ → Change) (s : State) (n j : ℕ) → j < n → mark_of s j ≡ Taken → is_in (taken_list cmd s n) (cmd j) ≡ true
in_taken cmd s zero j l e = absurd (omega arith)
in_taken cmd s (suc n) j l e = go (tell_taken (mark_of s n)) (tell_equal j n) (λ a. in_taken cmd s n j a e)
  where
    go : (mark_of s n ≡ Taken) ⊎ (is_taken_mark (mark_of s n) ≡ false) → (j ≡ n) ⊎ ((j ≡ n) → ⊥) → (j < n → is_in (taken_list cmd s n) (cmd j) ≡ true) → is_in (taken_list cmd s (suc n)) (cmd j) ≡ true
    go (inl a) (inl b) ih = ap (λ x. is_in x (cmd j)) (list_with cmd s n a) ∙ or_left (same_change (cmd j) (cmd n)) (is_in (taken_list cmd s n) (cmd j)) (same_change_at (cmd j) (cmd n) (ap cmd b))
    go (inl a) (inr b) ih = ap (λ x. is_in x (cmd j)) (list_with cmd s n a) ∙ or_right (same_change (cmd j) (cmd n)) (is_in (taken_list cmd s n) (cmd j)) (ih (omega arith))
    go (inr a) (inl b) ih = absurd (mark_clash s n (ap (mark_of s) (sym b) ∙ e) a)
    go (inr a) (inr b) ih = ap (λ x. is_in x (cmd j)) (list_without cmd s n a) ∙ ih (omega arith)

pub from_taken : (cmd : ℕ → Change) (s : State) (n : ℕ) (c : Change) → is_in (taken_list cmd s n) c ≡ true → (j : ℕ) × (j < n) × (mark_of s j ≡ Taken) × (cmd j ≡ c)
from_taken cmd s zero c e = cc (e)
from_taken cmd s (suc n) c e = go (tell_taken (mark_of s n)) (from_taken cmd s n c)
  where
    Out : Type 0
    Out = (j : ℕ) × (j < suc n) × (mark_of s j ≡ Taken) × (cmd j ≡ c)

    wider : (j : ℕ) × (j < n) × (mark_of s j ≡ Taken) × (cmd j ≡ c) → Out
    wider (j, l, a, b) = (j, omega arith, a, b)

    go : (mark_of s n ≡ Taken) ⊎ (is_taken_mark (mark_of s n) ≡ false) → (is_in (taken_list cmd s n) c ≡ true → (j : ℕ) × (j < n) × (mark_of s j ≡ Taken) × (cmd j ≡ c)) → Out
    go (inl a) ih = pick (or_cases (same_change c (cmd n)) (is_in (taken_list cmd s n) c) (sym (ap (λ x. is_in x c) (list_with cmd s n a)) ∙ e))
      where
        pick : (same_change c (cmd n) ≡ true) ⊎ (is_in (taken_list cmd s n) c ≡ true) → Out
        pick (inl b) = (n, omega arith, a, sym (same_change_is c (cmd n) b))
        pick (inr b) = wider (ih b)
    go (inr a) ih = wider (ih (sym (ap (λ x. is_in x c) (list_without cmd s n a)) ∙ e))

-- one taken command per node
pub lone : (cmd : ℕ → Change) (s : State) (n : ℕ) → ((i j : ℕ) → i < n → j < n → mark_of s i ≡ Taken → mark_of s j ≡ Taken → (cmd i).node ≡ (cmd j).node → i ≡ j) → one_each (taken_list cmd s n) ≡ true
lone cmd s zero h = refl
lone cmd s (suc n) h = go (tell_taken (mark_of s n)) (lone cmd s n (λ i j a b. h i j (omega arith) (omega arith)))
  where
    two : (a b : Bool) → a ≡ true → b ≡ true → (a && b) ≡ true
    two a b e f = grind arith

    free : mark_of s n ≡ Taken → (o : Option Change) → command_at (taken_list cmd s n) (cmd n).node ≡ o → is_none o ≡ true
    free a None e = refl
    free a (Some c) e = absurd (clash (from_taken cmd s n c (in_from_at (taken_list cmd s n) (cmd n).node c e)))
      where
        clash : (j : ℕ) × (j < n) × (mark_of s j ≡ Taken) × (cmd j ≡ c) → ⊥
        clash (j, l, b, is) = let k : j ≡ n = h j n (omega arith) (omega arith) b a (ap (λ x. x.node) is ∙ sym (command_at-node (taken_list cmd s n) (cmd n).node c e)) in omega arith

    go : (mark_of s n ≡ Taken) ⊎ (is_taken_mark (mark_of s n) ≡ false) → one_each (taken_list cmd s n) ≡ true → one_each (taken_list cmd s (suc n)) ≡ true
    go (inl a) ih = ap one_each (list_with cmd s n a) ∙ two (is_none (command_at (taken_list cmd s n) (cmd n).node)) (one_each (taken_list cmd s n)) (free a (command_at (taken_list cmd s n) (cmd n).node) refl) ih
    go (inr a) ih = ap one_each (list_without cmd s n a) ∙ ih

module _ (t : Holding) (drawn : List Change) (cmd : ℕ → Change) (path : ℕ → Node) (s : State) (sound : IsSound s.tables) (h : IsOf t drawn cmd path s.tables) where
  extends_set : (P : ℕ → Type 0) → ((i : ℕ) → mark_of s i ≡ Taken → P i) → HasSet t drawn cmd (command_count s.tables) P → IsExtendable t drawn (taken_list cmd s (command_count s.tables))
  extends_set P wide w = record { whole = w.set; within = w.within; fits = w.fits; has = (λ c e. go c (from_taken cmd s (command_count s.tables) c e)) }
    where
      go : (c : Change) → (j : ℕ) × (j < command_count s.tables) × (mark_of s j ≡ Taken) × (cmd j ≡ c) → is_in w.set c ≡ true
      go c (j, l, a, is) = subst (λ x. is_in w.set x ≡ true) is (w.has j l (wide j a))

  extends_with : (i : ℕ) → i < command_count s.tables → HasSet t drawn cmd (command_count s.tables) (IsTakenOr s i) → IsExtendable t drawn (cmd i ∷ taken_list cmd s (command_count s.tables))
  extends_with i li w = let x = extends_set (IsTakenOr s i) (λ j e. inl e) w in
      record { whole = w.set; within = w.within; fits = w.fits; has = more (cmd i) (taken_list cmd s (command_count s.tables)) w.set (w.has i li (inr refl)) (has_all w) }
    where
      has_all : (w : HasSet t drawn cmd (command_count s.tables) (IsTakenOr s i)) → IsSubset (taken_list cmd s (command_count s.tables)) w.set
      has_all w c e = go (from_taken cmd s (command_count s.tables) c e)
        where
          go : (j : ℕ) × (j < command_count s.tables) × (mark_of s j ≡ Taken) × (cmd j ≡ c) → is_in w.set c ≡ true
          go (j, l, a, is) = subst (λ x. is_in w.set x ≡ true) is (w.has j l (inl a))

  set_with : (i : ℕ) → IsExtendable t drawn (cmd i ∷ taken_list cmd s (command_count s.tables)) → HasSet t drawn cmd (command_count s.tables) (IsTakenOr s i)
  set_with i x = record { set = x.whole; within = x.within; fits = x.fits; has = go }
    where
      parts : (is_in x.whole (cmd i) ≡ true) × IsSubset (taken_list cmd s (command_count s.tables)) x.whole
      parts = fewer (cmd i) (taken_list cmd s (command_count s.tables)) x.whole x.has

      go : (j : ℕ) → j < command_count s.tables → (mark_of s j ≡ Taken) ⊎ (j ≡ i) → is_in x.whole (cmd j) ≡ true
      go j l (inl e) = parts.1 (cmd j) (in_taken cmd s (command_count s.tables) j l e)
      go j l (inr e) = ap (λ k. is_in x.whole (cmd k)) e ∙ parts.0

  -- in a set that fits, one command per node
  one_of : HasSet t drawn cmd (command_count s.tables) (IsTaken s) → one_each (taken_list cmd s (command_count s.tables)) ≡ true
  one_of w = lone cmd s (command_count s.tables) same
    where
      some_is : (x y : Change) → Some x ≡ Some y → x ≡ y
      some_is x y e = cc

      same : (i j : ℕ) → i < command_count s.tables → j < command_count s.tables → mark_of s i ≡ Taken → mark_of s j ≡ Taken → (cmd i).node ≡ (cmd j).node → i ≡ j
      same i j li lj a b e = h.once i j li lj (some_is (cmd i) (cmd j) (sym (at_from_in w.set w.fits.one (cmd i) (w.has i li a)) ∙ ap (command_at w.set) e ∙ at_from_in w.set w.fits.one (cmd j) (w.has j lj b)))

  abbrev pub Cause : ℕ → Type 0
  Cause i = (j : ℕ) × (j < command_count s.tables) × (mark_of s j ≡ Taken) × Clash s.tables i j

  module _ (w : HasSet t drawn cmd (command_count s.tables) (IsTaken s)) where
    exactly : (i : ℕ) → i < command_count s.tables → (blocks t drawn (taken_list cmd s (command_count s.tables)) (cmd i) ≡ true → IsExtendable t drawn (cmd i ∷ taken_list cmd s (command_count s.tables)) → ⊥) ×
        (blocks t drawn (taken_list cmd s (command_count s.tables)) (cmd i) ≡ false → IsExtendable t drawn (cmd i ∷ taken_list cmd s (command_count s.tables)))
    exactly i li = blocks_exactly t drawn (taken_list cmd s (command_count s.tables)) h.tree h.known (one_of w) (extends_set (IsTaken s) (λ j e. e) w) (cmd i) (h.here i li)

    any_is : (i : ℕ) → i < command_count s.tables → blocks t drawn (taken_list cmd s (command_count s.tables)) (cmd i) ≡ list_any (conflicts (cmd i)) (taken_list cmd s (command_count s.tables))
    any_is i li = blocks_is t drawn h.tree h.known (cmd i) (h.here i li) (taken_list cmd s (command_count s.tables)) (one_of w)

    -- with a cause there is no set, and without one there is
    pub cause_none : (i : ℕ) → i < command_count s.tables → Cause i → HasSet t drawn cmd (command_count s.tables) (IsTakenOr s i) → ⊥
    cause_none i li (j, lj, a, x) v = (exactly i li).0 (any_is i li ∙ any_in (conflicts (cmd i)) cmd s (command_count s.tables) j lj a (clash_conflicts t drawn cmd path s.tables sound h i j li lj x)) (extends_with i li v)

    pub none_cause : (i : ℕ) → i < command_count s.tables → (HasSet t drawn cmd (command_count s.tables) (IsTakenOr s i)) ⊎ Cause i
    none_cause i li = go (cases_Bool (list_any (conflicts (cmd i)) (taken_list cmd s (command_count s.tables))))
      where
        go : (list_any (conflicts (cmd i)) (taken_list cmd s (command_count s.tables)) ≡ true) ⊎ (list_any (conflicts (cmd i)) (taken_list cmd s (command_count s.tables)) ≡ false) → (HasSet t drawn cmd (command_count s.tables) (IsTakenOr s i)) ⊎ Cause i
        go (inr e) = inl (set_with i ((exactly i li).1 (any_is i li ∙ e)))
        go (inl e) = inr (found (any_from (conflicts (cmd i)) cmd s (command_count s.tables) e))
          where
            found : (j : ℕ) × (j < command_count s.tables) × (mark_of s j ≡ Taken) × (conflicts (cmd i) (cmd j) ≡ true) → Cause i
            found (j, lj, a, x) = (j, lj, a, conflicts_clash t drawn cmd path s.tables sound h i j li lj x)

  pub settled_from : IsSettledFor t drawn cmd s → IsSettled s
  settled_from w = record { pile = w.pile; exact = record { blocked = blocked; clash = clash }; dirs = w.dirs; shut = w.shut; bare = w.bare }
    where
      blocked : (i : ℕ) → i < command_count s.tables → mark_of s i ≡ Blocked → Cause i
      blocked i li e = go (none_cause w.taken i li)
        where
          go : (HasSet t drawn cmd (command_count s.tables) (IsTakenOr s i)) ⊎ Cause i → Cause i
          go (inl v) = absurd (w.blocked i li e v)
          go (inr x) = x

      clash : (i j : ℕ) → i < command_count s.tables → j < command_count s.tables → mark_of s j ≡ Taken → Clash s.tables i j → mark_of s i ≡ Blocked
      clash i j li lj a x = go (tell_blocked (mark_of s i))
        where
          go : (mark_of s i ≡ Blocked) ⊎ ((mark_of s i ≡ Blocked) → ⊥) → mark_of s i ≡ Blocked
          go (inl e) = e
          go (inr e) = absurd (cause_none w.taken i li (j, lj, a, x) (w.free i li e))

  pub settled_to : IsSettled s → HasSet t drawn cmd (command_count s.tables) (IsTaken s) → IsSettledFor t drawn cmd s
  settled_to w v = record { pile = w.pile; taken = v; blocked = blocked; free = free; dirs = w.dirs; shut = w.shut; bare = w.bare }
    where
      blocked : (i : ℕ) → i < command_count s.tables → mark_of s i ≡ Blocked → HasSet t drawn cmd (command_count s.tables) (IsTakenOr s i) → ⊥
      blocked i li e = cause_none v i li (w.exact.blocked i li e)

      free : (i : ℕ) → i < command_count s.tables → (mark_of s i ≡ Blocked → ⊥) → HasSet t drawn cmd (command_count s.tables) (IsTakenOr s i)
      free i li e = go (none_cause v i li)
        where
          go : (HasSet t drawn cmd (command_count s.tables) (IsTakenOr s i)) ⊎ Cause i → HasSet t drawn cmd (command_count s.tables) (IsTakenOr s i)
          go (inl x) = x
          go (inr (j, lj, a, x)) = absurd (e (w.exact.clash i j li lj a x))
