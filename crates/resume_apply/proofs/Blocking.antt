-- The look at the nodes that would be left without a directory above them.
use Rattle.std.proofs.Common.{◌≡◌, ◌⊎◌, inl, inr, ◌<◌, ◌≤◌, ℕ, zero, suc, ◌+◌, Bool, true, false, true≢false, not, List, [], ◌∷◌, Option, Some, None, Result, Ok, Err, Bor, refl, sym, ap, subst, ◌∙◌, arith, drop, length, get_or}
use Rattle.std.specs.Prelude.{◌||◌, ◌&&◌, ◌↔◌, if◌then◌else◌, is_none, is_some, option_copied, ⊤, IsTrue, Contains, AllPairs}
use Rattle.std.proofs.lemmas.List.{at_drop_all}
use Rattle.sync_path.specs.Paths.{Node, comes_before, parent, same_path}
use Rattle.sync_path.proofs.CallerLemmas.{before_asym, before_irrefl, before_total, before_trans, same_path_is, same_path_refl}
use Rattle.sync_command.specs.declared.values.Value.{Value}
use Rattle.sync_command.specs.declared.values.Value.TheVariants.{Empty, Dir, File}
use Rattle.sync_command.specs.Values.{is_dir, is_empty, same_value}
use Rattle.sync_command.proofs.CallerLemmas.{same_value_is}
use Rattle.sync_command.specs.Changes.{Change}
use Rattle.sync_command.specs.Trees.{Holding, IsTree, after, command_at, new_or}
use Rattle.sync_command.specs.Maps.{IsTreeMap, Store, at}
use Rattle.canon_set.specs.Sets.{IsFitting}
use Rattle.tree_port.specs.Conditions.{AreBelow, AreChildren, CanList}
use Rattle.tree_port.specs.States.{IfHeld, TreeState, WhereKnown}
use Rattle.tree_port.specs.Calls.{Answers}
use Rattle.resume_apply.specs.Preparing.{Covers, Finds, FindsBelow, FindsFirst, FindsValues, HoldsReady, IsAsking, IsBlocked, IsBlockedOrNone, IsFirstBlocked, IsOfTree, KeepsFirst, LooksAt, first_diverged, first_unnamed, goes_first}
use Rattle.resume_apply.specs.Ready.{IsReady, changes_kind, is_ready_value}
use Rattle.resume_apply.specs.declared.faults.ApplyFault.{ApplyFault}
use Rattle.resume_apply.specs.declared.faults.ApplyFault.TheVariants.{Diverged, Blocked, Failed, Denied, Memory}
use Rattle.resume_apply.proofs.Looking.{HasAsked, answers_now, asks_done, asks_none, held_all, held_as, held_both, known_on, rest_is}

no_both : (b : Bool) → b ≡ true → b ≡ false → ⊥
no_both b e f = cc

-- ---- the node that is kept

kept_by_order : (p k path : Node) → comes_before path k ≡ true → comes_before p k ≡ false → comes_before p path ≡ false
kept_by_order p k path low late = go (comes_before p path) refl
  where
    go : (b : Bool) → comes_before p path ≡ b → b ≡ false
    go false e = refl
    go true e = absurd (no_both (comes_before p k) (before_trans p path k e low) late)

kept_by_more : (p k path : Node) → comes_before path k ≡ false → comes_before p path ≡ false → comes_before p k ≡ false
kept_by_more p k path late more = go (comes_before p k) refl
  where
    go : (b : Bool) → comes_before p k ≡ b → b ≡ false
    go false e = refl
    go true e = absurd (side (same_path k path) refl)
      where
        side : (s : Bool) → same_path k path ≡ s → ⊥
        side true s = no_both (comes_before p path) (ap (comes_before p) (sym (same_path_is k path s)) ∙ e) more
        side false s = no_both (comes_before p path) (before_trans p k path e (before_total path k (flipped s) late)) more
          where
            flipped : same_path k path ≡ false → same_path path k ≡ false
            flipped s = turn (same_path path k) refl
              where
                turn : (b : Bool) → same_path path k ≡ b → b ≡ false
                turn false f = refl
                turn true f = absurd (no_both (same_path k path) (ap (λ q. same_path q path) (sym (same_path_is path k f)) ∙ same_path_refl path) s)

keeps_none : (path : Node) → KeepsFirst path None (Some path)
keeps_none path = record { one = inr refl; still = λ p c. absurd c; more = λ p late. late }

keeps_new : (path k : Node) → comes_before path k ≡ true → KeepsFirst path (Some k) (Some path)
keeps_new path k low = record { one = inr refl; still = λ p late. kept_by_order p k path low late; more = λ p late. late }

keeps_old : (path k : Node) → comes_before path k ≡ false → KeepsFirst path (Some k) (Some k)
keeps_old path k late = record { one = inl refl; still = λ p c. c; more = λ p more. kept_by_more p k path late more }

pub keeps_first : (path : Node) (old : Option Node) → goes_first old path ≡ true → KeepsFirst path old (Some path)
keeps_first path None e = keeps_none path
keeps_first path (Some k) e = keeps_new path k e

pub keeps_other : (path : Node) (old : Option Node) → goes_first old path ≡ false → KeepsFirst path old old
keeps_other path None e = absurd (no_both true refl e)
keeps_other path (Some k) e = keeps_old path k e

-- ---- nodes that the set names, and their parents

after_at : (cs : List Change) (t : Holding) (p : Node) (c : Change) → command_at cs p ≡ Some c → after cs t p ≡ c.new
after_at cs t p c e = ap (λ o. new_or o (t p)) e

after_none : (cs : List Change) (t : Holding) (p : Node) → command_at cs p ≡ None → after cs t p ≡ t p
after_none cs t p e = ap (λ o. new_or o (t p)) e

-- a node is not blocked where the set names it and its parent
named_free : (cs : List Change) (t : Holding) (p q : Node) (c d : Change) → IsFitting cs → parent p ≡ Some q → command_at cs p ≡ Some c → command_at cs q ≡ Some d → is_empty (after cs t p) ≡ false → is_dir (after cs t q) ≡ false → ⊥
named_free cs t p q c d fitting up at_p at_q full flat =
    no_both (is_dir d.new) (sym (ap is_dir (after_at cs (at fitting.map) q d at_q)) ∙ fitting.fits.tree q p up (ap is_empty (after_at cs (at fitting.map) p c at_p) ∙ sym (ap is_empty (after_at cs t p c at_p)) ∙ full))
    (sym (ap is_dir (after_at cs t q d at_q)) ∙ flat)

same_above : (q r : Node) → ◌≡◌ {A = Option Node} (Some q) (Some r) → q ≡ r
same_above q r e = cc

blocked_flat : (cs : List Change) (t : Holding) (p q : Node) → parent p ≡ Some q → IsBlocked cs t p → is_dir (after cs t q) ≡ false
blocked_flat cs t p q up b = ap (λ r. is_dir (after cs t r)) (same_above q b.above (sym up ∙ b.parent_is)) ∙ b.no_dir

-- a node is not blocked where neither it nor its parent is named
unnamed_free : (cs : List Change) (t : Holding) (p q : Node) → IsTree t → parent p ≡ Some q → command_at cs p ≡ None → command_at cs q ≡ None → IsBlocked cs t p → ⊥
unnamed_free cs t p q tree up at_p at_q b =
    no_both (is_dir (t q)) (tree q p up (sym (ap is_empty (after_none cs t p at_p)) ∙ b.full)) (sym (ap is_dir (after_none cs t q at_q)) ∙ blocked_flat cs t p q up b)

-- ---- a command's node

pub here_empty : (cs : List Change) (t : Holding) (c : Change) → command_at cs c.node ≡ Some c → is_empty c.new ≡ true → IsBlocked cs t c.node → ⊥
here_empty cs t c named empty b = no_both (is_empty c.new) empty (sym (ap is_empty (after_at cs t c.node c named)) ∙ b.full)

pub here_root : (cs : List Change) (t : Holding) (p : Node) → parent p ≡ None → IsBlocked cs t p → ⊥
here_root cs t p up b = let e : ◌≡◌ {A = Option Node} None (Some b.above) = sym up ∙ b.parent_is in cc

pub here_named : (cs : List Change) (t : Holding) (c d : Change) (q : Node) → IsFitting cs → command_at cs c.node ≡ Some c → parent c.node ≡ Some q → command_at cs q ≡ Some d → IsBlocked cs t c.node → ⊥
here_named cs t c d q fitting named up at_q b = named_free cs t c.node q c d fitting up named at_q b.full (blocked_flat cs t c.node q up b)

pub here_known : (cs : List Change) (t : Holding) (c : Change) (q : Node) → command_at cs c.node ≡ Some c → is_empty c.new ≡ false → parent c.node ≡ Some q → command_at cs q ≡ None → (b : Bool) → b ≡ is_dir (t q) →
    IsTrue (not b) ↔ IsBlocked cs t c.node
here_known cs t c q named full up at_q b is = (
  λ h. record {
    full = ap is_empty (after_at cs t c.node c named) ∙ full;
    above = q;
    parent_is = up;
    no_dir = ap is_dir (after_none cs t q at_q) ∙ sym is ∙ is_false b h;
  },
  λ blocked. is_true b (is ∙ sym (ap is_dir (after_none cs t q at_q)) ∙ blocked_flat cs t c.node q up blocked),
)
  where
    is_false : (b : Bool) → not b ≡ true → b ≡ false
    is_false true h = cc
    is_false false h = refl

    is_true : (b : Bool) → b ≡ false → not b ≡ true
    is_true true h = cc
    is_true false h = refl

-- ---- the children of a command's node

pub below_dir : (cs : List Change) (t : Holding) (c : Change) → command_at cs c.node ≡ Some c → is_dir c.new ≡ true → FindsBelow cs t c None
below_dir cs t c named dir p up b = no_both (is_dir c.new) dir (sym (ap is_dir (after_at cs t c.node c named)) ∙ blocked_flat cs t p c.node up b)

-- a blocked child is not named, and full
child_unnamed : (cs : List Change) (t : Holding) (c : Change) (p : Node) → IsFitting cs → command_at cs c.node ≡ Some c → parent p ≡ Some c.node → IsBlocked cs t p → command_at cs p ≡ None
child_unnamed cs t c p fitting named up b = go (command_at cs p) refl
  where
    go : (o : Option Change) → command_at cs p ≡ o → o ≡ None
    go None e = refl
    go (Some d) e = absurd (named_free cs t p c.node d c fitting up e named b.full (blocked_flat cs t p c.node up b))

child_full : (cs : List Change) (t : Holding) (p : Node) → command_at cs p ≡ None → IsBlocked cs t p → is_empty (t p) ≡ false
child_full cs t p at_p b = sym (ap is_empty (after_none cs t p at_p)) ∙ b.full

pub below_flat : (cs : List Change) (t : Holding) (c : Change) → IsFitting cs → IsTree t → command_at cs c.node ≡ Some c → is_dir (t c.node) ≡ false → FindsBelow cs t c None
below_flat cs t c fitting tree named flat p up b = no_both (is_dir (t c.node)) (tree c.node p up (child_full cs t p (child_unnamed cs t c p fitting named up b) b)) flat

-- the first of some paths that a set does not name
unnamed_none : (cs : List Change) (ps : List Node) → first_unnamed cs ps ≡ None → (i : ℕ) (d : Node) → i < length ps → command_at cs (get_or ps i d) ≡ None → ⊥
unnamed_none cs [] e i d low at_p = absurd (omega arith)
unnamed_none cs (q ∷ ps) e i d low at_p = go (is_none (command_at cs q)) refl e i low at_p (unnamed_none cs ps)
  where
    some : {x : Node} → ◌≡◌ {A = Option Node} (Some x) None → ⊥
    some e = cc

    go : (b : Bool) → is_none (command_at cs q) ≡ b → (if b then Some q else first_unnamed cs ps) ≡ None → (i : ℕ) → i < length (q ∷ ps) → command_at cs (get_or (q ∷ ps) i d) ≡ None →
        (first_unnamed cs ps ≡ None → (i : ℕ) (d : Node) → i < length ps → command_at cs (get_or ps i d) ≡ None → ⊥) → ⊥
    go true n e i low at_p rec = some e
    go false n e zero low at_p rec = no_both (is_none (command_at cs q)) (ap is_none at_p) n
    go false n e (suc i) low at_p rec = rec e i d (omega arith) at_p

pub record IsFirstIn (cs : List Change) (ps : List Node) (k : Node) : Type 0 where
  pub place : ℕ
  pub low : place < length ps
  pub is : get_or ps place k ≡ k
  pub unnamed : command_at cs k ≡ None
  pub first : (i : ℕ) (d : Node) → i < place → command_at cs (get_or ps i d) ≡ None → ⊥

unnamed_some : (cs : List Change) (ps : List Node) (k : Node) → first_unnamed cs ps ≡ Some k → IsFirstIn cs ps k
unnamed_some cs [] k e = cc
unnamed_some cs (q ∷ ps) k e = go (is_none (command_at cs q)) refl e (unnamed_some cs ps k)
  where
    none_is : (o : Option Change) → is_none o ≡ true → o ≡ None
    none_is None h = refl
    none_is (Some x) h = cc

    go : (b : Bool) → is_none (command_at cs q) ≡ b → (if b then Some q else first_unnamed cs ps) ≡ Some k → (first_unnamed cs ps ≡ Some k → IsFirstIn cs ps k) → IsFirstIn cs (q ∷ ps) k
    go true n e rec = record {
      place = 0;
      low = omega arith;
      is = same_above q k e;
      unnamed = ap (command_at cs) (sym (same_above q k e)) ∙ none_is _ n;
      first = λ i d low h. absurd (omega arith);
    }
    go false n e rec = let r = rec e in record {
      place = suc r.place;
      low = let h = r.low in omega (arith, h);
      is = r.is;
      unnamed = r.unnamed;
      first = first r;
    }
      where
        first : (r : IsFirstIn cs ps k) → (i : ℕ) (d : Node) → i < suc r.place → command_at cs (get_or (q ∷ ps) i d) ≡ None → ⊥
        first r zero d low h = no_both (is_none (command_at cs q)) (ap is_none h) n
        first r (suc i) d low h = r.first i d (omega arith) h

pub below_none : (cs : List Change) (t : Holding) (c : Change) (found : List Node) → IsFitting cs → command_at cs c.node ≡ Some c → AreChildren t (Some c.node) found → first_unnamed cs found ≡ None → FindsBelow cs t c None
below_none cs t c found fitting named all none p up b = go ((all p).1 (up, child_full cs t p unnamed b))
  where
    unnamed : command_at cs p ≡ None
    unnamed = child_unnamed cs t c p fitting named up b

    go : Contains found p → ⊥
    go (i, low, is) = unnamed_none cs found none i p low (ap (command_at cs) is ∙ unnamed)

pub below_some : (cs : List Change) (t : Holding) (c : Change) (found : List Node) (k : Node) → IsFitting cs → command_at cs c.node ≡ Some c → is_dir c.new ≡ false → AreBelow (Some c.node) found → AreChildren t (Some c.node) found →
    first_unnamed cs found ≡ Some k → FindsBelow cs t c (Some k)
below_some cs t c found k fitting named flat below all some = (blocked, first)
  where
    in_order : IsFirstIn cs found k
    in_order = unnamed_some cs found k some

    child : (parent k ≡ Some c.node) × (is_empty (t k) ≡ false)
    child = (all k).0 (in_order.place, in_order.low, in_order.is)

    blocked : IsBlocked cs t k
    blocked = record { full = ap is_empty (after_none cs t k in_order.unnamed) ∙ child.1; above = c.node; parent_is = child.0; no_dir = ap is_dir (after_at cs t c.node c named) ∙ flat }

    upto : (i n : ℕ) → (i < n) ⊎ ((i ≡ n) ⊎ (n < i))
    upto zero zero = inr (inl refl)
    upto zero (suc n) = inl (omega arith)
    upto (suc i) zero = inr (inr (omega arith))
    upto (suc i) (suc n) = further (upto i n)
      where
        further : (i < n) ⊎ ((i ≡ n) ⊎ (n < i)) → (suc i < suc n) ⊎ ((suc i ≡ suc n) ⊎ (suc n < suc i))
        further (inl h) = inl (omega arith)
        further (inr (inl h)) = inr (inl (ap suc h))
        further (inr (inr h)) = inr (inr (omega arith))

    first : (p : Node) → parent p ≡ Some c.node → IsBlocked cs t p → comes_before p k ≡ false
    first p up b = go ((all p).1 (up, child_full cs t p unnamed b))
      where
        unnamed : command_at cs p ≡ None
        unnamed = child_unnamed cs t c p fitting named up b

        same_default : (ps : List Node) (i : ℕ) (d e : Node) → i < length ps → get_or ps i d ≡ get_or ps i e
        same_default [] i d e low = absurd (omega arith)
        same_default (x ∷ ps) zero d e low = refl
        same_default (x ∷ ps) (suc i) d e low = same_default ps i d e (omega arith)

        go : Contains found p → comes_before p k ≡ false
        go (i, low, is) = side (upto i in_order.place)
          where
            side : (i < in_order.place) ⊎ ((i ≡ in_order.place) ⊎ (in_order.place < i)) → comes_before p k ≡ false
            side (inl h) = absurd (in_order.first i p h (ap (command_at cs) is ∙ unnamed))
            side (inr (inl h)) = ap (λ q. comes_before q k) (sym is ∙ ap (λ n. get_or found n p) h ∙ same_default found in_order.place p k in_order.low ∙ in_order.is) ∙ before_irrefl k
            side (inr (inr h)) = before_asym k p (ap (λ q. comes_before q p) (sym in_order.is ∙ same_default found in_order.place k p in_order.low) ∙ ap (comes_before (get_or found in_order.place p)) (sym is) ∙ below.order in_order.place i p h low)

-- ---- one command

right_one : (cs : List Change) (t : Holding) (path : Node) (old new : Option Node) → KeepsFirst path old new → IsBlocked cs t path → IsBlockedOrNone cs t old → IsBlockedOrNone cs t new
right_one cs t path old new keeps blocked right = go keeps.one
  where
    go : (new ≡ old) ⊎ (new ≡ Some path) → IsBlockedOrNone cs t new
    go (inl is) = subst (IsBlockedOrNone cs t) (sym is) right
    go (inr is) = subst (IsBlockedOrNone cs t) (sym is) blocked

-- what was found at the node itself
pub record LooksHere (cs : List Change) (t : Holding) (c : Change) (old new : Option Node) : Type 0 where
  pub right : IsBlockedOrNone cs t old → IsBlockedOrNone cs t new
  pub still : (p : Node) → Covers old p → Covers new p
  pub here : IsBlocked cs t c.node → Covers new c.node

pub here_kept : (cs : List Change) (t : Holding) (c : Change) (b : Bool) (path : Node) (old new : Option Node) → IsTrue b ↔ IsBlocked cs t c.node → b ≡ true → path ≡ c.node → KeepsFirst path old new → LooksHere cs t c old new
here_kept cs t c b path old new says so is keeps = record {
  right = right_one cs t path old new keeps (subst (IsBlocked cs t) (sym is) (says.0 so));
  still = keeps.still;
  here = λ blocked. keeps.more c.node (ap (comes_before c.node) is ∙ before_irrefl c.node);
}

pub here_passed : (cs : List Change) (t : Holding) (c : Change) (b : Bool) (old : Option Node) → IsTrue b ↔ IsBlocked cs t c.node → b ≡ false → LooksHere cs t c old old
here_passed cs t c b old says not_so = record { right = λ r. r; still = λ p c. c; here = λ blocked. absurd (no_both b (says.1 blocked) not_so) }

pub below_kept : (cs : List Change) (t : Holding) (c : Change) (path : Node) (old mid new : Option Node) → LooksHere cs t c old mid → FindsBelow cs t c (Some path) → KeepsFirst path mid new → LooksAt cs t c old new
below_kept cs t c path old mid new looks finds keeps = record {
  right = λ r. right_one cs t path mid new keeps finds.0 (looks.right r);
  still = λ p c. keeps.still p (looks.still p c);
  here = λ blocked. keeps.still c.node (looks.here blocked);
  below = λ p up blocked. keeps.more p (finds.1 p up blocked);
}

pub below_passed : (cs : List Change) (t : Holding) (c : Change) (old new : Option Node) → LooksHere cs t c old new → FindsBelow cs t c None → LooksAt cs t c old new
below_passed cs t c old new looks finds = record { right = looks.right; still = looks.still; here = looks.here; below = λ p up blocked. absurd (finds p up blocked) }

-- ---- all commands

-- a node that is named by what is left of the set, or whose parent is
abbrev pub IsLeft : List Change → Node → Type 0
IsLeft rest p = (is_none (command_at rest p) ≡ false) ⊎ ((q : Node) × (parent p ≡ Some q) × (is_none (command_at rest q) ≡ false))

-- what is kept is blocked, and each blocked node is still to come or does not come before it
pub record IsSought (cs rest : List Change) (t : Holding) (first : Option Node) : Type 0 where
  pub right : IsBlockedOrNone cs t first
  pub covered : (p : Node) → IsBlocked cs t p → IsLeft rest p ⊎ Covers first p

pub seek_begins : (cs : List Change) (t : Holding) → IsTree t → IsSought cs cs t None
seek_begins cs t tree = record { right = tt; covered = λ p b. inl (go p b (command_at cs p) refl (command_at cs b.above) refl) }
  where
    some : (o : Option Change) (c : Change) → o ≡ Some c → is_none o ≡ false
    some o c e = ap is_none e

    go : (p : Node) (b : IsBlocked cs t p) (o : Option Change) → command_at cs p ≡ o → (r : Option Change) → command_at cs b.above ≡ r → IsLeft cs p
    go p b (Some c) e r f = inl (some _ c e)
    go p b None e (Some d) f = inr (b.above, b.parent_is, some _ d f)
    go p b None e None f = absurd (unnamed_free cs t p b.above tree b.parent_is e f b)

pub seek_on : (cs rest : List Change) (c : Change) (t : Holding) (old new : Option Node) → LooksAt cs t c old new → IsSought cs (c ∷ rest) t old → IsSought cs rest t new
seek_on cs rest c t old new looks sought = record { right = looks.right sought.right; covered = λ p b. go p b (sought.covered p b) }
  where
    go : (p : Node) → IsBlocked cs t p → IsLeft (c ∷ rest) p ⊎ Covers old p → IsLeft rest p ⊎ Covers new p
    go p b (inr covers) = inr (looks.still p covers)
    go p b (inl (inl named)) = side (same_path p c.node) (same_path_is p c.node) named
      where
        side : (s : Bool) → (s ≡ true → p ≡ c.node) → is_none (if s then Some c else command_at rest p) ≡ false → IsLeft rest p ⊎ Covers new p
        side true is named = inr (subst (Covers new) (sym (is refl)) (looks.here (subst (IsBlocked cs t) (is refl) b)))
        side false is named = inl (inl named)
    go p b (inl (inr (q, up, named))) = side (same_path q c.node) (same_path_is q c.node) named
      where
        side : (s : Bool) → (s ≡ true → q ≡ c.node) → is_none (if s then Some c else command_at rest q) ≡ false → IsLeft rest p ⊎ Covers new p
        side true is named = inr (looks.below p (up ∙ ap Some (is refl)) b)
        side false is named = inl (inr (q, up, named))

pub seek_ends : (cs : List Change) (t : Holding) (first : Option Node) → IsSought cs [] t first → FindsFirst cs t first
seek_ends cs t None sought = λ p b. go p (sought.covered p b)
  where
    no : true ≡ false → ⊥
    no e = cc

    go : (p : Node) → IsLeft [] p ⊎ Covers None p → ⊥
    go p (inl (inl e)) = no e
    go p (inl (inr (q, up, e))) = no e
    go p (inr c) = c
seek_ends cs t (Some k) sought = record { blocked = sought.right; first = λ p b. go p (sought.covered p b) }
  where
    no : true ≡ false → ⊥
    no e = cc

    go : (p : Node) → IsLeft [] p ⊎ Covers (Some k) p → comes_before p k ≡ false
    go p (inl (inl e)) = absurd (no e)
    go p (inl (inr (q, up, e))) = absurd (no e)
    go p (inr c) = c

-- ---- what is found in all

-- each node of the set holds a value of ready where none diverged
all_ready : (cs : List Change) (t : Holding) → first_diverged cs t ≡ None → (p : Node) (c : Change) → command_at cs p ≡ Some c → is_ready_value c (t p) ≡ true
all_ready [] t none p c e = cc
all_ready (d ∷ cs) t none p c e = go (is_ready_value d (t d.node)) refl none (same_path p d.node) (same_path_is p d.node) e (all_ready cs t)
  where
    some : (x : Node) → ◌≡◌ {A = Option Node} (Some x) None → ⊥
    some x e = cc

    one : ◌≡◌ {A = Option Change} (Some d) (Some c) → d ≡ c
    one e = cc

    go : (b : Bool) → is_ready_value d (t d.node) ≡ b → (if b then first_diverged cs t else Some d.node) ≡ None → (s : Bool) → (s ≡ true → p ≡ d.node) → (if s then Some d else command_at cs p) ≡ Some c →
        (first_diverged cs t ≡ None → (p : Node) (c : Change) → command_at cs p ≡ Some c → is_ready_value c (t p) ≡ true) → is_ready_value c (t p) ≡ true
    go false r none s is e rec = absurd (some d.node none)
    go true r none true is e rec = subst (λ x. is_ready_value x (t p) ≡ true) (one e) (ap (λ q. is_ready_value d (t q)) (is refl) ∙ r)
    go true r none false is e rec = rec none p c e

ready_from : (cs : List Change) (t : Holding) → first_diverged cs t ≡ None → ((p : Node) → IsBlocked cs t p → ⊥) → IsReady t cs
ready_from cs t none free = record { values = all_ready cs t none; tree = λ q n up full. go q n up full (is_dir (after cs t q)) refl }
  where
    go : (q n : Node) → parent n ≡ Some q → is_empty (after cs t n) ≡ false → (b : Bool) → is_dir (after cs t q) ≡ b → b ≡ true
    go q n up full true e = refl
    go q n up full false e = absurd (free n (record { full = full; above = q; parent_is = up; no_dir = e }))

pub finds_ready : (cs : List Change) (k : ℕ) (o : Option Node) (t0 t1 : Option Store) → t1 ≡ t0 → o ≡ None → IfHeld t0 (λ m. FindsValues cs (at m) (Ok k)) → IfHeld t1 (λ m. FindsFirst cs (at m) o) → IfHeld t0 (λ m. Finds cs (at m) (Ok k))
finds_ready cs k o t0 t1 same is values first =
    held_as t0 (λ m h. (ready_from cs (at m) h.0.0 (subst (FindsFirst cs (at m)) is h.1), h.0.1)) (held_both _ _ t0 values (subst (λ t. IfHeld t (λ m. FindsFirst cs (at m) o)) same first))

pub finds_refused : (T : Type 0) (cs : List Change) (e : ApplyFault) (r : Result ℕ ApplyFault) (t : Option Store) → IsOfTree {T = T} (Err e) → r ≡ Err e → IfHeld t (λ m. Finds cs (at m) r)
finds_refused T cs e r t of_tree is = held_all t (λ m. subst (Finds cs (at m)) (sym is) (go m e of_tree))
  where
    go : (m : Store) (e : ApplyFault) → IsOfTree {T = T} (Err e) → Finds cs (at m) (Err e)
    go m (Diverged p) h = absurd h
    go m (Blocked p) h = absurd h
    go m Failed h = tt
    go m Denied h = tt
    go m Memory h = tt

-- ---- over a live tree

pub copied_some : (o : Option (Bor Change)) → is_some o ≡ true → is_some (option_copied o) ≡ true
copied_some None e = e
copied_some (Some d) e = e

pub alone_named : (cs : List Change) (c : Change) (q : Node) (o : Option Change) (t : Option Store) → IsFitting cs → command_at cs c.node ≡ Some c → parent c.node ≡ Some q → o ≡ command_at cs q → is_some o ≡ true →
    IfHeld t (λ m. IsTrue false ↔ IsBlocked cs (at m) c.node)
alone_named cs c q o t fitting named up is some = held_all t (λ m. (λ e. cc, λ b. go m b o is some))
  where
    go : (m : Store) → IsBlocked cs (at m) c.node → (o : Option Change) → o ≡ command_at cs q → is_some o ≡ true → false ≡ true
    go m b None e some = cc
    go m b (Some d) e some = absurd (here_named cs (at m) c d q fitting named up (sym e) b)

pub under_flat : (cs : List Change) (c : Change) (p : Node) (b : Bool) (t : Option Store) → IsFitting cs → command_at cs c.node ≡ Some c → p ≡ c.node → b ≡ false → IfHeld t IsTreeMap →
    IfHeld t (λ m. Answers {T = Bool} ⊤ (λ x. x ≡ is_dir (at m p)) (Ok b)) → IfHeld t (λ m. FindsBelow cs (at m) c None)
under_flat cs c p b t fitting named at_p flat tree answer =
    held_as t (λ m h. below_flat cs (at m) c fitting h.0.tree named (ap (λ q. is_dir (at m q)) (sym at_p) ∙ sym h.1.1 ∙ flat)) (held_both _ _ t tree answer)

empty_flat : (v : Value) → is_empty v ≡ true → is_dir v ≡ false
empty_flat Empty e = refl
empty_flat (Dir label) e = absurd (true≢false (sym e))
empty_flat (File bytes) e = refl

-- and so where its node holds a value of ready, and neither of the command's values is a directory
flat_ready : (c : Change) (v : Value) → is_ready_value c v ≡ true → is_dir c.new ≡ false → is_dir c.old ≡ false → is_dir v ≡ false
flat_ready c v ready new old = go (same_value v c.old) refl (same_value v c.new) refl (changes_kind c) (is_empty v) refl ready
  where
    go : (a : Bool) → same_value v c.old ≡ a → (b : Bool) → same_value v c.new ≡ b → (d e : Bool) → is_empty v ≡ e → (a || (b || (d && e))) ≡ true → is_dir v ≡ false
    go true e b f d g h r = ap is_dir (same_value_is v c.old e) ∙ old
    go false e true f d g h r = ap is_dir (same_value_is v c.new f) ∙ new
    go false e false f true true h r = empty_flat v h
    go false e false f true false h r = absurd (true≢false (sym r))
    go false e false f false g h r = absurd (true≢false (sym r))

pub under_ready : (cs : List Change) (c : Change) (t : Option Store) → IsFitting cs → command_at cs c.node ≡ Some c → is_dir c.new ≡ false → is_dir c.old ≡ false → IfHeld t (HoldsReady cs) → IfHeld t (λ m. FindsBelow cs (at m) c None)
under_ready cs c t fitting named new old ready =
    held_as t (λ m h. below_flat cs (at m) c fitting h.tree.tree named (flat_ready c (at m c.node) (all_ready cs (at m) h.values c.node c named) new old)) ready

-- what is known of one and the same tree goes on being known
pub still_ready : (cs : List Change) (t0 t1 : Option Store) → t1 ≡ t0 → IfHeld t0 (HoldsReady cs) → IfHeld t1 (HoldsReady cs)
still_ready cs t0 t1 same h = subst (λ t. IfHeld t (HoldsReady cs)) (sym same) h

-- where none diverged, and what is held is a tree
pub ready_held : (cs : List Change) (t0 t1 : Option Store) → t1 ≡ t0 → IfHeld t0 IsTreeMap → IfHeld t0 (λ m. first_diverged cs (at m) ≡ None) → IfHeld t1 (HoldsReady cs)
ready_held cs t0 t1 same tree none = subst (λ t. IfHeld t (HoldsReady cs)) (sym same) (held_as t0 (λ m h. record { tree = h.0; values = h.1 }) (held_both _ _ t0 tree none))

pub values_held : (cs : List Change) (k : ℕ) (t0 t1 : Option Store) → t1 ≡ t0 → IfHeld t0 (λ m. FindsValues cs (at m) (Ok k)) → IfHeld t1 (λ m. first_diverged cs (at m) ≡ None)
values_held cs k t0 t1 same values = subst (λ t. IfHeld t (λ m. first_diverged cs (at m) ≡ None)) (sym same) (held_as t0 (λ m h. h.0) values)

pub under_found : (cs : List Change) (c : Change) (p : Node) (found : List Node) (o : Option Node) (t0 t1 : Option Store) → IsFitting cs → command_at cs c.node ≡ Some c → p ≡ c.node → is_dir c.new ≡ false → t1 ≡ t0 →
    AreBelow (Some p) found → o ≡ first_unnamed cs found → IfHeld t1 (λ m. CanList (at m) (Some p) × AreChildren (at m) (Some p) found) → IfHeld t0 (λ m. FindsBelow cs (at m) c o)
under_found cs c p found o t0 t1 fitting named at_p flat same below is answer = subst (λ t. IfHeld t (λ m. FindsBelow cs (at m) c o)) same (held_as t1 go answer)
  where
    below_node : AreBelow (Some c.node) found
    below_node = subst (λ q. AreBelow (Some q) found) at_p below

    pick : (m : Store) → AreChildren (at m) (Some c.node) found → (o : Option Node) → o ≡ first_unnamed cs found → FindsBelow cs (at m) c o
    pick m all None e = below_none cs (at m) c found fitting named all (sym e)
    pick m all (Some k) e = below_some cs (at m) c found k fitting named flat below_node all (sym e)

    go : (m : Store) → CanList (at m) (Some p) × AreChildren (at m) (Some p) found → FindsBelow cs (at m) c o
    go m h = pick m (subst (λ q. AreChildren (at m) (Some q) found) at_p h.1) o is

-- what is known before the command with this place
pub record IsSeeking (cs : List Change) (i : ℕ) (s0 s1 : TreeState) (first : Option Node) : Type 0 where
  pub asked : HasAsked s0 s1
  pub ready : WhereKnown s0 (HoldsReady cs)
  pub sought : WhereKnown s0 (λ m. IsSought cs (drop i cs) (at m) first)

pub seeking_begins : (cs : List Change) (s0 : TreeState) → WhereKnown s0 IsTreeMap → WhereKnown s0 (λ m. first_diverged cs (at m) ≡ None) → IsSeeking cs 0 s0 s0 None
seeking_begins cs s0 tree none = record { asked = asks_none s0; ready = ready_held cs s0.contents s0.contents refl tree none; sought = held_as s0.contents (λ m h. seek_begins cs (at m) h.tree) tree }

pub seeking_on : {T : Type 0} (cs : List Change) (i : ℕ) (c : Change) (s0 s1 s2 : TreeState) (x : T) (old new : Option Node) → i < length cs → c ≡ get_or cs i c → IsSeeking cs i s0 s1 old → IsAsking (Ok x) s1 s2 →
    WhereKnown s1 (λ m. LooksAt cs (at m) c old new) → IsSeeking cs (i + 1) s0 s2 new
seeking_on cs i c s0 s1 s2 x old new h is seeking asks looks = record {
  asked = asks_done s0 s1 s2 x seeking.asked asks;
  ready = seeking.ready;
  sought = held_as s0.contents (λ m f. seek_on cs (drop (i + 1) cs) c (at m) old new f.1 (subst (λ r. IsSought cs r (at m) old) (rest_is cs i c h is) f.0)) (held_both _ _ s0.contents seeking.sought (known_on _ s0 s1 seeking.asked looks));
}

pub seeking_ends : (cs : List Change) (i : ℕ) (s0 s1 : TreeState) (first : Option Node) → length cs ≤ i → IsSeeking cs i s0 s1 first → IsAsking {T = Option Node} (Ok first) s0 s1 × WhereKnown s0 (λ m. FindsFirst cs (at m) first)
seeking_ends cs i s0 s1 first h seeking = (
  answers_now s0 s1 _ seeking.asked (λ e. cc) (λ e. cc),
  held_as s0.contents (λ m f. seek_ends cs (at m) first (subst (λ r. IsSought cs r (at m) first) (at_drop_all (λ xs. xs) cs i h) f)) seeking.sought,
)

pub here_kept_all : (cs : List Change) (c : Change) (b : Bool) (path : Node) (old mid new : Option Node) (t : Option Store) → b ≡ true → path ≡ c.node → KeepsFirst path old new → mid ≡ new →
    IfHeld t (λ m. IsTrue b ↔ IsBlocked cs (at m) c.node) → IfHeld t (λ m. LooksHere cs (at m) c old mid)
here_kept_all cs c b path old mid new t so is keeps same says = held_as t (λ m h. subst (LooksHere cs (at m) c old) (sym same) (here_kept cs (at m) c b path old new h so is keeps)) says

pub here_passed_all : (cs : List Change) (c : Change) (b : Bool) (old mid : Option Node) (t : Option Store) → b ≡ false → mid ≡ old → IfHeld t (λ m. IsTrue b ↔ IsBlocked cs (at m) c.node) → IfHeld t (λ m. LooksHere cs (at m) c old mid)
here_passed_all cs c b old mid t not_so same says = held_as t (λ m h. subst (LooksHere cs (at m) c old) (sym same) (here_passed cs (at m) c b old h not_so)) says

pub below_kept_all : (cs : List Change) (c : Change) (o : Option Node) (path : Node) (old mid last new : Option Node) (t0 t1 : Option Store) → o ≡ Some path → KeepsFirst path mid new → last ≡ new → t1 ≡ t0 →
    IfHeld t0 (λ m. LooksHere cs (at m) c old mid) → IfHeld t1 (λ m. FindsBelow cs (at m) c o) → IfHeld t0 (λ m. LooksAt cs (at m) c old last)
below_kept_all cs c o path old mid last new t0 t1 is keeps same stays looks finds =
    held_as t0 (λ m h. subst (LooksAt cs (at m) c old) (sym same) (below_kept cs (at m) c path old mid new h.0 (subst (FindsBelow cs (at m) c) is h.1) keeps))
    (held_both _ _ t0 looks (subst (λ t. IfHeld t (λ m. FindsBelow cs (at m) c o)) stays finds))

pub below_passed_all : (cs : List Change) (c : Change) (o : Option Node) (old mid last : Option Node) (t0 t1 : Option Store) → o ≡ None → last ≡ mid → t1 ≡ t0 →
    IfHeld t0 (λ m. LooksHere cs (at m) c old mid) → IfHeld t1 (λ m. FindsBelow cs (at m) c o) → IfHeld t0 (λ m. LooksAt cs (at m) c old last)
below_passed_all cs c o old mid last t0 t1 is same stays looks finds =
    held_as t0 (λ m h. subst (LooksAt cs (at m) c old) (sym same) (below_passed cs (at m) c old mid h.0 (subst (FindsBelow cs (at m) c) is h.1)))
    (held_both _ _ t0 looks (subst (λ t. IfHeld t (λ m. FindsBelow cs (at m) c o)) stays finds))
