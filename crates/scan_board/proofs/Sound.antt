-- Why commands become blocked in a walk.
use Rattle.std.proofs.Common.{◌≡◌, ℕ, zero, suc, ◌<◌, true, refl, ap, sym, subst, ◌∙◌, ◌⊎◌, inl, inr, Option, Some}
use Rattle.std.specs.Prelude.{[], ◌∷◌, ◌++◌}
use Rattle.sync_command.specs.declared.values.Kind.TheVariants.{Empty}
use Rattle.scan_board.specs.Tables.{Tables, State, mark_of, node_of, leaves_of, parent_of, is_bare, is_shut, command_count}
use Rattle.scan_board.specs.Turns.{up, IsIn, IsAtOrUnder, IsUnderNode, IsOnWay}
use Rattle.scan_board.specs.Settling.{IsDirsRight, IsUpWalk, IsSoundDown, IsCoveredDown, OnlyBelow, PilesBelow}
use Rattle.scan_board.proofs.Closing.{in_push, in_last, in_split, tell_equal, IsCovered}
use Rattle.scan_board.proofs.Shutting.{IsShutWay}
use Rattle.scan_board.proofs.Dirs.{dirs_at}

-- the walk over the children of a node, so far
pub record IsOnlyWalk (s r : State) (n : ℕ) : Type 0 where
  pub why : OnlyBelow s r n
  pub piles : PilesBelow s r n
  pub dirs : IsDirsRight s → IsDirsRight r

pub only_start : (s : State) (n : ℕ) → IsOnlyWalk s s n
only_start s n = record { why = (λ i l. inl refl); piles = (λ m a. inl a); dirs = (λ d. d) }

pub only_step : (s r u : State) (n k : ℕ) → r.tables ≡ s.tables → parent_of s.tables k ≡ Some n → IsOnlyWalk s r n → u.pile ≡ r.pile ++ k ∷ [] →
    ((i : ℕ) → i < command_count r.tables → (mark_of u i ≡ mark_of r i) ⊎ ((node_of r.tables i ≡ k) × (leaves_of r.tables i ≡ Empty → ⊥))) → (IsDirsRight r → IsDirsRight u) → IsOnlyWalk s u n
only_step s r u n k t own w piled why dirs = record {
  why = (λ i a. go i a (why i (subst (λ (x : Tables). i < command_count x) (sym t) a)));
  piles = (λ m a. pile m (in_split r.pile k m (subst (λ xs. IsIn xs m) piled a)));
  dirs = (λ d. dirs (w.dirs d));
}
  where
    Out : ℕ → Type 0
    Out i = (mark_of u i ≡ mark_of s i) ⊎ ((parent_of s.tables (node_of s.tables i) ≡ Some n) × (leaves_of s.tables i ≡ Empty → ⊥))

    go : (i : ℕ) → i < command_count s.tables → (mark_of u i ≡ mark_of r i) ⊎ ((node_of r.tables i ≡ k) × (leaves_of r.tables i ≡ Empty → ⊥)) → Out i
    go i a (inl e) = old (w.why i a)
      where
        old : (mark_of r i ≡ mark_of s i) ⊎ ((parent_of s.tables (node_of s.tables i) ≡ Some n) × (leaves_of s.tables i ≡ Empty → ⊥)) → Out i
        old (inl f) = inl (e ∙ f)
        old (inr f) = inr f
    go i a (inr (e, y)) = inr (ap (parent_of s.tables) (sym (ap (λ (x : Tables). node_of x i) t) ∙ e) ∙ own, (λ z. y (ap (λ (x : Tables). leaves_of x i) t ∙ z)))

    pile : (m : ℕ) → IsIn r.pile m ⊎ (m ≡ k) → IsIn s.pile m ⊎ (parent_of s.tables m ≡ Some n)
    pile m (inl a) = w.piles m a
    pile m (inr e) = inr (ap (parent_of s.tables) e ∙ own)

-- the walk down
pub sound_start : (s u : State) (n : ℕ) → s.pile ≡ [] → u ≡ record s { pile = s.pile ++ n ∷ [] } → IsSoundDown s u n
sound_start s u n none same = record {
  why = (λ i l. inl (ap (λ x. mark_of x i) same));
  bare = (λ q b. inl (sym (ap (λ x. is_bare x q) same) ∙ b));
  kept = (λ q b. ap (λ x. is_bare x q) same ∙ b);
  pile = (λ m a. only m (in_split s.pile n m (subst (λ xs. IsIn xs m) (ap (λ x. x.pile) same) a)));
  dirs = dirs_at u s.tables s.marks s.dirs (ap (λ x. x.tables) same) (ap (λ x. x.marks) same) (ap (λ x. x.dirs) same);
}
  where
    only : (m : ℕ) → IsIn s.pile m ⊎ (m ≡ n) → IsAtOrUnder s.tables m n
    only m (inl a) = absurd (subst (λ xs. IsIn xs m) none a)
    only m (inr e) = (zero, ap Some e)

pub sound_step : (s r p u : State) (start x : ℕ) → r.tables ≡ s.tables → r ≡ record p { pile = p.pile ++ x ∷ [] } → IsSoundDown s r start → is_bare u x ≡ true → ((n : ℕ) → (n ≡ x → ⊥) → is_bare u n ≡ is_bare p n) →
    OnlyBelow p u x → PilesBelow p u x → (IsDirsRight p → IsDirsRight u) → IsSoundDown s u start
sound_step s r p u start x t popped w here others why piles dirs = record {
  why = (λ i a. go i a (why i (subst (λ (z : Tables). i < command_count z) (sym pt) a)));
  bare = (λ n b. bared n b (tell_equal n x));
  kept = (λ n b. stay n (w.kept n b) (tell_equal n x));
  pile = (λ m a. piled m (piles m a));
  dirs = (λ d. dirs (dirs_at p r.tables r.marks r.dirs (sym (ap (λ z. z.tables) popped)) (sym (ap (λ z. z.marks) popped)) (sym (ap (λ z. z.dirs) popped)) (w.dirs d)));
}
  where
    pt : p.tables ≡ s.tables
    pt = sym (ap (λ z. z.tables) popped) ∙ t

    top : IsAtOrUnder s.tables x start
    top = w.pile x (subst (λ xs. IsIn xs x) (sym (ap (λ z. z.pile) popped)) (in_last p.pile x))

    Out : ℕ → Type 0
    Out i = (mark_of u i ≡ mark_of s i) ⊎ (IsUnderNode s.tables (node_of s.tables i) start × (leaves_of s.tables i ≡ Empty → ⊥))

    go : (i : ℕ) → i < command_count s.tables → (mark_of u i ≡ mark_of p i) ⊎ ((parent_of p.tables (node_of p.tables i) ≡ Some x) × (leaves_of p.tables i ≡ Empty → ⊥)) → Out i
    go i a (inl e) = old (w.why i a)
      where
        old : (mark_of r i ≡ mark_of s i) ⊎ (IsUnderNode s.tables (node_of s.tables i) start × (leaves_of s.tables i ≡ Empty → ⊥)) → Out i
        old (inl f) = inl (e ∙ sym (ap (λ z. mark_of z i) popped) ∙ f)
        old (inr f) = inr f
    go i a (inr (e, y)) = inr ((top.0, ap (up s.tables top.0) (sym (ap (λ (z : Tables). parent_of z (node_of z i)) pt) ∙ e) ∙ top.1), (λ z. y (ap (λ (v : Tables). leaves_of v i) pt ∙ z)))

    bared : (n : ℕ) → is_bare u n ≡ true → (n ≡ x) ⊎ ((n ≡ x) → ⊥) → (is_bare s n ≡ true) ⊎ IsAtOrUnder s.tables n start
    bared n b (inl e) = inr (top.0, ap (λ q. up s.tables top.0 (Some q)) e ∙ top.1)
    bared n b (inr e) = w.bare n (ap (λ z. is_bare z n) popped ∙ sym (others n e) ∙ b)

    stay : (n : ℕ) → is_bare r n ≡ true → (n ≡ x) ⊎ ((n ≡ x) → ⊥) → is_bare u n ≡ true
    stay n b (inl e) = ap (is_bare u) e ∙ here
    stay n b (inr e) = others n e ∙ sym (ap (λ z. is_bare z n) popped) ∙ b

    piled : (m : ℕ) → IsIn p.pile m ⊎ (parent_of p.tables m ≡ Some x) → IsAtOrUnder s.tables m start
    piled m (inl a) = w.pile m (subst (λ xs. IsIn xs m) (sym (ap (λ z. z.pile) popped)) (in_push p.pile x m a))
    piled m (inr e) = (suc top.0, ap (up s.tables top.0) (sym (ap (λ (z : Tables). parent_of z m) pt) ∙ e) ∙ top.1)

pub sound_ends : (s r p : State) (start : ℕ) → p ≡ r → IsSoundDown s r start → IsSoundDown s p start
sound_ends s r p start e w = subst (λ x. IsSoundDown s x start) (sym e) w

pub covered_down : (s r p : State) (start : ℕ) → r.pile ≡ [] → p ≡ r → IsCovered s r start → IsCoveredDown s p
covered_down s r p start none e w n m b c a q = ap (λ x. is_bare x m) e ∙ only (w.children n m (sym (ap (λ x. is_bare x n) e) ∙ b) c a q)
  where
    only : IsIn r.pile m ⊎ (is_bare r m ≡ true) → is_bare r m ≡ true
    only (inl z) = absurd (subst (λ xs. IsIn xs m) none z)
    only (inr z) = z

-- the walk up
pub up_start : (s : State) (first : Option ℕ) → IsUpWalk s s first
up_start s first = record { why = (λ i l. inl refl); shut = (λ n b. inl b); dirs = (λ d. d) }

pub up_step : (s r u : State) (first at next : Option ℕ) (n : ℕ) → at ≡ Some n → IsShutWay s r first at → IsShutWay s u first next → IsUpWalk s r first → ((m : ℕ) → (m ≡ n → ⊥) → is_shut u m ≡ is_shut r m) → (IsDirsRight r → IsDirsRight u) → IsUpWalk s u first
up_step s r u first at next n o way now w others dirs = record {
  why = now.why;
  shut = (λ m b. go m b (tell_equal m n));
  dirs = (λ d. dirs (w.dirs d));
}
  where
    go : (m : ℕ) → is_shut u m ≡ true → (m ≡ n) ⊎ ((m ≡ n) → ⊥) → (is_shut s m ≡ true) ⊎ IsOnWay s.tables first m
    go m b (inl e) = inr (subst (λ q. IsOnWay s.tables first q) (sym e) (way.on n o))
    go m b (inr e) = w.shut m (sym (others m e) ∙ b)
