-- The counts of directories after a mark.
use Rattle.std.proofs.Common.{◌≡◌, ℕ, ◌+◌, ◌-◌, ◌<◌, Bool, true, false, not, refl, ap, sym, subst, ◌∙◌, arith, ◌⊎◌, inl, inr, Some, List, length, slice_set, slice_index_or, get_or-set_same, get_or-set_other}
use Rattle.std.specs.Prelude.{◌&&◌, slice_index}
use Rattle.sync_command.specs.declared.values.Kind.{Kind}
use Rattle.sync_command.specs.declared.values.Kind.TheVariants.{Empty, Dir, File}
use Rattle.scan_board.specs.declared.board.Mark.{Mark}
use Rattle.scan_board.specs.declared.board.Mark.TheVariants.{Open, Taken, Blocked}
use Rattle.scan_board.specs.declared.turning.Rule.TheVariants.{NotDir}
use Rattle.scan_board.specs.Tables.{Tables, State, IsSound, IsBoard, count, mark_of, node_of, leaves_of, parent_of, in_row, command_count, node_count}
use Rattle.scan_board.specs.Turns.{blocked_by, ChangesBelow}
use Rattle.scan_board.specs.Settling.{is_dir_kind, is_blocked_mark, IsDirsRight}
use Rattle.scan_board.proofs.Counting.{tell_equal, count_same, count_one}
use Rattle.scan_board.proofs.Walking.{nat_eq_at, nat_eq_not}
use Rattle.scan_board.proofs.Settling.{tell_dir}
use Rattle.scan_board.proofs.Shutting.{row_why}

-- the same, by columns
abbrev pub live : Tables → List Mark → ℕ → ℕ → Bool
live t m n i = in_row t n i && (is_dir_kind (leaves_of t i) && not (is_blocked_mark (slice_index_or m i Blocked)))

abbrev pub DirsOf : Tables → List Mark → List ℕ → Type 0
DirsOf t m d = (n : ℕ) → n < node_count t → slice_index d n ≡ count (live t m n) (command_count t)

pub dirs_at : (r : State) (t : Tables) (m : List Mark) (d : List ℕ) → r.tables ≡ t → r.marks ≡ m → r.dirs ≡ d → DirsOf t m d → IsDirsRight r
dirs_at r t m d e f g h = subst (λ x. DirsOf x r.marks r.dirs) (sym e) (subst (λ x. DirsOf t x r.dirs) (sym f) (subst (λ x. DirsOf t m x) (sym g) h))

not_dir : (k : Kind) → (k ≡ Dir → ⊥) → is_dir_kind k ≡ false
not_dir Empty e = refl
not_dir Dir e = absurd (e refl)
not_dir File e = refl

same_live : (t : Tables) (m w : List Mark) (n i : ℕ) → (node_of t i ≡ n → leaves_of t i ≡ Dir → is_blocked_mark (slice_index_or w i Blocked) ≡ is_blocked_mark (slice_index_or m i Blocked)) → live t m n i ≡ live t w n i
same_live t m w n i e = go (tell_equal (node_of t i) n) (tell_dir (leaves_of t i))
  where
    none : (a b c x : Bool) → a ≡ false → (a && (b && c)) ≡ (a && (b && x))
    none a b c x z = rw z refl

    mid : (a b c x : Bool) → b ≡ false → (a && (b && c)) ≡ (a && (b && x))
    mid a b c x z = rw z refl

    go : (node_of t i ≡ n) ⊎ ((node_of t i ≡ n) → ⊥) → (leaves_of t i ≡ Dir) ⊎ ((leaves_of t i ≡ Dir) → ⊥) → live t m n i ≡ live t w n i
    go (inl a) (inl b) = ap (λ x. in_row t n i && (is_dir_kind (leaves_of t i) && not x)) (sym (e a b))
    go (inl a) (inr b) = mid (in_row t n i) (is_dir_kind (leaves_of t i)) (not (is_blocked_mark (slice_index_or m i Blocked))) (not (is_blocked_mark (slice_index_or w i Blocked))) (not_dir (leaves_of t i) b)
    go (inr a) b = none (in_row t n i) (is_dir_kind (leaves_of t i)) (not (is_blocked_mark (slice_index_or m i Blocked))) (not (is_blocked_mark (slice_index_or w i Blocked))) (nat_eq_not (node_of t i) n a)

same_count : (t : Tables) (m w : List Mark) (n : ℕ) → ((i : ℕ) → i < command_count t → node_of t i ≡ n → leaves_of t i ≡ Dir → is_blocked_mark (slice_index_or w i Blocked) ≡ is_blocked_mark (slice_index_or m i Blocked)) →
    count (live t m n) (command_count t) ≡ count (live t w n) (command_count t)
same_count t m w n e = count_same (live t m n) (live t w n) (command_count t) (λ i l. same_live t m w n i (e i l))

-- a directory of the node falls away
fewer : (t : Tables) (m : List Mark) (k n : ℕ) → k < length m → k < command_count t → node_of t k ≡ n → leaves_of t k ≡ Dir → slice_index_or m k Blocked ≡ Open →
    count (live t m n) (command_count t) ≡ count (live t (slice_set m k Blocked) n) (command_count t) + 1
fewer t m k n l c at dir was = count_one (live t m n) (live t (slice_set m k Blocked) n) k (command_count t) c here gone others
  where
    here : live t m n k ≡ true
    here = three (in_row t n k) (is_dir_kind (leaves_of t k)) (is_blocked_mark (slice_index_or m k Blocked)) (nat_eq_at (node_of t k) n at) (ap is_dir_kind dir) (ap is_blocked_mark was)
      where
        three : (a b c : Bool) → a ≡ true → b ≡ true → c ≡ false → (a && (b && not c)) ≡ true
        three a b c x y z = rw (x, y, z) refl

    gone : live t (slice_set m k Blocked) n k ≡ false
    gone = last (in_row t n k) (is_dir_kind (leaves_of t k)) (is_blocked_mark (slice_index_or (slice_set m k Blocked) k Blocked)) (ap is_blocked_mark (get_or-set_same m k Blocked Blocked l))
      where
        last : (a b c : Bool) → c ≡ true → (a && (b && not c)) ≡ false
        last a b c z = rw z (go a b)
          where
            go : (a b : Bool) → (a && (b && false)) ≡ false
            go true true = refl
            go true false = refl
            go false b = refl

    others : (i : ℕ) → i < command_count t → (i ≡ k → ⊥) → live t m n i ≡ live t (slice_set m k Blocked) n i
    others i j a = same_live t m (slice_set m k Blocked) n i (λ x y. ap is_blocked_mark (get_or-set_other m k i Blocked Blocked a))

-- blocking an open command that leaves a directory
pub block_dirs : (s r : State) (k n v : ℕ) → IsBoard s → k < command_count s.tables → n < node_count s.tables → node_of s.tables k ≡ n → leaves_of s.tables k ≡ Dir → mark_of s k ≡ Open → v ≡ slice_index s.dirs n - 1 →
    r.tables ≡ s.tables → r.marks ≡ slice_set s.marks k Blocked → r.dirs ≡ slice_set s.dirs n v → IsDirsRight s → IsDirsRight r
block_dirs s r k n v h c l at dir was less t m d right = dirs_at r s.tables (slice_set s.marks k Blocked) (slice_set s.dirs n v) t m d (λ q a. go q a (tell_equal q n))
  where
    go : (q : ℕ) → q < node_count s.tables → (q ≡ n) ⊎ ((q ≡ n) → ⊥) → slice_index (slice_set s.dirs n v) q ≡ count (live s.tables (slice_set s.marks k Blocked) q) (command_count s.tables)
    go q a (inl same) =
        let f : count (live s.tables s.marks n) (command_count s.tables) ≡ count (live s.tables (slice_set s.marks k Blocked) n) (command_count s.tables) + 1 = fewer s.tables s.marks k n (rw h.marks c) c at dir was in
        let had : slice_index s.dirs n ≡ count (live s.tables s.marks n) (command_count s.tables) = right n l in
        let now : slice_index (slice_set s.dirs n v) n ≡ v = get_or-set_same s.dirs n v 0 (rw h.dirs l) in
        let done : slice_index (slice_set s.dirs n v) n ≡ count (live s.tables (slice_set s.marks k Blocked) n) (command_count s.tables) = omega arith in
        subst (λ x. slice_index (slice_set s.dirs n v) x ≡ count (live s.tables (slice_set s.marks k Blocked) x) (command_count s.tables)) (sym same) done
    go q a (inr other) = get_or-set_other s.dirs n q v 0 other ∙ right q a ∙
        same_count s.tables s.marks (slice_set s.marks k Blocked) q (λ i x y z. ap is_blocked_mark (get_or-set_other s.marks k i Blocked Blocked (λ e. other (sym y ∙ ap (node_of s.tables) e ∙ at))))

-- blocking a command that leaves something else
pub block_other : (s r : State) (k : ℕ) → (leaves_of s.tables k ≡ Dir → ⊥) → r.tables ≡ s.tables → r.marks ≡ slice_set s.marks k Blocked → r.dirs ≡ s.dirs → IsDirsRight s → IsDirsRight r
block_other s r k other t m d right = dirs_at r s.tables (slice_set s.marks k Blocked) s.dirs t m d
    (λ q a. right q a ∙ same_count s.tables s.marks (slice_set s.marks k Blocked) q (λ i x y z. ap is_blocked_mark (get_or-set_other s.marks k i Blocked Blocked (λ e. other (ap (leaves_of s.tables) (sym e) ∙ z)))))

-- taking an open command
pub take_dirs : (s r : State) (k : ℕ) → IsBoard s → k < command_count s.tables → mark_of s k ≡ Open → r.tables ≡ s.tables → r.marks ≡ slice_set s.marks k Taken → r.dirs ≡ s.dirs → IsDirsRight s → IsDirsRight r
take_dirs s r k h c was t m d right = dirs_at r s.tables (slice_set s.marks k Taken) s.dirs t m d (λ q a. right q a ∙ same_count s.tables s.marks (slice_set s.marks k Taken) q (λ i x y z. go i (tell_equal i k)))
  where
    go : (i : ℕ) → (i ≡ k) ⊎ ((i ≡ k) → ⊥) → is_blocked_mark (slice_index_or (slice_set s.marks k Taken) i Blocked) ≡ is_blocked_mark (slice_index_or s.marks i Blocked)
    go i (inl same) = subst (λ x. is_blocked_mark (slice_index_or (slice_set s.marks k Taken) x Blocked) ≡ is_blocked_mark (slice_index_or s.marks x Blocked)) (sym same)
        (ap is_blocked_mark (get_or-set_same s.marks k Taken Blocked (rw h.marks c)) ∙ sym (ap is_blocked_mark was))
    go i (inr other) = ap is_blocked_mark (get_or-set_other s.marks k i Taken Blocked other)

-- writing again what was read before a walk that left the node's own directories alone
pub kept_dirs : (s r u : State) (n v : ℕ) → IsBoard r → n < node_count s.tables → v ≡ slice_index s.dirs n → r.tables ≡ s.tables →
    ((i : ℕ) → i < command_count s.tables → node_of s.tables i ≡ n → leaves_of s.tables i ≡ Dir → mark_of r i ≡ mark_of s i) → (IsDirsRight s → IsDirsRight r) →
    u.tables ≡ r.tables → u.marks ≡ r.marks → u.dirs ≡ slice_set r.dirs n v → IsDirsRight s → IsDirsRight u
kept_dirs s r u n v h l e t same step ut um ud right = dirs_at u r.tables r.marks (slice_set r.dirs n v) ut um ud (λ q a. go q a (tell_equal q n))
  where
    in_r : n < node_count r.tables
    in_r = subst (λ (x : Tables). n < node_count x) (sym t) l

    read : v ≡ count (live r.tables r.marks n) (command_count r.tables)
    read = e ∙ right n l ∙ same_count s.tables s.marks r.marks n (λ i x y z. ap is_blocked_mark (same i x y z)) ∙ ap (λ (x : Tables). count (live x r.marks n) (command_count x)) (sym t)

    go : (q : ℕ) → q < node_count r.tables → (q ≡ n) ⊎ ((q ≡ n) → ⊥) → slice_index (slice_set r.dirs n v) q ≡ count (live r.tables r.marks q) (command_count r.tables)
    go q a (inl same) = subst (λ x. slice_index (slice_set r.dirs n v) x ≡ count (live r.tables r.marks x) (command_count r.tables)) (sym same)
        (get_or-set_same r.dirs n v 0 (rw h.dirs in_r) ∙ read)
    go q a (inr other) = get_or-set_other r.dirs n q v 0 other ∙ step right q a

-- the rule for a node that must be a directory leaves its directories alone
pub spares_dirs : (s : State) (n i : ℕ) (m : Mark) → m ≡ blocked_by s n NotDir i → leaves_of s.tables i ≡ Dir → m ≡ mark_of s i
spares_dirs s n i m e dir = go (row_why s n i m e)
  where
    go : (m ≡ mark_of s i) ⊎ ((node_of s.tables i ≡ n) × (leaves_of s.tables i ≡ Dir → ⊥)) → m ≡ mark_of s i
    go (inl x) = x
    go (inr x) = absurd (x.1 dir)

-- a node is no child of its own
pub no_loop : (t : Tables) (n : ℕ) → IsSound t → n < node_count t → parent_of t n ≡ Some n → ⊥
no_loop t n h l e = let k : n < n = h.parent_in n n l e in omega arith

pub below_dirs : (s r : State) (n i : ℕ) → IsBoard s → n < node_count s.tables → ChangesBelow s r n → i < command_count s.tables → node_of s.tables i ≡ n → mark_of r i ≡ mark_of s i
below_dirs s r n i h l w a at = w i a (λ e. no_loop s.tables n h.sound l (ap (parent_of s.tables) (sym at) ∙ e))
