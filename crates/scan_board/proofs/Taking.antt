-- What a turn takes and blocks.
use Rattle.std.proofs.Common.{◌≡◌, ℕ, ◌<◌, Bool, true, false, refl, ap, sym, subst, ◌∙◌, ◌⊎◌, inl, inr, Some, slice_set, slice_index_or, get_or-set_same, get_or-set_other, length, List}
use Rattle.std.specs.Prelude.{◌&&◌, if◌then◌else◌}
use Rattle.sync_command.specs.declared.values.Kind.TheVariants.{Empty, Dir}
use Rattle.scan_board.specs.declared.board.Mark.{Mark}
use Rattle.scan_board.specs.declared.board.Mark.TheVariants.{Open, Taken, Blocked}
use Rattle.scan_board.specs.declared.turning.Rule.TheVariants.{All}
use Rattle.scan_board.specs.Tables.{Tables, State, IsBoard, is_open, is_open_mark, mark_of, node_of, leaves_of, parent_of, in_row, is_shut, is_bare, command_count, node_count}
use Rattle.scan_board.specs.Turns.{up as up_to, Grows, IsOnWay, IsUnderNode, IsDeep, IsShutOk, blocked_by}
use Rattle.scan_board.specs.Settling.{Clash}
use Rattle.scan_board.proofs.Closing.{grows_closed, tell_equal}
use Rattle.scan_board.proofs.Walking.{nat_eq_at, grows_trans}

-- what is not open stays so
abbrev pub Shrinks : State → State → Type 0
Shrinks s r = (i : ℕ) → i < command_count s.tables → is_open s i ≡ false → is_open r i ≡ false

pub shrinks_grows : (s r : State) → Grows s r → Shrinks s r
shrinks_grows s r g i l e = grows_closed s r i g l e

pub shrinks_mark : (s r : State) (k : ℕ) → k < length s.marks → r.marks ≡ slice_set s.marks k Taken → Shrinks s r
shrinks_mark s r k l e i a c = go (tell_equal i k)
  where
    go : (i ≡ k) ⊎ ((i ≡ k) → ⊥) → is_open r i ≡ false
    go (inl same) = ap (is_open r) same ∙ ap is_open_mark (ap (λ (x : List Mark). slice_index_or x k Blocked) e ∙ get_or-set_same s.marks k Taken Blocked l)
    go (inr other) = ap is_open_mark (ap (λ (x : List Mark). slice_index_or x i Blocked) e ∙ get_or-set_other s.marks k i Taken Blocked other) ∙ c

pub deep_kept : (s r : State) → r.tables ≡ s.tables → r.bare ≡ s.bare → Shrinks s r → IsDeep s → IsDeep r
deep_kept s r t e g deep = subst (λ (x : Tables). (n i : ℕ) → is_bare r n ≡ true → i < command_count x → IsUnderNode x (node_of x i) n → (leaves_of x i ≡ Empty → ⊥) → is_open r i ≡ false) (sym t)
    (λ n i b a u y. g i a (deep n i (ap (λ (x : List Bool). slice_index_or x n false) (sym e) ∙ b) a u y))

pub shut_kept : (s r : State) → r.tables ≡ s.tables → r.shut ≡ s.shut → Shrinks s r → IsShutOk s → IsShutOk r
shut_kept s r t e g ok = record {
  row = subst (λ (x : Tables). (n i : ℕ) → is_shut r n ≡ true → i < command_count x → node_of x i ≡ n → (leaves_of x i ≡ Dir → ⊥) → is_open r i ≡ false) (sym t)
      (λ n i b a c d. g i a (ok.row n i (ap (λ (x : List Bool). slice_index_or x n false) (sym e) ∙ b) a c d));
  parent = subst (λ (x : Tables). (n p : ℕ) → n < node_count x → is_shut r n ≡ true → parent_of x n ≡ Some p → is_shut r p ≡ true) (sym t)
      (λ n p l b f. ap (λ (x : List Bool). slice_index_or x p false) e ∙ ok.parent n p l (ap (λ (x : List Bool). slice_index_or x n false) (sym e) ∙ b) f);
}

all_closed : (a b : State) (n i : ℕ) → mark_of b i ≡ blocked_by a n All i → node_of a.tables i ≡ n → is_open b i ≡ false
all_closed a b n i e s = ap is_open_mark e ∙ go (in_row a.tables n i) (nat_eq_at (node_of a.tables i) n s) (mark_of a i)
  where
    go : (x : Bool) → x ≡ true → (m : Mark) → is_open_mark (if x && (is_open_mark m && true) then Blocked else m) ≡ false
    go x e Open = rw e refl
    go x e Taken = rw e refl
    go x e Blocked = rw e refl

pub take_complete : (s a b c d : State) (k n : ℕ) → IsBoard s → k < command_count s.tables → n ≡ node_of s.tables k →
    a ≡ record s { marks = slice_set s.marks k Taken } →
    b ≡ record a { marks = b.marks; dirs = b.dirs } → Grows a b → ((i : ℕ) → i < command_count a.tables → mark_of b i ≡ blocked_by a n All i) →
    c ≡ record b { marks = c.marks; dirs = c.dirs; shut = c.shut } → Grows b c → ((leaves_of s.tables k ≡ Empty → ⊥) → IsShutOk b → (i : ℕ) → i < command_count b.tables → IsOnWay b.tables (parent_of b.tables n) (node_of b.tables i) → (leaves_of b.tables i ≡ Dir → ⊥) → is_open c i ≡ false) →
    Grows c d → ((leaves_of s.tables k ≡ Dir → ⊥) → IsDeep c → (i : ℕ) → i < command_count c.tables → IsUnderNode c.tables (node_of c.tables i) n → (leaves_of c.tables i ≡ Empty → ⊥) → is_open d i ≡ false) →
    IsDeep s → IsShutOk s → (j : ℕ) → j < command_count s.tables → Clash s.tables k j → is_open d j ≡ false
take_complete s a b c d k n h l own sa sb gb mb sc gc up gd down deep ok j lj clash = go clash
  where
    ta : a.tables ≡ s.tables
    ta = ap (λ x. x.tables) sa

    tb : b.tables ≡ s.tables
    tb = ap (λ x. x.tables) sb ∙ ap (λ x. x.tables) sa

    tc : c.tables ≡ s.tables
    tc = ap (λ x. x.tables) sc ∙ (ap (λ x. x.tables) sb ∙ ap (λ x. x.tables) sa)

    first : Shrinks s a
    first = shrinks_mark s a k (rw h.marks l) (ap (λ x. x.marks) sa)

    deep_c : IsDeep c
    deep_c = deep_kept b c (ap (λ x. x.tables) sc) (ap (λ x. x.bare) sc) (shrinks_grows b c gc)
        (deep_kept a b (ap (λ x. x.tables) sb) (ap (λ x. x.bare) sb) (shrinks_grows a b gb)
        (deep_kept s a (ap (λ x. x.tables) sa) (ap (λ x. x.bare) sa) (shrinks_mark s a k (rw h.marks l) (ap (λ x. x.marks) sa)) deep))

    ok_b : IsShutOk b
    ok_b = shut_kept a b (ap (λ x. x.tables) sb) (ap (λ x. x.shut) sb) (shrinks_grows a b gb)
        (shut_kept s a (ap (λ x. x.tables) sa) (ap (λ x. x.shut) sa) (shrinks_mark s a k (rw h.marks l) (ap (λ x. x.marks) sa)) ok)

    up_s : (leaves_of s.tables k ≡ Empty → ⊥) → (i : ℕ) → i < command_count s.tables → IsOnWay s.tables (parent_of s.tables n) (node_of s.tables i) → (leaves_of s.tables i ≡ Dir → ⊥) → is_open c i ≡ false
    up_s e = subst (λ (x : Tables). (i : ℕ) → i < command_count x → IsOnWay x (parent_of x n) (node_of x i) → (leaves_of x i ≡ Dir → ⊥) → is_open c i ≡ false) tb (up e ok_b)

    down_s : (leaves_of s.tables k ≡ Dir → ⊥) → (i : ℕ) → i < command_count s.tables → IsUnderNode s.tables (node_of s.tables i) n → (leaves_of s.tables i ≡ Empty → ⊥) → is_open d i ≡ false
    down_s e = subst (λ (x : Tables). (i : ℕ) → i < command_count x → IsUnderNode x (node_of x i) n → (leaves_of x i ≡ Empty → ⊥) → is_open d i ≡ false) tc (down e deep_c)

    in_b : j < command_count b.tables
    in_b = subst (λ (x : Tables). j < command_count x) (sym tb) lj

    in_c : j < command_count c.tables
    in_c = subst (λ (x : Tables). j < command_count x) (sym tc) lj

    go : Clash s.tables k j → is_open d j ≡ false
    go (inl (same, apart)) = grows_closed c d j gd in_c (grows_closed b c j gc in_b (all_closed a b n j (mb j (subst (λ (x : Tables). j < command_count x) (sym ta) lj)) (ap (λ (x : Tables). node_of x j) ta ∙ sym same ∙ sym own)))
    go (inr (inl (other, below, full))) = down_s other j lj (subst (λ q. IsUnderNode s.tables (node_of s.tables j) q) (sym own) below) full
    go (inr (inr (other, (m, above), full))) = grows_closed c d j gd in_c (up_s full j lj (m, ap (λ (q : ℕ). up_to s.tables m (parent_of s.tables q)) own ∙ above) other)

pub take_others : (s a b c d : State) (k : ℕ) → a ≡ record s { marks = slice_set s.marks k Taken } → b ≡ record a { marks = b.marks; dirs = b.dirs } → Grows a b → c ≡ record b { marks = c.marks; dirs = c.dirs; shut = c.shut } → Grows b c → Grows c d →
    (i : ℕ) → i < command_count s.tables → (i ≡ k → ⊥) → (mark_of d i ≡ mark_of s i) ⊎ ((mark_of s i ≡ Open) × (mark_of d i ≡ Blocked))
take_others s a b c d k sa sb gb sc gc gd i l apart =
    let tb : b.tables ≡ a.tables = ap (λ x. x.tables) sb in
    let tc : c.tables ≡ a.tables = ap (λ x. x.tables) sc ∙ tb in
    let all : Grows a d = grows_trans a c d tc (grows_trans a b c tb gb gc) gd in
    let same : mark_of a i ≡ mark_of s i = ap (λ (x : List Mark). slice_index_or x i Blocked) (ap (λ x. x.marks) sa) ∙ get_or-set_other s.marks k i Taken Blocked apart in
    subst (λ m. (mark_of d i ≡ m) ⊎ ((m ≡ Open) × (mark_of d i ≡ Blocked))) same (all i (subst (λ (x : Tables). i < command_count x) (sym (ap (λ x. x.tables) sa)) l))

pub take_right : (s a b c d : State) (k : ℕ) → IsBoard s → k < command_count s.tables → a ≡ record s { marks = slice_set s.marks k Taken } → b ≡ record a { marks = b.marks; dirs = b.dirs } → Grows a b → (IsShutOk b → IsShutOk c) → d.tables ≡ c.tables → d.shut ≡ c.shut → Grows c d → IsShutOk s → IsShutOk d
take_right s a b c d k h l sa sb gb up td sd gd ok =
    shut_kept c d td sd (shrinks_grows c d gd) (up (shut_kept a b (ap (λ x. x.tables) sb) (ap (λ x. x.shut) sb) (shrinks_grows a b gb)
    (shut_kept s a (ap (λ x. x.tables) sa) (ap (λ x. x.shut) sa) (shrinks_mark s a k (rw h.marks l) (ap (λ x. x.marks) sa)) ok)))
