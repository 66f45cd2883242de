-- Counting the commands of each node that leave a directory.
use Rattle.std.proofs.Common.{◌≡◌, ℕ, suc, ◌+◌, ◌<◌, ◌≤◌, Bool, true, false, refl, ap, sym, subst, ◌∙◌, arith, ◌⊎◌, inl, inr, List, length, slice_set, get_or-set_same, get_or-set_other, length-set, nat_eq}
use Rattle.std.specs.Prelude.{◌&&◌, slice_index, replicate}
use Rattle.sync_command.specs.declared.values.Kind.{Kind}
use Rattle.sync_command.specs.declared.values.Kind.TheVariants.{Empty, Dir, File}
use Rattle.scan_board.specs.Tables.{count}
use Rattle.scan_board.specs.Settling.{is_dir_kind}
use Rattle.scan_board.specs.Built.{is_dir_of}
use Rattle.scan_board.specs.Boards.{card_at}
use Rattle.scan_board.specs.declared.board.Card.{Card}
use Rattle.scan_board.proofs.Counting.{bit, tell_equal, count_most}
use Rattle.std.proofs.lemmas.List.{get_or-replicate, length-replicate}
use Rattle.scan_board.proofs.Settling.{tell_dir}
use Rattle.scan_board.proofs.Walking.{nat_eq_at, nat_eq_not}

-- the first k commands are counted
pub record IsCounted (cards : List Card) (dirs : List ℕ) (total k : ℕ) : Type 0 where
  pub len : length dirs ≡ total
  pub each : (n : ℕ) → n < total → slice_index dirs n ≡ count (is_dir_of cards n) k

count_zero : (p : ℕ → Bool) → count p 0 ≡ 0
unfolding count
count_zero p = refl

count_more : (p : ℕ → Bool) (k : ℕ) → count p (k + 1) ≡ bit (p k) + count p k
unfolding count
count_more p k = let e : k + 1 ≡ suc k = omega arith in rw e refl

pub counted_start : (cards : List Card) (dirs : List ℕ) (total : ℕ) → length dirs ≡ total → ((n : ℕ) → n < total → slice_index dirs n ≡ 0) → IsCounted cards dirs total 0
counted_start cards dirs total l z = record { len = l; each = (λ n a. z n a ∙ sym (count_zero (is_dir_of cards n))) }

pub counted_dir : (cards : List Card) (dirs after : List ℕ) (total k node v : ℕ) → IsCounted cards dirs total k → node ≡ (card_at cards k).node → node < total → (card_at cards k).leaves ≡ Dir → v ≡ slice_index dirs node + 1 → after ≡ slice_set dirs node v → IsCounted cards after total (k + 1)
counted_dir cards dirs after total k node v w own low dir more e = record {
  len = ap length e ∙ length-set dirs node v ∙ w.len;
  each = (λ n a. go n a (tell_equal n node));
}
  where
    go : (n : ℕ) → n < total → (n ≡ node) ⊎ ((n ≡ node) → ⊥) → slice_index after n ≡ count (is_dir_of cards n) (k + 1)
    go n a (inl same) =
        let set : slice_index after node ≡ v = ap (λ xs. slice_index xs node) e ∙ get_or-set_same dirs node v 0 (let l : length dirs ≡ total = w.len in omega arith) in
        let row : nat_eq ((card_at cards k).node) node ≡ true = nat_eq_at ((card_at cards k).node) node (sym own) in
        let one : bit (is_dir_of cards node k) ≡ 1 = ap (λ b. bit (b && is_dir_kind ((card_at cards k).leaves))) row ∙ ap (λ q. bit (is_dir_kind q)) dir in
        let old : slice_index dirs node ≡ count (is_dir_of cards node) k = w.each node low in
        let new : count (is_dir_of cards node) (k + 1) ≡ bit (is_dir_of cards node k) + count (is_dir_of cards node) k = count_more (is_dir_of cards node) k in
        subst (λ q. slice_index after q ≡ count (is_dir_of cards q) (k + 1)) (sym same) (omega arith)
    go n a (inr other) =
        let keep : slice_index after n ≡ slice_index dirs n = ap (λ xs. slice_index xs n) e ∙ get_or-set_other dirs node n v 0 other in
        let row : nat_eq ((card_at cards k).node) n ≡ false = nat_eq_not ((card_at cards k).node) n (λ z. other (sym z ∙ sym own)) in
        let none : bit (is_dir_of cards n k) ≡ 0 = ap (λ b. bit (b && is_dir_kind ((card_at cards k).leaves))) row in
        let old : slice_index dirs n ≡ count (is_dir_of cards n) k = w.each n a in
        let new : count (is_dir_of cards n) (k + 1) ≡ bit (is_dir_of cards n k) + count (is_dir_of cards n) k = count_more (is_dir_of cards n) k in
        omega arith

not_dir : (k : Kind) → (k ≡ Dir → ⊥) → is_dir_kind k ≡ false
not_dir Empty e = refl
not_dir Dir e = absurd (e refl)
not_dir File e = refl

and_false : (b : Bool) → bit (b && false) ≡ 0
and_false true = refl
and_false false = refl

pub counted_other : (cards : List Card) (dirs : List ℕ) (total k : ℕ) → IsCounted cards dirs total k → ((card_at cards k).leaves ≡ Dir → ⊥) → IsCounted cards dirs total (k + 1)
counted_other cards dirs total k w other = record { len = w.len; each = go }
  where
    go : (n : ℕ) → n < total → slice_index dirs n ≡ count (is_dir_of cards n) (k + 1)
    go n a =
        let none : bit (is_dir_of cards n k) ≡ 0 = ap (λ b. bit (nat_eq ((card_at cards k).node) n && b)) (not_dir ((card_at cards k).leaves) other) ∙ and_false (nat_eq ((card_at cards k).node) n) in
        let old : slice_index dirs n ≡ count (is_dir_of cards n) k = w.each n a in
        let new : count (is_dir_of cards n) (k + 1) ≡ bit (is_dir_of cards n k) + count (is_dir_of cards n) k = count_more (is_dir_of cards n) k in
        omega arith

pub counted_bound : (cards : List Card) (dirs : List ℕ) (total k n : ℕ) → IsCounted cards dirs total k → n < total → slice_index dirs n ≤ k
counted_bound cards dirs total k n w l = let a : slice_index dirs n ≡ count (is_dir_of cards n) k = w.each n l in let b : count (is_dir_of cards n) k ≤ k = count_most (is_dir_of cards n) k in omega arith

pub counted_next : (cards : List Card) (dirs after : List ℕ) (total k node : ℕ) (kind : Kind) → IsCounted cards dirs total k → node ≡ (card_at cards k).node → node < total → kind ≡ (card_at cards k).leaves →
    (kind ≡ Dir → after ≡ slice_set dirs node (slice_index dirs node + 1)) → ((kind ≡ Dir → ⊥) → after ≡ dirs) → IsCounted cards after total (k + 1)
counted_next cards dirs after total k node kind w own low is dir other = go (tell_dir kind)
  where
    go : (kind ≡ Dir) ⊎ ((kind ≡ Dir) → ⊥) → IsCounted cards after total (k + 1)
    go (inl e) = counted_dir cards dirs after total k node (slice_index dirs node + 1) w own low (sym is ∙ e) refl (dir e)
    go (inr a) = subst (λ (x : List ℕ). IsCounted cards x total (k + 1)) (sym (other a)) (counted_other cards dirs total k w (λ e. a (is ∙ e)))

pub counted_zeros : (cards : List Card) (dirs : List ℕ) (total : ℕ) → dirs ≡ replicate total 0 → IsCounted cards dirs total 0
counted_zeros cards dirs total e = counted_start cards dirs total (ap length e ∙ length-replicate total 0) (λ n l. ap (λ xs. slice_index xs n) e ∙ get_or-replicate total n 0 0 l)
