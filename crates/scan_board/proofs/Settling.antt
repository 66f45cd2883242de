-- What is under a bare node, however deep.
use Rattle.std.proofs.Common.{◌≡◌, ℕ, zero, suc, ◌<◌, true, refl, ap, sym, subst, ◌∙◌, arith, ◌⊎◌, inl, inr, Option, Some, None}
use Rattle.sync_command.specs.declared.values.Kind.{Kind}
use Rattle.sync_command.specs.declared.values.Kind.TheVariants.{Empty, Dir, File}
use Rattle.scan_board.specs.declared.board.Mark.TheVariants.{Taken, Blocked}
use Rattle.scan_board.specs.Tables.{Tables, is_open_mark, mark_of, node_of, leaves_of, starts_of, parent_of, is_bare, command_count, node_count}
use Rattle.scan_board.specs.Turns.{parent_at, up, IsUnderNode}
use Rattle.scan_board.specs.Settling.{Clash, BareIsDeep}

tell_empty : (k : Kind) → (k ≡ Empty) ⊎ ((k ≡ Empty) → ⊥)
tell_empty Empty = inl refl
tell_empty Dir = inr (λ e. cc)
tell_empty File = inr (λ e. cc)

pub tell_dir : (k : Kind) → (k ≡ Dir) ⊎ ((k ≡ Dir) → ⊥)
tell_dir Empty = inr (λ e. cc)
tell_dir Dir = inl refl
tell_dir File = inr (λ e. cc)

pub up_none : (t : Tables) (k n : ℕ) → up t k None ≡ Some n → ⊥
up_none t zero n e = cc
up_none t (suc k) n e = up_none t k n e

pub up_more : (t : Tables) (a : ℕ) (o : Option ℕ) (m p : ℕ) → up t a o ≡ Some m → parent_of t m ≡ Some p → up t (suc a) o ≡ Some p
up_more t zero o m p e f = ap (parent_at t) e ∙ f
up_more t (suc a) o m p e f = up_more t a (parent_at t o) m p e f

pub up_join : (t : Tables) (a b : ℕ) (o : Option ℕ) (m q : ℕ) → up t a o ≡ Some m → up t b (parent_of t m) ≡ Some q → (c : ℕ) × (up t c o ≡ Some q)
up_join t zero b o m q e f = (suc b, ap (up t (suc b)) e ∙ f)
up_join t (suc a) b o m q e f = let k = up_join t a b (parent_at t o) m q e f in (suc k.0, k.1)

pub bare_is_deep : BareIsDeep
bare_is_deep s h exact right made n i b a under y = ap is_open_mark (last (parent_of s.tables (node_of s.tables i)) refl under)
  where
    -- the command that makes m a directory is blocked, and so is what needs it
    spread : (m p : ℕ) → parent_of s.tables m ≡ Some p → is_bare s p ≡ true → IsUnderNode s.tables (node_of s.tables i) m → ((e : ℕ) × (e < command_count s.tables) × (node_of s.tables e ≡ m) × (leaves_of s.tables e ≡ Dir)) → mark_of s i ≡ Blocked
    spread m p f bare w (e, l, at, dir) = from (exact.blocked e l (right.row p e bare l (ap (parent_of s.tables) at ∙ f) (λ x. let z : Dir ≡ Empty = sym dir ∙ x in cc)))
      where
        from : ((j : ℕ) × (j < command_count s.tables) × (mark_of s j ≡ Taken) × Clash s.tables e j) → mark_of s i ≡ Blocked
        from (j, lj, taken, inl (same, apart)) = go (tell_empty (leaves_of s.tables j))
          where
            go : (leaves_of s.tables j ≡ Empty) ⊎ ((leaves_of s.tables j ≡ Empty) → ⊥) → mark_of s i ≡ Blocked
            go (inl empty) = exact.clash i j a lj taken (inr (inr ((λ x. let z : Empty ≡ Dir = sym empty ∙ x in cc), subst (λ q. IsUnderNode s.tables (node_of s.tables i) q) (sym at ∙ same) w, y)))
            go (inr full) = absurd (let z : Blocked ≡ Taken = sym (right.row p j bare lj (ap (parent_of s.tables) (sym same ∙ at) ∙ f) full) ∙ taken in cc)
        from (j, lj, taken, inr (inl (other, below, full))) = absurd (other dir)
        from (j, lj, taken, inr (inr (other, (c, below), full))) =
            exact.clash i j a lj taken (inr (inr (other, up_join s.tables w.0 c (parent_of s.tables (node_of s.tables i)) m (node_of s.tables j) w.1 (ap (λ x. up s.tables c (parent_of s.tables x)) (sym at) ∙ below), y)))

    reach : (k m : ℕ) → m < node_count s.tables → IsUnderNode s.tables (node_of s.tables i) m → up s.tables k (Some m) ≡ Some n → (is_bare s m ≡ true) ⊎ (mark_of s i ≡ Blocked)
    reach zero m l w e = let is : m ≡ n = cc in inl (ap (is_bare s) is ∙ b)
    reach (suc k) m l w e = step (parent_of s.tables m) refl e (reach k)
      where
        step : (o : Option ℕ) → parent_of s.tables m ≡ o → up s.tables k o ≡ Some n → ((p : ℕ) → p < node_count s.tables → IsUnderNode s.tables (node_of s.tables i) p → up s.tables k (Some p) ≡ Some n → (is_bare s p ≡ true) ⊎ (mark_of s i ≡ Blocked)) → (is_bare s m ≡ true) ⊎ (mark_of s i ≡ Blocked)
        step None f g ih = absurd (up_none s.tables k n g)
        step (Some p) f g ih = go (ih p (let low : p < m = h.parent_in m p l f in omega arith) (suc w.0, up_more s.tables w.0 (parent_of s.tables (node_of s.tables i)) m p w.1 f) g)
          where
            go : (is_bare s p ≡ true) ⊎ (mark_of s i ≡ Blocked) → (is_bare s m ≡ true) ⊎ (mark_of s i ≡ Blocked)
            go (inr done) = inr done
            go (inl bare) = pick (tell_dir (starts_of s.tables m))
              where
                pick : (starts_of s.tables m ≡ Dir) ⊎ ((starts_of s.tables m ≡ Dir) → ⊥) → (is_bare s m ≡ true) ⊎ (mark_of s i ≡ Blocked)
                pick (inl dir) = inl (right.down p m bare l f dir)
                pick (inr other) = inr (spread m p f bare w (made i m a y w other))

    last : (o : Option ℕ) → parent_of s.tables (node_of s.tables i) ≡ o → ((k : ℕ) × (up s.tables k o ≡ Some n)) → mark_of s i ≡ Blocked
    last None f (k, g) = absurd (up_none s.tables k n g)
    last (Some p) f (k, g) = at (reach k p (let low : p < node_of s.tables i = h.parent_in (node_of s.tables i) p (h.node_in i a) f in let m : node_of s.tables i < node_count s.tables = h.node_in i a in omega arith) (zero, f) g)
      where
        at : (is_bare s p ≡ true) ⊎ (mark_of s i ≡ Blocked) → mark_of s i ≡ Blocked
        at (inl bare) = right.row p i bare a f y
        at (inr done) = done
