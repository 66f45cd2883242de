-- The entries of the files in memory.
use Rattle.std.proofs.Common.{◌≡◌, ◌<◌, ◌≤◌, ◌+◌, ◌++◌, take, set, ℕ, List, [], ◌∷◌, Bool, true, false, drop, length, map, max, min, get_or, None, Some, Option, refl, ◌∙◌, ap, sym, zero, suc, zero-add, suc-add, add-one, if◌then◌else◌, ◌-◌, arith, string_bytes}
use Rattle.std.proofs.lemmas.List.{at_drop_all, take-append-drop, take_rest, take_all}
use Rattle.std.proofs.lemmas.Slice.Eq.{bytes_eq-Decides}
use Rattle.std.specs.Str.{bytes_eq}
use Rattle.sync_port.specs.Ports.{most_with}
use Rattle.sync_port.specs.Entries.{bytes_at, entry_bytes, first_under, held_in, most_in, name_at, named, IsPlaceOf}
use Rattle.sync_port.specs.declared.entries.Entry.{Entry}

-- ---- names

same_name : (x y : List ℕ) → bytes_eq x y ≡ true → x ≡ y
same_name x y h = (bytes_eq-Decides x y).0 h

same_bytes : (x y : List ℕ) → x ≡ y → bytes_eq x y ≡ true
same_bytes x y h = (bytes_eq-Decides x y).1 h

other_bytes : (x y : List ℕ) → (x ≡ y → ⊥) → bytes_eq x y ≡ false
other_bytes x y differs = cases (bytes_eq x y) (λ same. differs (same_name x y same))
  where
    cases : (b : Bool) → (b ≡ true → ⊥) → b ≡ false
    cases true h = absurd (h refl)
    cases false h = refl

-- ---- the entry at a place

pub bytes_past : (es : List Entry) (i : ℕ) → length es ≤ i → entry_bytes es i ≡ []
bytes_past [] i h = refl
bytes_past (e ∷ es) zero h = absurd (omega arith)
bytes_past (e ∷ es) (suc i) h = bytes_past es i (omega arith)

pub bytes_here : (es : List Entry) (i : ℕ) (d : Entry) → i < length es → entry_bytes es i ≡ (get_or es i d).bytes.items
bytes_here [] i d h = absurd (omega arith)
bytes_here (e ∷ es) zero d h = refl
bytes_here (e ∷ es) (suc i) d h = bytes_here es i d (omega arith)

-- ---- looking for a name

head_other : (e : Entry) (es : List Entry) (name : List ℕ) → bytes_eq (string_bytes e.name) name ≡ false → held_in (e ∷ es) name ≡ held_in es name
head_other e es name h = ap (λ b. if b then Some e.bytes.items else held_in es name) h

head_same : (e : Entry) (es : List Entry) (name : List ℕ) → bytes_eq (string_bytes e.name) name ≡ true → held_in (e ∷ es) name ≡ Some e.bytes.items
head_same e es name h = ap (λ b. if b then Some e.bytes.items else held_in es name) h

-- an entry that no look-up finds has another name
not_held : (e : Entry) (es : List Entry) (name : List ℕ) → held_in (e ∷ es) name ≡ None → bytes_eq (string_bytes e.name) name ≡ false
not_held e es name h = cases (bytes_eq (string_bytes e.name) name) h
  where
    cases : (b : Bool) → (if b then Some e.bytes.items else held_in es name) ≡ None → b ≡ false
    cases true h = absurd (cc)
    cases false h = refl

-- the entry at the place has another name too
another_name_suc : (es : List Entry) (i : ℕ) (d : Entry) (name : List ℕ) → i < length es → bytes_eq (string_bytes (get_or es i d).name) name ≡ false →
    held_in (take i es) name ≡ None → held_in (take (suc i) es) name ≡ None
another_name_suc [] i d name h differs before = absurd (omega arith)
another_name_suc (e ∷ es) zero d name h differs before = head_other e [] name differs
another_name_suc (e ∷ es) (suc i) d name h differs before =
    let other = not_held e (take i es) name before in
    head_other e (take (suc i) es) name other ∙ another_name_suc es i d name (omega arith) differs (sym (head_other e (take i es) name other) ∙ before)

pub another_name : (es : List Entry) (i : ℕ) (d : Entry) (name : List ℕ) → i < length es → bytes_eq (string_bytes (get_or es i d).name) name ≡ false →
    held_in (take i es) name ≡ None → held_in (take (i + 1) es) name ≡ None
another_name es i d name h differs before = rw add-one (another_name_suc es i d name h differs before)

pub place_found : (es : List Entry) (i : ℕ) (d : Entry) (name : List ℕ) → i < length es → bytes_eq (string_bytes (get_or es i d).name) name ≡ true →
    held_in (take i es) name ≡ None → IsPlaceOf name es i
place_found [] i d name h same before = absurd (omega arith)
place_found (e ∷ es) zero d name h same before = same_name (string_bytes e.name) name same
place_found (e ∷ es) (suc i) d name h same before =
    let differs = not_held e (take i es) name before in
    (differs, place_found es i d name (omega arith) same (sym (head_other e (take i es) name differs) ∙ before))

pub place_held : (es : List Entry) (i : ℕ) (name : List ℕ) → IsPlaceOf name es i → held_in es name ≡ Some (entry_bytes es i)
place_held [] i name p = absurd p
place_held (e ∷ es) zero name p = head_same e es name (same_bytes (string_bytes e.name) name p)
place_held (e ∷ es) (suc i) name p = head_other e es name p.0 ∙ place_held es i name p.1

pub all_others : (es : List Entry) (i : ℕ) (name : List ℕ) → length es ≤ i → held_in (take i es) name ≡ None → held_in es name ≡ None
all_others es i name h before = ap (λ t. held_in t name) (sym (take_all i es h)) ∙ before

-- ---- putting bytes under a name

pub put_there : (es : List Entry) (i : ℕ) (e : Entry) (name : List ℕ) → IsPlaceOf name es i → string_bytes e.name ≡ name → held_in (set es i e) name ≡ Some e.bytes.items
put_there [] i e name p n = absurd p
put_there (x ∷ es) zero e name p n = head_same e es name (same_bytes (string_bytes e.name) name n)
put_there (x ∷ es) (suc i) e name p n = head_other x (set es i e) name p.0 ∙ put_there es i e name p.1 n

pub put_leaves : (es : List Entry) (i : ℕ) (e : Entry) (name other : List ℕ) → IsPlaceOf name es i → string_bytes e.name ≡ name → (other ≡ name → ⊥) →
    held_in (set es i e) other ≡ held_in es other
put_leaves [] i e name other p n differs = absurd p
put_leaves (x ∷ es) zero e name other p n differs =
    head_other e es other (other_bytes (string_bytes e.name) other (λ same. differs (sym same ∙ n)))
    ∙ sym (head_other x es other (other_bytes (string_bytes x.name) other (λ same. differs (sym same ∙ p))))
put_leaves (x ∷ es) (suc i) e name other p n differs =
    ap (λ found. if bytes_eq (string_bytes x.name) other then Some x.bytes.items else found) (put_leaves es i e name other p.1 n differs)

pub place_name : (es : List Entry) (i : ℕ) (d : Entry) (name : List ℕ) → IsPlaceOf name es i → string_bytes (get_or es i d).name ≡ name
place_name [] i d name p = absurd p
place_name (e ∷ es) zero d name p = p
place_name (e ∷ es) (suc i) d name p = place_name es i d name p.1

pub pushed_there : (es : List Entry) (e : Entry) (name : List ℕ) → held_in es name ≡ None → string_bytes e.name ≡ name → held_in (es ++ e ∷ []) name ≡ Some e.bytes.items
pushed_there [] e name none n = head_same e [] name (same_bytes (string_bytes e.name) name n)
pushed_there (x ∷ es) e name none n =
    let differs = not_held x es name none in
    head_other x (es ++ e ∷ []) name differs ∙ pushed_there es e name (sym (head_other x es name differs) ∙ none) n

pub pushed_leaves : (es : List Entry) (e : Entry) (name other : List ℕ) → string_bytes e.name ≡ name → (other ≡ name → ⊥) →
    held_in (es ++ e ∷ []) other ≡ held_in es other
pushed_leaves [] e name other n differs = head_other e [] other (other_bytes (string_bytes e.name) other (λ same. differs (sym same ∙ n)))
pushed_leaves (x ∷ es) e name other n differs =
    ap (λ found. if bytes_eq (string_bytes x.name) other then Some x.bytes.items else found) (pushed_leaves es e name other n differs)

-- ---- the most bytes that were read of a name

abbrev most_of_entry : Entry → List ℕ → ℕ
most_of_entry e name = if bytes_eq (string_bytes e.name) name then e.most else 0

pub place_named : (es : List Entry) (i : ℕ) (name : List ℕ) → IsPlaceOf name es i → name_at es (Some i) ≡ Some name
place_named [] i name p = absurd p
place_named (e ∷ es) zero name p = ap Some p
place_named (e ∷ es) (suc i) name p = place_named es i name p.1

-- other bytes under the name of an entry leave what was read of it
pub put_leaves_most : (es : List Entry) (i : ℕ) (d e : Entry) (other : List ℕ) → string_bytes e.name ≡ string_bytes (get_or es i d).name → e.most ≡ (get_or es i d).most → i < length es →
    most_in (set es i e) other ≡ most_in es other
put_leaves_most [] i d e other n c h = absurd (omega arith)
put_leaves_most (x ∷ es) zero d e other n c h = ap (λ m. max m (most_in es other)) (ap (λ t. if bytes_eq t other then e.most else 0) n ∙ ap (λ t. if bytes_eq (string_bytes x.name) other then t else 0) c)
put_leaves_most (x ∷ es) (suc i) d e other n c h = ap (max (most_of_entry x other)) (put_leaves_most es i d e other n c (omega arith))

pub pushed_leaves_most : (es : List Entry) (e : Entry) (other : List ℕ) → e.most ≡ 0 → most_in (es ++ e ∷ []) other ≡ most_in es other
pushed_leaves_most [] e other none = cases (bytes_eq (string_bytes e.name) other)
  where
    cases : (b : Bool) → max (if b then e.most else 0) 0 ≡ 0
    cases true = omega (arith, none)
    cases false = omega arith
pushed_leaves_most (x ∷ es) e other none = ap (max (most_of_entry x other)) (pushed_leaves_most es e other none)

-- an entry that differs from the one at the place in what was read of it alone
pub record IsNoted (es : List Entry) (i : ℕ) (d e : Entry) : Type 0 where
  pub name : string_bytes e.name ≡ string_bytes (get_or es i d).name
  pub bytes : e.bytes.items ≡ (get_or es i d).bytes.items

noted_named : (es : List Entry) (i : ℕ) (d e : Entry) → i < length es → IsNoted es i d e → map named (set es i e) ≡ map named es
noted_named [] i d e h n = absurd (omega arith)
noted_named (x ∷ es) zero d e h n = ap (λ t. (t, e.bytes.items) ∷ map named es) n.name ∙ ap (λ t. (string_bytes x.name, t) ∷ map named es) n.bytes
noted_named (x ∷ es) (suc i) d e h n = ap (λ t. named x ∷ t) (noted_named es i d e (omega arith) (record { name = n.name; bytes = n.bytes }))

pub noted_held : (es : List Entry) (i : ℕ) (d e : Entry) → i < length es → IsNoted es i d e → held_in (set es i e) ≡ held_in es
noted_held es i d e h n = ap first_under (noted_named es i d e h n)

pub noted_bytes : (es : List Entry) (i : ℕ) (d e : Entry) → i < length es → IsNoted es i d e → bytes_at (set es i e) (Some i) ≡ bytes_at es (Some i)
noted_bytes [] i d e h n = absurd (omega arith)
noted_bytes (x ∷ es) zero d e h n = n.bytes
noted_bytes (x ∷ es) (suc i) d e h n = noted_bytes es i d e (omega arith) (record { name = n.name; bytes = n.bytes })

pub noted_name : (es : List Entry) (i : ℕ) (d e : Entry) → i < length es → IsNoted es i d e → name_at (set es i e) (Some i) ≡ name_at es (Some i)
noted_name [] i d e h n = absurd (omega arith)
noted_name (x ∷ es) zero d e h n = ap Some n.name
noted_name (x ∷ es) (suc i) d e h n = noted_name es i d e (omega arith) (record { name = n.name; bytes = n.bytes })

pub noted_most : (es : List Entry) (i : ℕ) (d e : Entry) (count : ℕ) (name : List ℕ) → i < length es → IsNoted es i d e → e.most ≡ max (get_or es i d).most count →
    most_in (set es i e) name ≡ most_with (name_at es (Some i)) count (most_in es) name
noted_most [] i d e count name h n m = absurd (omega arith)
noted_most (x ∷ es) zero d e count name h n m = ap (λ t. max (if bytes_eq t name then e.most else 0) (most_in es name)) n.name ∙ cases (bytes_eq (string_bytes x.name) name)
  where
    cases : (b : Bool) → max (if b then e.most else 0) (most_in es name) ≡ (if b then max (max (if b then x.most else 0) (most_in es name)) count else max (if b then x.most else 0) (most_in es name))
    cases true = omega (arith, m)
    cases false = refl
noted_most (x ∷ es) (suc i) d e count name h n m =
    ap (max (most_of_entry x name)) (noted_most es i d e count name (omega arith) (record { name = n.name; bytes = n.bytes }) m) ∙ below (name_at es (Some i))
  where
    cases : (b : Bool) → max (most_of_entry x name) (if b then max (most_in es name) count else most_in es name) ≡ (if b then max (max (most_of_entry x name) (most_in es name)) count else max (most_of_entry x name) (most_in es name))
    cases true = omega arith
    cases false = refl

    below : (current : Option (List ℕ)) → max (most_of_entry x name) (most_with current count (most_in es) name) ≡ most_with current count (most_in (x ∷ es)) name
    below None = refl
    below (Some o) = cases (bytes_eq o name)

-- nothing is noted where no entry is at the place
pub no_name_past : (es : List Entry) (i : ℕ) → length es ≤ i → name_at es (Some i) ≡ None
no_name_past [] i h = refl
no_name_past (e ∷ es) zero h = absurd (omega arith)
no_name_past (e ∷ es) (suc i) h = no_name_past es i (omega arith)

pub nothing_noted : (es : List Entry) (i count : ℕ) (name : List ℕ) → length es ≤ i → most_in es name ≡ most_with (name_at es (Some i)) count (most_in es) name
nothing_noted es i count name h = ap (λ current. most_with current count (most_in es) name) (sym (no_name_past es i h))

-- ---- what is to come

pub nothing_past : (bytes : List ℕ) (at : ℕ) → length bytes ≤ at → drop at bytes ≡ []
nothing_past bytes at h = at_drop_all (λ xs. xs) bytes at h

drop_drop : (bytes : List ℕ) (at count : ℕ) → drop count (drop at bytes) ≡ drop (at + count) bytes
drop_drop [] at count = ap (λ t. drop count t) (nothing_past [] at (omega arith)) ∙ nothing_past [] count (omega arith) ∙ sym (nothing_past [] (at + count) (omega arith))
drop_drop (b ∷ bytes) zero count = ap (λ n. drop n (b ∷ bytes)) (sym (zero-add count))
drop_drop (b ∷ bytes) (suc at) count = drop_drop bytes at count ∙ ap (λ n. drop n (b ∷ bytes)) (sym (suc-add at count))

-- what is to come is the piece, and what is then to come
pub first_then_rest : (bytes : List ℕ) (at count : ℕ) → drop at bytes ≡ take count (drop at bytes) ++ drop (at + count) bytes
first_then_rest bytes at count = sym (take-append-drop count (drop at bytes)) ∙ ap (λ t. take count (drop at bytes) ++ t) (drop_drop bytes at count)

-- the first bytes of the rest stand in the piece
pub piece_then_rest : (bytes rest piece : List ℕ) (at count : ℕ) → rest ≡ drop at bytes → take count piece ≡ take count rest → drop at bytes ≡ take count piece ++ drop (at + count) bytes
piece_then_rest bytes rest piece at count from same = first_then_rest bytes at count ∙ ap (λ t. t ++ drop (at + count) bytes) (sym (same ∙ ap (take count) from))

-- nothing is left where nothing was put into a piece with space
pub nothing_left : (bytes rest piece : List ℕ) (at count : ℕ) → rest ≡ drop at bytes → count ≡ min (length rest) (length piece) → count ≡ 0 → 0 < length piece → drop at bytes ≡ []
nothing_left bytes rest piece at count from is none space = sym from ∙ empty rest (omega (arith, is, none, space))
  where
    empty : (rest : List ℕ) → length rest ≡ 0 → rest ≡ []
    empty [] h = refl
    empty (b ∷ rest) h = absurd (omega (arith, h))

pub whole_rest : (bytes : List ℕ) (at : ℕ) → take (length bytes - at) (drop at bytes) ≡ drop at bytes
whole_rest bytes at = take_rest bytes at
