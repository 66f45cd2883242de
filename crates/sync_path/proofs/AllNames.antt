-- The quick test of names, and the separators between them.
use Rattle.std.proofs.Common.{◌≡◌, ◌&&◌, ℕ, zero, suc, ◌+◌, ◌≤◌, true, false, not, IsTrue, List, [], ◌∷◌, ◌++◌, length, take, drop, get_or, count_by, sym, refl, ap, ◌∙◌, subst, ⊎_elim, arith, cond, nat_eq, nat_lt, append_assoc, length-append, None}
use Rattle.std.specs.List.{starts_with, join_with_byte, AllByRecursion, list_any}
use Rattle.std.proofs.Common.{eqb}
use Rattle.std.specs.Str.{is_utf8, IsUtf8, IsAscii, IsCharBoundary}
use Rattle.std.proofs.lemmas.Bool.{cases_Bool}
use Rattle.std.proofs.lemmas.Bool.Decides.{nat_tests}
use Rattle.std.proofs.lemmas.List.Sums.{sum_by-append, sum_by-cons}
use Rattle.std.proofs.lemmas.Str.{IsUtf8-nil, IsUtf8-append, IsUtf8-from_ascii, IsUtf8-from_is_utf8, IsUtf8-take, IsUtf8-drop, IsCharBoundary-after_ascii, is_utf8-from_IsUtf8}
use Rattle.std.proofs.Math.Seq.{take-append_seam, drop-append_seam, get_or-append_seam}
use Rattle.sync_path.specs.Names.{is_name, is_short, is_unreserved, is_dots, own_prefix, has_slash_or_nul}
use Rattle.sync_path.specs.Paths.{Node, parts, names_in, IsPath}
use Rattle.sync_path.specs.Reading.{first_fault, fault_of}
use Rattle.sync_path.proofs.Cuts.{length-parts, joined_again}
use Rattle.sync_path.proofs.TextLaws.{both_true, name_utf8}

-- ---- a name between slashes

abbrev count : ℕ → List ℕ → ℕ
count separator xs = count_by (λ b. nat_eq b separator) xs

count-cons : (separator x : ℕ) (xs : List ℕ) → count separator (x ∷ xs) ≡ cond (nat_eq x separator) 1 0 + count separator xs
count-cons separator x xs = sum_by-cons (λ b. cond (nat_eq b separator) 1 0) x xs

count_cut : (separator k : ℕ) (a b : List ℕ) → count separator (a ++ k ∷ b) ≡ count separator a + (cond (nat_eq k separator) 1 0 + count separator b)
count_cut separator k a b = sum_by-append (λ b. cond (nat_eq b separator) 1 0) a (k ∷ b) ∙ ap (λ n. count separator a + n) (count-cons separator k b)

not_counted : (separator x : ℕ) (xs : List ℕ) → count separator (x ∷ xs) ≡ 0 → (nat_eq x separator ≡ false) × (count separator xs ≡ 0)
not_counted separator x xs h =
    let e = sym (count-cons separator x xs) ∙ h in
    ⊎_elim
    (λ (t : nat_eq x separator ≡ true). let k = rw t at e in absurd (omega (arith, k)))
    (λ (f : nat_eq x separator ≡ false). let k = rw f at e in (f, omega (arith, k)))
    (cases_Bool (nat_eq x separator))

-- what is found nowhere is counted nowhere
pub none_counted : (separator : ℕ) (xs : List ℕ) → list_any (λ b. nat_eq b separator) xs ≡ false → count_by (λ b. nat_eq b separator) xs ≡ 0
none_counted separator [] h = refl
none_counted separator (x ∷ xs) h =
    ⊎_elim
    (λ (t : nat_eq x separator ≡ true). absurd (cc (rw t at h)))
    (λ (f : nat_eq x separator ≡ false). let rest = none_counted separator xs (rw f at h) in count-cons separator x xs ∙ rw (f, rest) refl)
    (cases_Bool (nat_eq x separator))

no_slashes : (name : List ℕ) → count 0 name ≡ 0 → count 47 name ≡ 0 → has_slash_or_nul name ≡ false
no_slashes [] h g = refl
no_slashes (x ∷ name) h g = let a = not_counted 0 x name h in let b = not_counted 47 x name g in rw (a.0, b.0) (no_slashes name a.1 b.1)

-- a part has no slash in it
part_clear : (rest name : List ℕ) (more : List ℕ) → rest ≡ name ++ 47 ∷ more → parts 47 rest ≡ name ∷ parts 47 more → count 47 name ≡ 0
part_clear rest name more e p =
    let whole = length-parts 47 rest in
    let left = length-parts 47 more in
    let cut = ap (count 47) e ∙ count_cut 47 47 name more in
    omega (arith, ap length p, whole, left, cut)

last_clear : (rest name : List ℕ) → rest ≡ name → parts 47 rest ≡ name ∷ [] → count 47 name ≡ 0
last_clear rest name e p = let whole = length-parts 47 rest in omega (arith, ap length p, whole, ap (count 47) e)

is_name_from_parts : (name : List ℕ) → length name ≤ 255 → is_unreserved name ≡ true → has_slash_or_nul name ≡ false → is_utf8 name ≡ true → is_name name ≡ true
unfolding is_name
is_name_from_parts name short allowed slash text =
    let s : is_short name ≡ true = grind (arith, nat_tests) in
    let one = both_true (nat_lt 0 (length name) && not (is_dots name)) (not (starts_with eqb name own_prefix)) allowed in
    let two = both_true (nat_lt 0 (length name)) (not (is_dots name)) one.0 in
    rw (slash, two.0, s, two.1, one.1, text) refl

utf8_first : (rest name more : List ℕ) → rest ≡ name ++ 47 ∷ more → IsUtf8 rest → IsUtf8 name
utf8_first rest name more e u =
    let l = ap length e ∙ length-append name (47 ∷ more) in
    let at : get_or rest (length name) 0 ≡ 47 = ap (λ x. get_or x (length name) 0) e ∙ get_or-append_seam name 47 more 0 in
    let seam : IsCharBoundary rest (length name) = (omega (arith, l), λ h g. absurd (omega (arith, at, g))) in
    subst IsUtf8 (ap (take (length name)) e ∙ take-append_seam name (47 ∷ more)) (IsUtf8-take rest (length name) u seam)

utf8_rest : (rest name more : List ℕ) → rest ≡ name ++ 47 ∷ more → IsUtf8 rest → IsUtf8 more
utf8_rest rest name more e u =
    let l = ap length e ∙ length-append name (47 ∷ more) in
    let at : get_or rest (length name) 0 ≡ 47 = ap (λ x. get_or x (length name) 0) e ∙ get_or-append_seam name 47 more 0 in
    let seam = IsCharBoundary-after_ascii rest (length name) u (omega (arith, l)) (omega (arith, at)) in
    let n : length (name ++ 47 ∷ []) ≡ length name + 1 = length-append name (47 ∷ []) in
    let cut : drop (length name + 1) rest ≡ more = rw (e, ← n, ← append_assoc name (47 ∷ []) more) (drop-append_seam (name ++ 47 ∷ []) more) in
    subst IsUtf8 cut (IsUtf8-drop rest (length name + 1) u seam)

-- ---- the quick test

pub record IsClean (rest bytes : List ℕ) : Type 0 where
  pub same : first_fault (parts 47 rest) ≡ first_fault (parts 47 bytes)
  pub text : IsUtf8 rest
  pub clear : count_by (λ b. nat_eq b 0) rest ≡ 0

pub first_is_name : (rest name more bytes : List ℕ) → IsClean rest bytes → rest ≡ name ++ 47 ∷ more → parts 47 rest ≡ name ∷ parts 47 more
    → length name ≤ 255 → is_unreserved name ≡ true → IsClean more bytes
first_is_name rest name more bytes h e p short allowed =
    let cut = ap (count 0) e ∙ count_cut 0 47 name more in
    let named = is_name_from_parts name short allowed (no_slashes name (omega (arith, cut, h.clear)) (part_clear rest name more e p)) (is_utf8-from_IsUtf8 name (utf8_first rest name more e h.text)) in
    record {
      same = sym (ap first_fault p ∙ rw named refl) ∙ h.same;
      text = utf8_rest rest name more e h.text;
      clear = omega (arith, cut, h.clear);
    }

pub last_is_name : (rest name bytes : List ℕ) → IsClean rest bytes → rest ≡ name → parts 47 rest ≡ name ∷ []
    → length name ≤ 255 → is_unreserved name ≡ true → first_fault (parts 47 bytes) ≡ None
last_is_name rest name bytes h e p short allowed =
    let named = is_name_from_parts name short allowed (no_slashes name (sym (ap (count 0) e) ∙ h.clear) (last_clear rest name e p)) (is_utf8-from_IsUtf8 name (subst IsUtf8 e h.text)) in
    sym h.same ∙ ap first_fault p ∙ rw named refl

-- at most 64 names, none of them at fault
pub within_depth : (ns : Node) → length ns ≤ 64 → first_fault ns ≡ None → None ≡ fault_of ns
within_depth ns few none = let f : nat_lt 64 (length ns) ≡ false = grind (arith, nat_tests) in rw f (sym none)

-- ---- a buffer is text

nul_ascii : IsAscii (0 ∷ [])
nul_ascii zero = omega arith
nul_ascii (suc i) = omega arith

names_text : (p : Node) → AllByRecursion (λ n. IsTrue (is_name n)) p → IsUtf8 (join_with_byte 0 p)
names_text [] h = IsUtf8-nil
names_text (n ∷ []) (t, h) = IsUtf8-from_is_utf8 n (name_utf8 n t)
names_text (n ∷ m ∷ p) (t, h) =
    IsUtf8-append n (0 ∷ join_with_byte 0 (m ∷ p)) (IsUtf8-from_is_utf8 n (name_utf8 n t))
    (IsUtf8-append (0 ∷ []) (join_with_byte 0 (m ∷ p)) (IsUtf8-from_ascii (0 ∷ []) nul_ascii) (names_text (m ∷ p) h))

pub buffer_text : (buffer : List ℕ) → IsPath (names_in buffer) → IsUtf8 buffer
buffer_text buffer h = subst IsUtf8 (joined_again buffer) (names_text (names_in buffer) h.each)
