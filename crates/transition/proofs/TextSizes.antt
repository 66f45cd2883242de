-- The bytes of a log's text, and those of a set that is within its logs.
use Rattle.std.proofs.Common.{◌≡◌, ℕ, zero, suc, ◌+◌, ◌/◌, ◌%◌, ◌<◌, ◌≤◌, Bool, true, false, List, [], ◌∷◌, ◌++◌, map, refl, sym, ap, subst, ◌∙◌, arith, length, length-append, decimal, eqb-true, eqb, codes, ◌⊎◌, inl, inr, ⊎_elim}
use mathlib.Core.Path.{fun_ext}
use Rattle.std.specs.Prelude.{if◌then◌else◌}
use Rattle.std.specs.Fmt.{digit_glyph, digits, digits_onto}
use Rattle.std.specs.List.{sum_by, flat_map}
use Rattle.std.proofs.lemmas.List.Concat.{length-flat_map}
use Rattle.sync_command.specs.Changes.{Change, change_text}
use Rattle.sync_command.specs.declared.values.Version.{Version}
use Rattle.sync_command.specs.declared.values.Version.TheVariants.{One, Two}
use Rattle.log_text.specs.Frame.{ended}
use Rattle.log_text.specs.Logs.{log_first, log_text}
use Rattle.transition.specs.Limits.{lines_size, IsWithinLogs}
use Rattle.transition.proofs.Weights.{weigh, weigh_is, weigh-map}

-- ---- the digits of a number

-- how many digits are written of a number, at most k
abbrev places : ℕ → ℕ → ℕ
places zero n = 0
places (suc k) n = if eqb (n / 10) 0 then 1 else 1 + places k (n / 10)

length-onto : (k n : ℕ) (after : List ℕ) → length (digits_onto k 10 false n after) ≡ places k n + length after
length-onto zero n after = omega arith
length-onto (suc k) n after = go (eqb (n / 10) 0) (length-onto k (n / 10) (digit ∷ after))
  where
    digit : ℕ
    digit = digit_glyph false (n % 10)

    go : (b : Bool) → length (digits_onto k 10 false (n / 10) (digit ∷ after)) ≡ places k (n / 10) + length (digit ∷ after) →
        length (if b then digit ∷ after else digits_onto k 10 false (n / 10) (digit ∷ after)) ≡ (if b then 1 else 1 + places k (n / 10)) + length after
    go true ih = omega arith
    go false ih = omega arith

some_places : (k n : ℕ) → 1 ≤ places (suc k) n
some_places k n = go (eqb (n / 10) 0)
  where
    go : (b : Bool) → 1 ≤ (if b then 1 else 1 + places k (n / 10))
    go true = omega arith
    go false = omega arith

no_more : (k n : ℕ) → places (suc k) n ≤ 1 + places k (n / 10)
no_more k n = go (eqb (n / 10) 0)
  where
    go : (b : Bool) → (if b then 1 else 1 + places k (n / 10)) ≤ 1 + places k (n / 10)
    go true = omega arith
    go false = omega arith

places_rise : (k m n : ℕ) → m ≤ n → places k m ≤ places k n
places_rise zero m n le = omega arith
places_rise (suc k) m n le = go (eqb (m / 10) 0) (eqb (n / 10) 0) (eqb-true (n / 10) 0) (zero_is m) (places_rise k (m / 10) (n / 10) (omega arith))
  where
    zero_is : (m : ℕ) → m / 10 ≡ 0 → eqb (m / 10) 0 ≡ true
    zero_is m e = ap (λ x. eqb x 0) e

    go : (a b : Bool) → (b ≡ true → n / 10 ≡ 0) → (m / 10 ≡ 0 → a ≡ true) → places k (m / 10) ≤ places k (n / 10) →
        (if a then 1 else 1 + places k (m / 10)) ≤ (if b then 1 else 1 + places k (n / 10))
    go true true none own ih = omega arith
    go true false none own ih = omega arith
    go false true none own ih = let h = none refl in let e = own (omega arith) in cc (e)
    go false false none own ih = omega arith

places_deepen : (k n : ℕ) → places k n ≤ places (suc k) n
places_deepen zero n = omega arith
places_deepen (suc k) n = go (eqb (n / 10) 0) (places_deepen k (n / 10))
  where
    go : (b : Bool) → places k (n / 10) ≤ places (suc k) (n / 10) → (if b then 1 else 1 + places k (n / 10)) ≤ (if b then 1 else 1 + places (suc k) (n / 10))
    go true ih = omega arith
    go false ih = omega arith

places-add : (k m n : ℕ) → places (suc k) (m + n) ≤ places (suc k) m + places (suc k) n
places-add k m n = ⊎_elim
    (λ le. below m n le (m + n) (omega arith))
    (λ le. let h = below n m le (m + n) (omega arith) in omega arith)
    (order m n)
  where
    below : (a b : ℕ) → a ≤ b → (s : ℕ) → s ≡ a + b → places (suc k) s ≤ places (suc k) a + places (suc k) b
    below a b le s e = omega (arith, no_more k s, places_rise k (s / 10) b (omega arith), places_deepen k b, some_places k a)

    order : (a b : ℕ) → (a ≤ b) ⊎ (b ≤ a)
    order zero b = inl (omega arith)
    order (suc a) zero = inr (omega arith)
    order (suc a) (suc b) = ⊎_elim (λ h. inl (omega arith)) (λ h. inr (omega arith)) (order a b)

length-decimal : (n : ℕ) → length (decimal n) ≡ places 64 n
unfolding digits
length-decimal n = length-onto 64 n [] ∙ omega arith

decimal_rises : (m n : ℕ) → m ≤ n → length (decimal m) ≤ length (decimal n)
decimal_rises m n le = by_places (length-decimal m) (length-decimal n) (places_rise 64 m n le)
  where
    by_places : {a b c d : ℕ} → a ≡ c → b ≡ d → c ≤ d → a ≤ b
    by_places e g h = omega arith

decimal-add : (m n : ℕ) → length (decimal (m + n)) ≤ length (decimal m) + length (decimal n)
decimal-add m n = sums (length-decimal (m + n)) (length-decimal m) (length-decimal n) (places-add 63 m n)
  where
    sums : {a b c x y z : ℕ} → a ≡ x → b ≡ y → c ≡ z → x ≤ y + z → a ≤ b + c
    sums e g h le = omega arith

-- ---- texts

-- the bytes of a text with so many bytes of lines and so many commands
text_size : ℕ → ℕ → ℕ
text_size bytes commands = 15 + (bytes + length (decimal commands))

length-log_text : (version : Version) (cs : List Change) → length (log_text version cs) ≡ text_size (lines_size cs) (length cs)
unfolding log_text text_size
length-log_text version cs = framed (log_first version) (flat_map (λ c. ended (change_text c)) cs) (decimal (length cs)) (first_line version)
    ∙ ap (λ n. 15 + (n + length (decimal (length cs)))) (length-flat_map (λ c. ended (change_text c)) cs ∙ ap (λ f. sum_by f cs) (fun_ext (λ c. length-append (change_text c) (10 ∷ []))))
  where
    first_line : (v : Version) → length (log_first v) ≡ 9
    first_line One = refl
    first_line Two = refl

    framed : (first lines number : List ℕ) → length first ≡ 9 → length (ended first ++ (lines ++ ended (codes "end " ++ number))) ≡ 15 + (length lines + length number)
    framed first lines number e = simp length-append (omega arith)

texts_weigh : {X : Type 0} (g h : X → ℕ) (x : X) (xs : List X) → text_size (weigh g (x ∷ xs)) (weigh h (x ∷ xs)) ≤ weigh (λ y. text_size (g y) (h y)) (x ∷ xs)
unfolding text_size
texts_weigh g h x [] = omega (arith, decimal_rises (h x + 0) (h x) (omega arith))
texts_weigh g h x (y ∷ ys) = omega (arith, texts_weigh g h y ys, decimal-add (h x) (weigh h (y ∷ ys)))

text_rises : (a b m n : ℕ) → a ≤ b → m ≤ n → text_size a m ≤ text_size b n
unfolding text_size
text_rises a b m n le few = omega (arith, decimal_rises m n few)

-- A set within its logs has a text no longer than theirs together, in whatever versions, where there is a log.
pub text_within : {X : Type 0} (version_of : X → Version) (commands_of : X → List Change) (logs : List X) → 0 < length logs →
    (version : Version) (set : List Change) → IsWithinLogs (map commands_of logs) set →
    length (log_text version set) ≤ sum_by (λ log. length (log_text (version_of log) (commands_of log))) logs
text_within version_of commands_of [] some version set within = absurd (omega arith)
text_within {X} version_of commands_of (x ∷ xs) some version set within =
    let logs = x ∷ xs in
    let bytes : lines_size set ≤ weigh (λ log. lines_size (commands_of log)) logs =
    subst (λ n. lines_size set ≤ n) (sym (weigh_is lines_size (map commands_of logs)) ∙ weigh-map commands_of lines_size logs) within.bytes in
    let commands : length set ≤ weigh (λ log. length (commands_of log)) logs =
    subst (λ n. length set ≤ n) (sym (weigh_is (λ log. length log) (map commands_of logs)) ∙ weigh-map commands_of (λ log. length log) logs) within.commands in
    let rises = text_rises (lines_size set) (weigh (λ log. lines_size (commands_of log)) logs) (length set) (weigh (λ log. length (commands_of log)) logs) bytes commands in
    let all = texts_weigh (λ log. lines_size (commands_of log)) (λ log. length (commands_of log)) x xs in
    let sizes : weigh (λ log. text_size (lines_size (commands_of log)) (length (commands_of log))) logs ≡ sum_by (λ log. length (log_text (version_of log) (commands_of log))) logs =
    ap (λ f. weigh f logs) (fun_ext (λ log. sym (length-log_text (version_of log) (commands_of log)))) ∙ weigh_is (λ log. length (log_text (version_of log) (commands_of log))) logs in
    omega (arith, length-log_text version set)

least_size : text_size 0 0 ≤ 16
unfolding text_size digits
least_size = omega arith

-- within a limit that the texts of the logs together keep to
pub text_within_limit : {X : Type 0} (version_of : X → Version) (commands_of : X → List Change) (logs : List X) (limit : ℕ) → 16 ≤ limit →
    sum_by (λ log. length (log_text (version_of log) (commands_of log))) logs ≤ limit → (version : Version) (set : List Change) → IsWithinLogs (map commands_of logs) set →
    length (log_text version set) ≤ limit
text_within_limit version_of commands_of [] limit least le version set within =
    omega (arith, length-log_text version set, text_rises (lines_size set) 0 (length set) 0 within.bytes within.commands, least_size)
text_within_limit version_of commands_of (x ∷ xs) limit least le version set within = omega (arith, text_within version_of commands_of (x ∷ xs) (omega arith) version set within)

-- the same of the number of commands
pub commands_within : {X : Type 0} (commands_of : X → List Change) (logs : List X) (set : List Change) → IsWithinLogs (map commands_of logs) set → length set ≤ sum_by (λ log. length (commands_of log)) logs
commands_within commands_of logs set within =
    subst (λ n. length set ≤ n) (sym (weigh_is (λ log. length log) (map commands_of logs)) ∙ weigh-map commands_of (λ log. length log) logs ∙ weigh_is (λ log. length (commands_of log)) logs) within.commands
