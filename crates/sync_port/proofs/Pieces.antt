-- One more write of a text, and one more piece of a file.
use Rattle.std.proofs.Common.{◌≡◌, ℕ, List, [], ◌+◌, ◌++◌, ◌≤◌, Bool, true, false, take, drop, length, max, length-append, length-take, Some, Ok, Option, ap, ◌∙◌, sym, subst, take-add, arith, if◌then◌else◌}
use Rattle.std.proofs.lemmas.List.{append_assoc}
use Rattle.sync_port.specs.States.{IfBoth, next_number}
use Rattle.std.specs.Str.{bytes_eq}
use Rattle.sync_port.specs.Ports.{FileContents, SinkContents, Opens, Reads, Writes, most_with}
use Rattle.sync_port.specs.Whole.{of_name}
use Rattle.sync_port.proofs.Known.{both_more, both_then}

-- one more write of what is left
pub sends_more : (before mid after : Option SinkContents) (bytes : List ℕ) (sent n : ℕ) →
    IfBoth before mid (λ m k. (k.written ≡ m.written ++ take sent bytes) × (k.flushed ≡ m.flushed)) →
    IfBoth mid after (Writes (drop sent bytes) (Ok n)) →
    IfBoth before after (λ m k. (k.written ≡ m.written ++ take (sent + n) bytes) × (k.flushed ≡ m.flushed))
sends_more before mid after bytes sent n h w = both_then before mid after h w (λ m k j p q. (
  q.0 ∙ ap (λ t. t ++ take n (drop sent bytes)) p.0 ∙ append_assoc m.written (take sent bytes) (take n (drop sent bytes))
      ∙ ap (λ t. m.written ++ t) (sym (take-add sent n bytes)),
  q.1 ∙ p.1,
))

-- ---- pieces of a file

-- these bytes were read of the file since it was opened
pub record HasRead (name read : List ℕ) (m k : FileContents) : Type 0 where
  pub held : k.held ≡ m.held
  pub current : k.current ≡ Some name
  pub bytes : m.held name ≡ Some (read ++ k.to_come)
  pub opened : k.opened ≡ next_number m.opened
  pub taken : k.taken ≤ m.taken + length read
  pub since_open : k.since_open ≤ length read
  pub most : (other : List ℕ) → k.most other ≤ max (m.most other) (of_name name (length read) other)

most_grows : (most count now : ℕ) (same : Bool) → count ≤ now → (if same then max most count else most) ≤ (if same then max most now else most)
most_grows most count now true h = omega (arith, h)
most_grows most count now false h = omega arith

-- what is counted of a name after one more piece
most_more : (name other : List ℕ) (before mid read now : ℕ) (same : Bool) → mid ≤ max before (if same then read else 0) → read ≤ now →
    (if same then max mid now else mid) ≤ max before (if same then now else 0)
most_more name other before mid read now true h w = omega (arith, h, w)
most_more name other before mid read now false h w = omega (arith, h)

pub nothing_read : {T : Type 0} (a b : Option FileContents) (name : List ℕ) (done : T) → IfBoth a b (Opens name (Ok done)) → IfBoth a b (HasRead name [])
nothing_read a b name done h = both_more a b h (λ m k p. record {
  held = p.held;
  current = p.file.1;
  bytes = p.file.0;
  opened = p.opened;
  taken = omega (arith, p.taken);
  since_open = omega (arith, p.since_open);
  most = λ other. omega (arith, ap (λ most. most other) p.most);
})

pub more_read : (a b c : Option FileContents) (name read buffer now : List ℕ) (count : ℕ) → count ≤ length buffer → now ≡ read ++ take count buffer →
    IfBoth a b (HasRead name read) → IfBoth b c (Reads buffer (Ok count)) → IfBoth a c (HasRead name now)
more_read a b c name read buffer now count within same h p = both_then a b c h p (λ m k j q r. record {
  held = r.held ∙ q.held;
  current = r.current ∙ q.current;
  bytes = q.bytes ∙ ap (λ t. Some (read ++ t)) r.to_come ∙ ap Some (sym (append_assoc read (take count buffer) j.to_come)) ∙ ap (λ t. Some (t ++ j.to_come)) (sym same);
  opened = r.opened ∙ q.opened;
  taken = omega (arith, r.taken, q.taken, ap length same, length-append read (take count buffer), length-take count buffer);
  since_open = omega (arith, r.since_open, q.since_open, ap length same, length-append read (take count buffer), length-take count buffer);
  most = λ other.
      let size : length now ≡ length read + length (take count buffer) = ap length same ∙ length-append read (take count buffer) in
      let since : j.since_open ≤ length now = omega (arith, r.since_open, q.since_open, size, length-take count buffer) in
      let counted : j.most other ≡ most_with (Some name) j.since_open k.most other = subst (λ o. j.most other ≡ most_with o j.since_open k.most other) q.current (r.most other) in
      omega (arith, counted, most_more name other (m.most other) (k.most other) (length read) (length now) (bytes_eq name other) (q.most other) (omega (arith, size)), most_grows (k.most other) j.since_open (length now) (bytes_eq name other) since);
})
