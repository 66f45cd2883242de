-- The net commands of sorted claims by their places in the net sets, and how many are drawn.
use Rattle.std.specs.Prelude.{◌≡◌, ◌<◌, ◌+◌, ℕ, Bool, true, false, not, ◌&&◌, List, [], ◌∷◌, length, slice_get, take, drop, Option, Some, None}
use Rattle.std.specs.List.{filter}
use Rattle.sync_command.specs.Values.{same_value}
use Rattle.sync_command.specs.Changes.{Change, is_down}
use Rattle.canon_set.specs.Sets.{canonical}
use Rattle.refluent.specs.Sets.{without_repeats}
use Rattle.refluent.specs.Picks.{place_in}
use Rattle.refluent.specs.JointParts.{change_in, changes_of, with_change}
use Rattle.refluent.specs.declared.joint.Pick.{Pick}
use Rattle.refluent.specs.declared.joint.Link.{Link}
use Rattle.refluent.specs.declared.numbering.Numbering.{Numbering}
use Rattle.refluent.specs.declared.claims.Statement.{Statement}
use Rattle.refluent.specs.declared.claims.Statement.TheVariants.{Above, Touches}
use Rattle.refluent.specs.declared.claims.Claim.{Claim}
use Rattle.refluent.specs.declared.table.Group.{Group}

-- the changes of all logs, in the order of the claims
abbrev pub all_changes : List Claim → List Change
all_changes [] = []
all_changes (c ∷ cs) = with_change true (change_in c) (all_changes cs)

-- how many of the commands are down, and how many are not
abbrev pub downs_in : List Change → ℕ
downs_in cs = length (filter is_down cs)

abbrev pub others_in : List Change → ℕ
others_in cs = length (filter (λ c. not (is_down c)) cs)

abbrev pub makes_down : Option Change → Bool
makes_down None = false
makes_down (Some d) = is_down d

-- the command of a log by its place in the log's net set, which all the claims give
abbrev pub pick_of : List Claim → ℕ → Change → Pick
pick_of whole log d = record { log = log + 1; place = place_in (canonical (changes_of log whole)) d.node }

abbrev pub with_pick : List Claim → ℕ → Option Change → List Pick → List Pick
with_pick whole log None picks = picks
with_pick whole log (Some d) picks = pick_of whole log d ∷ picks

-- the net commands of some of the claims
abbrev pub picks_of : List Claim → List Claim → List Pick
picks_of whole [] = []
picks_of whole (c ∷ cs) = with_pick whole c.log (change_in c) (picks_of whole cs)

-- both claims touch their node, with equal first and equal last values
abbrev pub touch_alike : Statement → Statement → Bool
touch_alike Above s = false
touch_alike (Touches a b l) Above = false
touch_alike (Touches a b l) (Touches c d m) = same_value a c && same_value b d

-- the first so many claims are numbered
pub record IsNumbered (claims : List Claim) (k : ℕ) (n : Numbering) : Type 0 where
  pub logs : (i : ℕ) (c : Claim) → slice_get claims i ≡ Some c → c.log < length n.downs.items
  pub many : length n.others.items ≡ length n.downs.items
  -- how many down commands of the log are still to come
  pub downs : (l m : ℕ) → slice_get n.downs.items l ≡ Some m → m ≡ downs_in (changes_of l (drop k claims))
  -- the place of the log's next command that is not down
  pub others : (l m : ℕ) → slice_get n.others.items l ≡ Some m →
      m ≡ downs_in (changes_of l claims) + others_in (changes_of l (take k claims))
  pub picks : n.picks.items ≡ picks_of claims (take k claims)
  pub drawn : n.drawn ≡ length (without_repeats (all_changes (take k claims)))

-- the link of a group: the place of its parent, and how many net commands come before its own
abbrev pub link_of : List Claim → Group → Link
link_of claims s = record { parent = s.parent; start = length (picks_of claims (take s.start claims)) }

-- one link for each of the first so many groups
pub record AreLinks (claims : List Claim) (groups : List Group) (links : List Link) (k : ℕ) : Type 0 where
  pub many : length links ≡ k
  pub each : (i : ℕ) (s : Group) → i < k → slice_get groups i ≡ Some s → slice_get links i ≡ Some (link_of claims s)
